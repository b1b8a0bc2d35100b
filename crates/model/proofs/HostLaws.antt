-- The hosts that are up and their count, from the records and the outcomes of their own replies alone. Assumes nothing.
use Rattle.std.specs.Prelude.{◌≡◌, refl, ◌↔◌, ◌≢◌, ◌⊎◌, ℕ, zero, suc, ◌<◌, Bool, true, not, List, [], ◌∷◌, ◌++◌, length, get_or, set, replicate, T, eqb}
use Rattle.std.proofs.Common.{sym, subst, ◌∙◌, arith, append-nil, append_assoc, T_not, eqb→eq}
use Rattle.std.proofs.Math.Path.{ap}
use Rattle.std.proofs.Math.Logic.{inl, inr}
use Rattle.std.proofs.Math.Bool.{false}
use Rattle.std.proofs.Math.Option.{Option, none, some}
use Rattle.std.proofs.lemmas.List.{length-replicate}
use Rattle.basis.specs.Choice.{cond_ind}
use Rattle.basis.specs.Logic.{not_eq}
use Rattle.basis.specs.Numbers.{count}
use Rattle.basis.specs.Sizes.{host_at, hosts}
use Rattle.model.specs.Value.{Value, value, whole}
use Rattle.model.specs.Statement.{Statement}
use Rattle.model.specs.Run.{Run, fresh, with_last, with_up, laid, Reply, Turn}
use Rattle.model.proofs.RunLaws.{Settles, calm, turn}
use Rattle.model.specs.Step.{Mark, RV, CR, MO, MS, DS, AG, Record, Request, recover, crash, monitor, open_space, close_space, guarded, request_of, dropped, crashed, effect, handled, step}
use Rattle.model.proofs.StepLaws.{answer, Refused, step_malformed, step_asks, first_check, all_checks, check_cases, Then, settled_words, Comes, runs, is_18, is_13, waits, statement_comes}
use Rattle.model.proofs.RecordLaws.{crash_passes, crash_then, recover_done, monitor_done, open_done, close_done}
use Rattle.model.proofs.RowLaws.{rows, FirstRow, NoRow}
use Rattle.model.proofs.Debts.{laid_up, crashed_beside}
use Rattle.model.proofs.CrashLaws.{HostSet, host_set}
use Rattle.model.proofs.BodyLaws.{Body, body_iff}
use Rattle.model.proofs.HostWords.{answers, after, host_event, event_of, events, LastIsRV, Counted, last_none, last_same, last_other, count_words, counted_as}

-- ---- one step

-- rule 7 leaves the hosts
settles_up : (s u : Run) (rs : List Reply) → Settles s u rs → u.up ≡ s.up
settles_up s _ _ (calm c) = refl
settles_up s u _ (turn {rs = rs} t w h) = settles_up (laid t.run) u rs h ∙ laid_up t.run ∙ ap (λ (x : Run). x.up) w.run

then_up : (s : Run) (own : List Reply) (t : Turn) → Then s own t → t.run.up ≡ s.up
then_up s own t h = settles_up (laid s) t.run h.woken h.settles ∙ laid_up s

-- the own reply comes first
then_first : (s : Run) (own : Reply) (t : Turn) → Then s (own ∷ []) t → (more : List Reply) × (t.replies ≡ own ∷ more)
then_first s own t h = (h.woken, h.replies)

-- what a step does to the hosts: nothing, and it is no done RV or CR; or it is one, and its reply gives the count
pub record Changed (up : List Bool) (r : Record) (t : Turn) : Type 0 where
  pub host : ℕ
  pub is_up : Bool
  pub own : Reply
  pub woken : List Reply
  pub event : event_of (r, t.replies) ≡ (is_up, host) ∷ []
  pub low : host < hosts
  pub changes : HostSet host is_up up t.run.up
  pub replies : t.replies ≡ own ∷ woken
  pub values : own.values ≡ (0, value whole (count t.run.up)) ∷ []

-- one or the other
abbrev pub HostStep : List Bool → Record → Turn → Type 0
HostStep up r t = ((event_of (r, t.replies) ≡ []) × (t.run.up ≡ up)) ⊎ Changed up r t

refused_step : (s : Run) (r : Record) (h c n : ℕ) (t : Turn) → eqb n 0 ≡ false → Refused s h c n t → HostStep s.up r t
refused_step s r h c n t k e = subst (HostStep s.up r) (sym e) (inl (rw k, refl))

-- a done RV or CR
done_event : (r : Record) (h p : ℕ) (vs : List (ℕ × Value)) (more : List Reply) → r.body ≡ h ∷ [] → event_of (r, answer p h 0 0 vs ∷ more) ≡ host_event r.mark h
done_event r h p vs more b = rw b

changed : (s s' : Run) (r : Record) (h : ℕ) (b : Bool) (t : Turn) → h < hosts → r.body ≡ h ∷ [] → host_event r.mark h ≡ (b, h) ∷ [] → HostSet h b s.up s'.up
    → Then s' (answer s.last h 0 0 ((0, value whole (count s'.up)) ∷ []) ∷ []) t → Changed s.up r t
changed s s' r h b t low body mark c n =
    let own : Reply = answer s.last h 0 0 ((0, value whole (count s'.up)) ∷ []) in
    let up = then_up s' (own ∷ []) t n in
    record {
      host = h;
      is_up = b;
      own = own;
      woken = n.woken;
      event = ap (λ (l : List Reply). event_of (r, l)) n.replies ∙ (done_event r h s.last own.values n.woken body ∙ mark);
      low = low;
      changes = subst (HostSet h b s.up) (sym up) c;
      replies = n.replies;
      values = rw up;
    }

recover_step : (s : Run) (r : Record) (h : ℕ) → r.mark ≡ RV → h < hosts → r.body ≡ h ∷ [] → HostStep s.up r (handled s (recover h))
recover_step s r h m low body = go (check_cases s (recover h))
  where
    go : NoRow (rows s (recover h)) ⊎ ((n : ℕ) × FirstRow (rows s (recover h)) n) → HostStep s.up r (handled s (recover h))
    go (inl f) = let n = recover_done s h f in inr (changed s (with_up s n.0) r h true (handled s (recover h)) low body (rw m) n.1 n.2)
    go (inr (n, inl f)) = refused_step s r _ _ n (handled s (recover h)) (rw f.1) (first_check s (recover h) n (inl f))
    go (inr (n, inr f)) = absurd f.1

crash_step : (s : Run) (r : Record) (h : ℕ) → r.mark ≡ CR → h < hosts → r.body ≡ h ∷ [] → HostStep s.up r (handled s (crash h))
crash_step s r h m low body = go (check_cases s (crash h))
  where
    go : NoRow (rows s (crash h)) ⊎ ((n : ℕ) × FirstRow (rows s (crash h)) n) → HostStep s.up r (handled s (crash h))
    go (inl f) =
        let up : (crashed s h).up ≡ set s.up h false = unfold dropped in ap (λ (x : Run). x.up) (crashed_beside s h) in
        inr (changed s (crashed s h) r h false (handled s (crash h)) low body (rw m) (subst (HostSet h false s.up) (sym up) (host_set s.up h false)) (crash_then s h ((crash_passes s h).0 f)))
    go (inr (n, inl f)) = refused_step s r _ _ n (handled s (crash h)) (rw f.1) (first_check s (crash h) n (inl f))
    go (inr (n, inr f)) = absurd f.1

-- the other marks leave the hosts
no_event : (r : Record) (rs : List Reply) → host_event r.mark (get_or r.body host_at 0) ≡ [] → event_of (r, rs) ≡ []
no_event r [] e = refl
no_event r (own ∷ woken) e = cond_ind (λ (k : List (Bool × ℕ)). k ≡ []) (eqb own.outcome 0) _ _ (λ q. e) (λ q. refl)

still : (s : Run) (q : Request) → (NoRow (rows s q) → (s' : Run) × (own : List Reply) × Then s' own (handled s q) × (s'.up ≡ s.up)) → (handled s q).run.up ≡ s.up
still s q f = go (check_cases s q)
  where
    go : NoRow (rows s q) ⊎ ((n : ℕ) × FirstRow (rows s q) n) → (handled s q).run.up ≡ s.up
    go (inl e) = let n = f e in then_up n.0 n.1 (handled s q) n.2 ∙ n.3
    go (inr e) = ap (λ (t : Turn). t.run.up) (first_check s q e.0 e.1)

comes_up : (s : Run) (st : Statement) (t : Turn) → Comes s st t → t.run.up ≡ s.up
comes_up s st t (runs r) = ap (λ (t : Turn). t.run.up) r.turned
comes_up s st t (is_18 u w e) = ap (λ (t : Turn). t.run.up) e
comes_up s st t (is_13 u w m e) = ap (λ (t : Turn). t.run.up) e
comes_up s st t (waits u w m e) = ap (λ (t : Turn). t.run.up) e

quiet_step : (s : Run) (r : Record) (q k : Request) → host_event r.mark (get_or r.body host_at 0) ≡ [] → q ≡ k → (handled s k).run.up ≡ s.up → HostStep s.up r (handled s q)
quiet_step s r q k n e h = inl (no_event r (handled s q).replies n, subst (λ (x : Request). (handled s x).run.up ≡ s.up) (sym e) h)

guarded_up : (s : Run) (st : Statement) → (handled s (guarded st)).run.up ≡ s.up
guarded_up s st =
    let t = effect s (guarded st) in
    still s (guarded st) (λ c. (t.run, t.replies, rw (all_checks s (guarded st) c) (settled_words t), comes_up s st t (statement_comes s st)))

request_step : (s : Run) (r : Record) (q : Request) (m : Mark) → r.mark ≡ m → Body m r.body q → HostStep s.up r (handled s q)
request_step s r q RV e b = subst (λ (x : Request). HostStep s.up r (handled s x)) (sym b.3) (recover_step s r b.0 e b.1 b.2)
request_step s r q CR e b = subst (λ (x : Request). HostStep s.up r (handled s x)) (sym b.3) (crash_step s r b.0 e b.1 b.2)
request_step s r q MO e b = quiet_step s r q (monitor b.0 b.1) (rw e) b.3 (still s _ (λ c. (_, _, monitor_done s b.0 b.1 c, refl)))
request_step s r q MS e b = quiet_step s r q (open_space b.0 b.1 b.3) (rw e) b.6 (still s _ (λ c. (_, _, open_done s b.0 b.1 b.3 c, refl)))
request_step s r q DS e b = quiet_step s r q (close_space b.0 b.1 b.2) (rw e) b.7 (still s _ (λ c. let n = close_done s b.0 b.1 b.2 c in (n.0, _, n.2, ap (λ (x : Run). x.up) n.1.turned)))
request_step s r q AG e b = quiet_step s r q (guarded b.0) (rw e) b.2 (guarded_up s b.0)

host_step : (s : Run) (r : Record) → HostStep s.up r (step s r)
host_step s r = go (request_of r.mark r.body) refl
  where
    s' : Run
    s' = with_last s r.position

    go : (o : Option Request) → request_of r.mark r.body ≡ o → HostStep s.up r (step s r)
    go none e = refused_step s' r 255 65535 6 (step s r) refl (step_malformed s r e)
    go (some q) e = subst (HostStep s.up r) (sym (step_asks s r q e)) (request_step s' r q r.mark refl ((body_iff r.mark r.body q).0 e))

-- ---- all steps

-- the hosts that are up are those whose last done RV or CR is an RV
pub record Tells (s : Run) (es : List (Bool × ℕ)) : Type 0 where
  pub places : length s.up ≡ hosts
  pub each : (h : ℕ) → T (get_or s.up h false) ↔ LastIsRV h es

changed_tells : (s : Run) (es : List (Bool × ℕ)) (u : Run) (h : ℕ) (b : Bool) → h < hosts → HostSet h b s.up u.up → Tells s es → Tells u ((b, h) ∷ es)
changed_tells s es u h b low c f = record { places = c.as_many ∙ f.places; each = λ g. go g (eqb g h) refl }
  where
    set_here : get_or u.up h false ≡ b
    set_here = c.same (omega (arith, f.places))

    go : (g : ℕ) (x : Bool) → eqb g h ≡ x → T (get_or u.up g false) ↔ LastIsRV g ((b, h) ∷ es)
    go g true q =
        let e : g ≡ h = eqb→eq g h (rw q tt) in
        let l = last_same h b es in
        rw (e, set_here) l
    go g false q =
        let d : g ≢ h = not_eq g h (rw q tt) in
        let l = last_other g h b es d in
        let k = f.each g in
        rw (c.others g d) (λ t. l.0 (k.0 t), λ m. k.1 (l.1 m))

step_tells : (s : Run) (es : List (Bool × ℕ)) (r : Record) → Tells s es → Tells (step s r).run (event_of (r, (step s r).replies) ++ es)
step_tells s es r f = go (host_step s r)
  where
    go : HostStep s.up r (step s r) → Tells (step s r).run (event_of (r, (step s r).replies) ++ es)
    go (inl q) = rw q.0 (record { places = ap length q.1 ∙ f.places; each = λ h. subst (λ (up : List Bool). T (get_or up h false) ↔ LastIsRV h es) (sym q.1) (f.each h) })
    go (inr c) = rw c.event (changed_tells s es (step s r).run c.host c.is_up c.low c.changes f)

after_tells : (rs : List Record) (s : Run) (es : List (Bool × ℕ)) → Tells s es → Tells (after s rs) (events (answers s rs) ++ es)
after_tells [] s es f = f
after_tells (r ∷ rs) s es f =
    let t = step s r in
    rw (append_assoc (events (answers t.run rs)) (event_of (r, t.replies)) es) (after_tells rs t.run (event_of (r, t.replies) ++ es) (step_tells s es r f))

fresh_tells : Tells fresh []
unfolding fresh
fresh_tells = record { places = length-replicate hosts false; each = λ h. (λ t. absurd (T_not (get_or (replicate hosts false) h false) (none_up hosts h) t), λ l. absurd (last_none h l)) }
  where
    none_up : (n h : ℕ) → T (not (get_or (replicate n false) h false))
    none_up zero h = tt
    none_up (suc n) zero = tt
    none_up (suc n) (suc h) = none_up n h

-- after any records from the fresh state a host is up exactly if the last RV or CR of it that was done is an RV
pub hosts_up : (rs : List Record) → Tells (after fresh rs) (events (answers fresh rs))
hosts_up rs = rw append-nil at (after_tells rs fresh [] fresh_tells)

-- "CR and RV the count of hosts now up": where the record after these is an RV or CR that is done, its reply gives as variable 0, whole, the number of the hosts whose last done RV or CR, this one included, is an RV
pub hosts_counted : (rs : List Record) (r : Record) (b : Bool) (h : ℕ) → event_of (r, (step (after fresh rs) r).replies) ≡ (b, h) ∷ []
    → (own : Reply) × (woken : List Reply) × ((step (after fresh rs) r).replies ≡ own ∷ woken) × ((n : ℕ) × (own.values ≡ (0, value whole n) ∷ []) × Counted (λ (g : ℕ). LastIsRV g ((b, h) ∷ events (answers fresh rs))) n)
hosts_counted rs r b h e = go (host_step (after fresh rs) r)
  where
    s : Run
    s = after fresh rs

    es : List (Bool × ℕ)
    es = events (answers fresh rs)

    go : HostStep s.up r (step s r) → (own : Reply) × (woken : List Reply) × ((step s r).replies ≡ own ∷ woken) × ((n : ℕ) × (own.values ≡ (0, value whole n) ∷ []) × Counted (λ (g : ℕ). LastIsRV g ((b, h) ∷ es)) n)
    go (inl q) = let z : ◌≡◌ {A = ℕ} 0 1 = cc (q.0, e) in absurd (omega arith)
    go (inr c) =
        let up = (step s r).run.up in
        let f = rw e at (step_tells s es r (hosts_up rs)) in
        (c.own, c.woken, c.replies, (count up, c.values, counted_as (λ (g : ℕ). T (get_or up g false)) (λ (g : ℕ). LastIsRV g ((b, h) ∷ es)) (count up) f.each (count_words up)))
