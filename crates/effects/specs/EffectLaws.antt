-- Each effect with its one reply. Assumes nothing.
use Rattle.std.specs.Prelude.{◌≡◌, refl, ℕ, Bool, List, []}
use Rattle.std.proofs.Math.Path.{ap}
use Rattle.std.proofs.Common.{◌∙◌}
use Rattle.basis.specs.Numbers.{count, bits}
use Rattle.basis.specs.Sizes.{hosts}
use Rattle.model.specs.Value.{Value}
use Rattle.model.specs.Run.{Run, with_monitors, next_monitor}
use Rattle.model.specs.Step.{Request, recover, crash, monitor, open_space, close_space, asking_host, asking_process, plain_reply, in_variable0, replied, recovered, crashed, opened, closed, effect}
use Rattle.layout.specs.States.{decode}
use Rattle.replies.specs.Written.{reply, Wrote}
use Rattle.replies.specs.TurnLaws.{turned_one}
use Rattle.layout.specs.Stored.{Stored, Turned}
use Rattle.header.specs.StoredLaws.{stored_says}

-- the reply at the position and with the values of the run after the effect
module _ (b entry exit : List ℕ) (s : Run) (host process n : ℕ) (k : Stored b s) where
  replied_as : (q : Request) (vs ws : List (ℕ × Value)) (position : ℕ) → host ≡ asking_host q → process ≡ asking_process q → position ≡ (decode b).last → ws ≡ vs
      → Wrote (reply position host process 0 0 ws) entry exit n → Turned (replied s q vs) entry b exit n
  unfolding replied plain_reply
  replied_as q vs ws position eh ep el ev w =
      let e : position ≡ s.last = el ∙ ap (λ (r : Run). r.last) (stored_says b s k) in
      turned_one s (reply s.last (asking_host q) (asking_process q) 0 0 vs) b entry exit n k (rw (e, eh, ep, ev) at w)

-- RV
pub recover_answered : (b b' entry exit : List ℕ) (h n : ℕ) → Stored b' (recovered (decode b) h)
    → Wrote (reply (decode b').last h 0 0 0 (in_variable0 (count (decode b').up))) entry exit n → Turned (effect (decode b) (recover h)) entry b' exit n
unfolding effect asking_host asking_process
recover_answered b b' entry exit h n k w =
    replied_as b' entry exit (recovered (decode b) h) h 0 n k (recover h) (in_variable0 (count (recovered (decode b) h).up)) (in_variable0 (count (decode b').up)) (decode b').last refl refl refl
    (ap (λ (s : Run). in_variable0 (count s.up)) (stored_says b' (recovered (decode b) h) k)) w

-- CR
pub crash_answered : (b b' entry exit : List ℕ) (h n : ℕ) → Stored b' (crashed (decode b) h)
    → Wrote (reply (decode b').last h 0 0 0 (in_variable0 (count (decode b').up))) entry exit n → Turned (effect (decode b) (crash h)) entry b' exit n
unfolding effect asking_host asking_process
crash_answered b b' entry exit h n k w =
    replied_as b' entry exit (crashed (decode b) h) h 0 n k (crash h) (in_variable0 (count (crashed (decode b) h).up)) (in_variable0 (count (decode b').up)) (decode b').last refl refl refl
    (ap (λ (s : Run). in_variable0 (count s.up)) (stored_says b' (crashed (decode b) h) k)) w

-- MO
pub monitor_answered : (b b' entry exit : List ℕ) (h p m position n : ℕ) → Stored b' (with_monitors (decode b) (next_monitor (decode b))) → m ≡ next_monitor (decode b) → position ≡ (decode b').last
    → Wrote (reply position h p 0 0 (in_variable0 m)) entry exit n → Turned (effect (decode b) (monitor h p)) entry b' exit n
unfolding effect asking_host asking_process
monitor_answered b b' entry exit h p m position n k em el w =
    replied_as b' entry exit (with_monitors (decode b) (next_monitor (decode b))) h p n k (monitor h p) (in_variable0 (next_monitor (decode b))) (in_variable0 m) position refl refl el (ap in_variable0 em) w

-- MS
pub open_answered : (b b' entry exit : List ℕ) (h p : ℕ) (isPrivate : Bool) (m position n : ℕ) → Stored b' (opened (decode b) p isPrivate) → m ≡ (decode b).next → position ≡ (decode b').last
    → Wrote (reply position h p 0 0 (in_variable0 m)) entry exit n → Turned (effect (decode b) (open_space h p isPrivate)) entry b' exit n
unfolding effect asking_host asking_process
open_answered b b' entry exit h p isPrivate m position n k em el w =
    replied_as b' entry exit (opened (decode b) p isPrivate) h p n k (open_space h p isPrivate) (in_variable0 (decode b).next) (in_variable0 m) position refl refl el (ap in_variable0 em) w

-- DS
pub close_answered : (b b' entry exit : List ℕ) (h p m position n : ℕ) → Stored b' (closed (decode b) m) → position ≡ (decode b').last
    → Wrote (reply position h p 0 0 []) entry exit n → Turned (effect (decode b) (close_space h p m)) entry b' exit n
unfolding effect asking_host asking_process
close_answered b b' entry exit h p m position n k el w =
    replied_as b' entry exit (closed (decode b) m) h p n k (close_space h p m) [] [] position refl refl el refl w

-- the position and the count that the code reads
pub up_answered : (b entry exit : List ℕ) (position m c h n : ℕ) → position ≡ (decode b).last → bits hosts m ≡ (decode b).up → c ≡ count (bits hosts m)
    → Wrote (reply position h 0 0 0 (in_variable0 c)) entry exit n → Wrote (reply (decode b).last h 0 0 0 (in_variable0 (count (decode b).up))) entry exit n
up_answered b entry exit position m c h n el em ec w = let counted : c ≡ count (decode b).up = ec ∙ ap count em in rw (el, counted) at w
