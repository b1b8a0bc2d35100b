-- What RV, CR and MO do to the mask and the monitors. Assumes nothing.
use Rattle.std.specs.Prelude.{◌≡◌, ℕ, suc, ◌+◌, ◌<◌, Bool, true, false, not, List, get_or, set, T}
use Rattle.std.proofs.Common.{ap, ◌∙◌, add-one, length-set, get_or-set_other}
use Rattle.std.proofs.Math.Dec.{nleb→lt}
use Rattle.basis.specs.Logic.{not_eq}
use Rattle.basis.specs.Lists.{all}
use Rattle.basis.specs.ListLaws.{all_at}
use Rattle.basis.specs.Numbers.{mask, bits}
use Rattle.basis.specs.Sizes.{hosts, most_monitors}
use Rattle.model.specs.Run.{Run, with_up, with_monitors, host_up, next_monitor, monitors_used_up}
use Rattle.model.specs.Step.{recovered}
use Rattle.model.proofs.Fit.{Fit}
use Rattle.model.proofs.Effects.{recovered_fit, monitored_fit, queue_in}
use Rattle.layout.specs.States.{decode}
use Rattle.layout.specs.Stored.{Stored, IsStored}
use Rattle.header.specs.Rows.{mask_part, monitors_part, with_row}
use Rattle.header.specs.RowLaws.{up_changed, monitors_changed}
use Rattle.queue.specs.Queue.{of_other}

-- ---- hosts

-- whether a host is up, in the mask that the code reads
pub up_at : (s : Run) (u h : ℕ) (x : Bool) → bits hosts u ≡ s.up → host_up s h ≡ x → get_or (bits hosts u) h false ≡ x
unfolding host_up
up_at s u h x e k = ap (λ (l : List Bool). get_or l h false) e ∙ k

-- the mask with one host changed
set_up : (b b' : List ℕ) (s : Run) (u m h : ℕ) (x : Bool) → Stored b s → bits hosts u ≡ s.up → m ≡ mask (set (bits hosts u) h x) → b' ≡ with_row mask_part m b → Fit (with_up s (set s.up h x))
    → Stored b' (with_up s (set s.up h x))
set_up b b' s u m h x k eu em e f =
    let same : m ≡ mask (set s.up h x) = em ∙ ap (λ (l : List Bool). mask (set l h x)) eu in
    up_changed k f (rw same at e)

pub recovers : (b b' : List ℕ) (u m h : ℕ) → IsStored b → bits hosts u ≡ (decode b).up → m ≡ mask (set (bits hosts u) h true) → b' ≡ with_row mask_part m b → Stored b' (recovered (decode b) h)
unfolding recovered
recovers b b' u m h k eu em e = set_up b b' (decode b) u m h true k eu em e (recovered_fit (decode b) k.fit h)

-- a host goes down that no statement waits of
down_fit : (s : Run) (h : ℕ) → Fit s → T (all (of_other h) s.waiting) → Fit (with_up s (set s.up h false))
down_fit s h f t = record {
  last = f.last;
  hosts = length-set s.up h false ∙ f.hosts;
  monitors = f.monitors;
  spaces = f.spaces;
  tuples = f.tuples;
  owed = f.owed;
  waiting = queue_in s.last s.last s.up (set s.up h false) s.spaces s.spaces s.waiting f.waiting (λ w i.
      let q = f.waiting.each w i in
      let d = not_eq w.statement.host h (all_at (of_other h) s.waiting t w i) in
      record { early = q.early; late = q.late; written = q.written; host = rw (get_or-set_other s.up h w.statement.host false false d) q.host; named = q.named; waits = q.waits });
}

pub goes_down : (b b' : List ℕ) (u m h : ℕ) → IsStored b → T (all (of_other h) (decode b).waiting) → bits hosts u ≡ (decode b).up → m ≡ mask (set (bits hosts u) h false) → b' ≡ with_row mask_part m b
    → Stored b' (with_up (decode b) (set (decode b).up h false))
goes_down b b' u m h k t eu em e = set_up b b' (decode b) u m h false k eu em e (down_fit (decode b) h k.fit t)

-- ---- monitors

pub monitors_below : (s : Run) → T (not (monitors_used_up s)) → s.monitors < most_monitors
unfolding monitors_used_up
monitors_below s t = nleb→lt most_monitors s.monitors t

pub next_monitor_lem : (s : Run) (n : ℕ) → n ≡ s.monitors → n + 1 ≡ next_monitor s
unfolding next_monitor
next_monitor_lem s n e = add-one n ∙ ap suc e

pub monitored : (b b' : List ℕ) (n : ℕ) → IsStored b → T (not (monitors_used_up (decode b))) → n ≡ (decode b).monitors → b' ≡ with_row monitors_part (n + 1) b
    → Stored b' (with_monitors (decode b) (next_monitor (decode b)))
monitored b b' n h t en e = monitors_changed h (monitored_fit (decode b) h.fit t) (rw (next_monitor_lem (decode b) n en) at e)
