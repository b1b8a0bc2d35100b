-- The spaces and the waiting statements of a stored state, as their sections are lent. Assumes nothing.
use Rattle.std.specs.Prelude.{◌≡◌, ℕ, List, length}
use Rattle.std.proofs.Math.Path.{refl}
use Rattle.std.proofs.Common.{arith}
use Rattle.model.specs.Run.{Run}
use Rattle.layout.specs.States.{decode}
use Rattle.layout.specs.Stored.{IsStored}
use Rattle.sections.specs.Shapes.{holds, holds_read}
use Rattle.header.specs.Rows.{parts_of, spaces_part, waiting_part, spaces_lent, queue_lent}
use Rattle.header.specs.StoredLaws.{part_holds}
use Rattle.spaces.specs.Spaces.{space_shape, spaces_of, Listed, IsListed, Rising}
use Rattle.queue.specs.Queue.{waiting_shape, waiting_of, Queued, IsQueued}

-- ---- the spaces

module _ (b : List ℕ) (n : ℕ) (h : IsStored b) (e : n ≡ length (decode b).spaces) where
  pub spaces_lent_lem : Listed (spaces_lent b) n (decode b).spaces
  unfolding parts_of
  spaces_lent_lem =
      let s : Run = decode b in
      let f = h.fit.spaces in
      rw e (part_holds space_shape b s h spaces_part (omega arith) s.spaces refl f.few (λ a m. record { number = omega (arith, f.below a m, f.limit); owner = f.owners a m }))

  pub spaces_read : spaces_of (spaces_lent b) n ≡ (decode b).spaces
  spaces_read = holds_read space_shape _ n (decode b).spaces spaces_lent_lem

  pub is_listed : IsListed (spaces_lent b) n
  is_listed = holds space_shape _ n (decode b).spaces spaces_lent_lem

  pub is_rising : Rising (spaces_of (spaces_lent b) n)
  is_rising = rw spaces_read h.fit.spaces.rise

-- ---- the waiting statements

module _ (b : List ℕ) (n : ℕ) (h : IsStored b) (e : n ≡ length (decode b).waiting) where
  pub queue_lent_lem : Queued (queue_lent b) n (decode b).waiting
  unfolding parts_of
  queue_lent_lem =
      let s : Run = decode b in
      let f = h.fit.waiting in
      rw e (part_holds waiting_shape b s h waiting_part (omega arith) s.waiting refl f.few (λ w m. let q = f.each w m in record { position = omega (arith, q.late, h.fit.last); body = q.written }))

  pub queue_read : waiting_of (queue_lent b) n ≡ (decode b).waiting
  queue_read = holds_read waiting_shape _ n (decode b).waiting queue_lent_lem

  pub is_queued : IsQueued (queue_lent b) n
  is_queued = holds waiting_shape _ n (decode b).waiting queue_lent_lem
