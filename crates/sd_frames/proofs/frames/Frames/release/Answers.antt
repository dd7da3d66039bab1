use Rattle.std.proofs.Common.{◌≡◌, ◌-◌, nat_eq, true, false, Option, set, sym, subst, ◌∙◌, length-set}
use Rattle.std.proofs.lemmas.Bool.{eq-eqb, ne_eqb, cond-true, cond-false}
use Rattle.sd_frames.specs.Frames.{Cell, count_at, SetsCell, HasWholeFrames}
use Rattle.sd_frames.specs.declared.frame_cell.FrameCell.TheVariants.{Free}
use Rattle.sd_frames.proofs.FrameLemmas.{frames_of, within_slots, changes_frame, changes_free, frees_frame, some_counted, used_at, freed}
use Rattle.sd_frames.proofs.WholeLemmas.{whole_set, whole_at, whole_freed}
use Rattle.sd_frames.proofs.frames.Frames.release.Goals as goal

pub invariant_of-self : goal.invariant_of-self
invariant_of-self c =
    let u = used_at c.self.inside.pool c.self.inside.slots.items c.args.self.now c.args.number c.self.view_is (some_counted c.args.self.now c.args.number c.requires) in (
      simp length-set (c.self.invariant.0),
      rw c.free-frame.ensures (freed c.self.inside.slots.items c.self.inside.free c.args.number u.0 c.self.invariant.1 u.2),
      rw c.free-frame.ensures (whole_freed c.args.self.now _ c.args.number (subst HasWholeFrames c.self.view_is c.self.invariant.2)
          (frees_frame c.self.inside.pool c.self.inside.slots.items c.args.self.now c.args.number c.self.inside.free c.self.view_is
          (within_slots c.self.inside.pool c.self.inside.slots.items c.args.self.now c.args.number c.self.view_is (some_counted c.args.self.now c.args.number c.requires)))),
    )

pub returns-then-count-eq1 : goal.returns-then-count-eq1
returns-then-count-eq1 c =
    let l = within_slots c.self.inside.pool c.self.inside.slots.items c.args.self.now c.args.number c.self.view_is (some_counted c.args.self.now c.args.number c.requires) in
    let e : nat_eq (count_at c.args.self.now c.args.number) 1 ≡ true = eq-eqb _ _ (sym c.count.ensures ∙ c.if-count-eq1.true) in
    rw c.free-frame.ensures (subst (λ (o : Option Cell). SetsCell c.args.self.now (frames_of c.self.inside.pool (set c.self.inside.slots.items c.args.number (Free c.self.inside.free))) c.args.number o) (sym (cond-true _ _ _ e))
    (frees_frame c.self.inside.pool c.self.inside.slots.items c.args.self.now c.args.number c.self.inside.free c.self.view_is l))

pub invariant_of-self-else-count-eq1 : goal.invariant_of-self-else-count-eq1
invariant_of-self-else-count-eq1 c =
    let some = some_counted c.args.self.now c.args.number c.requires in
    let l = within_slots c.self.inside.pool c.self.inside.slots.items c.args.self.now c.args.number c.self.view_is some in (
      simp length-set (c.self.invariant.0),
      changes_free (λ cell. record { count = cell.count - 1; bytes = cell.bytes }) c.self.inside.pool c.self.inside.slots.items c.args.self.now c.args.number c.self.view_is some c.index_mut-else-count-eq1.result.now c.release.new.self l c.index_mut-else-count-eq1.ensures.value c.release.ensures c.self.inside.free c.self.invariant.1,
      whole_set c.args.self.now _ c.args.number _ (subst HasWholeFrames c.self.view_is c.self.invariant.2)
          (changes_frame (λ cell. record { count = cell.count - 1; bytes = cell.bytes }) c.self.inside.pool c.self.inside.slots.items c.args.self.now c.args.number c.self.view_is some c.index_mut-else-count-eq1.result.now c.release.new.self l c.index_mut-else-count-eq1.ensures.value c.release.ensures)
          (whole_at c.args.self.now c.args.number (subst HasWholeFrames c.self.view_is c.self.invariant.2) some),
    )

pub returns-else-count-eq1 : goal.returns-else-count-eq1
returns-else-count-eq1 c =
    let some = some_counted c.args.self.now c.args.number c.requires in
    let l = within_slots c.self.inside.pool c.self.inside.slots.items c.args.self.now c.args.number c.self.view_is some in
    let e : nat_eq (count_at c.args.self.now c.args.number) 1 ≡ false = ne_eqb _ _ (λ is. c.if-count-eq1.false (c.count.ensures ∙ is)) in
    subst (λ (o : Option Cell). SetsCell c.args.self.now (frames_of c.self.inside.pool (set c.self.inside.slots.items c.args.number c.release.new.self)) c.args.number o) (sym (cond-false _ _ _ e))
    (changes_frame (λ cell. record { count = cell.count - 1; bytes = cell.bytes }) c.self.inside.pool c.self.inside.slots.items c.args.self.now c.args.number c.self.view_is some c.index_mut-else-count-eq1.result.now c.release.new.self l c.index_mut-else-count-eq1.ensures.value c.release.ensures)
