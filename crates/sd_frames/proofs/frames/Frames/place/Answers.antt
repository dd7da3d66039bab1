use Rattle.std.proofs.Common.{◌≡◌, ◌<◌, ℕ, List, Option, Some, None, set, sym, ap, subst, ◌∙◌, arith, length-set, length-append}
use Rattle.std.specs.List.{slice_get}
use Rattle.sd_frames.specs.Frames.{Pool, cell_at, SetsCell, HasFree, HasFreePlace, HasWholeFrames}
use Rattle.sd_frames.specs.declared.frame_cell.FrameCell.{FrameCell}
use Rattle.sd_frames.specs.declared.frame_cell.FrameCell.TheVariants.{Used, Free}
use Rattle.sd_frames.specs.FrameCells.{IsFreeList}
use Rattle.sd_frames.proofs.FrameLemmas.{frames_of, taken, pushed, first_free, got_within, free_none, room_left, no_free_place, sets_cell, past_none}
use Rattle.sd_frames.proofs.WholeLemmas.{whole_set, whole_pushed}
use Rattle.sd_frames.proofs.frames.Frames.place.Goals as goal

list_at : (slots : List FrameCell) (o : Option ℕ) (k : ℕ) → o ≡ Some k → IsFreeList slots o → IsFreeList slots (Some k)
list_at slots o k e h = subst (λ (p : Option ℕ). IsFreeList slots p) e h

pub index_mut-requires : goal.index_mut-requires
index_mut-requires c =
    let f = first_free c.self.inside.slots.items c.in-Some.number (list_at _ _ _ c.in-Some.is c.self.invariant.1) in
    let l = got_within c.self.inside.slots.items c.in-Some.number (Free f.0) f.1 in
    omega (arith, l, c.self.inside.slots.ok.0)

pub invariant_of-self : goal.invariant_of-self
invariant_of-self c =
    let h = list_at c.self.inside.slots.items c.self.inside.free c.in-Some.number c.in-Some.is c.self.invariant.1 in
    let f = first_free c.self.inside.slots.items c.in-Some.number h in
    let e : c.next_free-self-inside.result ≡ f.0 = c.next_free-self-inside.ensures f.0 (ap (λ (s : List FrameCell). slice_get s c.in-Some.number) c.deref.ensures.value ∙ f.1) in (
      simp length-set (c.self.invariant.0),
      taken c.self.inside.slots.items c.in-Some.number c.next_free-self-inside.result c.args.frame h (f.1 ∙ ap (λ n. Some (Free n)) (sym e)),
      whole_set c.args.self.now _ c.in-Some.number c.args.frame (subst HasWholeFrames c.self.view_is c.self.invariant.2)
          (subst (λ (p : Pool). SetsCell p (frames_of c.self.inside.pool (set c.self.inside.slots.items c.in-Some.number (Used c.args.frame))) c.in-Some.number (Some c.args.frame)) c.self.view_is
          (sets_cell c.self.inside.pool c.self.inside.slots.items c.in-Some.number (Used c.args.frame) (got_within c.self.inside.slots.items c.in-Some.number (Free f.0) f.1)))
          c.requires.whole,
    )

pub invariant_of-self-in-None : goal.invariant_of-self-in-None
invariant_of-self-in-None c =
    let h = subst (λ (p : Option ℕ). IsFreeList c.self.inside.slots.items p) c.in-None.is c.self.invariant.1 in
    let l = room_left c.self.inside.pool c.self.inside.slots.items h (subst HasFree (sym c.self.view_is) c.requires.free) in (
      rw c.in_ok-push-in-None.ensures.items (simp length-append (omega arith)),
      rw (c.in_ok-push-in-None.ensures.items, c.in-None.is) (pushed c.self.inside.slots.items c.args.frame h),
      rw c.in_ok-push-in-None.ensures.items (whole_pushed c.self.inside.pool c.self.inside.slots.items c.args.frame c.self.invariant.2 c.requires.whole),
    )

pub returns-in-Some-clause-free : goal.returns-in-Some-clause-free
returns-in-Some-clause-free c =
    let f = first_free c.self.inside.slots.items c.in-Some.number (list_at _ _ _ c.in-Some.is c.self.invariant.1) in
    let l = got_within c.self.inside.slots.items c.in-Some.number (Free f.0) f.1 in
    subst (λ (p : Pool). (c.in-Some.number < p.size) × (cell_at p c.in-Some.number ≡ None)) c.self.view_is
    ((let i = c.self.invariant.0 in omega arith), free_none c.self.inside.slots.items c.in-Some.number f.0 f.1)

pub returns-in-Some-clause-ok : goal.returns-in-Some-clause-ok
returns-in-Some-clause-ok c =
    let f = first_free c.self.inside.slots.items c.in-Some.number (list_at _ _ _ c.in-Some.is c.self.invariant.1) in
    let l = got_within c.self.inside.slots.items c.in-Some.number (Free f.0) f.1 in
    subst (λ (p : Pool). SetsCell p (frames_of c.self.inside.pool (set c.self.inside.slots.items c.in-Some.number (Used c.args.frame))) c.in-Some.number (Some c.args.frame)) c.self.view_is
    (sets_cell c.self.inside.pool c.self.inside.slots.items c.in-Some.number (Used c.args.frame) l)

pub returns-in_ok-push-in-None-clause-free : goal.returns-in_ok-push-in-None-clause-free
returns-in_ok-push-in-None-clause-free c =
    let h = subst (λ (p : Option ℕ). IsFreeList c.self.inside.slots.items p) c.in-None.is c.self.invariant.1 in
    let l = room_left c.self.inside.pool c.self.inside.slots.items h (subst HasFree (sym c.self.view_is) c.requires.free) in
    let e = c.len-number.ensures in
    subst (λ (p : Pool). (c.len-number.result < p.size) × (cell_at p c.len-number.result ≡ None)) c.self.view_is
    ((omega arith), past_none c.self.inside.slots.items c.len-number.result (omega arith))

pub returns-in_err-push-in-None-clause-made : goal.returns-in_err-push-in-None-clause-made
returns-in_err-push-in-None-clause-made c = λ made. absurd (no_free_place c.self.inside.pool c.self.inside.slots.items
    (subst (λ (p : Option ℕ). IsFreeList c.self.inside.slots.items p) c.in-None.is c.self.invariant.1) (subst HasFreePlace (sym c.self.view_is) made))
