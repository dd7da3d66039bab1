use Rattle.std.proofs.Common.{◌≡◌, ℕ, Bool, true, false, is_some, Option, Some, None, refl, subst, ◌∙◌, arith}
use Rattle.std.proofs.lemmas.Bool.{eqb-true, eqb-false}
use Rattle.sd_frames.specs.Frames.{IsExhausted, HasFree}
use Rattle.sd_frames.specs.FrameCells.{IsFreeList}
use Rattle.sd_frames.proofs.FrameLemmas.{has_room, has_first, all_used}
use Rattle.sd_frames.proofs.frames.Frames.is_exhausted.Goals as goal

none_is : (o : Option ℕ) (b : Bool) → is_some o ≡ b → b ≡ false → o ≡ None
none_is None b e f = refl
none_is (Some x) b e f = (let g : true ≡ false = e ∙ f in absurd cc)

some_is : (o : Option ℕ) → is_some o ≡ true → (x : ℕ) × (o ≡ Some x)
some_is None e = (let g : false ≡ true = e in absurd cc)
some_is (Some x) e = (x, refl)

pub returns-then-is_none-clause-yes_if : goal.returns-then-is_none-clause-yes_if
returns-then-is_none-clause-yes_if c = λ e. subst IsExhausted c.self.view_is
    (all_used c.self.inside.pool c.self.inside.slots.items (subst (λ (o : Option ℕ). IsFreeList c.self.inside.slots.items o) (none_is c.self.inside.free false c.if-is_none.ensures refl) c.self.invariant.1)
    (let l = c.len.ensures in let m = c.self.inside.slots.ok.0 in let n = eqb-true _ _ e in omega arith))

pub returns-then-is_none-clause-no_if : goal.returns-then-is_none-clause-no_if
returns-then-is_none-clause-no_if c = λ e. subst HasFree c.self.view_is
    (has_room c.self.inside.pool c.self.inside.slots.items (let n = eqb-false _ _ e in let l = c.self.invariant.0 in let m = c.len.ensures in omega arith))

pub returns-else-is_none-clause-no_if : goal.returns-else-is_none-clause-no_if
returns-else-is_none-clause-no_if c = λ e.
    let s = some_is c.self.inside.free c.if-is_none.ensures in
    subst HasFree c.self.view_is (has_first c.self.inside.pool c.self.inside.slots.items s.0 c.self.invariant.0 (subst (λ (o : Option ℕ). IsFreeList c.self.inside.slots.items o) s.1 c.self.invariant.1))
