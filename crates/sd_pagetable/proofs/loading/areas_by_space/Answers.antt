use Rattle.std.proofs.Common.{◌≡◌, ◌∙◌, sym, ap}
use Rattle.std.specs.Prelude.{Result, Err}
use Rattle.std.proofs.lemmas.Result.{err_from_is_err_and}
use Rattle.sd_pagetable.proofs.LoadingLemmas.{gathered_none, gathered_next, gathered_over, gathered_within, gathered_all}
use Rattle.sd_pagetable.proofs.loading.areas_by_space.Goals as goal

-- an error that was passed on
moved : {A B E : Type 0} (r : Result A E) (x y : E) → r ≡ Err x → r ≡ Err y → ◌≡◌ {A = Result B E} (Err x) (Err y)
moved {A} {B} {E} r x y h g = (let f : ◌≡◌ {A = Result A E} (Err x) (Err y) = sym h ∙ g in let e : x ≡ y = cc in ap Err e)

pub loop-space-init : goal.loop-space-init
loop-space-init c = gathered_none c.args.snapshot.now.spaces.entries _ c.new-areas.result c.into_iter-space-iterator.ensures.into_iter_gives.0 c.into_iter-space-iterator.ensures.into_iter_gives.5 c.new-areas.ensures.empty

pub returns-in_err-own-clause-over : goal.returns-in_err-own-clause-over
returns-in_err-own-clause-over c = λ is.
    let p = err_from_is_err_and c.from_residual.result c.from_residual.ensures.1 in
    gathered_over c.args.snapshot.now c.loop-space.space-iterator _ c.loop-space.areas _ _ c.loop-space.invariant c.into_iter-space-iterator.ensures.into_iter_gives.5 c.in-Some.ensures.steps
    (c.in_err-own.ensures.over (moved c.from_residual.result c.in_err-own.field-0.0 _ (p.1 ∙ ap Err p.2) is))

pub loop-space-preserved : goal.loop-space-preserved
loop-space-preserved c = gathered_next c.args.snapshot.now.spaces.entries c.loop-space.space-iterator _ c.loop-space.areas c.add_areas.new.areas _ _ c.in_ok-own.own c.loop-space.invariant c.in-Some.ensures.steps c.in_ok-own.ensures.ok.0 c.in_ok-own.ensures.ok.1 c.in_ok-add_areas.ensures.ok

pub returns-clause-ok : goal.returns-clause-ok
returns-clause-ok c = gathered_all c.args.snapshot.now c.loop-space.space-iterator c.loop-space.areas c.loop-space.invariant c.in-None.ensures.steps.0

pub returns-clause-within : goal.returns-clause-within
returns-clause-within c = gathered_within c.args.snapshot.now c.loop-space.space-iterator c.loop-space.areas c.loop-space.invariant c.into_iter-space-iterator.ensures.into_iter_gives.5 c.in-None.ensures.steps.0
