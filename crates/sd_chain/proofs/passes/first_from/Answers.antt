use Rattle.std.proofs.Common.{◌≡◌, ◌∙◌, add-one, take, Contains, List, Some, None, ap, sym, subst, inl, inr}
use Rattle.sd_image.specs.declared.run.Run.{Run}
use Rattle.sd_image.specs.declared.table.SpaceTable.{SpaceTable}
use Rattle.sd_image.specs.Table.{AreRuns}
use Rattle.sd_chain.specs.Passes.{IsLeastFrom, from_within}
use Rattle.sd_chain.proofs.NextPages.{IsPassed, first_there, none_there, passed, runs_good, take_all, take_cases}
use Rattle.sd_chain.proofs.passes.first_from.Goals as goal

pub returns-in-Some : goal.returns-in-Some
returns-in-Some c = λ h table.
    let items : List SpaceTable = c.args.spaces.now in
    let s : SpaceTable = c.listed-item.result in
    let runs_are : c.deref.result.now ≡ s.runs.items = c.deref.ensures.value in
    let from_is : c.from_in-from.result ≡ from_within s.space (c.args.space, c.args.page) =
    c.from_in-from.ensures ∙ ap (λ n. from_within n (c.args.space, c.args.page)) c.number.ensures in
    let good = runs_good h items s table (c.loop-listed.listed-index, c.loop-listed-test.true, sym c.listed-item.is) in
    let raw : IsLeastFrom c.deref.result.now c.from_in-from.result (Some c.in-Some.found) = c.in-Some.ensures h.parent (subst (AreRuns h.parent None) (sym runs_are) good) in
    first_there h items (c.args.space, c.args.page) c.loop-listed.listed-index s c.in-Some.found table (c.loop-listed.invariant h table) c.loop-listed-test.true c.listed-item.is
    (subst (λ n. IsLeastFrom s.runs.items n (Some c.in-Some.found)) from_is (subst (λ (runs : List Run). IsLeastFrom runs c.from_in-from.result (Some c.in-Some.found)) runs_are raw))

pub loop-listed-preserved : goal.loop-listed-preserved
loop-listed-preserved c = λ h table t among.
    let items : List SpaceTable = c.args.spaces.now in
    let s : SpaceTable = c.listed-item.result in
    let runs_are : c.deref.result.now ≡ s.runs.items = c.deref.ensures.value in
    let from_is : c.from_in-from.result ≡ from_within s.space (c.args.space, c.args.page) =
    c.from_in-from.ensures ∙ ap (λ n. from_within n (c.args.space, c.args.page)) c.number.ensures in
    let here : Contains items s = (c.loop-listed.listed-index, c.loop-listed-test.true, sym c.listed-item.is) in
    let good = runs_good h items s table here in
    let raw : IsLeastFrom c.deref.result.now c.from_in-from.result None = c.in_default.ensures h.parent (subst (AreRuns h.parent None) (sym runs_are) good) in
    let none : IsLeastFrom s.runs.items (from_within s.space (c.args.space, c.args.page)) None =
    subst (λ n. IsLeastFrom s.runs.items n None) from_is (subst (λ (runs : List Run). IsLeastFrom runs c.from_in-from.result None) runs_are raw) in
    elim (take_cases items c.loop-listed.listed-index s t c.loop-listed-test.true c.listed-item.is (subst (λ n. Contains (take n items) t) (add-one c.loop-listed.listed-index) among)) [
      | inl was ↦ c.loop-listed.invariant h table t was
      | inr is ↦ subst (IsPassed (c.args.space, c.args.page)) (sym is) (passed h items s (c.args.space, c.args.page) table here none)
    ]

pub returns : goal.returns
returns c = λ h table.
    none_there c.args.spaces.now (c.args.space, c.args.page) (λ t d. c.loop-listed.invariant h table t (take_all c.args.spaces.now c.loop-listed.listed-index t c.loop-listed-test.false d))
