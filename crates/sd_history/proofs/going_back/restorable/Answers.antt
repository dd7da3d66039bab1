use Rattle.std.proofs.Common.{ℕ, List, take, length, ◌≤◌, ◌∙◌, ap, refl, subst, sym}
use Rattle.sd_restore.proofs.TakeLemmas.{taken_all}
use Rattle.sd_history.proofs.BackLemmas.{AreKept, all_kept, one_more_kept}
use Rattle.sd_history.proofs.going_back.restorable.Goals as goal

pub loop-number-preserved : goal.loop-number-preserved
loop-number-preserved c = λ contents catalog.
    one_more_kept contents c.deref-number-items.result.now c.loop-number.number-index _ _ c.loop-number.kept.items c.keep_restorable.new.kept.items c.loop-number-test.true refl
    (c.loop-number.invariant contents catalog) (c.in_ok-keep_restorable.ensures.exact contents catalog)

pub returns-clause-exact : goal.returns-clause-exact
returns-clause-exact c = λ contents catalog.
    let numbers : List ℕ = c.deref-number-items.result.now in
    all_kept contents c.args.catalog.now c.in_ok-numbers.numbers.items c.loop-number.kept.items c.in_ok-numbers.ensures (λ all slots. c.has_the_images.ensures contents all catalog slots)
    (subst (λ (xs : List ℕ). AreKept contents xs c.loop-number.kept.items) (taken_all numbers c.loop-number.number-index c.loop-number-test.false ∙ c.deref-number-items.ensures.value)
    (c.loop-number.invariant contents catalog))
