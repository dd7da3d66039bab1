use Rattle.std.proofs.Common.{refl, sym, subst, ◌∙◌}
use Rattle.sd_drop.proofs.ReachLemmas.{IsNext, IsWalked, walk_begins, walk_found, walk_goes_on}
use Rattle.sd_drop.proofs.reached.is_reached.Goals as goal

pub loop-next-init : goal.loop-next-init
loop-next-init c = walk_begins c.args.catalog.now c.args.slot c.tip-next.result c.sound.ensures c.tip-next.ensures.newest

pub returns-then-slot : goal.returns-then-slot
returns-then-slot c =
    let here = walk_found c.args.catalog.now c.args.slot c.in-Some.image (sym c.slot.ensures ∙ c.if-slot.true)
    (subst (λ n. IsWalked c.args.catalog.now c.args.slot n) c.in-Some.is c.loop-next.invariant) in
    λ fall. (λ yes. here, λ yes. refl)

pub loop-next-preserved : goal.loop-next-preserved
loop-next-preserved c =
    let next : IsNext c.args.catalog.now c.in-Some.image.now c.parent-next.result = record { named = c.parent-next.ensures.named; all = c.parent-next.ensures.all } in
    walk_goes_on c.args.catalog.now c.args.slot c.in-Some.image c.parent-next.result c.sound.ensures next
    (λ same. c.if-slot.false (c.slot.ensures ∙ same))
    (subst (λ n. IsWalked c.args.catalog.now c.args.slot n) c.in-Some.is c.loop-next.invariant)
