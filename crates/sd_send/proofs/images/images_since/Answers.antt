use Rattle.std.proofs.Common.{◌≢◌, Some, map, sym, subst, Bor, rules}
use Rattle.sd_chain.specs.Catalog.{Opened}
use Rattle.sd_send.proofs.WalkLemmas.{IsWalked, all_slots, parent_seen, walk_begins, walk_goes_on}
use Rattle.sd_send.proofs.images.images_since.Goals as goal

pub loop-next-init : goal.loop-next-init
loop-next-init c = subst (λ found. IsWalked c.args.catalog.now c.args.stop (map (λ (i : Bor Opened). i.now) found) c.tip-next.result) (sym c.new-found.ensures.items)
    (walk_begins c.args.catalog.now c.args.stop c.tip-next.result c.tip-next.ensures.newest)

pub loop-next-preserved : goal.loop-next-preserved
loop-next-preserved c =
    let places = c.args.catalog.now in
    let found = map (λ (i : Bor Opened). i.now) c.loop-next.found.items in
    let parent = parent_seen places c.in-Some.image.now c.parent-next.result c.parent-next.ensures.falls c.parent-next.ensures.named c.parent-next.ensures.all in
    let other : c.args.stop ≢ Some c.in-Some.image.now.slot = search rules in
    subst (λ found. IsWalked places c.args.stop (map (λ (i : Bor Opened). i.now) found) c.parent-next.result) (sym c.in_ok-insert.ensures.items)
    (walk_goes_on places c.args.stop found c.in-Some.image c.parent-next.result (subst (λ n. IsWalked places c.args.stop found n) c.in-Some.is c.loop-next.invariant)
    other parent c.parent-next.ensures.named)

pub returns-clause-slots : goal.returns-clause-slots
returns-clause-slots c = λ count all. all_slots c.args.catalog.now c.loop-next.found.items count c.loop-next.invariant.members all
