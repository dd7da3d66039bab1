use Rattle.std.proofs.Common.{true, slice_set, subst, ◌∙◌, ap}
use Rattle.sd_free_slots.proofs.WalkLemmas.{IsNext, IsWalked, walk_begins, walk_ends, walk_goes_on}
use Rattle.sd_free_slots.proofs.marks.take_reached.Goals as goal

pub loop-next-init : goal.loop-next-init
loop-next-init c = walk_begins c.args.catalog.now c.args.serial c.args.marks.now.items c.image-next.result c.sound.ensures c.image-next.ensures

pub loop-next-preserved : goal.loop-next-preserved
loop-next-preserved c =
    let next : IsNext c.args.catalog.now c.in-Some.image.now c.parent-next.result = record { named = c.parent-next.ensures.named; all = c.parent-next.ensures.all } in
    walk_goes_on c.args.catalog.now c.args.serial c.args.marks.now.items c.loop-next.marks.items c.take.new.marks.items c.in-Some.image c.parent-next.result c.sound.ensures next
    (c.take.ensures ∙ ap (λ slot. slice_set c.loop-next.marks.items slot true) c.slot.ensures)
    (subst (λ n. IsWalked c.args.catalog.now c.args.serial c.args.marks.now.items n c.loop-next.marks.items) c.in-Some.is c.loop-next.invariant)

pub returns : goal.returns
returns c = walk_ends c.args.catalog.now c.args.serial c.args.marks.now.items c.loop-next.marks.items
    (subst (λ n. IsWalked c.args.catalog.now c.args.serial c.args.marks.now.items n c.loop-next.marks.items) c.in_default.is c.loop-next.invariant)
