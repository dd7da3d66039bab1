use Rattle.std.proofs.Common.{Some, Contains, refl, subst, arith}
use Rattle.std.proofs.lemmas.Option.{same_Some, slice_get-get_or}
use Rattle.sd_image.proofs.Members.{at_contains, contains_at}
use Rattle.sd_free_slots.proofs.MarkLemmas.{among_all, among_more, takes_its}
use Rattle.sd_free_slots.proofs.marks.take_all.Goals as goal

pub loop-slot-preserved : goal.loop-slot-preserved
loop-slot-preserved c =
    among_more Some c.args.slots.now c.loop-slot.slot-index _ _ _ c.loop-slot.marks.items _ (omega arith)
    (slice_get-get_or c.args.slots.now c.loop-slot.slot-index _ c.loop-slot-test.true) c.loop-slot.invariant
    (takes_its Some _ c.loop-slot.marks.items c.take.new.marks.items _ refl c.take.ensures)

pub returns : goal.returns
returns c = among_all Some (Contains c.args.slots.now) c.args.slots.now c.loop-slot.slot-index c.args.marks.now.items c.loop-slot.marks.items c.loop-slot-test.false
    (λ slot h. subst (Contains c.args.slots.now) (same_Some h.one slot h.has) (contains_at c.args.slots.now h.place h.one h.there))
    (λ slot in_list. record { place = in_list.0; one = slot; there = at_contains c.args.slots.now slot in_list; has = refl })
    c.loop-slot.invariant
