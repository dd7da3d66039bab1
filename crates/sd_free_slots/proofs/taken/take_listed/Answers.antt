use Rattle.std.proofs.Common.{◌+◌, Some, get_or, refl, ap, arith}
use Rattle.std.proofs.lemmas.Option.{same_Some, slice_get-get_or}
use Rattle.sd_image.proofs.Members.{at_contains, contains_at}
use Rattle.sd_merge.specs.declared.retired.Retired.{Retired}
use Rattle.sd_free_slots.specs.Taken.{IsListedSlot}
use Rattle.sd_free_slots.proofs.MarkLemmas.{among_all, among_more, takes_its}
use Rattle.sd_free_slots.proofs.taken.take_listed.Goals as goal

abbrev nothing : Retired
nothing = record { serial = 0; slot = 0 }

pub loop-one-preserved : goal.loop-one-preserved
loop-one-preserved c =
    among_more (λ (one : Retired). Some one.slot) c.args.list.now c.loop-one.one-index (c.loop-one.one-index + 1) (get_or c.args.list.now c.loop-one.one-index nothing) c.args.marks.now.items c.loop-one.marks.items c.take.new.marks.items (omega arith)
    (slice_get-get_or c.args.list.now c.loop-one.one-index nothing c.loop-one-test.true) c.loop-one.invariant
    (takes_its (λ (one : Retired). Some one.slot) (get_or c.args.list.now c.loop-one.one-index nothing) c.loop-one.marks.items c.take.new.marks.items (get_or c.args.list.now c.loop-one.one-index nothing).slot refl c.take.ensures)

pub returns : goal.returns
returns c = among_all (λ (one : Retired). Some one.slot) (IsListedSlot c.args.list.now) c.args.list.now c.loop-one.one-index c.args.marks.now.items c.loop-one.marks.items c.loop-one-test.false
    (λ slot h. record { one = h.one; listed = contains_at c.args.list.now h.place h.one h.there; at = same_Some h.one.slot slot h.has })
    (λ slot l. record { place = l.listed.0; one = l.one; there = at_contains c.args.list.now l.one l.listed; has = ap Some l.at })
    c.loop-one.invariant
