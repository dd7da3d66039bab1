use Rattle.std.proofs.Common.{◌≡◌, Contains, Some, subst}
use Rattle.sd_free_slots.specs.Marks.{TakesSlots}
use Rattle.sd_free_slots.specs.Taken.{IsListedSlot}
use Rattle.sd_free_slots.proofs.TakenLemmas.{jobs_of}
use Rattle.sd_free_slots.proofs.taken.take_jobs.Goals as goal

pub returns : goal.returns
returns c = jobs_of c.args.dumper.now.running c.args.merger.now c.args.outs.now c.args.marks.now.items c.take_all.new.marks.items c.take_some.new.marks.items
    c.take_some-2.new.marks.items c.take_listed.new.marks.items c.take_outs.new.marks.items
    (subst (λ slots. TakesSlots (Contains slots) c.args.marks.now.items c.take_all.new.marks.items) c.pre_dump_slots.ensures c.take_all.ensures)
    (subst (λ own. TakesSlots (λ slot. own ≡ Some slot) c.take_all.new.marks.items c.take_some.new.marks.items) c.dump_slot.ensures c.take_some.ensures)
    (subst (λ own. TakesSlots (λ slot. own ≡ Some slot) c.take_some.new.marks.items c.take_some-2.new.marks.items) c.slot.ensures c.take_some-2.ensures)
    (subst (λ list. TakesSlots (IsListedSlot list) c.take_some-2.new.marks.items c.take_listed.new.marks.items) c.list.ensures c.take_listed.ensures)
    c.take_outs.ensures
