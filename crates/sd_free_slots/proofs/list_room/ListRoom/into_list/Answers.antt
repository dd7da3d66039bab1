use Rattle.std.proofs.Common.{None, Contains, length, replicate, ◌∙◌, ap, subst}
use Rattle.sd_free_slots.specs.Lists.{Notes, listed_from}
use Rattle.sd_free_slots.specs.Taken.{AreTaken}
use Rattle.sd_free_slots.proofs.ListLemmas.{list_of_room}
use Rattle.sd_free_slots.proofs.list_room.ListRoom.into_list.Goals as goal

pub returns : goal.returns
returns c =
    list_of_room c.args.catalog.now c.args.dumper.now.running c.args.merger.now c.args.outs.now c.args.self c.mark_taken.new.marks.items c.self.inside.serials.items
    c.note_serials.new.serials.items c.list_unmarked.new.list.items
    (subst (λ n. AreTaken c.args.catalog.now c.args.dumper.now.running c.args.merger.now c.args.outs.now n c.mark_taken.new.marks.items) c.self.view_is c.mark_taken.ensures)
    (c.self.invariant.none ∙ ap (λ n. replicate n None) c.self.view_is)
    (subst (λ before. Notes c.args.catalog.now (Contains before) (length before) c.self.inside.serials.items c.note_serials.new.serials.items) c.before-2.ensures c.note_serials.ensures)
    (c.list_unmarked.ensures ∙ ap (λ marks. listed_from 0 marks c.deref-2.result.now) c.deref.ensures.value ∙ ap (listed_from 0 c.mark_taken.new.marks.items) c.deref-2.ensures.value)
