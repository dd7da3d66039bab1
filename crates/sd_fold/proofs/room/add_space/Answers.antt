use Rattle.std.proofs.Common.{◌∙◌, sym}
use Rattle.sd_areas.specs.Memory.{memory_of}
use Rattle.sd_fold.specs.declared.added.Added.TheVariants as added
use Rattle.sd_fold.proofs.RoomLemmas.{is_there, space_stays, opened, undo_step, space_undone}
use Rattle.sd_fold.proofs.Tables.{on_ok}
use Rattle.sd_fold.proofs.room.add_space.Goals as goal

pub returns-then-contains_key-clause-there : goal.returns-then-contains_key-clause-there
returns-then-contains_key-clause-there c = space_stays (memory_of c.args.base.now) c.args.space (sym (is_there c.args.base.now c.args.space) ∙ sym c.contains_key.ensures ∙ c.if-contains_key.true)

pub returns-clause-there : goal.returns-clause-there
returns-clause-there c = on_ok c.add_space.result _ _ (opened (memory_of c.args.base.now) _ c.args.space (sym (is_there c.args.base.now c.args.space) ∙ sym c.contains_key.ensures ∙ c.if-contains_key.false)) c.add_space.ensures.ok

pub returns-clause-undo : goal.returns-clause-undo
returns-clause-undo c = undo_step c.args.added.now.items c.push.new.self.items (added.Space c.args.space) (memory_of c.add_space.new.self) (memory_of c.args.base.now) c.in_ok-push.ensures.items
    (space_undone c.add_space.result (memory_of c.args.base.now) (memory_of c.add_space.new.self) c.args.space (sym (is_there c.args.base.now c.args.space) ∙ sym c.contains_key.ensures ∙ c.if-contains_key.false)
    c.add_space.ensures.ok c.add_space.ensures.err)
