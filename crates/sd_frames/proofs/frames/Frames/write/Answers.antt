use Rattle.std.proofs.Common.{subst, length-set}
use Rattle.sd_frames.specs.Bytes.{stored_at}
use Rattle.sd_frames.proofs.FrameLemmas.{within_slots, changes_frame, changes_free}
use Rattle.sd_frames.specs.Frames.{HasWholeFrames}
use Rattle.sd_frames.proofs.WholeLemmas.{whole_set, whole_at, stored_whole}
use Rattle.sd_frames.proofs.frames.Frames.write.Goals as goal

pub invariant_of-self : goal.invariant_of-self
invariant_of-self c =
    let l = within_slots c.self.inside.pool c.self.inside.slots.items c.args.self.now c.args.number c.self.view_is c.requires.used in (
      simp length-set (c.self.invariant.0),
      changes_free (λ cell. record { count = cell.count; bytes = stored_at cell.bytes c.args.offset c.args.bytes.now }) c.self.inside.pool c.self.inside.slots.items c.args.self.now c.args.number c.self.view_is c.requires.used c.index_mut.result.now c.write.new.self l c.index_mut.ensures.value c.write.ensures c.self.inside.free c.self.invariant.1,
      whole_set c.args.self.now _ c.args.number _ (subst HasWholeFrames c.self.view_is c.self.invariant.2)
          (changes_frame (λ cell. record { count = cell.count; bytes = stored_at cell.bytes c.args.offset c.args.bytes.now }) c.self.inside.pool c.self.inside.slots.items c.args.self.now c.args.number c.self.view_is c.requires.used c.index_mut.result.now c.write.new.self l c.index_mut.ensures.value c.write.ensures)
          (stored_whole _ _ _ (whole_at c.args.self.now c.args.number (subst HasWholeFrames c.self.view_is c.self.invariant.2) c.requires.used) c.requires.within),
    )

pub returns : goal.returns
returns c =
    let l = within_slots c.self.inside.pool c.self.inside.slots.items c.args.self.now c.args.number c.self.view_is c.requires.used in
    changes_frame (λ cell. record { count = cell.count; bytes = stored_at cell.bytes c.args.offset c.args.bytes.now }) c.self.inside.pool c.self.inside.slots.items c.args.self.now c.args.number c.self.view_is c.requires.used c.index_mut.result.now c.write.new.self l c.index_mut.ensures.value c.write.ensures
