use Rattle.std.proofs.Common.{◌≡◌, ◌<◌, ◌≢◌, length, arith, get_or-set_other, get_or-set_same, below_more, ◌∙◌, subst, sym}
use Rattle.std.proofs.lemmas.List.{length-set}
use Rattle.std.proofs.lemmas.Result.{IfOk-weaker}
use Rattle.sd_disk.specs.declared.slot_file.SlotFile.{SlotFile}
use Rattle.sd_disk.specs.Contents.{file_at}
use Rattle.sd_disk.specs.Outcomes.{Leaves}
use Rattle.sd_disk.specs.Slots.{held}
use Rattle.sd_disk.proofs.ShadowLemmas.{picked_leaves, left_kept, same_front}
use Rattle.sd_disk.proofs.slot_file.SlotFile.crash.Goals as goal

pub loop-at-preserved : goal.loop-at-preserved
loop-at-preserved g c =
    let at = c.loop-at.at in
    let room = c.loop-at.room.items in
    let byte = c.picked_byte.result in
    let here : at < length room = omega (arith, c.loop-at.invariant.size) in
    record {
      size = length-set room at byte ∙ c.loop-at.invariant.size;
      kept = below_more _ _
          (λ place near. let ne : place ≢ at = omega arith in rw get_or-set_other (c.loop-at.invariant.kept place near))
          (rw get_or-set_same c.picked_byte.ensures.kept);
      aimed = λ known outcome tracks aims left.
          let so_far = c.loop-at.invariant.aimed known outcome tracks aims left in
          let next = c.picked_byte.ensures.aimed outcome so_far.0 in (
            next.0,
            so_far.1,
            below_more _ _
                (λ place near. let ne : place ≢ at = omega arith in rw get_or-set_other (so_far.2 place near))
                (rw get_or-set_same (next.1 (omega (arith, so_far.1, c.loop-at-test.true))
                (left_kept c.args.self.now.shadow known tracks (file_at outcome c.args.number) left at (omega (arith, so_far.1, c.loop-at-test.true))))),
          );
    }

pub returns-clause-outcome : goal.returns-clause-outcome
returns-clause-outcome g c =
    λ known tracks. IfOk-weaker c.at_rest.result _ (λ slot. Leaves known (held slot))
    (λ slot is. subst (Leaves known) (sym is) (picked_leaves c.args.self.now.shadow known tracks c.loop-at.room.items c.picked_len-len.result
    c.picked_len-len.ensures.no_shorter c.picked_len-len.ensures.no_longer
    (omega (arith, c.loop-at.invariant.size, c.picked_len-len.ensures.no_longer, c.args.self.now.fits))
    (λ place near. c.loop-at.invariant.kept place (omega (arith, near)))))
    c.at_rest.ensures.held

pub returns-clause-aimed : goal.returns-clause-aimed
returns-clause-aimed g c =
    λ known outcome tracks aims left.
    let all = c.loop-at.invariant.aimed known outcome tracks aims left in
    let aimed : SlotFile → Type 0 = λ slot. (held slot ≡ file_at outcome c.args.number) × g.P.Pick.aims c.loop-at.pick outcome in
    IfOk-weaker c.at_rest.result _ aimed
    (λ slot is. (
      is ∙ same_front c.loop-at.room.items (file_at outcome c.args.number) c.picked_len-len.result
          (omega (arith, c.loop-at.invariant.size, c.picked_len-len.ensures.no_longer, c.args.self.now.fits))
          all.1 (λ place near. all.2 place (omega (arith, near))),
      all.0,
    ))
    c.at_rest.ensures.held
