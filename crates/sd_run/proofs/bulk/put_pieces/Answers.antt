-- One piece more is stored, or none.
use Rattle.std.proofs.Common.{◌∙◌, ◌++◌, ◌∷◌, [], append-nil, sym, ap, refl}
use Rattle.std.specs.List.{concat}
use Rattle.sd_world.proofs.GoesOnLemmas.{goes_further, goes_nowhere}
use Rattle.sd_run.specs.Bulk.{Puts, behind}
use Rattle.sd_run.specs.Lines.{AnswersLines}
use Rattle.sd_run.proofs.BulkLemmas.{behind_more, done_more, no_room_for, parts_more, store_more}
use Rattle.sd_run.proofs.bulk.put_pieces.Goals as goal

pub loop-piece-init : goal.loop-piece-init
loop-piece-init g c = record {
  pieces = [];
  parts = refl;
  address = refl;
  answered = refl;
  goes_on = goes_nowhere g.D.Disk c.args.world.now (g.met.D.Disk.only_now c.args.world.now.disk) c.sound.ensures.allowed;
}

pub loop-piece-preserved : goal.loop-piece-preserved
loop-piece-preserved g c =
    let before = c.loop-piece.invariant in
    let piece = c.in-Some.piece.now in
    record {
      pieces = before.pieces ++ piece ∷ [];
      parts = parts_more c.args.bytes.now c.loop-piece.rest.now c.in-Some.others.now before.pieces piece before.parts c.in-Some.ensures.parts;
      address = ap (λ a. behind a piece) before.address ∙ sym (behind_more c.args.place.address before.pieces piece);
      answered = done_more g.D.Disk c.args.world.now c.loop-piece.world c.apply.new.world c.args.place.space c.args.place.address c.loop-piece.address
          before.pieces piece c.new-bytes.result c.apply.result before.answered c.apply.ensures.step (c.new-bytes.ensures ∙ c.in_ok-from_slice.ensures.items)
          before.address c.in-Done.is;
      goes_on = goes_further g.D.Disk c.args.world.now c.loop-piece.world c.apply.new.world before.goes_on c.apply.ensures.goes_on;
    }

pub returns-in_err-from_slice-clause-answered : goal.returns-in_err-from_slice-clause-answered
returns-in_err-from_slice-clause-answered g c =
    let before = c.loop-piece.invariant in
    no_room_for (λ lines answers. AnswersLines g.D.Disk c.args.world.now lines answers c.loop-piece.world) c.args.place.space c.args.place.address
    c.args.bytes.now c.from_residual.result c.from_residual.ensures.0 before.pieces c.loop-piece.rest.now before.parts before.answered

pub returns-in_default-apply-clause-answered : goal.returns-in_default-apply-clause-answered
returns-in_default-apply-clause-answered g c =
    let before = c.loop-piece.invariant in
    Puts.stopped (record { address = c.loop-piece.address; reply = c.apply.result }) before.pieces c.in-Some.piece.now c.in-Some.others.now
    (before.parts ∙ ap (λ rest. concat before.pieces ++ rest) c.in-Some.ensures.parts) before.address c.in_default-apply.not-Done
    (store_more g.D.Disk c.args.world.now c.loop-piece.world c.apply.new.world c.args.place.space c.args.place.address c.loop-piece.address before.pieces
    c.in-Some.piece.now c.new-bytes.result c.apply.result before.answered c.apply.ensures.step (c.new-bytes.ensures ∙ c.in_ok-from_slice.ensures.items))

pub returns-in_default-apply-clause-goes_on : goal.returns-in_default-apply-clause-goes_on
returns-in_default-apply-clause-goes_on g c = goes_further g.D.Disk c.args.world.now c.loop-piece.world c.apply.new.world
    c.loop-piece.invariant.goes_on c.apply.ensures.goes_on

pub returns-clause-answered : goal.returns-clause-answered
returns-clause-answered g c =
    let before = c.loop-piece.invariant in
    Puts.stored before.pieces
    (before.parts ∙ ap (λ rest. concat before.pieces ++ rest) c.in_default.ensures.none ∙ append-nil (concat before.pieces)) before.answered
