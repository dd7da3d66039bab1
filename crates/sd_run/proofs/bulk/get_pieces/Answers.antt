-- One load more is answered bytes, or none.
use Rattle.std.proofs.Common.{◌≡◌, ◌∙◌, ◌++◌, ◌∷◌, ◌+◌, ◌%◌, ◌^◌, [], append-nil, append_assoc, sym, ap, refl, arith}
use Rattle.sd_world.proofs.GoesOnLemmas.{goes_further, goes_nowhere}
use Rattle.sd_run.specs.Bulk.{Gets, Loaded, all_bytes, asked_by}
use Rattle.sd_run.specs.Lines.{AnswersLines}
use Rattle.sd_run.proofs.BulkLemmas.{all_bytes_more, asked_more, load_more, loaded_more, no_room_to_load, past_more}
use Rattle.sd_run.proofs.bulk.get_pieces.Goals as goal

pub loop-left-init : goal.loop-left-init
loop-left-init g c = record {
  loads = [];
  asked = omega arith;
  bytes = sym (append-nil c.args.bytes.now.items);
  address = refl;
  answered = refl;
  goes_on = goes_nowhere g.D.Disk c.args.world.now (g.met.D.Disk.only_now c.args.world.now.disk) c.sound.ensures.allowed;
}

pub loop-left-preserved : goal.loop-left-preserved
loop-left-preserved g c =
    let before = c.loop-left.invariant in
    let load : Loaded = record { count = c.piece_len-count.result; bytes = c.in-Bytes.piece } in
    let grown : c.extend_from_slice.new.self.items ≡ c.loop-left.bytes.items ++ c.in-Bytes.piece =
    c.in_ok-extend_from_slice-in-Bytes.ensures.items ∙ ap (λ b. c.loop-left.bytes.items ++ b) c.as_slice.ensures in
    let more : asked_by (before.loads ++ load ∷ []) ≡ asked_by before.loads + c.piece_len-count.result = asked_more before.loads load in
    record {
      loads = before.loads ++ load ∷ [];
      asked = omega (arith, more, before.asked, c.piece_len-count.ensures.left);
      bytes = grown ∙ ap (λ b. b ++ c.in-Bytes.piece) before.bytes ∙ append_assoc c.args.bytes.now.items (all_bytes before.loads) c.in-Bytes.piece
          ∙ ap (λ b. c.args.bytes.now.items ++ b) (sym (all_bytes_more before.loads load));
      address = ap (λ a. (a + c.piece_len-count.result) % 2 ^ 64) before.address ∙ sym (past_more c.args.place.address before.loads load);
      answered = loaded_more g.D.Disk c.args.world.now c.loop-left.world c.apply.new.world c.args.place.space c.args.place.address c.loop-left.address
          before.loads load c.apply.result before.answered c.apply.ensures.step before.address c.in-Bytes.is;
      goes_on = goes_further g.D.Disk c.args.world.now c.loop-left.world c.apply.new.world before.goes_on c.apply.ensures.goes_on;
    }

pub returns-in_err-extend_from_slice-in-Bytes-clause-answered : goal.returns-in_err-extend_from_slice-in-Bytes-clause-answered
returns-in_err-extend_from_slice-in-Bytes-clause-answered g c =
    let before = c.loop-left.invariant in
    let load : Loaded = record { count = c.piece_len-count.result; bytes = c.in-Bytes.piece } in
    no_room_to_load (λ lines answers. AnswersLines g.D.Disk c.args.world.now lines answers c.apply.new.world) c.args.place.space c.args.place.address
    c.args.length c.args.bytes.now.items c.extend_from_slice.new.self.items c.from_residual.result c.from_residual.ensures.0 (before.loads ++ load ∷ [])
    (loaded_more g.D.Disk c.args.world.now c.loop-left.world c.apply.new.world c.args.place.space c.args.place.address c.loop-left.address before.loads load
    c.apply.result before.answered c.apply.ensures.step before.address c.in-Bytes.is)

pub returns-in_err-extend_from_slice-in-Bytes-clause-goes_on : goal.returns-in_err-extend_from_slice-in-Bytes-clause-goes_on
returns-in_err-extend_from_slice-in-Bytes-clause-goes_on g c = goes_further g.D.Disk c.args.world.now c.loop-left.world c.apply.new.world
    c.loop-left.invariant.goes_on c.apply.ensures.goes_on

pub returns-in_default : goal.returns-in_default
returns-in_default g c =
    let before = c.loop-left.invariant in
    record {
      answered = Gets.stopped (record { address = c.loop-left.address; reply = c.apply.result }) before.loads c.piece_len-count.result before.bytes before.address
          c.in_default.not-Bytes
          (load_more g.D.Disk c.args.world.now c.loop-left.world c.apply.new.world c.args.place.space c.args.place.address c.loop-left.address before.loads
          c.piece_len-count.result c.apply.result before.answered c.apply.ensures.step);
      goes_on = goes_further g.D.Disk c.args.world.now c.loop-left.world c.apply.new.world before.goes_on c.apply.ensures.goes_on;
    }

pub returns-clause-answered : goal.returns-clause-answered
returns-clause-answered g c =
    let before = c.loop-left.invariant in
    Gets.loaded before.loads (omega (arith, before.asked, c.loop-left-test.false)) before.bytes before.answered
