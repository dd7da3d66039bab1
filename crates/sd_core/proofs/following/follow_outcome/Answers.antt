use Rattle.std.proofs.Common.{◌≡◌, length, slice_get, slice_index_or, ◌∙◌, ap}
use Rattle.std.proofs.lemmas.Option.{slice_get-get_or}
use Rattle.sd_gate.specs.declared.request_id.RequestId.{RequestId}
use Rattle.sd_gate.specs.Calls.{is_done}
use Rattle.sd_gate.specs.Phases.{after, phases_after}
use Rattle.sd_crash_safety.specs.DumperOutcomes.{closes_for_sure}
use Rattle.sd_core.proofs.CoreLemmas.{set_count}
use Rattle.sd_core.proofs.following.follow_outcome.Goals as goal

pub returns-clause-follows : goal.returns-clause-follows
returns-clause-follows c =
    let made = c.args.outcome.now in
    let id = made.request.id in
    let phases = c.args.phases.now.items in
    let phase = slice_index_or phases id.slot c.index.result.now in
    let is = slice_get-get_or phases id.slot c.index.result.now c.requires.slot in
    let follows : c.follow_call.new.phases.items ≡ phases_after phases id phase (is_done made.answer) =
    c.follow_call.ensures phase (ap (λ (i : RequestId). slice_get phases i.slot) c.id-id.ensures ∙ is)
    ∙ ap (λ i. phases_after phases i phase c.is_done.result) c.id-id.ensures
    ∙ ap (phases_after phases id phase) (c.is_done.ensures ∙ ap is_done c.answer.ensures) in
    record {
      phase = phase;
      is = is;
      count = ap length follows ∙ set_count phases id.slot (after phase id.call (is_done made.answer));
      phases = follows;
      closes = c.closes_for_sure-closed.ensures ∙ ap (λ p. closes_for_sure p c.id-id.result.call) (c.index.ensures ∙ ap (λ (i : RequestId). slice_index_or phases i.slot c.index.result.now) c.id-id.ensures)
          ∙ ap (λ (i : RequestId). closes_for_sure phase i.call) c.id-id.ensures;
    }
