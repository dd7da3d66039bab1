use Rattle.std.proofs.Common.{◌≡◌, Some, slice_get, sym, ◌∙◌, ap}
use Rattle.sd_gate.specs.declared.request_id.RequestId.{RequestId}
use Rattle.sd_crash_safety.specs.View.{CoreView}
use Rattle.sd_core.specs.Next.{late, of_dumper, of_merger, of_opener}
use Rattle.sd_core.specs.Sound.{worker_of_lane}
use Rattle.sd_core.proofs.HandedLemmas.{merger_lane}
use Rattle.sd_core.proofs.state.Core.hand_in_known.Goals.{In-Some}
use Rattle.sd_core.proofs.state.Core.hand_in_known.Goals as goal

-- the request is out in the lane that was found
own : (c : In-Some) → slice_get c.self.inside.outs c.in-Some.lane ≡ Some (Some c.args.outcome.request.id)
own c = c.in-Some.ensures.found ∙ ap (λ (i : RequestId). Some (Some i)) c.id-id.ensures

-- its worker is the one of that lane
whose : (c : In-Some) → worker_of_lane c.in-Some.lane ≡ c.id-id.result.worker
whose c = sym (c.self.invariant.outs_are.whose c.in-Some.lane c.args.outcome.request.id (own c)) ∙ ap (λ (i : RequestId). i.worker) (sym c.id-id.ensures)

pub returns-then-is_idle : goal.returns-then-is_idle
returns-then-is_idle c = late c.hand_in_late.ensures.late c.hand_in_late.ensures.step

pub returns-in-Dumper : goal.returns-in-Dumper
returns-in-Dumper c = of_dumper c.hand_in_dumper.ensures

pub returns-in-Merger : goal.returns-in-Merger
returns-in-Merger c = of_merger c.hand_in_merger.ensures

pub returns-in-Opener : goal.returns-in-Opener
returns-in-Opener c = of_opener c.hand_in_opener.ensures

pub hand_in_merger-requires-clause-out : goal.hand_in_merger-requires-clause-out
hand_in_merger-requires-clause-out c =
    let k = (goal.at.hand_in_merger-requires-clause-out c).In-Some in
    ap (λ (v : CoreView). slice_get v.outs 1) (sym c.self.view_is) ∙ ap (slice_get c.self.inside.outs) (sym (merger_lane c.in-Some.lane (whose k ∙ c.in-Merger.is))) ∙ own k
