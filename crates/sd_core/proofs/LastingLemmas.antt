-- A merge that goes on is the one that ran, and nothing is asked for on its image's slot.
use Rattle.std.proofs.Common.{◌≡◌, Some, sym, ◌∙◌, ap, subst}
use Rattle.sd_gate.specs.declared.request_id.RequestId.{RequestId}
use Rattle.sd_merge.specs.Merger as merger
use Rattle.sd_merge.specs.Merger.{Retiring, retiring}
use Rattle.sd_crash_safety.specs.Calls.{IsFree}
use Rattle.sd_crash_safety.specs.View.{CoreView}
use Rattle.sd_core.specs.Lasting.{IsLeftAlone}
use Rattle.sd_core.specs.Merging.{IsMergedImage}
use Rattle.sd_core.specs.Sound.{IsCore, IsDoing, Parts}
use Rattle.sd_core.proofs.BesideLemmas.{free_on, merger_works}
use Rattle.sd_core.proofs.OwnLemmas.{spared_of}

-- ---- the merged image

-- no request is out on the slot of one that closes images
pub left_alone : (core : Parts) (view : CoreView) → IsCore core → view.merger ≡ core.merger → view.outs ≡ core.outs → view.catalog ≡ core.places → (merge : merger.Running) (r : Retiring)
    → view.merger ≡ Some merge → merge.doing ≡ retiring r → IsLeftAlone view merge r.serial
left_alone core view sound same outs places merge r was doing =
    let is = sym same ∙ was in
    let m = merger_works core merge sound is in
    let d = subst (IsDoing core.phases core.places core.numbers core.room core.dumper.running merge) doing m.doing in
    record {
      image = subst (λ p. IsMergedImage merge p r.serial) (sym places) d.image;
      free = subst (λ all. IsFree all merge.slot) (sym outs)
          (free_on core merge.slot sound m.stands (spared_of core.dumper.running merge.slot m.spared) (λ id out. d.elsewhere id (sym (ap merger.out_in doing) ∙ own id out is)));
    }
  where
    own : (id : RequestId) → merger.out_of_merge core.merger ≡ Some id → core.merger ≡ Some merge → merger.out_in merge.doing ≡ Some id
    own id out is = sym (ap merger.out_of_merge is) ∙ out
