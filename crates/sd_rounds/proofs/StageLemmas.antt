-- An image after the format of its slot.
use Rattle.std.proofs.Common.{◌≡◌, ℕ, nat_eq, List, Option, refl}
use Rattle.sd_image.specs.declared.header.Kind.{Kind}
use Rattle.sd_image.specs.declared.header.Kind.TheVariants.{PreDump, Dump, Merged}
use Rattle.sd_gate.specs.declared.request_id.RequestId.{RequestId}
use Rattle.sd_gate.specs.Plans.{Planned}
use Rattle.sd_rounds.specs.declared.image_order.ImageOrder.{ImageOrder}
use Rattle.sd_rounds.specs.declared.stage.Stage.{Stage}
use Rattle.sd_rounds.specs.declared.stage.Stage.TheVariants.{Format}
use Rattle.sd_rounds.specs.Making.{IsMaking, IsReadyFor, stage_when_done}
use Rattle.sd_rounds.specs.Pass.{Pass, opened}
use Rattle.sd_rounds.specs.Writes.{no_writes}

pub behind_made : (order : ImageOrder) (pass : Pass) (stored : ℕ) (stage : Stage) (plan : Planned) (writes : List (Option RequestId)) → IsMaking order pass stored stage writes
    → pass ≡ opened (nat_eq order.parent 0) → writes ≡ no_writes → IsMaking order pass stored (stage_when_done order.kind (Format plan)) writes
behind_made order pass stored stage plan writes was fresh rests = record {
  takes = was.takes;
  counted = was.counted;
  few = was.few;
  ready = by order.kind refl;
  lanes = was.lanes;
  rests = λ outside. rests;
}
  where
    by : (kind : Kind) → order.kind ≡ kind → IsReadyFor order pass (stage_when_done kind (Format plan))
    by Dump is = (fresh, is)
    by PreDump is = tt
    by Merged is = tt
