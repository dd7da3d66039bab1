-- Where no request is out, the disk leaves what the phases say.
use Rattle.std.proofs.Common.{◌≡◌, ℕ, List, map, Some, slice_get, ◌∙◌, ap, subst}
use Rattle.sd_disk.specs.Contents.{file_at}
use Rattle.sd_disk.specs.declared.disk.Disk.{Ghosts}
use Rattle.sd_gate.specs.declared.phase.Phase.{Phase}
use Rattle.sd_gate.specs.declared.request_id.RequestId.{RequestId}
use Rattle.sd_gate.specs.Fits.{DiskLeaves, SlotFits}
use Rattle.sd_crash_safety.specs.Calls.{NoneOut}
use Rattle.sd_crash_safety.specs.View.{CoreView}
use Rattle.sd_world.specs.declared.kept.Kept.{Kept}
use Rattle.sd_world.specs.Consistent.{IsConsistent, IsWorld, SlotNow, slot_now}
use Rattle.sd_world.specs.View.{asked_of, kept_id}
use Rattle.sd_world.proofs.KeptLemmas.{asked_id_of, free_now}
use Rattle.sd_world.proofs.Lists.{get_map, map_get}
use Rattle.sd_world.proofs.Worlds.{Fits, slot_as}

module _ {D : Type 0} (g : Ghosts D) (disk : D) (old : CoreView) (kept : List Kept)
    (none : (lane : ℕ) (id : RequestId) → slice_get old.outs lane ≡ Some (Some id) → ⊥)
    (world : IsWorld g (record { core = old; disk = disk; kept = kept })) where
  pub idle : (lane : ℕ) (id : RequestId) → slice_get (map kept_id kept) lane ≡ Some (Some id) → ⊥
  idle lane id is = none lane id (ap (λ outs. slice_get outs lane) world.outs ∙ is)

  pub none_asked : NoneOut (map asked_of kept)
  none_asked lane request is =
      let at = map_get asked_of kept lane (Some request) is in
      idle lane request.id (get_map kept_id kept lane at.0 at.1 ∙ ap Some (asked_id_of at.0 request at.2))

  pub none_kept : (slot : ℕ) (now : SlotNow) → slot_now kept slot now ≡ now
  none_kept slot now = free_now kept slot now (λ lane id is. absurd (idle lane id is))

  module _ (was : IsConsistent g (record { core = old; disk = disk; kept = kept })) where
    pub fits : (slot : ℕ) (phase : Phase) → slice_get old.phases slot ≡ Some phase
        → SlotFits phase (file_at was.bodies slot) slot (g.contents disk) (g.may_leave disk)
    fits slot phase is = subst (Fits (g.contents disk) (g.may_leave disk) slot) (none_kept slot (slot_as phase (file_at was.bodies slot))) (was.stands slot phase is)

    pub left : g.may_leave disk (g.contents disk) → DiskLeaves old.phases was.bodies (g.contents disk)
    left as_read = record { count = world.count; each = λ slot phase is. (fits slot phase is).leaves (g.contents disk) as_read }
