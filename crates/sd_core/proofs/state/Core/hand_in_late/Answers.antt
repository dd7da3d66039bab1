use Rattle.std.proofs.Common.{◌≡◌, ◌≢◌, Some, None, slice_get, refl, sym, ◌∙◌, ap}
use Rattle.sd_crash_safety.specs.declared.standing.Standing.TheVariants.{Open, Down}
use Rattle.sd_crash_safety.specs.View.{CoreView}
use Rattle.sd_core.specs.Refusals.{is_idle}
use Rattle.sd_core.specs.Sound.{held_for}
use Rattle.sd_core.proofs.CoreParts.{parts_of}
use Rattle.sd_core.proofs.FallenLemmas.{fallen_core}
use Rattle.sd_core.proofs.HandedLemmas.{IsLate, is_late}
use Rattle.sd_core.proofs.MergeLemmas.{none_merges}
use Rattle.sd_core.proofs.WorkLemmas.{none_closed}
use Rattle.sd_core.proofs.state.Core.hand_in_late.Goals.{After-follow_outcome}
use Rattle.sd_core.proofs.state.Core.hand_in_late.Goals as goal

-- ---- what is known at each goal

out : (c : After-follow_outcome) → slice_get c.self.inside.outs c.args.lane ≡ Some (Some c.args.outcome.request.id)
out c = ap (λ (v : CoreView). slice_get v.outs c.args.lane) c.self.view_is ∙ c.requires.out

late : (c : After-follow_outcome) → IsLate (parts_of c.self.inside) c.args.outcome.request.id
late c = is_late (parts_of c.self.inside) c.args.lane c.args.outcome.request.id c.self.invariant (out c) (ap (λ (v : CoreView). is_idle v c.args.outcome.request.id.worker) c.self.view_is ∙ c.requires.idle)

not_open : (c : After-follow_outcome) → c.self.inside.standing ≢ Open
not_open c is = let no : Down ≡ Open = sym (late c).down ∙ is in cc

-- ---- the core

pub invariant_of-self : goal.invariant_of-self
invariant_of-self c =
    let k = (goal.at.invariant_of-self c).After-follow_outcome in
    let idle = none_closed _ c.self.invariant (not_open k) in
    fallen_core _ c.self.inside.journal c.self.inside.standing _ _ _ _ _ c.args.lane c.self.invariant (late k).closed refl refl refl
    (c.self.invariant.held ∙ ap (λ r. held_for c.self.inside.pending r c.self.inside.opener) idle ∙ ap (held_for c.self.inside.pending None) (late k).closed) (late k).down
    c.follow_outcome.ensures.follows.count c.follow_outcome.ensures.outs idle (none_merges _ c.self.invariant (not_open k))

-- ---- what each clause says
