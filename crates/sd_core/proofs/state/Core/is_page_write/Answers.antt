use Rattle.std.proofs.Common.{◌≡◌, ◌<◌, Some, slice_get, sym, ◌∙◌, ap, subst}
use Rattle.std.proofs.lemmas.Bool.{lt-ltb, ltb-true}
use Rattle.sd_crash_safety.specs.View.{CoreView}
use Rattle.sd_core.proofs.LaneLemmas.{same_lane}
use Rattle.sd_core.proofs.state.Core.is_page_write.Goals as goal

pub returns-in-Some : goal.returns-in-Some
returns-in-Some c =
    let id = c.args.id.now in
    let lane = c.in-Some.lane in
    let own : slice_get c.self.inside.outs lane ≡ Some (Some id) = c.in-Some.ensures.found in (
      (λ above. record { lane = lane; behind = ltb-true 2 lane above; is = sym (ap (λ (v : CoreView). slice_get v.outs lane) c.self.view_is) ∙ own }),
      (λ there.
          let same = same_lane _ there.lane lane id c.self.invariant (ap (λ (v : CoreView). slice_get v.outs there.lane) c.self.view_is ∙ there.is) own in
          lt-ltb 2 lane (subst (λ n. 2 < n) same there.behind)),
    )
