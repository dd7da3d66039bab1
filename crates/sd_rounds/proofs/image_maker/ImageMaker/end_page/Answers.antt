use Rattle.std.proofs.Common.{slice_get, ap, ◌∙◌}
use Rattle.sd_rounds.specs.Making.{Making}
use Rattle.sd_rounds.proofs.WriteLemmas.{one_less, out_passing}
use Rattle.sd_rounds.proofs.image_maker.ImageMaker.end_page.Goals as goal

pub invariant_of-self : goal.invariant_of-self
invariant_of-self c =
    let own = ap (λ (m : Making). slice_get m.writes c.args.lane) c.self.view_is ∙ c.requires.out in
    record {
      takes = c.self.invariant.takes;
      counted = c.self.invariant.counted;
      few = c.self.invariant.few;
      ready = c.self.invariant.ready;
      lanes = one_less _ _ c.args.lane c.self.inside.writes c.self.invariant.lanes;
      rests = λ outside. absurd (out_passing c.self.inside.writes c.args.lane c.args.outcome.request.id own (c.self.invariant.rests outside));
    }
