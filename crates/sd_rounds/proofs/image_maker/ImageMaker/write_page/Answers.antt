use Rattle.std.proofs.Common.{◌≡◌, ◌+◌, ◌^◌, ◌<◌, Some, None, slice_get, slice_set, sym, ◌∙◌, ap, subst, arith}
use Rattle.std.proofs.lemmas.Bool.{both_ways}
use Rattle.sd_gate.specs.declared.request_id.RequestId.{RequestId}
use Rattle.sd_rounds.specs.declared.stage.Stage.{Stage}
use Rattle.sd_rounds.specs.declared.stage.Stage.TheVariants.{Pass as PassStage}
use Rattle.sd_rounds.specs.Making.{IsReadyFor, Making, is_passing}
use Rattle.sd_rounds.specs.Pass.{Pass}
use Rattle.sd_writing.specs.Entries.{data_pages}
use Rattle.sd_rounds.specs.Writes.{AreWrites, IsPageWrite}
use Rattle.sd_rounds.proofs.MakingLemmas.{take_counts}
use Rattle.sd_rounds.proofs.WriteLemmas.{one_more}
use Rattle.sd_rounds.proofs.image_maker.ImageMaker.write_page.Goals as goal

pub invariant_of-self-2 : goal.invariant_of-self-2
invariant_of-self-2 c =
    let round = c.self.inside.round in
    let stored = c.self.inside.stored in
    let taken = c.in_ok-page.ensures.taken in
    let stage : c.self.inside.stage ≡ PassStage = ap (λ (m : Making). m.stage) c.self.view_is ∙ c.requires.stage in
    let free : slice_get c.self.inside.writes c.args.lane ≡ Some None = ap (λ (m : Making). slice_get m.writes c.args.lane) c.self.view_is ∙ c.requires.free in
    let id = c.page_request-request.result.id in
    let few : data_pages round.entries < 2 ^ 39 = c.has_room.ensures taken.taking taken.was in
    let counted : stored ≡ data_pages round.entries = c.self.invariant.counted in
    let more : data_pages c.take_page.new.self.entries ≡ data_pages round.entries + 1 = take_counts round c.in_ok-page.page.items c.take_page.new.self taken in
    let same : data_pages c.give_back.new.self.entries ≡ data_pages c.take_page.new.self.entries = ap (λ (p : Pass). data_pages p.entries) c.give_back.ensures in
    let own : IsPageWrite c.self.inside.order.slot (stored + 1) id = record {
      worker = c.page_request-request.ensures.asked.worker;
      on = c.page_request-request.ensures.slot;
      place = stored;
      made = omega arith;
      call = c.page_request-request.ensures.call;
    } in
    record {
      takes = ap (λ (p : Pass). p.takes_all) (c.give_back.ensures ∙ taken.is) ∙ c.self.invariant.takes;
      counted = omega (arith, counted, more, same);
      few = omega (arith, counted, few);
      ready = subst (λ (s : Stage). IsReadyFor c.self.inside.order c.give_back.new.self s) (sym stage) tt;
      lanes = subst (λ (i : RequestId). AreWrites c.self.inside.order.slot (stored + 1) (slice_set c.self.inside.writes c.args.lane (Some i))) (sym c.id.ensures)
          (one_more c.self.inside.order.slot stored c.args.lane c.self.inside.writes id c.self.invariant.lanes free own c.page_request-request.ensures.call);
      rests = λ outside. absurd (both_ways (is_passing c.self.inside.stage) outside (ap is_passing stage));
    }
