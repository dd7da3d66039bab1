use Rattle.std.proofs.Common.{arith, ◌≡◌, ◌+◌, [], ◌∷◌, ◌++◌, take, refl, sym, ◌∙◌, ap, subst}
use Rattle.std.proofs.lemmas.List.{take_all, take_more}
use Rattle.sd_disk.specs.Spans.{LeavesOnly}
use Rattle.sd_world.specs.Runs.{IsStep, Runs, ShowsAllowedWithin}
use Rattle.sd_world.proofs.PointLemmas.{points_reached}
use Rattle.sd_world.proofs.RunLemmas.{runs_more, span_more, span_none}
use Rattle.sd_world.proofs.world.World.run.Goals as goal

pub loop-event-init : goal.loop-event-init
loop-event-init g c = record {
  runs = subst (λ answers. Runs g.D.Disk c.args.self.now [] answers c.args.self.now) (sym c.in-Ok.ensures.items) refl;
  count = c.in-Ok.ensures.len;
  room = c.in-Ok.ensures.exact;
  honest = λ honest. honest;
  span = λ honest. span_none g.D.Disk c.args.self.now _ c.in-Ok.ensures.items (g.met.D.Disk.only_now c.args.self.now.disk) (c.sound.ensures.allowed honest);
}

pub loop-event-preserved : goal.loop-event-preserved
loop-event-preserved g c =
    let i = c.loop-event.event-index in
    let before = c.loop-event.invariant in
    let step = c.step-answer.ensures in
    let event = c.event-item.result in
    let events = c.args.events.now in
    let one_more : take (i + 1) events ≡ take i events ++ event ∷ [] =
    take_more events i event c.loop-event-test.true ∙ ap (λ e. take i events ++ e ∷ []) (sym c.event-item.is) in
    let made : IsStep g.D.Disk event c.loop-event.self c.step-answer.result c.step-answer.new.self =
    (c.made_event_laws.ensures.step event c.loop-event.self c.step-answer.result c.step-answer.new.self step.does) in
    record {
      runs = subst (λ asked. Runs g.D.Disk c.args.self.now asked c.push_reserved.new.self.items c.step-answer.new.self) (sym one_more)
          (subst (λ answers. Runs g.D.Disk c.args.self.now (take i events ++ event ∷ []) answers c.step-answer.new.self) (sym c.push_reserved.ensures.items)
          (runs_more g.D.Disk c.args.self.now c.loop-event.self c.step-answer.new.self (take i events) c.loop-event.replies.items event c.step-answer.result before.runs made));
      count = c.push_reserved.ensures.len ∙ ap (λ n. n + 1) before.count;
      room = c.push_reserved.ensures.capacity ∙ before.room;
      honest = λ honest. before.honest (made.honest honest);
      span = λ honest.
          subst (λ asked. LeavesOnly g.D.Disk c.args.self.now.disk c.step-answer.new.self.disk (ShowsAllowedWithin g.D.Disk c.args.self.now asked c.push_reserved.new.self.items c.step-answer.new.self)) (sym one_more)
          (subst (λ answers. LeavesOnly g.D.Disk c.args.self.now.disk c.step-answer.new.self.disk (ShowsAllowedWithin g.D.Disk c.args.self.now (take i events ++ event ∷ []) answers c.step-answer.new.self)) (sym c.push_reserved.ensures.items)
          (span_more g.D.Disk c.args.self.now c.loop-event.self c.step-answer.new.self (take i events) c.loop-event.replies.items event c.step-answer.result before.runs made
          (before.span (made.honest honest)) (made.any_moment honest)));
    }

pub returns-clause-promise : goal.returns-clause-promise
returns-clause-promise g c = λ honest first stands.
    let runs = subst (λ events. Runs g.D.Disk c.args.self.now events c.loop-event.replies.items c.loop-event.self)
    (take_all c.loop-event.event-index c.args.events.now (omega (arith, c.loop-event-test.false))) c.loop-event.invariant.runs in
    points_reached g.D.Disk c.points_follow.ensures c.args.self.now c.loop-event.self _ _ runs honest first stands
