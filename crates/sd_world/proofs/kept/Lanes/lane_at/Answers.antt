use Rattle.std.proofs.Common.{MatchOption, subst, arith}
use Rattle.sd_world.specs.View.{IsAt, IsNowhere}
use Rattle.sd_world.proofs.BusyLemmas.{idle_nowhere}
use Rattle.sd_world.proofs.kept.Lanes.lane_at.Goals as goal

pub returns-then-self-eq0-clause-found : goal.returns-then-self-eq0-clause-found
returns-then-self-eq0-clause-found c = subst (λ kept. IsNowhere kept c.args.state c.args.worker c.args.place) c.self.view_is
    (idle_nowhere c.self.inside.kept c.args.state c.args.worker c.args.place (omega (arith, c.if-self-eq0.true, c.self.invariant)))

pub returns-clause-found : goal.returns-clause-found
returns-clause-found c = subst (λ kept. MatchOption c.lane_at.result (IsNowhere kept c.args.state c.args.worker c.args.place) (IsAt kept c.args.state c.args.worker c.args.place))
    c.self.view_is c.lane_at.ensures.found
