use Rattle.std.proofs.Common.{◌≡◌, false, sym, subst, arith}
use Rattle.sd_world.specs.View.{is_asked}
use Rattle.sd_world.proofs.BusyLemmas.{idle_unasked}
use Rattle.sd_world.proofs.kept.Lanes.is_asked.Goals as goal

pub returns-then-self-eq0 : goal.returns-then-self-eq0
returns-then-self-eq0 c = sym (subst (λ kept. is_asked kept c.args.worker ≡ false) c.self.view_is
    (idle_unasked c.self.inside.kept c.args.worker (omega (arith, c.if-self-eq0.true, c.self.invariant))))
