use Rattle.std.proofs.Common.{sym, ◌∙◌, subst}
use Rattle.sd_gate.specs.declared.worker.Worker.TheVariants as its
use Rattle.sd_world.specs.declared.call_state.CallState.TheVariants as call
use Rattle.sd_world.specs.View.{IsNowhere, WorldView}
use Rattle.sd_world.proofs.PassingLemmas.{not_found}
use Rattle.sd_world.proofs.world.World.has_call.Goals as goal

pub returns-else-is_asked-clause-nowhere : goal.returns-else-is_asked-clause-nowhere
returns-else-is_asked-clause-nowhere g c = λ none. subst (λ (w : WorldView g.row.D.Denot). IsNowhere w.kept call.Made its.Dumper 0) c.self.view_is
    (not_found _ _ c.lane_at.result c.lane_at.ensures.found (sym c.is_some.ensures ∙ none))
