use Rattle.std.specs.Prelude.{None}
use Rattle.sd_fold.proofs.OverlayLemmas.{layer_put}
use Rattle.sd_fold.proofs.overlay.end_space.Goals as goal

pub returns : goal.returns
returns c = λ base. layer_put c.args.overlay.now.entries c.insert.new.self.entries base c.args.space None c.in_ok-insert.ensures.updates.0
