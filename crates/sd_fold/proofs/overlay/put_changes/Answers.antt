use Rattle.std.specs.Prelude.{Some}
use Rattle.sd_fold.proofs.OverlayLemmas.{layer_put}
use Rattle.sd_fold.proofs.overlay.put_changes.Goals as goal

pub returns : goal.returns
returns c = λ base. layer_put c.args.overlay.now.entries c.insert.new.self.entries base c.args.space (Some c.args.changes) c.in_ok-insert.ensures.updates.0
