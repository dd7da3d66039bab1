use Rattle.std.proofs.Common.{ap, ◌∙◌}
use Rattle.std.specs.Map.{lookup}
use Rattle.std.specs.BTreeMap.{is_at}
use Rattle.std.specs.Ordering.{nat_cmp}
use Rattle.std.specs.Prelude.{Bool, Some, cond}
use Rattle.sd_fold.proofs.OverlayLemmas.{layer_put}
use Rattle.sd_fold.proofs.Tables.{turned_test}
use Rattle.sd_fold.proofs.overlay.put_layer.Goals as goal

pub returns-clause-memory : goal.returns-clause-memory
returns-clause-memory c = λ base. layer_put c.args.overlay.now.entries c.insert.new.self.entries base c.args.space c.args.layer c.in_ok-insert.ensures.updates.0

pub returns-clause-entry : goal.returns-clause-entry
returns-clause-entry c = λ q. c.in_ok-insert.ensures.updates.0 q
    ∙ ap (λ (b : Bool). cond b (Some c.args.layer) (lookup (is_at (nat_cmp q)) c.args.overlay.now.entries)) (turned_test c.args.space q)
