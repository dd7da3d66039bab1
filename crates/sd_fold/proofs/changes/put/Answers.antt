use Rattle.std.proofs.Common.{ap, ◌∙◌}
use Rattle.std.specs.Map.{lookup}
use Rattle.std.specs.BTreeMap.{is_at}
use Rattle.std.specs.Ordering.{nat_cmp}
use Rattle.std.specs.Prelude.{Bool, Some, cond}
use Rattle.sd_fold.proofs.OverLemmas.{changes_put}
use Rattle.sd_fold.proofs.Tables.{turned_test}
use Rattle.sd_fold.proofs.changes.put.Goals as goal

pub returns-clause-put : goal.returns-clause-put
returns-clause-put c = changes_put c.args.changes.now.entries c.insert.new.self.entries c.args.page c.args.found c.in_ok-insert.ensures.updates.0

pub returns-clause-entry : goal.returns-clause-entry
returns-clause-entry c = λ q. c.in_ok-insert.ensures.updates.0 q
    ∙ ap (λ (b : Bool). cond b (Some c.args.found) (lookup (is_at (nat_cmp q)) c.args.changes.now.entries)) (turned_test c.args.page q)
