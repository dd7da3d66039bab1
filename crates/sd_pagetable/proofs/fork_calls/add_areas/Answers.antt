use Rattle.std.proofs.Common.{ap, ◌∙◌, cond, Some}
use Rattle.std.specs.Ordering.{nat_cmp}
use Rattle.std.specs.BTreeMap.{get}
use Rattle.sd_pagetable.proofs.TableLemmas.{turned_test}
use Rattle.sd_pagetable.proofs.fork_calls.add_areas.Goals as goal

pub returns-clause-ok : goal.returns-clause-ok
returns-clause-ok c = λ q. c.in_ok-insert.ensures.updates.0 q ∙ ap (λ b. cond b (Some c.args.own) (get nat_cmp c.args.areas.now q)) (turned_test c.args.space q)
