use Rattle.std.proofs.Common.{ap, ◌∙◌, cond, None}
use Rattle.std.specs.Ordering.{nat_cmp}
use Rattle.std.specs.BTreeMap.{get}
use Rattle.sd_pagetable.proofs.TableLemmas.{turned_test}
use Rattle.sd_pagetable.proofs.fork_calls.drop_areas.Goals as goal

pub returns : goal.returns
returns c = λ q. c.remove.ensures.updates.0 q ∙ ap (λ b. cond b None (get nat_cmp c.args.areas.now q)) (turned_test c.args.space q)
