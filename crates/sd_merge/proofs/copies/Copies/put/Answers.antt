use Rattle.std.proofs.Common.{arith}
use Rattle.sd_merge.proofs.GatheredLemmas.{copies_put, sourced}
use Rattle.sd_merge.proofs.copies.Copies.put.Goals as goal

pub invariant_of-self-2 : goal.invariant_of-self-2
invariant_of-self-2 c =
    copies_put c.self.inside.spaces.items c.push_entry.new.tables.items (c.args.space, c.args.page) c.args.kind
    (c.in_ok-push_entry.ensures.more 0 0 c.self.invariant.tables (sourced c.args.kind c.requires.own) (omega arith))
