use Rattle.std.specs.Option.{option_map}
use Rattle.sd_pagetable.proofs.FirstLemmas.{first_seen, found_entry}
use Rattle.sd_pagetable.proofs.paging.Paging.first_entry_from.Goals as goal

pub returns-clause-first : goal.returns-clause-first
returns-clause-first c = first_seen c.self.inside.frames c.self.inside.tables c.args.self.now c.args.space c.self.view_is c.args.start (option_map (λ found. found.0) c.first_entry_from.result) c.first_entry_from.ensures.first

pub returns-clause-entry : goal.returns-clause-entry
returns-clause-entry c = found_entry c.self.inside.frames c.self.inside.tables c.args.self.now c.args.space c.self.view_is c.first_entry_from.result c.first_entry_from.ensures.entry
