use Rattle.std.proofs.Common.{ap, ◌∙◌, sym, subst, IsSome, is_some}
use Rattle.std.specs.FinMap as finmap
use Rattle.sd_tables.specs.Tables.{Table, put_at}
use Rattle.sd_tables.specs.declared.entry.Entry.{Entry}
use Rattle.sd_tables.proofs.TableLemmas.{not_none, found_table, no_table, inside_is, none_inside, written}
use Rattle.sd_tables.proofs.tables.Tables.replace.Goals as goal

pub replace-requires : goal.replace-requires
replace-requires c = subst (λ (t : Table Entry). IsSome (finmap.get t c.args.page)) (inside_is c.args.self.now c.args.space c.in-Some.table.now (found_table c.self.inside.spaces.entries c.args.self.now c.args.space c.in-Some.table.now c.self.view_is c.in-Some.ensures.value)) c.requires

pub returns-in_default : goal.returns-in_default
returns-in_default c = absurd (not_none _ (none_inside c.args.self.now c.args.space c.args.page (no_table c.self.inside.spaces.entries c.args.self.now c.args.space c.self.view_is c.in_default.ensures.value)) c.requires)

pub returns : goal.returns
unfolding put_at
returns c =
    let found = found_table c.self.inside.spaces.entries c.args.self.now c.args.space c.in-Some.table.now c.self.view_is c.in-Some.ensures.value in
    let holds = (c.get_mut.follows.holds c.replace.new.self).3 (ap is_some (sym c.in-Some.ensures.value)) in
    written c.self.inside.spaces.entries (c.get_mut.follows.lender c.replace.new.self).entries c.args.self.now c.args.space c.replace.new.self _ c.self.view_is
    (c.replace.ensures ∙ ap (λ t. finmap.insert t c.args.page c.args.entry) (sym (inside_is c.args.self.now c.args.space c.in-Some.table.now found))) holds.0
