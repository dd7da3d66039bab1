use Rattle.std.proofs.Common.{◌≡◌, ap, ◌∙◌, sym, is_some, true, false}
use Rattle.std.specs.FinMap as finmap
use Rattle.sd_tables.specs.Tables.{remove_at}
use Rattle.sd_tables.proofs.TableLemmas.{found_table, no_table, inside_is, written}
use Rattle.sd_tables.proofs.tables.Tables.take.Goals as goal

pub returns-in_default-clause-taken : goal.returns-in_default-clause-taken
returns-in_default-clause-taken c = absurd (let f : false ≡ true = sym (ap is_some (no_table c.self.inside.spaces.entries c.args.self.now c.args.space c.self.view_is c.in_default.ensures.value)) ∙ c.requires in cc)

pub returns-clause-taken : goal.returns-clause-taken
unfolding remove_at
returns-clause-taken c =
    let found = found_table c.self.inside.spaces.entries c.args.self.now c.args.space c.in-Some.table.now c.self.view_is c.in-Some.ensures.value in
    let holds = (c.get_mut.follows.holds c.take.new.self).3 (ap is_some (sym c.in-Some.ensures.value)) in
    written c.self.inside.spaces.entries (c.get_mut.follows.lender c.take.new.self).entries c.args.self.now c.args.space c.take.new.self _ c.self.view_is
    (c.take.ensures.taken ∙ ap (λ t. finmap.remove t c.args.page) (sym (inside_is c.args.self.now c.args.space c.in-Some.table.now found))) holds.0

pub returns-in_default-clause-entry : goal.returns-in_default-clause-entry
returns-in_default-clause-entry c = absurd (let f : false ≡ true = sym (ap is_some (no_table c.self.inside.spaces.entries c.args.self.now c.args.space c.self.view_is c.in_default.ensures.value)) ∙ c.requires in cc)

pub returns-clause-entry : goal.returns-clause-entry
returns-clause-entry c =
    let found = found_table c.self.inside.spaces.entries c.args.self.now c.args.space c.in-Some.table.now c.self.view_is c.in-Some.ensures.value in
    c.take.ensures.entry ∙ ap (λ t. finmap.get t c.args.page) (sym (inside_is c.args.self.now c.args.space c.in-Some.table.now found))
