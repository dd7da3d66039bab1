use Rattle.std.proofs.Common.{◌≡◌, ap, ◌∙◌, sym, refl, is_some, true, false}
use Rattle.std.specs.FinMap as finmap
use Rattle.sd_tables.specs.Tables.{inside}
use Rattle.sd_tables.proofs.TableLemmas.{inside_put, found_table, no_table, inside_is, written}
use Rattle.sd_tables.proofs.RunLemmas.{changes-seen}
use Rattle.sd_tables.proofs.tables.Tables.change_run.Goals as goal

pub returns-in_default-clause-run : goal.returns-in_default-clause-run
returns-in_default-clause-run c = absurd (let f : false ≡ true = sym (ap is_some (no_table c.self.inside.spaces.entries c.args.self.now c.args.space c.self.view_is c.in_default.ensures.value)) ∙ c.requires.alive in cc)

pub returns-in_default-clause-others : goal.returns-in_default-clause-others
returns-in_default-clause-others c = absurd (let f : false ≡ true = sym (ap is_some (no_table c.self.inside.spaces.entries c.args.self.now c.args.space c.self.view_is c.in_default.ensures.value)) ∙ c.requires.alive in cc)

pub returns-clause-run : goal.returns-clause-run
returns-clause-run c =
    let found = found_table c.self.inside.spaces.entries c.args.self.now c.args.space c.in-Some.table.now c.self.view_is c.in-Some.ensures.value in
    let holds = (c.get_mut.follows.holds c.change_run.new.self).3 (ap is_some (sym c.in-Some.ensures.value)) in
    let put = written c.self.inside.spaces.entries (c.get_mut.follows.lender c.change_run.new.self).entries c.args.self.now c.args.space c.change_run.new.self _ c.self.view_is refl holds.0 in
    changes-seen c.args.change _ _ _ _ c.args.first c.change_run.result
    (λ q. ap (λ t. finmap.get t q) (inside_is c.args.self.now c.args.space c.in-Some.table.now found))
    (λ q. ap (λ m. finmap.get m q) (ap (λ m. inside m c.args.space) put ∙ inside_put c.args.self.now c.args.space c.change_run.new.self))
    c.change_run.ensures.run

pub returns-clause-others : goal.returns-clause-others
returns-clause-others c =
    let holds = (c.get_mut.follows.holds c.change_run.new.self).3 (ap is_some (sym c.in-Some.ensures.value)) in
    let put = written c.self.inside.spaces.entries (c.get_mut.follows.lender c.change_run.new.self).entries c.args.self.now c.args.space c.change_run.new.self _ c.self.view_is refl holds.0 in
    put ∙ ap (finmap.insert c.args.self.now c.args.space) (sym (ap (λ m. inside m c.args.space) put ∙ inside_put c.args.self.now c.args.space c.change_run.new.self))
