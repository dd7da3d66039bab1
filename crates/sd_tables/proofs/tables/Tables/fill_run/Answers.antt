use Rattle.std.proofs.Common.{◌≡◌, ap, ◌∙◌, sym, refl, is_some, true, false}
use Rattle.std.specs.FinMap as finmap
use Rattle.std.proofs.lemmas.Result.{on_err_weaker}
use Rattle.sd_tables.specs.Tables.{inside}
use Rattle.sd_tables.proofs.RunLemmas.{fills-seen, if_ok_then}
use Rattle.sd_tables.proofs.TableLemmas.{inside_put, found_table, no_table, inside_is, written, same_again}
use Rattle.sd_tables.proofs.tables.Tables.fill_run.Goals as goal

pub returns-in_default-clause-more : goal.returns-in_default-clause-more
returns-in_default-clause-more c = absurd (let f : false ≡ true = sym (ap is_some (no_table c.self.inside.spaces.entries c.args.self.now c.args.space c.self.view_is c.in_default.ensures.value)) ∙ c.requires.alive in cc)

pub returns-in_default-clause-others : goal.returns-in_default-clause-others
returns-in_default-clause-others c = absurd (let f : false ≡ true = sym (ap is_some (no_table c.self.inside.spaces.entries c.args.self.now c.args.space c.self.view_is c.in_default.ensures.value)) ∙ c.requires.alive in cc)

pub returns-clause-more : goal.returns-clause-more
returns-clause-more c =
    let found = found_table c.self.inside.spaces.entries c.args.self.now c.args.space c.in-Some.table.now c.self.view_is c.in-Some.ensures.value in
    if_ok_then c.fill_run.result (λ to more none. more (sym (ap (λ t. finmap.get t c.args.first) (inside_is c.args.self.now c.args.space c.in-Some.table.now found)) ∙ none)) c.fill_run.ensures.more

pub returns-clause-run : goal.returns-clause-run
returns-clause-run c =
    let found = found_table c.self.inside.spaces.entries c.args.self.now c.args.space c.in-Some.table.now c.self.view_is c.in-Some.ensures.value in
    let holds = (c.get_mut.follows.holds c.fill_run.new.self).3 (ap is_some (sym c.in-Some.ensures.value)) in
    let put = written c.self.inside.spaces.entries (c.get_mut.follows.lender c.fill_run.new.self).entries c.args.self.now c.args.space c.fill_run.new.self _ c.self.view_is refl holds.0 in
    if_ok_then c.fill_run.result (λ to run. fills-seen c.args.entry _ _ _ _ c.args.first to
    (λ q. ap (λ t. finmap.get t q) (inside_is c.args.self.now c.args.space c.in-Some.table.now found))
    (λ q. ap (λ m. finmap.get m q) (ap (λ m. inside m c.args.space) put ∙ inside_put c.args.self.now c.args.space c.fill_run.new.self)) run) c.fill_run.ensures.run

pub returns-clause-others : goal.returns-clause-others
returns-clause-others c =
    let holds = (c.get_mut.follows.holds c.fill_run.new.self).3 (ap is_some (sym c.in-Some.ensures.value)) in
    let put = written c.self.inside.spaces.entries (c.get_mut.follows.lender c.fill_run.new.self).entries c.args.self.now c.args.space c.fill_run.new.self _ c.self.view_is refl holds.0 in
    if_ok_then c.fill_run.result (λ to _. put ∙ ap (finmap.insert c.args.self.now c.args.space) (sym (ap (λ m. inside m c.args.space) put ∙ inside_put c.args.self.now c.args.space c.fill_run.new.self))) c.fill_run.ensures.reached

pub returns-clause-err : goal.returns-clause-err
returns-clause-err c =
    let found = found_table c.self.inside.spaces.entries c.args.self.now c.args.space c.in-Some.table.now c.self.view_is c.in-Some.ensures.value in
    let holds = (c.get_mut.follows.holds c.fill_run.new.self).3 (ap is_some (sym c.in-Some.ensures.value)) in
    on_err_weaker c.fill_run.result (λ e. written c.self.inside.spaces.entries (c.get_mut.follows.lender c.fill_run.new.self).entries c.args.self.now c.args.space c.fill_run.new.self c.in-Some.table.now c.self.view_is e holds.0
    ∙ same_again c.args.self.now c.args.space c.in-Some.table.now found) c.fill_run.ensures.err
