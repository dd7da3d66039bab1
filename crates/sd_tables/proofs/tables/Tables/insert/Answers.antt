use Rattle.std.proofs.Common.{◌≡◌, ap, ◌∙◌, sym, is_some, true, false}
use Rattle.std.specs.FinMap as finmap
use Rattle.sd_tables.specs.Tables.{put_at}
use Rattle.sd_tables.proofs.TableLemmas.{found_table, no_table, inside_is, written, same_again}
use Rattle.std.proofs.lemmas.Result.{on_ok_weaker, on_err_weaker}
use Rattle.sd_tables.proofs.tables.Tables.insert.Goals as goal

pub returns-in_default-clause-ok : goal.returns-in_default-clause-ok
returns-in_default-clause-ok c = absurd (let f : false ≡ true = sym (ap is_some (no_table c.self.inside.spaces.entries c.args.self.now c.args.space c.self.view_is c.in_default.ensures.value)) ∙ c.requires in cc)

pub returns-clause-ok : goal.returns-clause-ok
unfolding put_at
returns-clause-ok c =
    let found = found_table c.self.inside.spaces.entries c.args.self.now c.args.space c.in-Some.table.now c.self.view_is c.in-Some.ensures.value in
    let holds = (c.get_mut.follows.holds c.insert.new.self).3 (ap is_some (sym c.in-Some.ensures.value)) in
    on_ok_weaker c.insert.result (λ e. written c.self.inside.spaces.entries (c.get_mut.follows.lender c.insert.new.self).entries c.args.self.now c.args.space c.insert.new.self _ c.self.view_is
    (e ∙ ap (λ t. finmap.insert t c.args.page c.args.entry) (sym (inside_is c.args.self.now c.args.space c.in-Some.table.now found))) holds.0) c.insert.ensures.ok

pub returns-clause-err : goal.returns-clause-err
returns-clause-err c =
    let found = found_table c.self.inside.spaces.entries c.args.self.now c.args.space c.in-Some.table.now c.self.view_is c.in-Some.ensures.value in
    let holds = (c.get_mut.follows.holds c.insert.new.self).3 (ap is_some (sym c.in-Some.ensures.value)) in
    on_err_weaker c.insert.result (λ e. written c.self.inside.spaces.entries (c.get_mut.follows.lender c.insert.new.self).entries c.args.self.now c.args.space c.insert.new.self c.in-Some.table.now c.self.view_is e holds.0
    ∙ same_again c.args.self.now c.args.space c.in-Some.table.now found) c.insert.ensures.err
