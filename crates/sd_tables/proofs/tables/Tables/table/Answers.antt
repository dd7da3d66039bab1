use Rattle.std.proofs.Common.{◌≡◌, ap, ◌∙◌, sym, arith}
use Rattle.std.proofs.lemmas.Bool.Decides.{nat_tests}
use Rattle.std.specs.FinMap as finmap
use Rattle.sd_tables.proofs.TableLemmas.{found_table, get_tree}
use Rattle.sd_tables.proofs.tables.Tables.table.Goals as goal

pub returns-in-Some : goal.returns-in-Some
returns-in-Some c =
    let same : c.in-Some.first.now ≡ c.args.space = (let e = c.eq.ensures in let t = c.if-eq.true in grind (arith, nat_tests)) in
    sym (ap (finmap.get c.args.self.now) (sym same) ∙ found_table c.self.inside.spaces.entries c.args.self.now c.in-Some.first.now c.in-Some.table.now c.self.view_is (sym c.in-Some.ensures.value))

pub returns-in_default : goal.returns-in_default
returns-in_default c = c.get.ensures.value ∙ sym (get_tree c.self.inside.spaces.entries c.args.space) ∙ ap (λ n. finmap.get n c.args.space) c.self.view_is
