use Rattle.std.proofs.Common.{◌≡◌, ◌-◌, false, true, [], ◌∷◌, ◌++◌, List, refl, sym, ◌∙◌, ap, subst, arith}
use Rattle.std.specs.List.{flat_map}
use Rattle.std.proofs.lemmas.Result.{on_ok_weaker, on_err_weaker}
use Rattle.sd_image.specs.declared.table.SpaceTable.{SpaceTable}
use Rattle.sd_image.specs.Runs.{run_ways}
use Rattle.sd_writing.specs.Tables.{AreTables, EndBefore, IsPushed, listed}
use Rattle.sd_writing.proofs.TableLemmas.{IsLast, begun_table, end_in, last_is, longer_table, last_ends, last_runs, on_ok_both, same_listed}
use Rattle.sd_writing.proofs.entries.push_entry.Goals as goal

pub returns-then-not-end_in-clause-more : goal.returns-then-not-end_in-clause-more
returns-then-not-end_in-clause-more c = grind (arith, end_in, on_ok_weaker, begun_table)

pub push_page-requires : goal.push_page-requires
push_page-requires c =
    let there : end_in c.args.tables.now.items c.args.space ≡ true = ap (λ l. end_in l c.args.space) (sym c.deref.ensures.value) ∙ sym c.end_in.ensures ∙ c.if-not-end_in.false in
    let last : IsLast c.args.tables.now.items c.args.space (c.len-place.result - 1) c.index_mut-last.result.now =
    last_is c.args.tables.now.items c.args.space (c.len-place.result - 1) c.index_mut-last.result.now
    (ap (λ n. n - 1) (c.len-place.ensures ∙ c.args.tables.now.ok.0)) there c.index_mut-last.ensures.value in
    record {
      behind = last_ends last.front c.index_mut-last.result.now (c.args.space, c.args.page)
          (subst (λ (t : List SpaceTable). EndBefore (c.args.space, c.args.page) (listed t)) last.is c.requires.after) last.here;
    }

pub returns-clause-more : goal.returns-clause-more
returns-clause-more c = λ parent least are sourced above.
    let there : end_in c.args.tables.now.items c.args.space ≡ true = ap (λ l. end_in l c.args.space) (sym c.deref.ensures.value) ∙ sym c.end_in.ensures ∙ c.if-not-end_in.false in
    let old : SpaceTable = c.index_mut-last.result.now in
    let new : SpaceTable = record { space = old.space; areas = old.areas; runs = c.push_page.new.runs } in
    let last : IsLast c.args.tables.now.items c.args.space (c.len-place.result - 1) old =
    last_is c.args.tables.now.items c.args.space (c.len-place.result - 1) old
    (ap (λ n. n - 1) (c.len-place.ensures ∙ c.args.tables.now.ok.0)) there c.index_mut-last.ensures.value in
    let was : AreTables parent least (listed (last.front ++ old ∷ [])) = subst (λ (l : List SpaceTable). AreTables parent least (listed l)) last.is are in
    on_ok_weaker c.push_page.result
    (λ both. subst (λ (l : List SpaceTable). IsPushed parent least (listed c.args.tables.now.items) (listed l) (c.args.space, c.args.page) c.args.kind) (sym (last.put new))
    (subst (λ (l : List SpaceTable). IsPushed parent least (listed l) (listed (last.front ++ new ∷ [])) (c.args.space, c.args.page) c.args.kind) (sym last.is)
    (longer_table parent least last.front old new (c.args.space, c.args.page) c.args.kind was
    (subst (λ (l : List SpaceTable). EndBefore (c.args.space, c.args.page) (listed l)) last.is c.requires.after)
    last.here refl refl both.0 both.1)))
    (on_ok_both _ _ c.push_page.result
    (c.push_page.ensures.more parent (flat_map run_ways old.runs.items) (record { maximal = last_runs parent least last.front old was; list = refl }) sourced)
    c.push_page.ensures.end)

pub returns-clause-err : goal.returns-clause-err
returns-clause-err c =
    let there : end_in c.args.tables.now.items c.args.space ≡ true = ap (λ l. end_in l c.args.space) (sym c.deref.ensures.value) ∙ sym c.end_in.ensures ∙ c.if-not-end_in.false in
    let old : SpaceTable = c.index_mut-last.result.now in
    let new : SpaceTable = record { space = old.space; areas = old.areas; runs = c.push_page.new.runs } in
    let last : IsLast c.args.tables.now.items c.args.space (c.len-place.result - 1) old =
    last_is c.args.tables.now.items c.args.space (c.len-place.result - 1) old
    (ap (λ n. n - 1) (c.len-place.ensures ∙ c.args.tables.now.ok.0)) there c.index_mut-last.ensures.value in
    on_err_weaker c.push_page.result
    (λ e. ap listed (last.put new) ∙ same_listed last.front old new refl refl e ∙ sym (ap listed last.is))
    c.push_page.ensures.err
