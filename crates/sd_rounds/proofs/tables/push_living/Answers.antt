use Rattle.std.proofs.Common.{◌≡◌, ◌≤◌, ◌+◌, List, length, is_some, sym, ◌∙◌, ap, subst, rules}
use Rattle.std.proofs.lemmas.List.{map-append}
use Rattle.sd_areas.specs.declared.area.Area.{Area}
use Rattle.sd_areas.specs.Areas.{AreAreasOf}
use Rattle.sd_image.specs.Table.{Listed, listing_of, mapped_count}
use Rattle.sd_pagetable.specs.Contents.{plain_of}
use Rattle.sd_rounds.specs.SpaceTables.{AreSpacesBelow, IsSpaceOf}
use Rattle.sd_writing.specs.Tables.{listed}
use Rattle.sd_rounds.proofs.SpaceTableLemmas.{HasOwnTable, has_table, no_table, same_prot, nothing_more, one_table_more, count_of_none, count_of_table}
use Rattle.sd_rounds.proofs.tables.push_living.Goals as goal

pub returns-in_default-clause-more : goal.returns-in_default-clause-more
returns-in_default-clause-more c = λ was.
    let none = no_table c.args.memory.now c.args.space c.in_default.ensures in
    nothing_more (plain_of c.args.memory.now) c.args.space (listed c.args.tables.now) (listed c.args.spaces.now.items)
    (c.plain_law.ensures.alive c.args.memory.now c.args.space ∙ ap is_some none) was

pub returns-in_default-clause-count : goal.returns-in_default-clause-count
returns-in_default-clause-count c = λ was.
    was ∙ sym (count_of_none c.args.memory.now c.args.space (no_table c.args.memory.now c.args.space c.in_default.ensures))

pub returns-clause-more : goal.returns-clause-more
returns-clause-more c = λ was.
    let memory = c.args.memory.now in
    let source = listed c.args.tables.now in
    let table : Listed = record { space = c.args.space; areas = c.in_ok-areas.areas.items; runs = c.in_ok-runs.runs.items } in
    let has : HasOwnTable memory c.args.space c.in-Some.mapped.now = has_table memory c.args.space c.in-Some.mapped.now c.in-Some.ensures in
    let items : c.in_ok-areas.areas.items ≡ c.areas-2.result.now = search rules in
    let are : AreAreasOf c.in-Some.mapped.now c.in_ok-areas.areas.items = subst (AreAreasOf c.in-Some.mapped.now) (sym items) c.areas-2.ensures.runs in
    let is : IsSpaceOf (plain_of memory) source table =
    record {
      within = c.requires.greatest;
      few = subst (λ (areas : List Area). length areas ≤ 1024) (sym items) c.areas-2.ensures.limit;
      maximal = are.maximal;
      same = λ page. are.same page ∙ same_prot c.plain_law.ensures memory c.args.space c.in-Some.mapped.now has page;
      runs = search rules;
    } in
    subst (λ tables. AreSpacesBelow (c.args.space + 1) (plain_of memory) source tables)
    (sym (ap listed c.in_ok-push.ensures.items ∙ map-append listing_of c.args.spaces.now.items _))
    (one_table_more (plain_of memory) source (listed c.args.spaces.now.items) table c.requires.least
    (c.plain_law.ensures.alive memory c.args.space ∙ ap is_some has.is) was is)

pub returns-clause-count : goal.returns-clause-count
returns-clause-count c = λ was.
    let memory = c.args.memory.now in
    let table : Listed = record { space = c.args.space; areas = c.in_ok-areas.areas.items; runs = c.in_ok-runs.runs.items } in
    let has : HasOwnTable memory c.args.space c.in-Some.mapped.now = has_table memory c.args.space c.in-Some.mapped.now c.in-Some.ensures in
    let items : c.in_ok-areas.areas.items ≡ c.areas-2.result.now = search rules in
    let are : AreAreasOf c.in-Some.mapped.now c.in_ok-areas.areas.items = subst (AreAreasOf c.in-Some.mapped.now) (sym items) c.areas-2.ensures.runs in
    ap mapped_count (ap listed c.in_ok-push.ensures.items ∙ map-append listing_of c.args.spaces.now.items _)
    ∙ count_of_table c.plain_law.ensures c.count_law.ensures memory (listed c.args.spaces.now.items) table c.in-Some.mapped.now has are was
