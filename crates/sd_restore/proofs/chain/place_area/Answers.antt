use Rattle.std.proofs.Common.{rules, ◌≡◌, ◌+◌, ◌++◌, ◌≤◌, ◌∙◌, ap, sym, subst, refl, arith, List}
use Rattle.std.specs.Prelude.{All}
use Rattle.std.proofs.lemmas.List.Elements.{All-push}
use Rattle.sd_areas.specs.Pages.{pages_from}
use Rattle.sd_chain.specs.Chains.{IsChainOf}
use Rattle.sd_chain.specs.Ways.{IsAbsent}
use Rattle.sd_restore.specs.declared.placed_run.PlacedRun.{PlacedRun}
use Rattle.sd_restore.specs.Faulty.{FaultNames}
use Rattle.sd_restore.specs.Mapped.{mapped_with, area_mapped}
use Rattle.sd_restore.specs.Placed.{MeetsBreak, ArePlaced, IsWithin, placed_pages}
use Rattle.sd_restore.proofs.MappedLemmas.{contains-pages_from}
use Rattle.sd_restore.proofs.PlacedLemmas.{area_begins, area_breaks}
use Rattle.sd_restore.proofs.RunLemmas.{pages_placed, run_more}
use Rattle.sd_restore.proofs.ScanLemmas.{names_more}
use Rattle.sd_restore.proofs.chain.place_area.Goals as goal

pub loop-placed-init : goal.loop-placed-init
loop-placed-init c = record {
  within = omega arith;
  chain = refl;
  runs = λ all. all;
  pages = λ done was. area_begins c.args.catalog.now c.args.serial c.args.space c.args.area.now done (placed_pages c.args.runs.now.items) was;
}

pub find_pages-requires-clause-chain : goal.find_pages-requires-clause-chain
find_pages-requires-clause-chain c = subst (IsChainOf c.args.catalog.now c.args.serial) (sym c.loop-placed.invariant.chain) c.requires.chain

pub find_pages-requires-clause-listed : goal.find_pages-requires-clause-listed
find_pages-requires-clause-listed c =
    let at : c.unwrap-first.result ≡ c.number.result + c.loop-placed.placed = search rules in
    let page : c.unwrap-first.result ≡ c.args.area.now.first + c.loop-placed.placed = at ∙ ap (λ n. n + c.loop-placed.placed) c.number.ensures.value in
    λ absent. c.requires.listed (c.args.area.now.first + c.loop-placed.placed) (contains-pages_from c.args.area.now.first c.args.area.now.count c.loop-placed.placed c.loop-placed-test.true)
    (subst (λ n. IsAbsent c.args.catalog.now c.args.serial (c.args.space, n)) page absent)

pub returns-in_err-found-clause-broken : goal.returns-in_err-found-clause-broken
returns-in_err-found-clause-broken c = λ done was.
    let at : c.unwrap-first.result ≡ c.number.result + c.loop-placed.placed = search rules in
    let page : c.unwrap-first.result ≡ c.args.area.now.first + c.loop-placed.placed = at ∙ ap (λ n. n + c.loop-placed.placed) c.number.ensures.value in
    let named : FaultNames (MeetsBreak c.args.catalog.now c.args.serial (done ++ area_mapped c.args.space c.args.area.now)) c.in_err-found.field-0.0 =
    names_more _ _ c.in_err-found.field-0.0
    (λ slot reason. area_breaks c.args.catalog.now c.args.serial c.args.space c.args.area.now c.loop-placed.placed c.unwrap-first.result done (placed_pages c.loop-placed.runs.items) slot reason c.loop-placed-test.true (c.loop-placed.invariant.pages done was) page)
    c.in_err-found.ensures.broken in
    search rules

pub loop-placed-preserved : goal.loop-placed-preserved
loop-placed-preserved c =
    let at : c.unwrap-first.result ≡ c.number.result + c.loop-placed.placed = search rules in
    let page : c.unwrap-first.result ≡ c.args.area.now.first + c.loop-placed.placed = at ∙ ap (λ n. n + c.loop-placed.placed) c.number.ensures.value in
    let run : PlacedRun = record { space = c.args.space; first = c.unwrap-first.result; count = c.in_ok-found.found.count; prot = c.args.area.now.prot; there = c.in_ok-found.found.there } in
    record {
      within = omega (arith, c.in_ok-found.ensures.within);
      chain = c.in_ok-found.ensures.chain ∙ c.loop-placed.invariant.chain;
      runs = λ all.
          subst (All IsWithin) (sym c.in_ok-push.ensures.items)
          (All-push IsWithin c.loop-placed.runs.items run (c.loop-placed.invariant.runs all)
          (record { some = c.in_ok-found.ensures.some; pages = omega (arith, page, c.in_ok-found.ensures.within, c.requires.within, c.loop-placed-test.true); bytes = c.in_ok-found.ensures.below }));
      pages = λ done was.
          subst (λ (runs : List PlacedRun). ArePlaced c.args.catalog.now c.args.serial (done ++ mapped_with c.args.space c.args.area.now (pages_from c.args.area.now.first (c.loop-placed.placed + c.in_ok-found.found.count))) (placed_pages runs))
          (sym c.in_ok-push.ensures.items)
          (subst (ArePlaced c.args.catalog.now c.args.serial (done ++ mapped_with c.args.space c.args.area.now (pages_from c.args.area.now.first (c.loop-placed.placed + c.in_ok-found.found.count))))
          (sym (run_more c.loop-placed.runs.items run))
          (pages_placed c.args.catalog.now c.args.serial c.args.space c.args.area.now c.loop-placed.placed c.in_ok-found.found.count done (placed_pages c.loop-placed.runs.items) run
          (c.loop-placed.invariant.pages done was) refl page refl c.in_ok-found.ensures.placed));
    }

pub returns-clause-placed : goal.returns-clause-placed
returns-clause-placed c = λ done was.
    let past : c.args.area.now.count ≤ c.loop-placed.placed = c.loop-placed-test.false in
    let all : c.loop-placed.placed ≡ c.args.area.now.count = omega (arith, past, c.loop-placed.invariant.within) in
    subst (λ k. ArePlaced c.args.catalog.now c.args.serial (done ++ mapped_with c.args.space c.args.area.now (pages_from c.args.area.now.first k)) (placed_pages c.loop-placed.runs.items)) all (c.loop-placed.invariant.pages done was)
