use Rattle.std.proofs.Common.{rules, ◌≡◌, ◌∙◌, ℕ, List, length, ap, sym, subst, arith}
use Rattle.std.proofs.lemmas.List.Elements.{All-contains}
use Rattle.std.specs.Prelude.{All, IsTrue}
use Rattle.std.specs.FinMap as finmap
use Rattle.sd_areas.specs.Memory.{memory_of}
use Rattle.sd_image.specs.Table.{IsTable}
use Rattle.sd_chain.specs.Catalog.{Opened, images}
use Rattle.sd_restore.specs.At.{StandsFor}
use Rattle.sd_restore.specs.declared.placed_run.PlacedRun.{PlacedRun}
use Rattle.sd_restore.specs.Placed.{IsInSlots, IsWithin, placed_pages, with_pages, placed_memory}
use Rattle.sd_restore.proofs.RunLemmas.{runs_alive, runs_in_slots}
use Rattle.sd_restore.proofs.CallLemmas.{as_many}
use Rattle.sd_restore.proofs.MemoryLemmas.{AreAlive}
use Rattle.sd_restore.proofs.ShowLemmas.{pages_in_slots, pages_live, stands_for}
use Rattle.sd_restore.proofs.chosen.restore_image.Goals as goal

pub read_pages-requires-clause-alive : goal.read_pages-requires-clause-alive
read_pages-requires-clause-alive g c =
    let image = c.args.image.now in
    let table = All-contains (λ (i : Opened). IsTable i.header i.spaces) (images c.args.catalog.now) image c.requires.images.tables c.requires.member in
    let live = pages_live image.header c.args.catalog.now image (placed_pages c.in_ok-runs.runs.items) table.each c.in_ok-runs.ensures.placed in
    subst (All (λ (r : PlacedRun). IsTrue (finmap.contains_key (memory_of c.in_ok-snapshot.snapshot) r.space))) (sym c.deref.ensures.value)
    (runs_alive (memory_of c.in_ok-snapshot.snapshot) c.in_ok-runs.runs.items c.in_ok-runs.ensures.within
    (subst (λ m. AreAlive m (placed_pages c.in_ok-runs.runs.items)) (sym c.in_ok-snapshot.ensures.spaces) live))

pub read_pages-requires-clause-slots : goal.read_pages-requires-clause-slots
read_pages-requires-clause-slots g c =
    let image = c.args.image.now in
    let count : ℕ = length (g.D.Disk.contents c.args.disk.now) in
    let inside = pages_in_slots count c.args.catalog.now image (placed_pages c.in_ok-runs.runs.items) c.requires.slots c.requires.own c.requires.member c.in_ok-runs.ensures.placed in
    subst (All (λ (r : PlacedRun). IsInSlots count r.there)) (sym c.deref.ensures.value) (runs_in_slots count c.in_ok-runs.runs.items c.in_ok-runs.ensures.within inside)

pub read_pages-requires-clause-within : goal.read_pages-requires-clause-within
read_pages-requires-clause-within g c = subst (All IsWithin) (sym c.deref.ensures.value) c.in_ok-runs.ensures.within

pub returns-clause-memory : goal.returns-clause-memory
returns-clause-memory g c = λ honest catalog.
    let contents : List (List ℕ) = g.D.Disk.contents c.args.disk.now in
    let image = c.args.image.now in
    let memory : memory_of c.read_pages.new.snapshot ≡ placed_memory contents image.spaces (placed_pages c.in_ok-runs.runs.items) =
    c.in_ok-read_pages.ensures.memory honest
    ∙ ap (λ runs. with_pages contents (memory_of c.in_ok-snapshot.snapshot) (placed_pages runs)) c.deref.ensures.value
    ∙ ap (λ m. with_pages contents m (placed_pages c.in_ok-runs.runs.items)) c.in_ok-snapshot.ensures.spaces in
    subst (StandsFor contents image) (sym memory)
    (stands_for contents c.args.catalog.now image (placed_pages c.in_ok-runs.runs.items) catalog c.in_ok-runs.ensures.placed)

pub returns-in_err-read_pages-clause-calls : goal.returns-in_err-read_pages-clause-calls
returns-in_err-read_pages-clause-calls g c =
    let many = as_many c.args.catalog.now c.args.image.now (placed_pages c.in_ok-runs.runs.items) c.in_ok-runs.ensures.placed in
    let made = c.in_err-read_pages.ensures.calls in
    let are = ap (λ (runs : List PlacedRun). length (placed_pages runs)) c.deref.ensures.value in
    omega (arith, many, made, are)

pub returns-clause-calls : goal.returns-clause-calls
returns-clause-calls g c =
    let many = as_many c.args.catalog.now c.args.image.now (placed_pages c.in_ok-runs.runs.items) c.in_ok-runs.ensures.placed in
    let made = c.in_ok-read_pages.ensures.calls in
    let are = ap (λ (runs : List PlacedRun). length (placed_pages runs)) c.deref.ensures.value in
    omega (arith, many, made, are)
