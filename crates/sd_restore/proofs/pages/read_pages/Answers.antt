use Rattle.std.proofs.Common.{◌≡◌, ◌∙◌, ◌+◌, ◌++◌, List, ℕ, ap, sym, subst, take, drop, length, IsTrue, arith}
use Rattle.std.specs.FinMap as finmap
use Rattle.std.specs.List.{flat_map}
use Rattle.std.proofs.lemmas.List.{length-append}
use Rattle.std.proofs.lemmas.List.Elements.{All-contains}
use Rattle.sd_areas.specs.Memory.{memory_of}
use Rattle.sd_disk.specs.Reads.{reads_join}
use Rattle.sd_restore.specs.declared.placed_run.PlacedRun.{PlacedRun}
use Rattle.sd_restore.specs.Placed.{PlacedPage, IsInSlots, IsWithin, pages_in, placed_pages, with_pages}
use Rattle.sd_restore.proofs.CallLemmas.{none_failed}
use Rattle.sd_restore.proofs.RunLemmas.{length-first, with_both}
use Rattle.sd_restore.proofs.TakeLemmas.{contains_index, split_parts, taken_parts}
use Rattle.sd_restore.proofs.pages.read_pages.Goals as goal

pub read_run-requires-clause-alive : goal.read_run-requires-clause-alive
read_run-requires-clause-alive g c =
    let runs : List PlacedRun = c.args.runs.now in
    let r = c.run-item.result in
    c.loop-run.invariant.spaces r.space
    ∙ All-contains (λ (r : PlacedRun). IsTrue (finmap.contains_key (memory_of c.args.snapshot.now) r.space)) runs r c.requires.alive (contains_index runs c.loop-run.run-index r c.loop-run-test.true c.run-item.is)

pub read_run-requires-clause-slots : goal.read_run-requires-clause-slots
read_run-requires-clause-slots g c =
    let runs : List PlacedRun = c.args.runs.now in
    let r = c.run-item.result in
    subst (λ (contents : List (List ℕ)). IsInSlots (length contents) r.there) (sym c.loop-run.invariant.reads.same)
    (All-contains (λ (r : PlacedRun). IsInSlots (length (g.D.Disk.contents c.args.disk.now)) r.there) runs r c.requires.slots (contains_index runs c.loop-run.run-index r c.loop-run-test.true c.run-item.is))

pub read_run-requires-clause-within : goal.read_run-requires-clause-within
read_run-requires-clause-within g c =
    let runs : List PlacedRun = c.args.runs.now in
    let r = c.run-item.result in
    All-contains IsWithin runs r c.requires.within (contains_index runs c.loop-run.run-index r c.loop-run-test.true c.run-item.is)

pub loop-run-preserved : goal.loop-run-preserved
loop-run-preserved g c =
    let was = c.loop-run.invariant in
    let now = c.in_ok-read_run.ensures in
    let contents : List (List ℕ) = g.D.Disk.contents c.args.disk.now in
    let runs : List PlacedRun = c.args.runs.now in
    let i : ℕ = c.loop-run.run-index in
    let r = c.run-item.result in
    let parts : placed_pages (take (i + 1) runs) ≡ placed_pages (take i runs) ++ pages_in r = taken_parts pages_in runs i r c.loop-run-test.true c.run-item.is in
    let long : length (placed_pages (take (i + 1) runs)) ≡ length (placed_pages (take i runs)) + r.count =
    ap length parts ∙ length-append (placed_pages (take i runs)) (pages_in r) ∙ ap (λ n. length (placed_pages (take i runs)) + n) (length-first r r.count) in
    record {
      reads = reads_join g.D.Disk c.args.disk.now c.loop-run.disk c.read_run.new.disk was.reads now.reads;
      checkpoint = now.checkpoint ∙ was.checkpoint;
      spaces = λ space. now.spaces space ∙ was.spaces space;
      memory = λ honest.
          now.memory honest
          ∙ ap (λ contents. with_pages contents (memory_of c.loop-run.snapshot) (pages_in r)) was.reads.same
          ∙ ap (λ m. with_pages contents m (pages_in r)) (was.memory (now.reads.honest honest))
          ∙ sym (with_both contents (memory_of c.args.snapshot.now) (placed_pages (take i runs)) (pages_in r))
          ∙ ap (with_pages contents (memory_of c.args.snapshot.now)) (sym parts);
      stays = none_failed tt (g.D.Disk.failed c.loop-run.disk) (g.D.Disk.failed c.read_run.new.disk) now.reads.failures now.stops ∙ was.stays;
      calls = let before = was.calls in let one = now.calls in omega (arith, before, one, long);
    }

pub returns-in_err-read_run-clause-calls : goal.returns-in_err-read_run-clause-calls
returns-in_err-read_run-clause-calls g c =
    let runs : List PlacedRun = c.args.runs.now in
    let i : ℕ = c.loop-run.run-index in
    let r = c.run-item.result in
    let parts = split_parts pages_in runs i r c.loop-run-test.true c.run-item.is in
    let behind : List PlacedPage = flat_map pages_in (drop (i + 1) runs) in
    let long : length (placed_pages runs) ≡ length (placed_pages (take i runs)) + r.count + length behind =
    ap length parts ∙ length-append (placed_pages (take i runs) ++ pages_in r) behind ∙ ap (λ n. n + length behind) (length-append (placed_pages (take i runs)) (pages_in r) ∙ ap (λ n. length (placed_pages (take i runs)) + n) (length-first r r.count)) in
    let before = c.loop-run.invariant.calls in
    let one = c.in_err-read_run.ensures.calls in
    omega (arith, before, one, long)
