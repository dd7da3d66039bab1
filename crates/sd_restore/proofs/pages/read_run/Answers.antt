use Rattle.std.proofs.Common.{rules, ◌≡◌, ◌∙◌, ◌+◌, List, ℕ, ap, refl, sym, arith}
use Rattle.std.specs.FinMap as finmap
use Rattle.sd_areas.specs.Memory.{memory_of, put_page}
use Rattle.sd_disk.specs.Reads.{nothing_read, reads_join}
use Rattle.sd_chain.specs.Chains.{found_on}
use Rattle.sd_chain.specs.Store.{bytes_at}
use Rattle.sd_restore.specs.Placed.{page_of_run, placed_page, with_pages}
use Rattle.sd_restore.proofs.CallLemmas.{none_failed}
use Rattle.sd_restore.proofs.MemoryLemmas.{put_keeps}
use Rattle.sd_restore.proofs.RunLemmas.{none_first, with_more}
use Rattle.sd_restore.proofs.pages.read_run.Goals as goal

pub loop-k-init : goal.loop-k-init
loop-k-init g c = record {
  reads = nothing_read g.D.Disk c.args.disk.now;
  checkpoint = refl;
  spaces = λ space. refl;
  memory = λ honest. ap (with_pages (g.D.Disk.contents c.args.disk.now) (memory_of c.args.snapshot.now)) (sym (none_first c.args.run.now));
  stays = refl;
  calls = omega arith;
}

pub loop-k-preserved : goal.loop-k-preserved
loop-k-preserved g c =
    let was = c.loop-k.invariant in
    let now = c.in_ok-bytes.ensures in
    let contents : List (List ℕ) = g.D.Disk.contents c.args.disk.now in
    let run = c.args.run.now in
    let k : ℕ = c.loop-k.k in
    let at : c.unwrap-page.result ≡ c.number.result + k = search rules in
    let page : c.unwrap-page.result ≡ run.first + k = at ∙ ap (λ n. n + k) c.number.ensures.value in
    let alive = was.spaces run.space ∙ c.requires.alive in
    record {
      reads = reads_join g.D.Disk c.args.disk.now c.loop-k.disk c.read_page.new.disk was.reads now.reads;
      checkpoint = c.in_ok-put_page.ensures.checkpoint ∙ was.checkpoint;
      spaces = λ space.
          ap (λ m. finmap.contains_key m space) c.in_ok-put_page.ensures.ok
          ∙ put_keeps (memory_of c.loop-k.snapshot) run.space c.unwrap-page.result space (record { prot = run.prot; bytes = c.in_ok-bytes.bytes.value }) alive
          ∙ was.spaces space;
      memory = λ honest.
          let bytes : c.in_ok-bytes.bytes.value ≡ bytes_at contents (found_on run.there k) = now.bytes honest ∙ ap (λ contents. bytes_at contents c.place.result) was.reads.same ∙ ap (bytes_at contents) c.place.ensures.place in
          c.in_ok-put_page.ensures.ok
          ∙ ap (λ bytes. put_page (memory_of c.loop-k.snapshot) run.space c.unwrap-page.result (record { prot = run.prot; bytes = bytes })) bytes
          ∙ ap (λ p. put_page (memory_of c.loop-k.snapshot) run.space p (placed_page contents (page_of_run run k))) page
          ∙ ap (λ m. put_page m run.space (run.first + k) (placed_page contents (page_of_run run k))) (was.memory (now.reads.honest honest))
          ∙ sym (with_more contents (memory_of c.args.snapshot.now) run k);
      stays = none_failed c.in_ok-bytes.bytes (g.D.Disk.failed c.loop-k.disk) (g.D.Disk.failed c.read_page.new.disk) now.reads.failures now.stops ∙ was.stays;
      calls = let before = was.calls in let one = now.calls in omega (arith, before, one);
    }
