use Rattle.std.proofs.Common.{rules, ◌≡◌, ◌+◌, ℕ, List, Some, refl, sym, ◌∙◌, ap, subst, arith}
use Rattle.sd_disk.specs.Reads.{nothing_read, reads_join}
use Rattle.sd_diff.specs.Difference.{AddsPage, AddsWritten}
use Rattle.sd_diff.specs.Held.{held_in}
use Rattle.sd_diff.proofs.PageLemmas.{begins_unwritten, same_runs_unwritten, written_more}
use Rattle.sd_diff.proofs.spaces.note_bytes.Goals as goal

pub loop-k-init : goal.loop-k-init
loop-k-init g c = record {
  reads = nothing_read g.D.Disk c.args.disk.now;
  adds = λ honest. begins_unwritten (g.D.Disk.contents c.args.disk.now) c.args.pages.now.space c.args.pages.now.first (held_in (Some c.args.old.now)) (held_in (Some c.args.new.now)) c.args.written.now.items;
  calls = omega arith;
}

pub loop-k-preserved : goal.loop-k-preserved
loop-k-preserved g c =
    let was = c.loop-k.invariant in
    let now = c.in_ok-note_page.ensures in
    let contents : List (List ℕ) = g.D.Disk.contents c.args.disk.now in
    let pages = c.args.pages.now in
    let k : ℕ = c.loop-k.k in
    let at : c.unwrap-first.result ≡ c.number.result + k = search rules in
    let first : c.unwrap-first.result ≡ pages.first + k = at ∙ ap (λ n. n + k) c.number.ensures.value in
    record {
      reads = reads_join g.D.Disk c.args.disk.now c.loop-k.disk c.note_page.new.disk was.reads now.reads;
      adds = λ honest.
          written_more contents pages.space pages.first k c.args.old.now c.args.new.now (record { space = pages.space; first = c.unwrap-first.result; count = 1 }) c.place.result c.place-in-loop-k.result
          c.args.written.now.items c.loop-k.written.items c.note_page.new.written.items c.requires.old.first c.requires.new.first refl first refl c.place.ensures.place c.place-in-loop-k.ensures.place
          (was.adds (now.reads.honest honest))
          (subst (λ contents. AddsPage contents (record { space = pages.space; first = c.unwrap-first.result; count = 1 }) c.place.result c.place-in-loop-k.result c.loop-k.written.items c.note_page.new.written.items) was.reads.same (now.adds honest));
      calls = let before = was.calls in let two = now.calls in omega (arith, before, two);
    }

pub returns-then-is_same_place-clause-adds : goal.returns-then-is_same_place-clause-adds
returns-then-is_same_place-clause-adds g c = λ honest.
    same_runs_unwritten (g.D.Disk.contents c.args.disk.now) c.args.pages.now.space c.args.pages.now.first (c.args.pages.now.first + c.args.pages.now.count) c.args.old.now c.args.new.now c.args.written.now.items
    (c.requires.old.first ∙ sym c.requires.new.first) (c.is_same_place.ensures.0 c.if-is_same_place.true)

pub returns-clause-adds : goal.returns-clause-adds
returns-clause-adds g c = λ honest.
    let contents : List (List ℕ) = g.D.Disk.contents c.args.disk.now in
    let pages = c.args.pages.now in
    let low = c.loop-k-test.false in
    let high = c.loop-k.auto.k-end in
    let end : c.loop-k.k ≡ pages.count = omega (arith, low, high) in
    subst (λ n. AddsWritten contents pages.space pages.first (pages.first + n) (held_in (Some c.args.old.now)) (held_in (Some c.args.new.now)) c.args.written.now.items c.loop-k.written.items) end
    (c.loop-k.invariant.adds honest)
