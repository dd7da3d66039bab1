use Rattle.std.proofs.Common.{◌≡◌, true, Some, None, refl, sym, ap, subst, ◌∙◌}
use Rattle.std.specs.FinMap as finmap
use Rattle.sd_tables.specs.declared.entry.Entry.{Entry}
use Rattle.sd_pagetable.specs.Nested.{Table, inside, is_alive}
use Rattle.sd_pagetable.specs.Tracking.{with_space}
use Rattle.sd_pagetable.specs.View.{page_of_entry, contents_of}
use Rattle.sd_pagetable.proofs.NestedLemmas.{alive-map}
use Rattle.sd_pagetable.proofs.RangeLemmas.{with_itself}
use Rattle.sd_pagetable.proofs.KeptLemmas.{frame_counted}
use Rattle.sd_pagetable.proofs.ForkLemmas.{less_remains}
use Rattle.sd_pagetable.proofs.FirstLemmas.{first_seen}
use Rattle.sd_pagetable.proofs.ExitLemmas.{Kept, left-none, left-all, so_far, so_far-none, so_far-there, kept-next, view-next}
use Rattle.sd_pagetable.proofs.paging.release_all.Goals as goal

pub loop-found-init : goal.loop-found-init
loop-found-init c =
    let m = contents_of c.args.frames.now c.args.tables.now in
    let alive : is_alive m.spaces c.args.space ≡ true = alive-map (page_of_entry c.args.frames.now) c.args.tables.now c.args.space ∙ c.requires.alive in
    let same = so_far-none c.args.tables.now c.args.space c.requires.alive in
    record {
      kept = subst (Kept c.args.frames.now) (sym same) c.requires.kept;
      done = ap (contents_of c.args.frames.now) same ∙ sym (ap (with_space m c.args.space) (left-none (inside m.spaces c.args.space)) ∙ with_itself m c.args.space alive);
    }

pub release-requires : goal.release-requires
release-requires c = λ frame is. frame_counted c.loop-found.frames (so_far c.args.tables.now c.args.space c.loop-found.start) _ c.args.space c.in-Some.found.0 c.in-Some.found.1 frame c.loop-found.invariant.kept
    (so_far-there c.args.tables.now c.args.space c.loop-found.start c.in-Some.found.0 c.in-Some.found.1 c.in-Some.ensures.first.1 c.in-Some.ensures.entry) is

pub loop-found-smaller : goal.loop-found-smaller
loop-found-smaller c =
    let m = contents_of c.args.frames.now c.args.tables.now in
    less_remains (inside m.spaces c.args.space) c.loop-found.start c.in-Some.found.0
    (first_seen c.args.frames.now c.args.tables.now m c.args.space refl c.loop-found.start (Some c.in-Some.found.0) c.in-Some.ensures.first)

pub loop-found-preserved : goal.loop-found-preserved
loop-found-preserved c = record {
  kept = kept-next c.args.tables.now c.args.space c.args.frames.now c.loop-found.frames c.release.new.frames c.loop-found.start c.in-Some.found.0 c.in-Some.found.1
      c.in-Some.ensures.first c.in-Some.ensures.entry c.loop-found.invariant.kept c.release.ensures;
  done = view-next c.args.tables.now c.args.space c.args.frames.now c.loop-found.frames c.release.new.frames c.loop-found.start c.in-Some.found.0 c.in-Some.found.1
      c.in-Some.ensures.first c.in-Some.ensures.entry c.loop-found.invariant.kept c.release.ensures c.loop-found.invariant.done;
}

pub returns-clause-kept : goal.returns-clause-kept
returns-clause-kept c = subst (λ (t : Table Entry). Kept c.loop-found.frames (finmap.insert c.args.tables.now c.args.space t))
    (left-all c.loop-found.start (inside c.args.tables.now c.args.space) c.in_default.ensures.first) c.loop-found.invariant.kept

pub returns-clause-value : goal.returns-clause-value
returns-clause-value c =
    let m = contents_of c.args.frames.now c.args.tables.now in
    ap (λ (t : Table Entry). contents_of c.loop-found.frames (finmap.insert c.args.tables.now c.args.space t)) (sym (left-all c.loop-found.start (inside c.args.tables.now c.args.space) c.in_default.ensures.first))
    ∙ c.loop-found.invariant.done
    ∙ ap (with_space m c.args.space) (left-all c.loop-found.start (inside m.spaces c.args.space) (first_seen c.args.frames.now c.args.tables.now m c.args.space refl c.loop-found.start None c.in_default.ensures.first))
