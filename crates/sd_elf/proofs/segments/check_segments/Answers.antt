use Rattle.std.proofs.Common.{◌∙◌, sym}
use Rattle.sd_elf.proofs.SegmentLemmas.{breaks_first, first_break_none, one_more_extent, one_more_fits, passed_left}
use Rattle.sd_elf.proofs.segments.check_segments.Goals as goal
use Rattle.sd_elf.proofs.segments.check_segments.Goals.{then-is_memory+in-Ok, else-is_memory}

pub returns-in-Err-clause-fault : goal.returns-in-Err-clause-fault
returns-in-Err-clause-fault c =
    let was = c.loop-number.invariant in
    breaks_first c.args.size c.args.segments.now c.loop-number.number _ c.loop-number.extent c.in-Err.fault c.loop-number-test.true (sym c.is_memory.ensures ∙ c.if-is_memory.true) was.before was.extent c.in-Err.ensures.fault

pub returns-in-Err-clause-only : goal.returns-in-Err-clause-only
returns-in-Err-clause-only c = λ all.
    absurd (first_break_none c.args.size c.args.segments.now c.loop-number.number c.in-Err.fault (returns-in-Err-clause-fault c) all)

pub loop-number-preserved : goal.loop-number-preserved
loop-number-preserved c =
    let was = c.loop-number.invariant in
    elim c.if-is_memory.branch [
      | then-is_memory+in-Ok w ↦
          (let memory = sym c.is_memory.ensures ∙ w.if-is_memory.true in
          let found = w.in-Ok.ensures.found in
          let fits = found.0 in
          let pages = fits.pages in
          let areas = fits.areas in
          let after = w.extent-is ∙ found.1 in
          record {
            before = one_more_fits c.args.size c.args.segments.now c.loop-number.number _ c.loop-number.extent c.loop-number-test.true memory was.before was.extent fits;
            extent = one_more_extent c.args.segments.now c.loop-number.number _ c.loop-number.extent c.if-is_memory.extent c.loop-number-test.true memory was.extent after;
            pages = rw after pages;
            areas = rw after areas;
          })
      | else-is_memory w ↦
          (let left = passed_left c.args.segments.now c.loop-number.number _ c.loop-number-test.true (sym c.is_memory.ensures ∙ w.if-is_memory.false) in
          record {
            before = rw left was.before;
            extent = rw left (w.extent-is ∙ was.extent);
            pages = rw w.extent-is was.pages;
            areas = rw w.extent-is was.areas;
          })
    ]
