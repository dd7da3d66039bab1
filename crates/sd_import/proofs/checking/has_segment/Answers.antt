use Rattle.sd_pagetable.specs.Contents.{plain_of}
use Rattle.sd_pagetable.specs.Nested.{inside}
use Rattle.sd_import.specs.Imported.{HasPageOfSegment}
use Rattle.sd_import.proofs.CheckLemmas.{pages_more}
use Rattle.sd_import.proofs.checking.has_segment.Goals as goal

pub loop-number-preserved : goal.loop-number-preserved
loop-number-preserved g c =
    pages_more _ (HasPageOfSegment (g.F.CoreFile.bytes c.args.file.now) (inside (plain_of c.args.memory.now) c.args.space) c.args.segment.now)
    c.loop-number.number c.in_ok-has_page.field-0 c.if-not-branch.false c.loop-number.invariant c.in_ok-has_page.ensures
