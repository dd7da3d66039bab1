use Rattle.std.proofs.lemmas.List.{get_or_default}
use Rattle.sd_pagetable.specs.Contents.{plain_of}
use Rattle.sd_pagetable.specs.Nested.{inside}
use Rattle.sd_import.specs.Imported.{HasSegment}
use Rattle.sd_import.proofs.CheckLemmas.{core_there, segments_more}
use Rattle.sd_import.proofs.checking.has_core.Goals as goal

pub loop-segment-preserved : goal.loop-segment-preserved
loop-segment-preserved g c =
    segments_more _ c.args.segments.now (HasSegment (g.F.CoreFile.bytes c.args.file.now) (inside (plain_of c.args.memory.now) c.args.space))
    c.loop-segment.segment-index _ c.in_ok-has_segment.field-0 c.if-not-branch.false
    (λ d. get_or_default c.args.segments.now c.loop-segment.segment-index _ d c.loop-segment-test.true) c.loop-segment.invariant c.in_ok-has_segment.ensures

pub returns : goal.returns
returns g c =
    core_there _ (g.F.CoreFile.bytes c.args.file.now) c.args.segments.now (inside (plain_of c.args.memory.now) c.args.space) c.loop-segment.segment-index
    c.mapped_pages.result c.pages_of.result c.loop-segment-test.false c.mapped_pages.ensures c.pages_of.ensures c.loop-segment.invariant
