use Rattle.std.proofs.Common.{true, false, refl, sym, ◌∙◌, ap}
use Rattle.sd_pagetable.specs.Contents.{plain_of}
use Rattle.sd_rounds.specs.Making.{Making}
use Rattle.sd_rounds.specs.Waits.{maker_must_wait}
use Rattle.sd_rounds.specs.contracts.image_maker.ImageMaker.{the_view}
use Rattle.sd_rounds.proofs.WaitLemmas.{pass_waits}
use Rattle.sd_rounds.proofs.WriteLemmas.{some_lane}
use Rattle.sd_rounds.proofs.image_maker.ImageMaker.must_wait.Goals as goal

pub returns-then-is_any_out : goal.returns-then-is_any_out
returns-then-is_any_out c =
    pass_waits (the_view c.self.inside) (plain_of c.args.memory.now) false true c.is_over.result c.in-Pass.is
    (some_lane c.self.inside.writes c.free_lane.result c.if-is_none.ensures c.free_lane.ensures.free) (sym c.is_any_out.ensures ∙ c.if-is_any_out.true) (sym c.is_over.ensures)
    ∙ ap (λ (m : Making). maker_must_wait m (plain_of c.args.memory.now)) c.self.view_is

pub returns-else-is_any_out : goal.returns-else-is_any_out
returns-else-is_any_out c =
    c.if-is_any_out.false
    ∙ pass_waits (the_view c.self.inside) (plain_of c.args.memory.now) false false _ c.in-Pass.is
    (some_lane c.self.inside.writes c.free_lane.result c.if-is_none.ensures c.free_lane.ensures.free) (sym c.is_any_out.ensures ∙ c.if-is_any_out.false) refl
    ∙ ap (λ (m : Making). maker_must_wait m (plain_of c.args.memory.now)) c.self.view_is
