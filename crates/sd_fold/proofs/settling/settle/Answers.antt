use Rattle.std.proofs.Common.{ap, ◌∙◌}
use Rattle.std.specs.Prelude.{Some, None, ◌∷◌}
use Rattle.sd_areas.specs.Memory.{memory_of}
use Rattle.sd_fold.proofs.OverlayLemmas.{Layer}
use Rattle.sd_fold.proofs.SettledLemmas.{spaces_next, next_roomy}
use Rattle.sd_fold.proofs.settling.settle.Goals as goal

pub settle_pages-requires-clause-alive : goal.settle_pages-requires-clause-alive
settle_pages-requires-clause-alive c = (next_roomy c.args.overlay.entries c.loop-space.space-iterator c.next.new.self (memory_of c.args.base.now) (memory_of c.loop-space.base) c.in-Some.space c.in-Some-layer.changes
    c.loop-space.invariant.0 (c.in-Some.ensures.steps ∙ ap (λ (layer : Layer). (c.in-Some.space, layer) ∷ c.next.new.self) c.in-Some-layer.is)).0

pub settle_pages-requires-clause-room : goal.settle_pages-requires-clause-room
settle_pages-requires-clause-room c = (next_roomy c.args.overlay.entries c.loop-space.space-iterator c.next.new.self (memory_of c.args.base.now) (memory_of c.loop-space.base) c.in-Some.space c.in-Some-layer.changes
    c.loop-space.invariant.0 (c.in-Some.ensures.steps ∙ ap (λ (layer : Layer). (c.in-Some.space, layer) ∷ c.next.new.self) c.in-Some-layer.is)).1

pub loop-space-preserved-in-Some-layer : goal.loop-space-preserved-in-Some-layer
loop-space-preserved-in-Some-layer c = (
  spaces_next c.args.overlay.entries c.loop-space.space-iterator c.next.new.self (memory_of c.args.base.now) (memory_of c.loop-space.base) (memory_of c.settle_pages.new.base) c.in-Some.space (Some c.in-Some-layer.changes)
      c.loop-space.invariant.0 (c.in-Some.ensures.steps ∙ ap (λ (layer : Layer). (c.in-Some.space, layer) ∷ c.next.new.self) c.in-Some-layer.is) c.settle_pages.ensures.made,
  c.settle_pages.ensures.checkpoint ∙ c.loop-space.invariant.1,
)

pub loop-space-preserved : goal.loop-space-preserved
loop-space-preserved c = (
  spaces_next c.args.overlay.entries c.loop-space.space-iterator c.next.new.self (memory_of c.args.base.now) (memory_of c.loop-space.base) (memory_of c.remove_space.new.base) c.in-Some.space None
      c.loop-space.invariant.0 (c.in-Some.ensures.steps ∙ ap (λ (layer : Layer). (c.in-Some.space, layer) ∷ c.next.new.self) c.in-None-layer.is) c.remove_space.ensures.gone,
  c.remove_space.ensures.checkpoint ∙ c.loop-space.invariant.1,
)
