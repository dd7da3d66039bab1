use Rattle.std.proofs.Common.{ap, ◌∙◌}
use Rattle.std.specs.Prelude.{◌∷◌}
use Rattle.sd_areas.specs.Memory.{memory_of}
use Rattle.sd_fold.proofs.AddedLemmas.{spaces_add, spaces_end}
use Rattle.sd_fold.proofs.OverlayLemmas.{Layer}
use Rattle.sd_fold.proofs.room.add_all.Goals as goal

pub loop-space-preserved-in-Continue-branch-2 : goal.loop-space-preserved-in-Continue-branch-2
loop-space-preserved-in-Continue-branch-2 c = (
  spaces_add c.args.overlay.entries c.loop-space.space-iterator c.next.new.self c.loop-space.left.entries c.put_layer.new.overlay.entries c.args.added.now.items c.loop-space.added.items c.add_changes.new.added.items
      (memory_of c.args.base.now) (memory_of c.loop-space.base) (memory_of c.add_changes.new.base) c.in-Some.space c.in-Some-layer.changes c.in_ok-rest-in-Some-layer.rest c.loop-space.invariant.0
      (c.in-Some.ensures.steps ∙ ap (λ (layer : Layer). (c.in-Some.space, layer) ∷ c.next.new.self) c.in-Some-layer.is)
      c.in_ok-rest-in-Some-layer.ensures.rest c.in_ok-rest-in-Some-layer.ensures.same c.in_ok-rest-in-Some-layer.ensures.room
      c.in_ok-put_layer-in-Some-layer.ensures.entry (c.in_ok-put_layer-in-Some-layer.ensures.memory (memory_of c.add_changes.new.base)) c.in_ok-rest-in-Some-layer.ensures.undo,
  c.in_ok-rest-in-Some-layer.ensures.checkpoint ∙ c.loop-space.invariant.1,
)

pub loop-space-preserved : goal.loop-space-preserved
loop-space-preserved c = (
  spaces_end c.args.overlay.entries c.loop-space.space-iterator c.next.new.self c.loop-space.left.entries c.put_layer-in-None-layer.new.overlay.entries c.args.added.now.items c.loop-space.added.items
      (memory_of c.args.base.now) (memory_of c.loop-space.base) c.in-Some.space c.loop-space.invariant.0
      (c.in-Some.ensures.steps ∙ ap (λ (layer : Layer). (c.in-Some.space, layer) ∷ c.next.new.self) c.in-None-layer.is)
      c.in_ok-put_layer-in-None-layer.ensures.entry (c.in_ok-put_layer-in-None-layer.ensures.memory (memory_of c.loop-space.base)),
  c.loop-space.invariant.1,
)
