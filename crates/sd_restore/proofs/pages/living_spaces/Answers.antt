use Rattle.std.proofs.Common.{◌∙◌, List, [], ◌∷◌, ap, sym, map, take}
use Rattle.std.specs.FinMap as finmap
use Rattle.std.proofs.lemmas.List.{map-append}
use Rattle.sd_image.specs.declared.table.SpaceTable.{SpaceTable}
use Rattle.sd_image.specs.Table.{listing_of}
use Rattle.sd_restore.specs.Placed.{with_spaces}
use Rattle.sd_restore.proofs.MemoryLemmas.{spaces_more}
use Rattle.sd_restore.proofs.TakeLemmas.{taken}
use Rattle.sd_restore.proofs.pages.living_spaces.Goals as goal

pub loop-space-preserved : goal.loop-space-preserved
loop-space-preserved c =
    let items : List SpaceTable = c.deref-space-items.result.now in
    let i = c.loop-space.space-index in
    record {
      spaces = c.in_ok-add_space.ensures.ok ∙ ap (λ m. finmap.insert m c.space-item.result.space finmap.empty) c.loop-space.invariant.spaces
          ∙ sym (spaces_more finmap.empty (map listing_of (take i items)) (listing_of c.space-item.result))
          ∙ ap (with_spaces finmap.empty) (sym (ap (map listing_of) (taken items i c.space-item.result c.loop-space-test.true c.space-item.is)
          ∙ map-append listing_of (take i items) (c.space-item.result ∷ [])));
      checkpoint = c.in_ok-add_space.ensures.checkpoint ∙ c.loop-space.invariant.checkpoint;
    }
