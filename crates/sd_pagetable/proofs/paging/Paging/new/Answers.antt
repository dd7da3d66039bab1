use Rattle.std.proofs.Common.{ap, ◌∙◌}
use Rattle.sd_pagetable.specs.Nested.{map_values}
use Rattle.sd_frames.specs.Frames.{Pool}
use Rattle.sd_pagetable.specs.View.{page_of_entry}
use Rattle.sd_pagetable.proofs.TableLemmas.{map_values-empty}
use Rattle.sd_pagetable.proofs.ViewLemmas.{same_contents}
use Rattle.sd_pagetable.proofs.SpaceLemmas.{kept_empty}
use Rattle.sd_pagetable.proofs.paging.Paging.new.Goals as goal

pub invariant_of-result : goal.invariant_of-result
invariant_of-result c = kept_empty c.new.result c.new-2.result (ap (λ (p : Pool). p.cells) c.new.ensures) c.new-2.ensures

pub returns : goal.returns
returns c = same_contents _ _ (ap (λ (p : Pool). p.size) c.new.ensures) (ap (map_values (map_values (page_of_entry c.new.result))) c.new-2.ensures ∙ map_values-empty (map_values (page_of_entry c.new.result)))
