use Rattle.std.proofs.Common.{ap, ◌∙◌, sym}
use Rattle.std.specs.FinMap as finmap
use Rattle.sd_pagetable.specs.Nested.{map_values}
use Rattle.sd_pagetable.specs.Contents.{Contents}
use Rattle.sd_pagetable.specs.View.{page_of_entry}
use Rattle.sd_pagetable.proofs.TableLemmas.{len-map_values}
use Rattle.sd_pagetable.proofs.paging.Paging.space_count.Goals as goal

pub returns : goal.returns
returns c = c.len.ensures ∙ sym (len-map_values (map_values (page_of_entry c.self.inside.frames)) c.self.inside.tables) ∙ ap (λ (m : Contents). finmap.len m.spaces) c.self.view_is
