use Rattle.std.proofs.Common.{ap, ◌∙◌, sym}
use Rattle.std.specs.FinMap as finmap
use Rattle.sd_pagetable.specs.Nested.{inside}
use Rattle.sd_pagetable.specs.Contents.{Contents}
use Rattle.sd_pagetable.specs.View.{page_of_entry}
use Rattle.sd_pagetable.proofs.TableLemmas.{len-map_values}
use Rattle.sd_pagetable.proofs.NestedLemmas.{inside-map}
use Rattle.sd_pagetable.proofs.paging.Paging.pages_in.Goals as goal

pub returns : goal.returns
returns c = c.pages_in.ensures ∙ sym (ap finmap.len (inside-map (page_of_entry c.self.inside.frames) c.self.inside.tables c.args.space) ∙ len-map_values (page_of_entry c.self.inside.frames) (inside c.self.inside.tables c.args.space)) ∙ ap (λ (m : Contents). finmap.len (inside m.spaces c.args.space)) c.self.view_is
