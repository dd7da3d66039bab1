use Rattle.std.proofs.Common.{ap, ◌∙◌, sym}
use Rattle.sd_pagetable.specs.Nested.{is_alive}
use Rattle.sd_pagetable.specs.Contents.{Contents}
use Rattle.sd_pagetable.specs.View.{page_of_entry}
use Rattle.sd_pagetable.proofs.NestedLemmas.{alive-map}
use Rattle.sd_pagetable.proofs.paging.Paging.is_alive.Goals as goal

pub returns : goal.returns
returns c = c.is_alive.ensures ∙ sym (alive-map (page_of_entry c.self.inside.frames) c.self.inside.tables c.args.space) ∙ ap (λ (m : Contents). is_alive m.spaces c.args.space) c.self.view_is
