use Rattle.std.proofs.Common.{ap, ◌∙◌, sym}
use Rattle.std.specs.Option.{option_map}
use Rattle.sd_pagetable.specs.Nested.{value_at}
use Rattle.sd_pagetable.specs.Contents.{Contents, page_at}
use Rattle.sd_pagetable.specs.View.{entry_of}
use Rattle.sd_pagetable.proofs.ViewLemmas.{entry_there, none_there}
use Rattle.sd_areas.specs.Pages.{page_of}
use Rattle.sd_pagetable.proofs.paging.Paging.find.Goals as goal

pub returns-in_default-get-clause-none : goal.returns-in_default-get-clause-none
returns-in_default-get-clause-none c = none_there c.self.inside.frames c.self.inside.tables c.args.self.now c.args.space (page_of c.args.address) c.self.view_is
    (ap (value_at c.self.inside.tables c.args.space) (sym c.in-Some.ensures.value) ∙ sym c.in_default-get.ensures)

pub returns-clause-found : goal.returns-clause-found
returns-clause-found c = (
  c.in-Some.ensures.value,
  ap (λ (m : Contents). option_map entry_of (page_at m c.args.space (page_of c.args.address))) (sym c.self.view_is)
      ∙ ap (option_map entry_of) (entry_there c.self.inside.frames c.self.inside.tables c.args.space (page_of c.args.address) c.in-Some-get.entry (ap (value_at c.self.inside.tables c.args.space) (sym c.in-Some.ensures.value) ∙ sym c.in-Some-get.ensures)),
)
