use Rattle.std.proofs.Common.{ap, ◌∙◌, sym, Some}
use Rattle.std.specs.Option.{option_map}
use Rattle.sd_pagetable.specs.Page.{PageState}
use Rattle.sd_pagetable.specs.Contents.{Contents, page_at}
use Rattle.sd_pagetable.specs.View.{page_of_entry}
use Rattle.sd_pagetable.proofs.ViewLemmas.{page_at-view, entry_there}
use Rattle.sd_pagetable.proofs.KeptLemmas.{frame_used}
use Rattle.sd_pagetable.proofs.paging.Paging.bytes.Goals as goal

pub returns-in_err-entry-clause-value : goal.returns-in_err-entry-clause-value
returns-in_err-entry-clause-value c = rw c.from_residual.ensures (sym (ap (λ (m : Contents). option_map (λ (page : PageState). page.bytes) (page_at m c.args.space c.args.page)) (sym c.self.view_is)
    ∙ ap (option_map (λ (page : PageState). page.bytes)) (page_at-view c.self.inside.frames c.self.inside.tables c.args.space c.args.page ∙ ap (option_map (page_of_entry c.self.inside.frames)) (sym c.get.ensures ∙ c.in_err-entry.was))))

pub bytes_of-requires : goal.bytes_of-requires
bytes_of-requires c = λ frame is. frame_used c.self.inside.frames c.self.inside.tables c.self.inside.mapped c.args.space c.args.page c.in_ok-entry.entry frame c.self.invariant (sym c.get.ensures ∙ c.in_ok-entry.was) is

pub returns-clause-value : goal.returns-clause-value
returns-clause-value c = ap Some c.bytes_of.ensures.value ∙ sym (ap (λ (m : Contents). option_map (λ (page : PageState). page.bytes) (page_at m c.args.space c.args.page)) (sym c.self.view_is)
    ∙ ap (option_map (λ (page : PageState). page.bytes)) (entry_there c.self.inside.frames c.self.inside.tables c.args.space c.args.page c.in_ok-entry.entry (sym c.get.ensures ∙ c.in_ok-entry.was)))
