use Rattle.std.proofs.Common.{ℕ, ap, ◌∙◌, sym, Some}
use Rattle.std.proofs.lemmas.List.{length-replicate}
use Rattle.std.specs.Option.{option_map}
use Rattle.sd_pagetable.specs.Page.{PageState, zeros}
use Rattle.sd_pagetable.specs.Contents.{Contents, page_at}
use Rattle.sd_frames.specs.Frames.{frame_bytes}
use Rattle.sd_pagetable.specs.View.{page_of_entry}
use Rattle.sd_pagetable.proofs.ViewLemmas.{page_at-view, entry_there}
use Rattle.sd_pagetable.proofs.KeptLemmas.{frame_used}
use Rattle.sd_pagetable.proofs.paging.Paging.framed.Goals as goal

pub returns-in_err-entry-clause-value : goal.returns-in_err-entry-clause-value
returns-in_err-entry-clause-value c = rw c.from_residual.ensures (sym (ap (λ (m : Contents). option_map (λ (page : PageState). page.bytes) (page_at m c.args.space c.args.page)) (sym c.self.view_is)
    ∙ ap (option_map (λ (page : PageState). page.bytes)) (page_at-view c.self.inside.frames c.self.inside.tables c.args.space c.args.page ∙ ap (option_map (page_of_entry c.self.inside.frames)) (sym c.get.ensures ∙ c.in_err-entry.was))))

pub bytes-requires : goal.bytes-requires
bytes-requires c = frame_used c.self.inside.frames c.self.inside.tables c.self.inside.mapped c.args.space c.args.page c.in_ok-entry.entry c.in-Some.frame c.self.invariant (sym c.get.ensures ∙ c.in_ok-entry.was) c.in-Some.is

pub returns-clause-value : goal.returns-clause-value
returns-clause-value c = ap Some (c.bytes.ensures.value ∙ sym (ap (frame_bytes c.self.inside.frames) c.in-Some.is)) ∙ sym (ap (λ (m : Contents). option_map (λ (page : PageState). page.bytes) (page_at m c.args.space c.args.page)) (sym c.self.view_is)
    ∙ ap (option_map (λ (page : PageState). page.bytes)) (entry_there c.self.inside.frames c.self.inside.tables c.args.space c.args.page c.in_ok-entry.entry (sym c.get.ensures ∙ c.in_ok-entry.was)))

pub returns-in_default-clause-value : goal.returns-in_default-clause-value
returns-in_default-clause-value c = ap Some (sym (ap (frame_bytes c.self.inside.frames) c.in_default.is)) ∙ sym (ap (λ (m : Contents). option_map (λ (page : PageState). page.bytes) (page_at m c.args.space c.args.page)) (sym c.self.view_is)
    ∙ ap (option_map (λ (page : PageState). page.bytes)) (entry_there c.self.inside.frames c.self.inside.tables c.args.space c.args.page c.in_ok-entry.entry (sym c.get.ensures ∙ c.in_ok-entry.was)))

pub returns-in_default-clause-length : goal.returns-in_default-clause-length
unfolding zeros
returns-in_default-clause-length c = length-replicate {A = ℕ} 4096 0
