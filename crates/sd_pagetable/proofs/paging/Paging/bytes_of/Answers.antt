use Rattle.std.proofs.Common.{◌≡◌, subst}
use Rattle.std.specs.Option.{IfSome}
use Rattle.sd_pagetable.specs.Page.{PageState}
use Rattle.sd_pagetable.specs.Contents.{Contents, page_at}
use Rattle.sd_pagetable.proofs.ViewLemmas.{entry_seen, entry_there}
use Rattle.sd_pagetable.proofs.KeptLemmas.{frame_used}
use Rattle.sd_pagetable.proofs.paging.Paging.bytes_of.Goals as goal

pub bytes_of-requires : goal.bytes_of-requires
bytes_of-requires c = λ frame is. frame_used c.self.inside.frames c.self.inside.tables c.self.inside.mapped c.args.space c.args.page c.args.entry frame c.self.invariant
    (entry_seen c.self.inside.frames c.self.inside.tables c.args.self.now c.args.space c.args.page c.args.entry c.self.view_is c.requires) is

pub returns-clause-value : goal.returns-clause-value
returns-clause-value c = subst (λ (m : Contents). IfSome (page_at m c.args.space c.args.page) (λ (found : PageState). c.bytes_of.result.now ≡ found.bytes)) c.self.view_is
    (rw (entry_there c.self.inside.frames c.self.inside.tables c.args.space c.args.page c.args.entry (entry_seen c.self.inside.frames c.self.inside.tables c.args.self.now c.args.space c.args.page c.args.entry c.self.view_is c.requires)) c.bytes_of.ensures.value)
