use Rattle.std.proofs.Common.{◌≡◌, ℕ, ap, ◌∙◌, sym, subst, Option, Some, None, List}
use Rattle.std.specs.Option.{IfSome}
use Rattle.sd_pagetable.specs.Page.{PageState, stored_page}
use Rattle.sd_pagetable.specs.Contents.{Contents, page_at, put_page}
use Rattle.sd_pagetable.specs.Access.{stored_at}
use Rattle.sd_frames.specs.Frames.{frame_bytes}
use Rattle.sd_pagetable.specs.View.{page_of_entry, contents_of}
use Rattle.sd_pagetable.proofs.ViewLemmas.{entry_there, entry_seen, alone_in}
use Rattle.sd_pagetable.proofs.KeptLemmas.{frame_used, kept_written}
use Rattle.sd_pagetable.proofs.paging.Paging.write.Goals as goal

pub write-requires-clause-used : goal.write-requires-clause-used
write-requires-clause-used c = frame_used c.self.inside.frames c.self.inside.tables c.self.inside.mapped c.args.space c.args.page c.args.entry c.in-Some.frame c.self.invariant (entry_seen c.self.inside.frames c.self.inside.tables c.args.self.now c.args.space c.args.page c.args.entry c.self.view_is c.requires.there) c.in-Some.is

pub invariant_of-self : goal.invariant_of-self
invariant_of-self c =
    let h = entry_seen c.self.inside.frames c.self.inside.tables c.args.self.now c.args.space c.args.page c.args.entry c.self.view_is c.requires.there in
    (kept_written c.self.inside.frames c.write.new.self c.self.inside.tables c.self.inside.mapped c.args.space c.args.page c.args.entry c.in-Some.frame _ c.self.invariant h c.in-Some.is c.requires.writable c.write.ensures).0

pub returns : goal.returns
returns c =
    let h = entry_seen c.self.inside.frames c.self.inside.tables c.args.self.now c.args.space c.args.page c.args.entry c.self.view_is c.requires.there in
    let there = entry_there c.self.inside.frames c.self.inside.tables c.args.space c.args.page c.args.entry h in
    let now = (kept_written c.self.inside.frames c.write.new.self c.self.inside.tables c.self.inside.mapped c.args.space c.args.page c.args.entry c.in-Some.frame _ c.self.invariant h c.in-Some.is c.requires.writable c.write.ensures).1 in
    subst (λ (m : Contents). IfSome (page_at m c.args.space c.args.page) (λ (before : PageState). contents_of c.write.new.self c.self.inside.tables ≡ put_page m c.args.space c.args.page (stored_page before (stored_at before.bytes c.args.offset c.args.bytes.now)))) c.self.view_is
    (rw there (now ∙ ap (λ (bytes : List ℕ). put_page (contents_of c.self.inside.frames c.self.inside.tables) c.args.space c.args.page (record { prot = c.args.entry.prot; bytes = stored_at bytes c.args.offset c.args.bytes.now; class = c.args.entry.frame; writable = c.args.entry.writable; soft_dirty = c.args.entry.soft_dirty })) (sym (ap (frame_bytes c.self.inside.frames) c.in-Some.is))))

pub returns-in_default : goal.returns-in_default
returns-in_default c =
    let h = entry_seen c.self.inside.frames c.self.inside.tables c.args.self.now c.args.space c.args.page c.args.entry c.self.view_is c.requires.there in
    let o = c.self.invariant.sound.writable c.args.space c.args.page (page_of_entry c.self.inside.frames c.args.entry) (entry_there c.self.inside.frames c.self.inside.tables c.args.space c.args.page c.args.entry h) c.requires.writable in
    let a = alone_in (contents_of c.self.inside.frames c.self.inside.tables) (page_of_entry c.self.inside.frames c.args.entry) o.alone in
    absurd (let f : ◌≡◌ {A = Option ℕ} None (Some a.0) = sym c.in_default.is ∙ a.1 in cc)
