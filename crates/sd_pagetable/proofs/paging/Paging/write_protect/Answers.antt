use Rattle.std.proofs.Common.{◌≡◌, ap, ◌∙◌, subst, refl, false}
use Rattle.std.specs.Option.{IfSome}
use Rattle.sd_tables.specs.declared.entry.Entry.{Entry}
use Rattle.sd_pagetable.specs.Page.{PageState}
use Rattle.sd_pagetable.specs.Contents.{Contents, page_at, put_page}
use Rattle.sd_pagetable.specs.View.{contents_of}
use Rattle.sd_pagetable.proofs.NestedLemmas.{alive_at}
use Rattle.sd_pagetable.proofs.ViewLemmas.{entry_there, entry_seen, view_put, same_pool}
use Rattle.sd_pagetable.proofs.KeptLemmas.{kept_write_protected}
use Rattle.sd_pagetable.proofs.paging.Paging.write_protect.Goals as goal

pub replace-requires : goal.replace-requires
replace-requires c = rw (entry_seen c.self.inside.frames c.self.inside.tables c.args.self.now c.args.space c.args.page c.args.entry c.self.view_is c.requires) refl

pub invariant_of-self : goal.invariant_of-self
invariant_of-self c = rw c.replace.ensures (kept_write_protected c.self.inside.frames c.self.inside.tables c.self.inside.mapped c.args.space c.args.page _ c.args.entry c.self.invariant (entry_seen c.self.inside.frames c.self.inside.tables c.args.self.now c.args.space c.args.page c.args.entry c.self.view_is c.requires) refl refl)

pub returns : goal.returns
returns c =
    let h = entry_seen c.self.inside.frames c.self.inside.tables c.args.self.now c.args.space c.args.page c.args.entry c.self.view_is c.requires in
    let there = entry_there c.self.inside.frames c.self.inside.tables c.args.space c.args.page c.args.entry h in
    let e : Entry = record { prot = c.args.prot; frame = c.args.entry.frame; writable = false; soft_dirty = c.args.soft_dirty } in
    subst (λ (m : Contents). IfSome (page_at m c.args.space c.args.page) (λ (before : PageState). contents_of c.self.inside.frames c.replace.new.self ≡ put_page m c.args.space c.args.page (record before { prot = c.args.prot; writable = false; soft_dirty = c.args.soft_dirty }))) c.self.view_is
    (rw there (ap (contents_of c.self.inside.frames) c.replace.ensures ∙ view_put c.self.inside.frames c.self.inside.frames c.self.inside.tables c.args.space c.args.page refl (alive_at c.self.inside.tables c.args.space c.args.page c.args.entry h) (same_pool c.self.inside.frames c.self.inside.tables c.args.space c.args.page) e))
