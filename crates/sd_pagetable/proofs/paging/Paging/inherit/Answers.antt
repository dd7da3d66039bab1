use Rattle.std.proofs.Common.{◌≡◌, ℕ, Option, ap, ◌∙◌, sym, subst, IsSome, refl, is_some, Some, None, true, false, arith}
use Rattle.std.specs.Option.{option_map}
use Rattle.sd_tables.specs.declared.entry.Entry.{Entry}
use Rattle.sd_pagetable.specs.Nested.{Nested, value_at, put_at}
use Rattle.sd_pagetable.specs.Page.{PageState}
use Rattle.sd_pagetable.specs.Contents.{Contents, page_at, put_page}
use Rattle.sd_frames.specs.Frames.{Pool}
use Rattle.sd_pagetable.specs.Ranges.{bare_page}
use Rattle.sd_pagetable.specs.View.{page_of_entry, entry_of, contents_of, IsKept}
use Rattle.sd_pagetable.proofs.NestedLemmas.{alive_at, value_at-put}
use Rattle.sd_pagetable.proofs.ViewLemmas.{entry_there, entry_seen, view_put, same_pool, page_entry}
use Rattle.sd_pagetable.proofs.KeptLemmas.{frame_counted, kept_write_protected}
use Rattle.std.proofs.lemmas.Bool.{cond-true, cond-false, and_from, and_left, ne_eqb, eq-eqb}
use Rattle.sd_pagetable.proofs.InheritLemmas.{members_le, kept_inherited, view_inherited}
use Rattle.sd_pagetable.proofs.paging.Paging.inherit.Goals as goal

abbrev shared_entry : Entry → Entry
shared_entry e = record { prot = e.prot; frame = e.frame; writable = false; soft_dirty = e.soft_dirty }

abbrev inherited_entry : Entry → Entry
inherited_entry e = record { prot = e.prot; frame = e.frame; writable = false; soft_dirty = true }

-- the child's own entry, once the parent's was changed
record Inherits (pool : Pool) (tables : Nested Entry) (n parent child page : ℕ) (e : Entry) : Type 0 where
  kept : IsKept pool (put_at tables parent page (shared_entry e)) n
  there : value_at (put_at tables parent page (shared_entry e)) parent page ≡ Some (shared_entry e)
  own : Entry
  here : value_at (put_at tables parent page (shared_entry e)) child page ≡ Some own
  none : own.frame ≡ None
  bare : e.frame ≡ None → own ≡ inherited_entry e

-- a copy of a page without a frame has what it inherits
own_is : (pool : Pool) (e own : Entry) → page_of_entry pool own ≡ bare_page (page_of_entry pool e) → e.frame ≡ None → own ≡ inherited_entry e
own_is pool e own is none = ap entry_of is ∙ ap (λ (frame : Option ℕ). record { prot = e.prot; frame = frame; writable = false; soft_dirty = true }) (sym none)

inherits : (pool : Pool) (tables : Nested Entry) (n parent child page : ℕ) (e : Entry) (m : Contents) → IsKept pool tables n → contents_of pool tables ≡ m → value_at tables parent page ≡ Some e → (parent ≡ child → ⊥) → page_at m child page ≡ option_map bare_page (page_at m parent page) → Inherits pool tables n parent child page e
inherits pool tables n parent child page e m kept v h apart copied =
    let there : page_at m parent page ≡ Some (page_of_entry pool e) = ap (λ (z : Contents). page_at z parent page) (sym v) ∙ entry_there pool tables parent page e h in
    let own = page_entry pool tables child page (bare_page (page_of_entry pool e)) (ap (λ (z : Contents). page_at z child page) v ∙ copied ∙ ap (option_map bare_page) there) in
    record {
      kept = kept_write_protected pool tables n parent page (shared_entry e) e kept h refl refl;
      there = value_at-put tables parent page (shared_entry e) parent page ∙ cond-true _ _ _ (and_from _ _ (eq-eqb parent parent refl) (eq-eqb page page refl));
      own = own.0;
      here = value_at-put tables parent page (shared_entry e) child page ∙ cond-false _ _ _ (and_left _ _ (ne_eqb child parent (λ same. apart (sym same)))) ∙ own.1;
      none = ap (λ (z : PageState). z.class) own.2;
      bare = own_is pool e own.0 own.2;
    }

pub protect_entry-requires : goal.protect_entry-requires
protect_entry-requires c = entry_seen c.self.inside.frames c.self.inside.tables c.args.self.now c.args.parent c.args.page c.args.entry c.self.view_is c.requires.there

pub put_inherited-requires-clause-there : goal.put_inherited-requires-clause-there
put_inherited-requires-clause-there c =
    let i = inherits c.self.inside.frames c.self.inside.tables c.self.inside.mapped c.args.parent c.args.child c.args.page c.args.entry c.args.self.now c.self.invariant c.self.view_is (entry_seen c.self.inside.frames c.self.inside.tables c.args.self.now c.args.parent c.args.page c.args.entry c.self.view_is c.requires.there) c.requires.apart c.requires.copied in
    let t : c.protect_entry.new.tables ≡ put_at c.self.inside.tables c.args.parent c.args.page (shared_entry c.args.entry) = c.protect_entry.ensures in
    subst (λ (tables : Nested Entry). IsSome (value_at tables c.args.child c.args.page)) (sym t) (ap is_some i.here)

pub put_inherited-requires-clause-bare : goal.put_inherited-requires-clause-bare
put_inherited-requires-clause-bare c = λ none.
    let i = inherits c.self.inside.frames c.self.inside.tables c.self.inside.mapped c.args.parent c.args.child c.args.page c.args.entry c.args.self.now c.self.invariant c.self.view_is (entry_seen c.self.inside.frames c.self.inside.tables c.args.self.now c.args.parent c.args.page c.args.entry c.self.view_is c.requires.there) c.requires.apart c.requires.copied in
    let t : c.protect_entry.new.tables ≡ put_at c.self.inside.tables c.args.parent c.args.page (shared_entry c.args.entry) = c.protect_entry.ensures in
    ap (λ (tables : Nested Entry). value_at tables c.args.child c.args.page) t ∙ i.here
    ∙ ap Some (i.bare (sym (ap (λ (e : Entry). e.frame) c.write_protected-inherited.ensures) ∙ none) ∙ sym c.write_protected-inherited.ensures)

pub share-requires-clause-used : goal.share-requires-clause-used
share-requires-clause-used c = λ frame is. frame_counted c.self.inside.frames c.self.inside.tables c.self.inside.mapped c.args.parent c.args.page c.args.entry frame c.self.invariant (entry_seen c.self.inside.frames c.self.inside.tables c.args.self.now c.args.parent c.args.page c.args.entry c.self.view_is c.requires.there) is

pub share-requires-clause-few : goal.share-requires-clause-few
share-requires-clause-few c = grind (arith, members_le)

pub invariant_of-self : goal.invariant_of-self
invariant_of-self c =
    let i = inherits c.self.inside.frames c.self.inside.tables c.self.inside.mapped c.args.parent c.args.child c.args.page c.args.entry c.args.self.now c.self.invariant c.self.view_is (entry_seen c.self.inside.frames c.self.inside.tables c.args.self.now c.args.parent c.args.page c.args.entry c.self.view_is c.requires.there) c.requires.apart c.requires.copied in
    let t : c.protect_entry.new.tables ≡ put_at c.self.inside.tables c.args.parent c.args.page (shared_entry c.args.entry) = c.protect_entry.ensures in
    let u : c.put_inherited.new.tables ≡ put_at (put_at c.self.inside.tables c.args.parent c.args.page (shared_entry c.args.entry)) c.args.child c.args.page (inherited_entry c.args.entry) =
    c.put_inherited.ensures ∙ ap (λ (tables : Nested Entry). put_at tables c.args.child c.args.page c.write_protected-inherited.result) t ∙ ap (put_at (put_at c.self.inside.tables c.args.parent c.args.page (shared_entry c.args.entry)) c.args.child c.args.page) c.write_protected-inherited.ensures in
    subst (λ (tables : Nested Entry). IsKept c.share.new.frames tables c.self.inside.mapped) (sym u)
    (kept_inherited c.self.inside.frames c.share.new.frames (put_at c.self.inside.tables c.args.parent c.args.page (shared_entry c.args.entry)) c.self.inside.mapped c.args.parent c.args.child c.args.page (shared_entry c.args.entry) i.own i.kept i.there refl i.here i.none c.share.ensures (inherited_entry c.args.entry) refl refl)

pub returns : goal.returns
returns c =
    let i = inherits c.self.inside.frames c.self.inside.tables c.self.inside.mapped c.args.parent c.args.child c.args.page c.args.entry c.args.self.now c.self.invariant c.self.view_is (entry_seen c.self.inside.frames c.self.inside.tables c.args.self.now c.args.parent c.args.page c.args.entry c.self.view_is c.requires.there) c.requires.apart c.requires.copied in
    let h = entry_seen c.self.inside.frames c.self.inside.tables c.args.self.now c.args.parent c.args.page c.args.entry c.self.view_is c.requires.there in
    let t : c.protect_entry.new.tables ≡ put_at c.self.inside.tables c.args.parent c.args.page (shared_entry c.args.entry) = c.protect_entry.ensures in
    let u : c.put_inherited.new.tables ≡ put_at (put_at c.self.inside.tables c.args.parent c.args.page (shared_entry c.args.entry)) c.args.child c.args.page (inherited_entry c.args.entry) =
    c.put_inherited.ensures ∙ ap (λ (tables : Nested Entry). put_at tables c.args.child c.args.page c.write_protected-inherited.result) t ∙ ap (put_at (put_at c.self.inside.tables c.args.parent c.args.page (shared_entry c.args.entry)) c.args.child c.args.page) c.write_protected-inherited.ensures in
    let now = ap (contents_of c.share.new.frames) u
    ∙ view_inherited c.self.inside.frames c.share.new.frames (put_at c.self.inside.tables c.args.parent c.args.page (shared_entry c.args.entry)) c.self.inside.mapped c.args.parent c.args.child c.args.page (shared_entry c.args.entry) i.own i.kept i.there refl i.here i.none c.share.ensures (inherited_entry c.args.entry) refl
    ∙ ap (λ (m : Contents). put_page m c.args.child c.args.page (page_of_entry c.self.inside.frames (inherited_entry c.args.entry)))
    (view_put c.self.inside.frames c.self.inside.frames c.self.inside.tables c.args.parent c.args.page refl (alive_at c.self.inside.tables c.args.parent c.args.page c.args.entry h) (same_pool c.self.inside.frames c.self.inside.tables c.args.parent c.args.page) (shared_entry c.args.entry)
    ∙ ap (λ (m : Contents). put_page m c.args.parent c.args.page (page_of_entry c.self.inside.frames (shared_entry c.args.entry))) c.self.view_is) in
    let there : page_at c.args.self.now c.args.parent c.args.page ≡ Some (page_of_entry c.self.inside.frames c.args.entry) = ap (λ (m : Contents). page_at m c.args.parent c.args.page) (sym c.self.view_is) ∙ entry_there c.self.inside.frames c.self.inside.tables c.args.parent c.args.page c.args.entry h in
    rw there now
