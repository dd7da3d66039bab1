use Rattle.std.proofs.Common.{◌≡◌, ℕ, ◌<◌, ap, ◌∙◌, sym, subst, Some, None, false, List}
use Rattle.std.specs.Option.{IfSome}
use Rattle.sd_tables.specs.declared.entry.Entry.{Entry}
use Rattle.sd_pagetable.specs.Nested.{Nested, value_at, put_at}
use Rattle.sd_pagetable.specs.Page.{PageState}
use Rattle.sd_pagetable.specs.Contents.{Contents, page_at, put_page, members, is_full}
use Rattle.sd_frames.specs.Frames.{Pool, Cell, cell_at, SetsCell}
use Rattle.sd_pagetable.specs.View.{page_of_entry, contents_of, IsKept}
use Rattle.sd_pagetable.specs.Loaded.{GivesFrame}
use Rattle.sd_pagetable.proofs.TableLemmas.{not_none}
use Rattle.sd_pagetable.proofs.ViewLemmas.{entry_there, none_there}
use Rattle.sd_pagetable.proofs.LoadedLemmas.{free_room, kept_given, view_given, given_members}
use Rattle.sd_pagetable.proofs.paging.Paging.put_bytes.Goals as goal

pub returns-in_default : goal.returns-in_default
returns-in_default c = absurd (not_none _ (none_there c.self.inside.frames c.self.inside.tables c.args.self.now c.args.space c.args.page c.self.view_is (sym c.in_default.ensures)) c.requires.there)

pub place-requires-clause-free : goal.place-requires-clause-free
place-requires-clause-free c = free_room c.self.inside.frames c.self.inside.tables c.self.inside.mapped c.self.invariant (ap is_full c.self.view_is ∙ c.requires.room)

-- the entry of a page without a frame
bare : (pool : Pool) (tables : Nested Entry) (m : Contents) (s p : ℕ) (e : Entry) → contents_of pool tables ≡ m → value_at tables s p ≡ Some e → IfSome (page_at m s p) (λ (before : PageState). (before.class ≡ None) × (before.writable ≡ false)) → (e.frame ≡ None) × (e.writable ≡ false)
bare pool tables m s p e v h w = rw (entry_there pool tables s p e h) at (subst (λ (n : Contents). IfSome (page_at n s p) (λ (before : PageState). (before.class ≡ None) × (before.writable ≡ false))) (sym v) w)

module _ (old new : Pool) (tables again : Nested Entry) (n s p : ℕ) (e f : Entry) (own : ℕ) (cell : Cell) (bytes : List ℕ) (m : Contents) (kept : IsKept old tables n) (h : value_at tables s p ≡ Some e) (v : contents_of old tables ≡ m)
    (fresh : IfSome (page_at m s p) (λ (before : PageState). (before.class ≡ None) × (before.writable ≡ false))) (free : cell_at old own ≡ None) (within : own < old.size) (is : cell ≡ record { count = 1; bytes = bytes })
    (sets : SetsCell old new own (Some cell)) (put : again ≡ put_at tables s p f) (entry : f ≡ record e { frame = Some own }) where
  sets_bytes : SetsCell old new own (Some (record { count = 1; bytes = bytes }))
  sets_bytes = subst (λ (c : Cell). SetsCell old new own (Some c)) is sets

  again_is : again ≡ put_at tables s p (record e { frame = Some own })
  again_is = put ∙ ap (put_at tables s p) entry

  kept_again : IsKept new again n
  kept_again = (let b = bare old tables m s p e v h fresh in subst (λ (t : Nested Entry). IsKept new t n) (sym again_is) (kept_given old new tables n s p e own bytes kept h b.0 b.1 free within sets_bytes))

  gives_again : GivesFrame m s p (page_of_entry old e) bytes (contents_of new again)
  gives_again =
      let b = bare old tables m s p e v h fresh in (
        own,
        ap (λ (z : Contents). members z own) (sym v) ∙ given_members old new tables n s p e own bytes kept h b.0 b.1 free within sets_bytes,
        subst (λ (z : Contents). own < z.pool) v within,
        ap (contents_of new) again_is ∙ view_given old new tables n s p e own bytes kept h b.0 b.1 free within sets_bytes
            ∙ ap (λ (z : Contents). put_page z s p (record (page_of_entry old e) { bytes = bytes; class = Some own })) v,
      )

  given_page : IfSome (page_at m s p) (λ (before : PageState). GivesFrame m s p before bytes (contents_of new again))
  given_page = rw (ap (λ (z : Contents). page_at z s p) (sym v) ∙ entry_there old tables s p e h) gives_again

pub invariant_of-self-2 : goal.invariant_of-self-2
invariant_of-self-2 c = kept_again c.self.inside.frames c.place.new.self c.self.inside.tables c.replace.new.self c.self.inside.mapped c.args.space c.args.page c.in-Some.entry c.with_frame.result c.in_ok-frame.frame c.in_ok-copy.copy c.args.bytes.now c.args.self.now
    c.self.invariant (sym c.in-Some.ensures) c.self.view_is c.requires.fresh c.in_ok-frame.ensures.free.1 c.in_ok-frame.ensures.free.0 c.in_ok-copy.ensures.copy c.in_ok-frame.ensures.ok c.replace.ensures c.with_frame.ensures

pub returns : goal.returns
returns c = given_page c.self.inside.frames c.place.new.self c.self.inside.tables c.replace.new.self c.self.inside.mapped c.args.space c.args.page c.in-Some.entry c.with_frame.result c.in_ok-frame.frame c.in_ok-copy.copy c.args.bytes.now c.args.self.now
    c.self.invariant (sym c.in-Some.ensures) c.self.view_is c.requires.fresh c.in_ok-frame.ensures.free.1 c.in_ok-frame.ensures.free.0 c.in_ok-copy.ensures.copy c.in_ok-frame.ensures.ok c.replace.ensures c.with_frame.ensures
