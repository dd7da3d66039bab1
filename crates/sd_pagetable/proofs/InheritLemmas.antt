-- What is kept where a child's page takes the frame of the parent's.
use Rattle.std.proofs.Common.{◌≡◌, ℕ, ◌+◌, ◌<◌, ◌≤◌, Bool, true, false, cond, nat_eq, List, Option, Some, None, refl, sym, ◌∙◌, ap, inl, inr, arith}
use Rattle.std.proofs.lemmas.Bool.{cases_Bool, cases_eq, both_ways}
use Rattle.std.proofs.lemmas.Bool.Decides.{nat_tests}
use Rattle.std.proofs.lemmas.List.Sums.{sum_by-le-sum_by}
use Rattle.std.specs.Option.{option_map_or}
use Rattle.std.specs.FinMap as finmap
use Rattle.sd_tables.specs.declared.entry.Entry.{Entry}
use Rattle.sd_pagetable.specs.Nested.{Table, Nested, value_at, put_at, total, total_within}
use Rattle.sd_pagetable.specs.Page.{PageState}
use Rattle.sd_pagetable.specs.Contents.{Contents, page_at, put_page, members, share_of, page_count}
use Rattle.sd_frames.specs.Frames.{Pool, Cell, cell_at, count_at, frame_bytes}
use Rattle.sd_pagetable.specs.View.{page_of_entry, contents_of, IsKept}
use Rattle.sd_pagetable.specs.Owning.{SharesFrame}
use Rattle.sd_pagetable.proofs.NestedLemmas.{alive_at}
use Rattle.sd_pagetable.proofs.ViewLemmas.{view_put, SameOthers, is_at, entry_there, alone_apart, one_share}
use Rattle.sd_pagetable.proofs.KeptLemmas.{kept_put, other_class, one_page}

at_most_one : (k : ℕ) (o : Option ℕ) → option_map_or (λ j. cond {A = ℕ} (nat_eq j k) 1 0) o 0 ≤ 1
at_most_one k None = omega arith
at_most_one k (Some j) = one (nat_eq j k)
  where
    one : (b : Bool) → cond {A = ℕ} b 1 0 ≤ 1
    one true = omega arith
    one false = omega arith

total_le : {X : Type 0} (v w : X → ℕ) → ((x : X) → v x ≤ w x) → (t : Table X) → total v t ≤ total w t
unfolding total
total_le {X = X} v w h t = sum_by-le-sum_by (λ (e : ℕ × X). v e.1) (λ (e : ℕ × X). w e.1) (finmap.entries t) (λ e. h e.1)

pub members_le : (m : Contents) (k : ℕ) → members m k ≤ page_count m.spaces
unfolding total_within
members_le m k = total_le (total (share_of k)) (total one_page) (total_le (share_of k) one_page (λ x. at_most_one k x.class)) m.spaces

module _ (old new : Pool) (tables : Nested Entry) (n parent child p : ℕ) (e own : Entry) (kept : IsKept old tables n) (there : value_at tables parent p ≡ Some e) (closed : e.writable ≡ false) (here : value_at tables child p ≡ Some own) (none : own.frame ≡ None) (shared : SharesFrame old new e.frame) where
  same_frames : (o : Option ℕ) → frame_bytes new o ≡ frame_bytes old o
  same_frames o = grind arith

  pub shared_same : SameOthers old new tables child p
  shared_same q r y apart hy = ap (λ (bytes : List ℕ). record { prot = y.prot; bytes = bytes; class = y.frame; writable = y.writable; soft_dirty = y.soft_dirty }) (same_frames y.frame)

  counts_more : (e' : Entry) → e'.frame ≡ e.frame → (k : ℕ) (o : Option ℕ) → e.frame ≡ o → count_at new k + 0 ≡ count_at old k + share_of k (page_of_entry new e')
  counts_more e' same k o f = grind arith

  used_more : (k : ℕ) (c : Cell) (o : Option ℕ) → e.frame ≡ o → cell_at new k ≡ Some c → 0 < c.count
  used_more k c o f hc = grind arith

  -- an open page isn't in the class of the parent's
  apart_shared : (e' : Entry) → e'.frame ≡ e.frame → (q r : ℕ) (y : PageState) (k : ℕ) (o : Option ℕ) → e.frame ≡ o → page_at (contents_of old tables) q r ≡ Some y → y.writable ≡ true → y.class ≡ Some k → members (contents_of old tables) k ≡ 1 → share_of k (page_of_entry new e') ≡ 0
  apart_shared e' same q r y k None f hy w c one = ap (λ o. option_map_or (λ j. cond {A = ℕ} (nat_eq j k) 1 0) o 0) (same ∙ f)
  apart_shared e' same q r y k (Some j) f hy w c one = elim (cases_eq j k) [
    | inl here ↦ absurd (elim (cases_Bool (is_at parent p q r)) [
      | inl at_parent ↦
          let s_is : q ≡ parent = grind (arith, nat_tests) in
          let p_is : r ≡ p = grind (arith, nat_tests) in
          let z : ◌≡◌ {A = Option PageState} (Some (page_of_entry old e)) (Some y) = sym (entry_there old tables parent p e there) ∙ ap (λ a. page_at (contents_of old tables) a p) (sym s_is) ∙ ap (page_at (contents_of old tables) q) (sym p_is) ∙ hy in
          let same_page : page_of_entry old e ≡ y = cc in
          both_ways e.writable closed (ap (λ (x : PageState). x.writable) same_page ∙ w)
      | inr apart ↦
          let a = alone_apart (contents_of old tables) parent p q r (page_of_entry old e) y k one (entry_there old tables parent p e there) hy c apart in
          let b = one_share k (page_of_entry old e) (f ∙ ap Some here) in
          omega (arith, a, b)
    ])
    | inr other ↦ ap (λ o. option_map_or (λ j. cond {A = ℕ} (nat_eq j k) 1 0) o 0) (same ∙ f) ∙ other_class j k other
  ]

  pub kept_inherited : (e' : Entry) → e'.frame ≡ e.frame → e'.writable ≡ false → IsKept new (put_at tables child p e') n
  kept_inherited e' same not_open =
      let at_child = entry_there old tables child p own here in
      let few = kept.sound.few in
      let mapped = kept.mapped in
      kept_put old new tables n n child p e' (Some (page_of_entry old own)) kept shared.size (alive_at tables child p own here) shared_same at_child
      (kept.sound.numbers child p (page_of_entry old own) at_child)
      (λ k. let a = counts_more e' same k e.frame refl in let b : share_of k (page_of_entry old own) ≡ 0 = ap (λ o. option_map_or (λ j. cond {A = ℕ} (nat_eq j k) 1 0) o 0) none in omega (arith, a, b))
      (λ k c hc. used_more k c e.frame refl hc) refl (omega (arith, few, mapped))
      (λ k g. kept.sound.classes parent p (page_of_entry old e) k (entry_there old tables parent p e there) (sym same ∙ g))
      (λ t. absurd (both_ways e'.writable not_open t))
      (λ q r y k apart hy w c one. apart_shared e' same q r y k e.frame refl hy w c one)

  pub view_inherited : (e' : Entry) → e'.frame ≡ e.frame → contents_of new (put_at tables child p e') ≡ put_page (contents_of old tables) child p (page_of_entry old e')
  view_inherited e' same = view_put old new tables child p shared.size (alive_at tables child p own here) shared_same e'
      ∙ ap (λ (bytes : List ℕ). put_page (contents_of old tables) child p (record { prot = e'.prot; bytes = bytes; class = e'.frame; writable = e'.writable; soft_dirty = e'.soft_dirty })) (same_frames e'.frame)
