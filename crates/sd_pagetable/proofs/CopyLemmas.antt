-- A space that is added with copies of another's pages.
use Rattle.std.proofs.Common.{◌≡◌, ◌⊎◌, ℕ, ◌+◌, ◌≤◌, true, false, nat_eq, List, [], ◌∷◌, map, Option, Some, None, refl, sym, ◌∙◌, ap, subst, inl, inr, arith}
use Rattle.std.specs.Prelude.{sum_by}
use Rattle.std.proofs.lemmas.Bool.{cases_Bool, or_cases}
use Rattle.std.proofs.lemmas.List.Sums.{sum_by-cons}
use Rattle.std.specs.Option.{option_map}
use Rattle.std.specs.FinMap as finmap
use Rattle.sd_tables.specs.declared.entry.Entry.{Entry}
use Rattle.sd_tables.specs.Copies.{bare_entry}
use Rattle.sd_frames.specs.Frames.{Pool}
use Rattle.sd_pagetable.specs.Nested.{Table, Nested, map_values, inside, value_at, is_alive, total}
use Rattle.sd_pagetable.specs.Page.{PageState}
use Rattle.sd_pagetable.specs.Contents.{Contents, page_at, members, share_of, page_count, IsSound}
use Rattle.sd_pagetable.specs.Ranges.{bare_page}
use Rattle.sd_pagetable.specs.Tracking.{with_space}
use Rattle.sd_pagetable.specs.View.{page_of_entry, contents_of, IsKept}
use Rattle.sd_pagetable.proofs.TableLemmas.{same_table, get-map_values, entries-map_values, len-map_values, map_values-insert}
use Rattle.sd_pagetable.proofs.NestedLemmas.{tests, alive-insert, value_at-insert}
use Rattle.sd_pagetable.proofs.TotalLemmas.{total-empty, total_within-insert}
use Rattle.sd_pagetable.proofs.ViewLemmas.{same_contents, page_at-view, alone_in, is_alone_in}
use Rattle.sd_pagetable.proofs.PlainRanges.{same_many}
use Rattle.sd_pagetable.proofs.ForkCalls.{dead_inside, len_total}

-- a copy is in no class
bare_weight : (k : ℕ) (t : Table PageState) → total (share_of k) (map_values bare_page t) ≡ 0
unfolding total
bare_weight k t = ap (sum_by (λ (e : ℕ × PageState). share_of k e.1)) (entries-map_values bare_page t) ∙ nothing (finmap.entries t)
  where
    nothing : (es : List (ℕ × PageState)) → sum_by (λ (e : ℕ × PageState). share_of k e.1) (map (λ (e : ℕ × PageState). (e.0, bare_page e.1)) es) ≡ 0
    nothing [] = refl
    nothing (e ∷ es) =
        let front = sum_by-cons (λ (e : ℕ × PageState). share_of k e.1) (e.0, bare_page e.1) (map (λ (e : ℕ × PageState). (e.0, bare_page e.1)) es) in
        omega (arith, front, nothing es)

-- ---- the memory with the copy
module _ (m : Contents) (parent child : ℕ) (dead : is_alive m.spaces child ≡ false) where
  abbrev copy : Table PageState
  copy = map_values bare_page (inside m.spaces parent)

  same_members : (k : ℕ) → members (with_space m child copy) k ≡ members m k
  same_members k = grind (arith, total_within-insert, dead_inside, total-empty, bare_weight)

  pub more_pages : page_count (with_space m child copy).spaces ≡ page_count m.spaces + finmap.len (inside m.spaces parent)
  more_pages = grind (arith, total_within-insert, dead_inside, total-empty, len_total, same_many)

  from_bare : (o : Option PageState) (y : PageState) → option_map bare_page o ≡ Some y → (x : PageState) × (o ≡ Some x) × (y ≡ bare_page x)
  from_bare o y e = grind arith

  -- a page there is a copy of the parent's, or was there
  copied_there : (q r : ℕ) (y : PageState) → page_at (with_space m child copy) q r ≡ Some y → ((x : PageState) × (page_at m parent r ≡ Some x) × (y ≡ bare_page x)) ⊎ (page_at m q r ≡ Some y)
  copied_there q r y h = grind (arith, cases_Bool, get-map_values, value_at-insert)

  sound_copied : IsSound m → 1 ≤ child → child ≤ 16 → page_count m.spaces + finmap.len (inside m.spaces parent) ≤ 65536 → IsSound (with_space m child copy)
  sound_copied sound least greatest room = record {
    writable = λ q r y h w. elim (copied_there q r y h) [
      | inl bare ↦ absurd (let f : false ≡ true = sym (ap (λ (z : PageState). z.writable) bare.2) ∙ w in cc)
      | inr there ↦
          let o = sound.writable q r y there w in
          let a = alone_in m y o.alone in
          record { soft_dirty = o.soft_dirty; permitted = o.permitted; alone = is_alone_in (with_space m child copy) y a.0 a.1 (same_members a.0 ∙ a.2) }
    ];
    classes = λ q r y k h c. elim (copied_there q r y h) [
      | inl bare ↦ absurd (let f : ◌≡◌ {A = Option ℕ} None (Some k) = sym (ap (λ (z : PageState). z.class) bare.2) ∙ c in cc)
      | inr there ↦ sound.classes q r y k there c
    ];
    spaces = λ q h. elim (or_cases (nat_eq q child) (is_alive m.spaces q) (sym (alive-insert m.spaces child copy q) ∙ h)) [
      | inl here ↦ (let e = tests q child here in (omega (arith, e, least), omega (arith, e, greatest)))
      | inr there ↦ sound.spaces q there
    ];
    numbers = λ q r y h. elim (copied_there q r y h) [
      | inl bare ↦ sound.numbers parent r bare.0 bare.1
      | inr there ↦ sound.numbers q r y there
    ];
    few = omega (arith, more_pages, room);
  }

-- ---- as the tables have it
seen_bare : (pool : Pool) (o : Option Entry) → option_map (page_of_entry pool) (option_map bare_entry o) ≡ option_map bare_page (option_map (page_of_entry pool) o)
seen_bare pool o = grind arith

module _ (pool : Pool) (old new : Nested Entry) (parent child : ℕ) (pages : (q : ℕ) → value_at new child q ≡ option_map bare_entry (value_at old parent q)) (others : new ≡ finmap.insert old child (inside new child)) where
  copy_seen : map_values (page_of_entry pool) (inside new child) ≡ map_values bare_page (inside (contents_of pool old).spaces parent)
  copy_seen = same_table _ _ (λ q. get-map_values (page_of_entry pool) (inside new child) q ∙ ap (option_map (page_of_entry pool)) (pages q) ∙ seen_bare pool (value_at old parent q)
      ∙ ap (option_map bare_page) (sym (page_at-view pool old parent q)) ∙ sym (get-map_values bare_page (inside (contents_of pool old).spaces parent) q))

  pub copy_len : finmap.len (inside new child) ≡ finmap.len (inside (contents_of pool old).spaces parent)
  copy_len = sym (len-map_values (page_of_entry pool) (inside new child)) ∙ ap finmap.len copy_seen ∙ len-map_values bare_page (inside (contents_of pool old).spaces parent)

  view_old : contents_of pool new ≡ with_space (contents_of pool old) child (map_values bare_page (inside (contents_of pool old).spaces parent))
  view_old = ap (contents_of pool) others ∙ same_contents (contents_of pool (finmap.insert old child (inside new child))) (with_space (contents_of pool old) child (map_values bare_page (inside (contents_of pool old).spaces parent))) refl
      (map_values-insert (map_values (page_of_entry pool)) old child (inside new child) ∙ ap (finmap.insert (map_values (map_values (page_of_entry pool)) old) child) copy_seen)

  pub view_copied : (m : Contents) → contents_of pool old ≡ m → contents_of pool new ≡ with_space m child (map_values bare_page (inside m.spaces parent))
  view_copied m v = view_old ∙ ap (λ (c : Contents). with_space c child (map_values bare_page (inside c.spaces parent))) v

  pub kept_copied : (n : ℕ) → IsKept pool old n → is_alive (contents_of pool old).spaces child ≡ false → 1 ≤ child → child ≤ 16
      → n + finmap.len (inside new child) ≤ 65536 → IsKept pool new (n + finmap.len (inside new child))
  kept_copied n kept dead least greatest room =
      let c = contents_of pool old in
      let counted = kept.mapped in
      record {
        sound = subst IsSound (sym view_old) (sound_copied c parent child dead kept.sound least greatest (omega (arith, copy_len, counted, room)));
        counts = λ k. kept.counts k ∙ sym (ap (λ (z : Contents). members z k) view_old ∙ same_members c parent child dead k);
        used = kept.used;
        mapped = (let seen = ap (λ (z : Contents). page_count z.spaces) view_old in let more = more_pages c parent child dead in omega (arith, copy_len, counted, seen, more));
      }
