-- Spaces without pages, added and taken away.
use Rattle.std.proofs.Common.{◌≡◌, ℕ, ◌<◌, ◌≤◌, Bool, true, false, nat_eq, is_some, List, [], Option, Some, None, unwrap_or, refl, sym, ◌∙◌, ap, subst, inl, inr, arith}
use Rattle.std.proofs.lemmas.Bool.{cases_Bool, or_cases}
use Rattle.std.specs.Option.{option_map_or}
use Rattle.std.specs.Ordering.{nat_cmp}
use Rattle.std.specs.FinMap as finmap
use Rattle.std.specs.FinMap.{get-empty}
use Rattle.sd_tables.specs.declared.entry.Entry.{Entry}
use Rattle.sd_pagetable.specs.Nested.{Table, Nested, map_values, inside, value_at, is_alive, total, total_within}
use Rattle.sd_pagetable.specs.Page.{PageState}
use Rattle.sd_pagetable.specs.Contents.{Contents, page_at, members, share_of, page_count, IsSound}
use Rattle.sd_frames.specs.Frames.{Pool, Cell, cell_at}
use Rattle.sd_pagetable.specs.View.{page_of_entry, contents_of, IsKept}
use Rattle.sd_pagetable.proofs.TableLemmas.{none_of, map_values-insert, map_values-empty, map_values-remove, get_removed}
use Rattle.sd_pagetable.proofs.NestedLemmas.{value_at-insert, alive-insert, tests}
use Rattle.sd_pagetable.proofs.TotalLemmas.{total-empty, total_within-insert, total_within-remove_space, total_within-empty}
use Rattle.sd_pagetable.proofs.ViewLemmas.{same_contents, alone_in, is_alone_in}

-- the same pages
pub sound_same : (m n : Contents) → IsSound m → n.pool ≡ m.pool → ((q r : ℕ) → page_at n q r ≡ page_at m q r) → ((k : ℕ) → members n k ≡ members m k) → ((q : ℕ) → is_alive n.spaces q ≡ true → (1 ≤ q) × (q ≤ 16)) → page_count n.spaces ≡ page_count m.spaces → IsSound n
sound_same m n sound pool same count alive pages = record {
  writable = λ q r y h w.
      let o = sound.writable q r y (sym (same q r) ∙ h) w in
      let a = alone_in m y o.alone in
      record { soft_dirty = o.soft_dirty; permitted = o.permitted; alone = is_alone_in n y a.0 a.1 (count a.0 ∙ a.2) };
  classes = λ q r y k h c. subst (λ p. k < p) (sym pool) (sound.classes q r y k (sym (same q r) ∙ h) c);
  spaces = alive;
  numbers = λ q r y h. sound.numbers q r y (sym (same q r) ∙ h);
  few = subst (λ p. p ≤ 65536) (sym pages) sound.few;
}

module _ {X : Type 0} (m : Nested X) (s : ℕ) (dead : is_alive m s ≡ false) where
  dead_inside : inside m s ≡ finmap.empty
  dead_inside = ap (λ o. unwrap_or o finmap.empty) (none_of (finmap.get m s) dead)

  nothing : Table X
  nothing = finmap.empty

  pub added_at : (q r : ℕ) → value_at (finmap.insert m s finmap.empty) q r ≡ value_at m q r
  unfolding nothing
  added_at q r = grind (arith, value_at-insert, cases_Bool)

  pub added_total : (w : X → ℕ) → total_within w (finmap.insert m s finmap.empty) ≡ total_within w m
  added_total w = (let a = total_within-insert w m s finmap.empty in let b : total w (inside m s) ≡ total w finmap.empty = ap (total w) dead_inside in omega (arith, a, b))

pub view_space : (pool : Pool) (tables : Nested Entry) (s : ℕ) → contents_of pool (finmap.insert tables s finmap.empty) ≡ record { pool = pool.size; spaces = finmap.insert (contents_of pool tables).spaces s finmap.empty }
view_space pool tables s = same_contents _ _ refl (map_values-insert (map_values (page_of_entry pool)) tables s finmap.empty ∙ ap (finmap.insert (map_values (map_values (page_of_entry pool)) tables) s) (map_values-empty (page_of_entry pool)))

pub kept_space : (pool : Pool) (tables : Nested Entry) (n s : ℕ) → IsKept pool tables n → is_alive (contents_of pool tables).spaces s ≡ false → 1 ≤ s → s ≤ 16 → IsKept pool (finmap.insert tables s finmap.empty) n
kept_space pool tables n s kept dead least greatest =
    let m = contents_of pool tables in
    let new : Contents = record { pool = pool.size; spaces = finmap.insert m.spaces s finmap.empty } in
    let v = view_space pool tables s in
    record {
      sound = subst IsSound (sym v) (sound_same m new kept.sound refl (λ q r. added_at m.spaces s dead q r) (λ k. added_total m.spaces s dead (share_of k))
          (λ q h. elim (or_cases (nat_eq q s) (is_alive m.spaces q) (sym (alive-insert m.spaces s finmap.empty q) ∙ h)) [
            | inl here ↦ (let e = tests q s here in (omega (arith, e, least), omega (arith, e, greatest)))
            | inr there ↦ kept.sound.spaces q there
          ]) (added_total m.spaces s dead (λ _. 1)));
      counts = λ k. kept.counts k ∙ sym (ap (λ (z : Contents). members z k) v ∙ added_total m.spaces s dead (share_of k));
      used = kept.used;
      mapped = kept.mapped ∙ sym (ap (λ (z : Contents). page_count z.spaces) v ∙ added_total m.spaces s dead (λ _. 1));
    }

nothing_at : (spaces : Nested PageState) → spaces ≡ finmap.empty → (q r : ℕ) → value_at spaces q r ≡ None
nothing_at spaces e q r = ap (λ (n : Nested PageState). value_at n q r) e ∙ ap (λ (o : Option (Table PageState)). finmap.get (unwrap_or o finmap.empty) r) (get-empty nat_cmp q) ∙ get-empty nat_cmp r

pub kept_empty : (pool : Pool) (tables : Nested Entry) → pool.cells ≡ [] → tables ≡ finmap.empty → IsKept pool tables 0
kept_empty pool tables none e =
    let spaces : (contents_of pool tables).spaces ≡ finmap.empty = ap (map_values (map_values (page_of_entry pool))) e ∙ map_values-empty (map_values (page_of_entry pool)) in
    let nothing = nothing_at (contents_of pool tables).spaces spaces in
    let pages : page_count (contents_of pool tables).spaces ≡ 0 = ap (λ (n : Nested PageState). page_count n) spaces ∙ total_within-empty (λ _. 1) in
    let cell_none : (k : ℕ) → cell_at pool k ≡ None = λ k. ap (λ (cells : List (Option Cell)). cell_at (record { size = pool.size; cells = cells }) k) none in
    record {
      sound = record {
        writable = λ q r y h w. absurd (let f : ◌≡◌ {A = Option PageState} None (Some y) = sym (nothing q r) ∙ h in cc);
        classes = λ q r y k h c. absurd (let f : ◌≡◌ {A = Option PageState} None (Some y) = sym (nothing q r) ∙ h in cc);
        spaces = λ q h. absurd (let f : false ≡ true = sym (ap (λ (n : Nested PageState). is_alive n q) spaces ∙ ap is_some (get-empty nat_cmp q)) ∙ h in cc);
        numbers = λ q r y h. absurd (let f : ◌≡◌ {A = Option PageState} None (Some y) = sym (nothing q r) ∙ h in cc);
        few = subst (λ p. p ≤ 65536) (sym pages) (omega arith);
      };
      counts = λ k. ap (λ (o : Option Cell). option_map_or (λ (c : Cell). c.count) o 0) (cell_none k) ∙ sym (ap (λ (n : Nested PageState). total_within (share_of k) n) spaces ∙ total_within-empty (share_of k));
      used = λ k c h. absurd (let f : ◌≡◌ {A = Option Cell} None (Some c) = sym (cell_none k) ∙ h in cc);
      mapped = sym pages;
    }

-- ---- a space without pages, taken away
module _ {X : Type 0} (m : Nested X) (s : ℕ) (bare : inside m s ≡ finmap.empty) where
  gone_at : (b : Bool) (q r : ℕ) → nat_eq q s ≡ b → value_at (finmap.remove m s) q r ≡ value_at m q r
  gone_at b q r t = grind (arith, get_removed)

  gone_total : (w : X → ℕ) → total_within w (finmap.remove m s) ≡ total_within w m
  gone_total w = (let a = total_within-remove_space w m s in let b : total w (inside m s) ≡ 0 = ap (total w) bare ∙ total-empty w in omega (arith, a, b))

  still_alive : (b : Bool) (q : ℕ) → nat_eq q s ≡ b → is_alive (finmap.remove m s) q ≡ true → is_alive m q ≡ true
  still_alive b q t h = grind (arith, get_removed)

pub view_gone : (pool : Pool) (tables : Nested Entry) (s : ℕ) → contents_of pool (finmap.remove tables s) ≡ record { pool = pool.size; spaces = finmap.remove (contents_of pool tables).spaces s }
view_gone pool tables s = same_contents _ _ refl (map_values-remove (map_values (page_of_entry pool)) tables s)

pub kept_gone : (pool : Pool) (tables : Nested Entry) (n s : ℕ) → IsKept pool tables n → inside (contents_of pool tables).spaces s ≡ finmap.empty → IsKept pool (finmap.remove tables s) n
kept_gone pool tables n s kept bare =
    let m = contents_of pool tables in
    let new : Contents = record { pool = pool.size; spaces = finmap.remove m.spaces s } in
    let v = view_gone pool tables s in
    record {
      sound = subst IsSound (sym v) (sound_same m new kept.sound refl (λ q r. gone_at m.spaces s bare (nat_eq q s) q r refl) (λ k. gone_total m.spaces s bare (share_of k))
          (λ q h. kept.sound.spaces q (still_alive m.spaces s bare (nat_eq q s) q refl h)) (gone_total m.spaces s bare (λ _. 1)));
      counts = λ k. kept.counts k ∙ sym (ap (λ (z : Contents). members z k) v ∙ gone_total m.spaces s bare (share_of k));
      used = kept.used;
      mapped = kept.mapped ∙ sym (ap (λ (z : Contents). page_count z.spaces) v ∙ gone_total m.spaces s bare (λ _. 1));
    }
