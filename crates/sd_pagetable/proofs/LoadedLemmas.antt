-- What one more page of a snapshot keeps.
use Rattle.std.proofs.Common.{◌≡◌, ◌≢◌, ◌⊎◌, ℕ, zero, suc, ◌+◌, ◌<◌, ◌≤◌, Bool, true, false, cond, nat_eq, nat_lt, List, [], ◌∷◌, length, replicate, Option, Some, None, refl, sym, ◌∙◌, ap, subst, inl, inr, arith, filter}
use Rattle.std.proofs.lemmas.Bool.{cases_Bool, cases_eq, eqb-true, eq-eqb, lt-ltb, le-ltb, and_parts, both_ways}
use Rattle.std.specs.List.{range_with_len}
use Rattle.std.specs.Option.{option_map_or}
use Rattle.sd_areas.specs.PlainMemory as plain
use Rattle.sd_tables.specs.declared.entry.Entry.{Entry}
use Rattle.sd_pagetable.specs.Nested.{Nested, value_at, put_at}
use Rattle.sd_pagetable.specs.Page.{PageState, zeros, fresh_page, plain_page}
use Rattle.sd_pagetable.specs.Contents.{Contents, page_at, put_page, plain_of, members, share_of, classes, is_full}
use Rattle.sd_frames.specs.Frames.{Pool, Cell, cell_at, count_at, SetsCell, HasFree}
use Rattle.sd_pagetable.specs.View.{page_of_entry, contents_of, IsKept}
use Rattle.sd_pagetable.specs.Loaded.{is_zero_page, frames_for, nonzero_pages, loaded_page, IsClassFor, Loads, GivesFrame, IsBegunMemory}
use Rattle.sd_pagetable.proofs.NestedLemmas.{alive_at, value_at-put}
use Rattle.sd_pagetable.proofs.TotalLemmas.{total_within-put}
use Rattle.sd_pagetable.proofs.ViewLemmas.{view_put, is_at, SameOthers, entry_there, alone_in, is_alone_in, one_share}
use Rattle.sd_pagetable.proofs.KeptLemmas.{kept_put, apart_new, same_frame, frame_counted, other_class}
use Rattle.sd_pagetable.proofs.MemoryLemmas.{plain_put, plain_at, put_twice}

-- ---- how many numbers of a run pass a test
same_kept : (p q : ℕ → Bool) (a n : ℕ) → ((k : ℕ) → a ≤ k → k < a + n → q k ≡ p k) → length (filter q (range_with_len a n)) ≡ length (filter p (range_with_len a n))
same_kept p q a zero h = refl
same_kept p q a (suc n) h = ap (λ b. length (cond b (a ∷ filter q (range_with_len (a + 1) n)) (filter q (range_with_len (a + 1) n)))) (h a (omega arith) (omega arith))
    ∙ both (p a) (same_kept p q (a + 1) n (λ k l g. h k (omega arith) (omega arith)))
  where
    both : (b : Bool) → length (filter q (range_with_len (a + 1) n)) ≡ length (filter p (range_with_len (a + 1) n)) → length (cond b (a ∷ filter q (range_with_len (a + 1) n)) (filter q (range_with_len (a + 1) n))) ≡ length (cond b (a ∷ filter p (range_with_len (a + 1) n)) (filter p (range_with_len (a + 1) n)))
    both true e = ap suc e
    both false e = e

-- one number more passes
one_kept : (p q : ℕ → Bool) (a n j : ℕ) → a ≤ j → j < a + n → p j ≡ false → q j ≡ true → ((k : ℕ) → k ≢ j → q k ≡ p k) → length (filter q (range_with_len a n)) ≡ length (filter p (range_with_len a n)) + 1
one_kept p q a zero j l g fails passes h = absurd (omega arith)
one_kept p q a (suc n) j l g fails passes h = elim (cases_eq a j) [
  | inl here ↦
      let e : length (cond (q a) (a ∷ filter q (range_with_len (a + 1) n)) (filter q (range_with_len (a + 1) n))) ≡ length (filter q (range_with_len (a + 1) n)) + 1 = ap (λ b. length (cond b (a ∷ filter q (range_with_len (a + 1) n)) (filter q (range_with_len (a + 1) n)))) (ap q here ∙ passes) ∙ omega arith in
      let d : length (cond (p a) (a ∷ filter p (range_with_len (a + 1) n)) (filter p (range_with_len (a + 1) n))) ≡ length (filter p (range_with_len (a + 1) n)) = ap (λ b. length (cond b (a ∷ filter p (range_with_len (a + 1) n)) (filter p (range_with_len (a + 1) n)))) (ap p here ∙ fails) in
      let s = same_kept p q (a + 1) n (λ k m o. h k (λ i. absurd (omega (arith, here, i, m)))) in
      omega (arith, e, d, s)
  | inr other ↦
      ap (λ b. length (cond b (a ∷ filter q (range_with_len (a + 1) n)) (filter q (range_with_len (a + 1) n)))) (h a other)
      ∙ both (p a) (one_kept p q (a + 1) n j (omega (arith, other)) (omega arith) fails passes h)
]
  where
    both : (b : Bool) → length (filter q (range_with_len (a + 1) n)) ≡ length (filter p (range_with_len (a + 1) n)) + 1 → length (cond b (a ∷ filter q (range_with_len (a + 1) n)) (filter q (range_with_len (a + 1) n))) ≡ length (cond b (a ∷ filter p (range_with_len (a + 1) n)) (filter p (range_with_len (a + 1) n))) + 1
    both true e = omega (arith, e)
    both false e = e

-- some number doesn't pass where not all do
one_left : (p : ℕ → Bool) (a n : ℕ) → length (filter p (range_with_len a n)) ≢ n → (k : ℕ) × (a ≤ k) × (k < a + n) × (p k ≡ false)
one_left p a zero h = absurd (h refl)
one_left p a (suc n) h = elim (cases_Bool (p a)) [
  | inl passes ↦
      let later = one_left p (a + 1) n (λ e. h (ap (λ b. length (cond b (a ∷ filter p (range_with_len (a + 1) n)) (filter p (range_with_len (a + 1) n)))) passes ∙ ap suc e)) in
      let l = later.1 in
      let g = later.2 in
      (later.0, omega (arith, l), omega (arith, g), later.3)
  | inr fails ↦ (a, omega arith, omega arith, fails)
]

-- ---- a page of zeros
all_zero : (bytes : List ℕ) → is_zero_page bytes ≡ true → bytes ≡ replicate (length bytes) 0
all_zero [] h = refl
all_zero (x ∷ xs) h =
    let p = and_parts _ _ h in
    ap (λ y. y ∷ xs) (eqb-true x 0 p.0) ∙ ap (λ ys. 0 ∷ ys) (all_zero xs p.1)

pub zero_bytes : (bytes : List ℕ) → length bytes ≡ 4096 → is_zero_page bytes ≡ true → bytes ≡ zeros
unfolding zeros
zero_bytes bytes len h = all_zero bytes h ∙ ap (λ n. replicate n 0) len

-- ---- one page more
module _ (m : Contents) (s p : ℕ) (x : PageState) (hole : page_at m s p ≡ None) where
  added_members : (k : ℕ) → members (put_page m s p x) k ≡ members m k + share_of k x
  added_members k = (let a = total_within-put (share_of k) m.spaces s p x in let b : option_map_or (share_of k) (page_at m s p) 0 ≡ 0 = ap (λ o. option_map_or (share_of k) o 0) hole in omega (arith, a, b))

  added_nonzero : nonzero_pages (plain_of (put_page m s p x)) ≡ nonzero_pages (plain_of m) + frames_for (plain_page x)
  added_nonzero = grind (arith, total_within-put, plain_at, plain_put)

  added_at : (q r : ℕ) (y : PageState) → page_at (put_page m s p x) q r ≡ Some y → ((is_at s p q r ≡ true) × (x ≡ y)) ⊎ (page_at m q r ≡ Some y)
  added_at q r y h = grind (arith, cases_Bool, is_at, value_at-put)

no_share : (k : ℕ) (x : PageState) → x.class ≡ None → share_of k x ≡ 0
no_share k x h = ap (λ o. option_map_or (λ j. cond {A = ℕ} (nat_eq j k) 1 0) o 0) h

-- a page without a class changes no class
pub same_members : (m : Contents) (s p : ℕ) (x : PageState) → page_at m s p ≡ None → x.class ≡ None → (k : ℕ) → members (put_page m s p x) k ≡ members m k
same_members m s p x hole none k = (let a = added_members m s p x hole k in let b = no_share k x none in omega (arith, a, b))

pub same_classes : (m : Contents) (s p : ℕ) (x : PageState) → page_at m s p ≡ None → x.class ≡ None → length (classes (put_page m s p x)) ≡ length (classes m)
same_classes m s p x hole none = same_kept (λ k. nat_lt 0 (members m k)) (λ k. nat_lt 0 (members (put_page m s p x) k)) 0 m.pool (λ k l g. ap (nat_lt 0) (same_members m s p x hole none k))

pub same_full : (m : Contents) (s p : ℕ) (x : PageState) → page_at m s p ≡ None → x.class ≡ None → is_full (put_page m s p x) ≡ is_full m
same_full m s p x hole none = ap (λ n. nat_eq n m.pool) (same_classes m s p x hole none)

more_classes : (m : Contents) (s p : ℕ) (x : PageState) (j : ℕ) → page_at m s p ≡ None → x.class ≡ Some j → members m j ≡ 0 → j < m.pool → length (classes (put_page m s p x)) ≡ length (classes m) + 1
more_classes m s p x j hole class free within = one_kept (λ k. nat_lt 0 (members m k)) (λ k. nat_lt 0 (members (put_page m s p x) k)) 0 m.pool j (omega arith) (omega (arith, within))
    (le-ltb 0 _ (omega (arith, free)))
    (let a = added_members m s p x hole j in let b = one_share j x class in lt-ltb 0 _ (omega (arith, a, b)))
    (λ k apart.
    let a = added_members m s p x hole k in
    let b : share_of k x ≡ 0 = ap (λ o. option_map_or (λ i. cond {A = ℕ} (nat_eq i k) 1 0) o 0) class ∙ other_class j k (λ same. apart (sym same)) in
    let c : members (put_page m s p x) k ≡ members m k = omega (arith, a, b) in
    ap (nat_lt 0) c)

-- the pages so far with one page more
module _ (m : Contents) (s p : ℕ) (page : plain.Page) (begun : IsBegunMemory m) (hole : page_at m s p ≡ None) where
  begun_zero : is_zero_page page.bytes ≡ true → IsBegunMemory (put_page m s p (loaded_page page None))
  begun_zero blank =
      let x = loaded_page page None in
      record {
        begins = λ q r y h. elim (added_at m s p x hole q r y h) [ inl here ↦ (ap (λ (z : PageState). z.soft_dirty) (sym here.1), ap (λ (z : PageState). z.writable) (sym here.1)) | inr there ↦ begun.begins q r y there ];
        zeros = λ q r y h z. elim (added_at m s p x hole q r y h) [ inl here ↦ ap (λ (z : PageState). z.class) (sym here.1) | inr there ↦ begun.zeros q r y there z ];
        alone = λ q r y h z. elim (added_at m s p x hole q r y h) [
          | inl here ↦ absurd (both_ways (is_zero_page y.bytes) z (ap (λ (z : PageState). is_zero_page z.bytes) (sym here.1) ∙ blank))
          | inr there ↦ (
              let a = alone_in m y (begun.alone q r y there z) in
              is_alone_in (put_page m s p x) y a.0 a.1 (same_members m s p x hole refl a.0 ∙ a.2))
        ];
        used =
            let a = same_classes m s p x hole refl in
            let b = added_nonzero m s p x hole in
            let c : frames_for page ≡ 0 = ap (λ b. cond {A = ℕ} b 0 1) blank in
            let d = begun.used in
            omega (arith, a, b, c, d);
      }

  begun_some : (j : ℕ) → is_zero_page page.bytes ≡ false → members m j ≡ 0 → j < m.pool → IsBegunMemory (put_page m s p (loaded_page page (Some j)))
  begun_some j some free within =
      let x = loaded_page page (Some j) in
      record {
        begins = λ q r y h. elim (added_at m s p x hole q r y h) [ inl here ↦ (ap (λ (z : PageState). z.soft_dirty) (sym here.1), ap (λ (z : PageState). z.writable) (sym here.1)) | inr there ↦ begun.begins q r y there ];
        zeros = λ q r y h z. elim (added_at m s p x hole q r y h) [
          | inl here ↦ absurd (both_ways (is_zero_page page.bytes) some (ap (λ (z : PageState). is_zero_page z.bytes) here.1 ∙ z))
          | inr there ↦ begun.zeros q r y there z
        ];
        alone = λ q r y h z. elim (added_at m s p x hole q r y h) [
          | inl here ↦ (
              let a = added_members m s p x hole j in
              let b = one_share j x refl in
              is_alone_in (put_page m s p x) y j (ap (λ (z : PageState). z.class) (sym here.1)) (omega (arith, a, b, free)))
          | inr there ↦ (
              let a = alone_in m y (begun.alone q r y there z) in
              let b = added_members m s p x hole a.0 in
              let one = a.2 in
              let c = other_class j a.0 (λ same. let f : members m j ≡ members m a.0 = ap (members m) same in absurd (omega (arith, f, free, one))) in
              is_alone_in (put_page m s p x) y a.0 a.1 (omega (arith, b, c, one)))
        ];
        used =
            let a = more_classes m s p x j hole refl free within in
            let b = added_nonzero m s p x hole in
            let c : frames_for page ≡ 1 = ap (λ b. cond {A = ℕ} b 0 1) some in
            let d = begun.used in
            omega (arith, a, b, c, d);
      }

  begun_by : (class : Option ℕ) → IsClassFor m page class → IsBegunMemory (put_page m s p (loaded_page page class))
  begun_by None blank = begun_zero blank
  begun_by (Some j) fits = begun_some j fits.0 fits.1 fits.2

  pub begun_next : (new : Contents) → Loads m s p page new → IsBegunMemory new
  begun_next new loads = subst IsBegunMemory (sym loads.2) (begun_by loads.0 loads.1)

-- ---- a frame for a page that has none
pub count_none : (pool : Pool) (k : ℕ) → cell_at pool k ≡ None → count_at pool k ≡ 0
count_none pool k h = ap (λ o. option_map_or (λ (c : Cell). c.count) o 0) h

pub free_room : (pool : Pool) (tables : Nested Entry) (n : ℕ) → IsKept pool tables n → is_full (contents_of pool tables) ≡ false → HasFree pool
free_room pool tables n kept h =
    let left = one_left (λ k. nat_lt 0 (members (contents_of pool tables) k)) 0 pool.size (λ e. both_ways (is_full (contents_of pool tables)) h (eq-eqb _ _ e)) in
    let g = left.2 in
    (left.0, omega (arith, g), unused left.0 (cell_at pool left.0) refl left.3)
  where
    unused : (k : ℕ) (o : Option Cell) → cell_at pool k ≡ o → nat_lt 0 (members (contents_of pool tables) k) ≡ false → cell_at pool k ≡ None
    unused k None e none = e
    unused k (Some c) e none =
        let a = kept.used k c e in
        let b : count_at pool k ≡ c.count = ap (λ o. option_map_or (λ (z : Cell). z.count) o 0) e in
        let d = kept.counts k in
        absurd (both_ways _ none (lt-ltb 0 _ (omega (arith, a, b, d))))

module _ (old new : Pool) (tables : Nested Entry) (n s p : ℕ) (e : Entry) (own : ℕ) (bytes : List ℕ) (kept : IsKept old tables n) (h : value_at tables s p ≡ Some e) (none : e.frame ≡ None) (closed : e.writable ≡ false)
    (free : cell_at old own ≡ None) (within : own < old.size) (sets : SetsCell old new own (Some (record { count = 1; bytes = bytes }))) where
  abbrev given : Entry
  given = record e { frame = Some own }

  given_others : SameOthers old new tables s p
  given_others q r y apart hy = same_frame old new own _ y sets (λ fy. let a = frame_counted old tables n q r y own kept hy fy in let b = count_none old own free in absurd (omega (arith, a, b)))

  pub given_members : members (contents_of old tables) own ≡ 0
  given_members = sym (kept.counts own) ∙ count_none old own free

  given_counts : (k : ℕ) → count_at new k + share_of k (page_of_entry old e) ≡ count_at old k + share_of k (page_of_entry new given)
  given_counts k = grind arith

  given_used : (k : ℕ) (c : Cell) → cell_at new k ≡ Some c → 0 < c.count
  given_used k c hc = grind arith

  pub kept_given : IsKept new (put_at tables s p (record e { frame = Some own })) n
  kept_given =
      let there = entry_there old tables s p e h in
      let k_few : n ≤ 65536 = (let a = kept.mapped in let b = kept.sound.few in omega (arith, a, b)) in
      kept_put old new tables n n s p given (Some (page_of_entry old e)) kept sets.size (alive_at tables s p e h) given_others there
      (kept.sound.numbers s p (page_of_entry old e) there)
      given_counts given_used refl k_few
      (λ k g. let x : own ≡ k = (let y : ◌≡◌ {A = Option ℕ} (Some own) (Some k) = g in cc) in subst (λ j. j < old.size) x within)
      (λ w. absurd (both_ways e.writable closed w))
      (apart_new (contents_of old tables) s p (page_of_entry new given) own refl given_members)

  pub view_given : contents_of new (put_at tables s p (record e { frame = Some own })) ≡ put_page (contents_of old tables) s p (record (page_of_entry old e) { bytes = bytes; class = Some own })
  view_given = view_put old new tables s p sets.size (alive_at tables s p e h) given_others given
      ∙ ap (λ (b : List ℕ). put_page (contents_of old tables) s p (record (page_of_entry old e) { bytes = b; class = Some own })) (ap (λ o. option_map_or (λ (c : Cell). c.bytes) o zeros) sets.here)

-- ---- a page of a snapshot, put in two steps
module _ (m n : Contents) (s p : ℕ) (page : plain.Page) (hole : page_at m s p ≡ None) (added : n ≡ put_page m s p (fresh_page page.prot)) where
  pub loads_zero : page.bytes ≡ zeros → is_zero_page page.bytes ≡ true → Loads m s p page n
  loads_zero same blank = (None, blank, added ∙ ap (λ (b : List ℕ). put_page m s p (record { prot = page.prot; bytes = b; class = None; writable = false; soft_dirty = true })) (sym same))

  pub loads_some : (new : Contents) → is_zero_page page.bytes ≡ false → GivesFrame n s p (fresh_page page.prot) page.bytes new → Loads m s p page new
  loads_some new some gives = grind (arith, same_members, put_twice)
