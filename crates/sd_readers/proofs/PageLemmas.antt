-- The lines of pages.
use Rattle.std.proofs.Common.{◌≡◌, ◌≤◌, ◌<◌, ◌+◌, ◌*◌, ℕ, zero, suc, Bool, true, false, nat_eq, List, [], ◌∷◌, ◌++◌, map, replicate, Option, Result, OnOk, refl, sym, ◌∙◌, ap, subst, arith, append_assoc, append-nil}
use Rattle.std.specs.Prelude.{filter, slice_range}
use Rattle.std.specs.List.{flat_map, list_all, range_with_len}
use Rattle.std.specs.Io.KnownBytes.{Appends}
use Rattle.std.proofs.lemmas.Bool.{cond-true, cond-false}
use Rattle.std.proofs.lemmas.Grind.{flat_map-append}
use Rattle.sd_areas.specs.Pages.{pages_from}
use Rattle.sd_chain.specs.declared.found.Found.{Found}
use Rattle.sd_chain.specs.declared.found.Found.TheVariants as found
use Rattle.sd_chain.specs.Chains.{found_on}
use Rattle.sd_chain.specs.Store.{bytes_at}
use Rattle.sd_restore.specs.declared.placed_run.PlacedRun.{PlacedRun}
use Rattle.sd_restore.specs.Placed.{PlacedPage, page_of_run, pages_in}
use Rattle.sd_restore.proofs.RunLemmas.{first_pages, none_first, one_more}
use Rattle.sd_restore.proofs.TakeLemmas.{range_of_same}
use Rattle.sd_readers.specs.Texts.{page_text, part_text, pages_text, part_of_run, placed_lines, placed_text}

-- ---- what is printed in two parts

pub same_printed : {T E : Type 0} (result : Result T E) (a b : Option (List ℕ)) (bs cs : List ℕ) → bs ≡ cs → OnOk result (Appends a b bs) → OnOk result (Appends a b cs)
same_printed result a b bs cs e = subst (λ xs. OnOk result (Appends a b xs)) e

-- ---- parts by their numbers

range_last : (a n : ℕ) → range_with_len a (suc n) ≡ range_with_len a n ++ (a + n) ∷ []
range_last a zero = ap (λ k. k ∷ []) (let e : a ≡ a + 0 = omega arith in e)
range_last a (suc n) = ap (λ ks. a ∷ ks) (range_last (a + 1) n ∙ ap (λ k. range_with_len (a + 1) n ++ k ∷ []) (let e : a + 1 + n ≡ a + suc n = omega arith in e))

parts_last : (f : ℕ → List ℕ) (n : ℕ) → flat_map f (range_with_len 0 (suc n)) ≡ flat_map f (range_with_len 0 n) ++ f n
parts_last f n =
    ap (flat_map f) (range_last 0 n) ∙ flat_map-append f (range_with_len 0 n) ((0 + n) ∷ [])
    ∙ ap (λ ys. flat_map f (range_with_len 0 n) ++ ys) (append-nil (f (0 + n)) ∙ ap f (let e : 0 + n ≡ n = omega arith in e))

pub parts_more : (f : ℕ → List ℕ) (n : ℕ) → flat_map f (range_with_len 0 (n + 1)) ≡ flat_map f (range_with_len 0 n) ++ f n
parts_more f n = ap (λ k. flat_map f (range_with_len 0 k)) (let e : n + 1 ≡ suc n = omega arith in e) ∙ parts_last f n

pub same_parts : (f g : ℕ → List ℕ) (n : ℕ) → ((k : ℕ) → k < n → f k ≡ g k) → flat_map f (range_with_len 0 n) ≡ flat_map g (range_with_len 0 n)
same_parts f g zero same = refl
same_parts f g (suc n) same =
    parts_last f n ∙ ap (λ xs. xs ++ f n) (same_parts f g n (λ k less. same k (omega (arith, less))))
    ∙ ap (λ xs. flat_map g (range_with_len 0 n) ++ xs) (same n (omega arith)) ∙ sym (parts_last g n)

no_parts : (n : ℕ) → flat_map (λ (k : ℕ). let none : List ℕ = [] in none) (range_with_len 0 n) ≡ []
no_parts zero = refl
no_parts (suc n) = parts_last (λ k. []) n ∙ append-nil _ ∙ no_parts n

-- ---- pages of a run

found_behind : (there : Found) (b k : ℕ) → found_on (found_on there b) k ≡ found_on there (b + k)
found_behind there b k = grind arith

-- pages that were read are those of the run
pub read_pages_text : (contents : List (List ℕ)) (r : PlacedRun) (behind count first : ℕ) (bytes : List ℕ) → first ≡ r.first + behind
    → ((k : ℕ) → k < count → slice_range bytes (4096 * k) (4096 * k + 4096) ≡ bytes_at contents (found_on (found_on r.there behind) k))
    → pages_text first bytes count ≡ part_of_run contents r behind count
read_pages_text contents r behind count first bytes at read = grind (arith, same_parts, found_behind)

pub first_more : (contents : List (List ℕ)) (r : PlacedRun) (d n : ℕ)
    → flat_map (placed_text contents) (first_pages r (d + n)) ≡ flat_map (placed_text contents) (first_pages r d) ++ part_of_run contents r d n
first_more contents r d zero = ap (λ k. flat_map (placed_text contents) (first_pages r k)) (let e : d + 0 ≡ d = omega arith in e) ∙ sym (append-nil _)
first_more contents r d (suc n) =
    ap (λ k. flat_map (placed_text contents) (first_pages r k)) (let e : d + suc n ≡ suc (d + n) = omega arith in e)
    ∙ ap (flat_map (placed_text contents)) (one_more r (d + n))
    ∙ flat_map-append (placed_text contents) (first_pages r (d + n)) (page_of_run r (d + n) ∷ [])
    ∙ ap (λ xs. flat_map (placed_text contents) (first_pages r (d + n)) ++ xs) (append-nil (placed_text contents (page_of_run r (d + n))))
    ∙ ap (λ xs. xs ++ placed_text contents (page_of_run r (d + n))) (first_more contents r d n)
    ∙ append_assoc (flat_map (placed_text contents) (first_pages r d)) (part_of_run contents r d n) (placed_text contents (page_of_run r (d + n)))
    ∙ ap (λ xs. flat_map (placed_text contents) (first_pages r d) ++ xs) (sym (parts_last (λ k. placed_text contents (page_of_run r (d + k))) n))

pub none_of_run : (contents : List (List ℕ)) (r : PlacedRun) → flat_map (placed_text contents) (first_pages r 0) ≡ []
none_of_run contents r = ap (flat_map (placed_text contents)) (none_first r)

-- ---- pages of a space

keeps_none : (p : PlacedPage → Bool) (f : ℕ → PlacedPage) (xs : List ℕ) → ((x : ℕ) → p (f x) ≡ false) → filter p (map f xs) ≡ []
keeps_none p f [] none = refl
keeps_none p f (x ∷ xs) none = cond-false _ _ _ (none x) ∙ keeps_none p f xs none

keeps_all : (p : PlacedPage → Bool) (f : ℕ → PlacedPage) (xs : List ℕ) → ((x : ℕ) → p (f x) ≡ true) → filter p (map f xs) ≡ map f xs
keeps_all p f [] all = refl
keeps_all p f (x ∷ xs) all = cond-true _ _ _ (all x) ∙ ap (λ ys. f x ∷ ys) (keeps_all p f xs all)

pub lines_apart : (contents : List (List ℕ)) (space : ℕ) (r : PlacedRun) → nat_eq r.space space ≡ false → placed_lines contents space (pages_in r) ≡ []
lines_apart contents space r apart = ap (flat_map (placed_text contents)) (keeps_none (λ (p : PlacedPage). nat_eq p.space space) (page_of_run r) (pages_from 0 r.count) (λ k. apart))

pub lines_within : (contents : List (List ℕ)) (space : ℕ) (r : PlacedRun) → nat_eq r.space space ≡ true → placed_lines contents space (pages_in r) ≡ flat_map (placed_text contents) (pages_in r)
lines_within contents space r within = ap (flat_map (placed_text contents)) (keeps_all (λ (p : PlacedPage). nat_eq p.space space) (page_of_run r) (pages_from 0 r.count) (λ k. within))

-- ---- pages of zeros

zero_part : (address n k : ℕ) → 32 * k + 32 ≤ n → part_text address (replicate n 0) k ≡ []
zero_part address n k fits = cond-true _ _ _ (ap (list_all (λ b. nat_eq b 0)) (range_of_same 0 n (32 * k) 32 fits))

zero_page : (address n : ℕ) → n ≡ 4096 → page_text address (replicate n 0) ≡ []
unfolding page_text
zero_page address n is = same_parts (part_text address (replicate n 0)) (λ k. []) 128 (λ k less. zero_part address n k (omega (arith, is, less))) ∙ no_parts 128

zero_texts : (contents : List (List ℕ)) (p : PlacedPage → Bool) (f : ℕ → PlacedPage) (xs : List ℕ) → ((x : ℕ) → placed_text contents (f x) ≡ []) → flat_map (placed_text contents) (filter p (map f xs)) ≡ []
zero_texts contents p f [] none = refl
zero_texts contents p f (x ∷ xs) none = by (p (f x)) refl (zero_texts contents p f xs none)
  where
    by : (b : Bool) → p (f x) ≡ b → flat_map (placed_text contents) (filter p (map f xs)) ≡ [] → flat_map (placed_text contents) (filter p (map f (x ∷ xs))) ≡ []
    by true e rest = ap (flat_map (placed_text contents)) (cond-true _ _ _ e) ∙ ap (λ ys. ys ++ flat_map (placed_text contents) (filter p (map f xs))) (none x) ∙ rest
    by false e rest = ap (flat_map (placed_text contents)) (cond-false _ _ _ e) ∙ rest

pub lines_of_zeros : (contents : List (List ℕ)) (space : ℕ) (r : PlacedRun) → r.there ≡ found.Zero → placed_lines contents space (pages_in r) ≡ []
lines_of_zeros contents space r zeros = zero_texts contents (λ (p : PlacedPage). nat_eq p.space space) (page_of_run r) (pages_from 0 r.count) (λ k.
    ap (λ there. page_text (4096 * (r.first + k)) (bytes_at contents (found_on there k))) zeros ∙ zero_page (4096 * (r.first + k)) 4096 refl)
