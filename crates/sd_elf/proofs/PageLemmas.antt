-- The bytes of pages, one after the other.
use Rattle.std.proofs.Common.{◌≡◌, ◌<◌, ◌+◌, ◌*◌, ℕ, zero, suc, Bool, true, false, nat_eq, List, [], ◌∷◌, ◌++◌, map, Result, OnOk, Option, refl, sym, ◌∙◌, ap, subst, arith, append_assoc, append-nil}
use Rattle.std.specs.Prelude.{filter, slice_range}
use Rattle.std.specs.List.{flat_map, range_with_len}
use Rattle.std.specs.Io.KnownBytes.{Appends}
use Rattle.std.proofs.lemmas.Bool.{cond-true, cond-false}
use Rattle.std.proofs.lemmas.Grind.{flat_map-append}
use Rattle.sd_areas.specs.Pages.{pages_from}
use Rattle.sd_chain.specs.declared.found.Found.{Found}
use Rattle.sd_chain.specs.Chains.{found_on}
use Rattle.sd_chain.specs.Store.{bytes_at}
use Rattle.sd_restore.specs.declared.placed_run.PlacedRun.{PlacedRun}
use Rattle.sd_restore.specs.Placed.{PlacedPage, page_of_run, pages_in}
use Rattle.sd_restore.proofs.RunLemmas.{first_pages, none_first, one_more}
use Rattle.sd_elf.specs.Texts.{pages_bytes, placed_bytes, run_part_bytes, space_bytes}
use Rattle.sd_elf.proofs.CoreLemmas.{range_last}

pub same_written : {T E : Type 0} (result : Result T E) (a b : Option (List ℕ)) (bs cs : List ℕ) → bs ≡ cs → OnOk result (Appends a b bs) → OnOk result (Appends a b cs)
same_written result a b bs cs e = subst (λ xs. OnOk result (Appends a b xs)) e

-- ---- parts by their numbers

parts_last : (f : ℕ → List ℕ) (n : ℕ) → flat_map f (range_with_len 0 (suc n)) ≡ flat_map f (range_with_len 0 n) ++ f n
parts_last f n =
    ap (flat_map f) (range_last 0 n) ∙ flat_map-append f (range_with_len 0 n) ((0 + n) ∷ [])
    ∙ ap (λ ys. flat_map f (range_with_len 0 n) ++ ys) (append-nil (f (0 + n)) ∙ ap f (let e : 0 + n ≡ n = omega arith in e))

pub parts_more : (f : ℕ → List ℕ) (n : ℕ) → flat_map f (range_with_len 0 (n + 1)) ≡ flat_map f (range_with_len 0 n) ++ f n
parts_more f n = ap (λ k. flat_map f (range_with_len 0 k)) (let e : n + 1 ≡ suc n = omega arith in e) ∙ parts_last f n

same_parts : (f g : ℕ → List ℕ) (n : ℕ) → ((k : ℕ) → k < n → f k ≡ g k) → flat_map f (range_with_len 0 n) ≡ flat_map g (range_with_len 0 n)
same_parts f g zero same = refl
same_parts f g (suc n) same =
    parts_last f n ∙ ap (λ xs. xs ++ f n) (same_parts f g n (λ k less. same k (omega (arith, less))))
    ∙ ap (λ xs. flat_map g (range_with_len 0 n) ++ xs) (same n (omega arith)) ∙ sym (parts_last g n)

-- ---- pages of a run

found_behind : (there : Found) (b k : ℕ) → found_on (found_on there b) k ≡ found_on there (b + k)
found_behind there b k = grind arith

-- pages that were read are those of the run
pub read_pages_bytes : (contents : List (List ℕ)) (r : PlacedRun) (behind count : ℕ) (bytes : List ℕ)
    → ((k : ℕ) → k < count → slice_range bytes (4096 * k) (4096 * k + 4096) ≡ bytes_at contents (found_on (found_on r.there behind) k))
    → pages_bytes bytes count ≡ run_part_bytes contents r behind count
read_pages_bytes contents r behind count bytes read = grind (arith, same_parts, found_behind)

pub first_more : (contents : List (List ℕ)) (r : PlacedRun) (d n : ℕ)
    → flat_map (placed_bytes contents) (first_pages r (d + n)) ≡ flat_map (placed_bytes contents) (first_pages r d) ++ run_part_bytes contents r d n
first_more contents r d zero = ap (λ k. flat_map (placed_bytes contents) (first_pages r k)) (let e : d + 0 ≡ d = omega arith in e) ∙ sym (append-nil _)
first_more contents r d (suc n) =
    ap (λ k. flat_map (placed_bytes contents) (first_pages r k)) (let e : d + suc n ≡ suc (d + n) = omega arith in e)
    ∙ ap (flat_map (placed_bytes contents)) (one_more r (d + n))
    ∙ flat_map-append (placed_bytes contents) (first_pages r (d + n)) (page_of_run r (d + n) ∷ [])
    ∙ ap (λ xs. flat_map (placed_bytes contents) (first_pages r (d + n)) ++ xs) (append-nil (placed_bytes contents (page_of_run r (d + n))))
    ∙ ap (λ xs. xs ++ placed_bytes contents (page_of_run r (d + n))) (first_more contents r d n)
    ∙ append_assoc (flat_map (placed_bytes contents) (first_pages r d)) (run_part_bytes contents r d n) (placed_bytes contents (page_of_run r (d + n)))
    ∙ ap (λ xs. flat_map (placed_bytes contents) (first_pages r d) ++ xs) (sym (parts_last (λ k. placed_bytes contents (page_of_run r (d + k))) n))

pub none_of_run : (contents : List (List ℕ)) (r : PlacedRun) → flat_map (placed_bytes contents) (first_pages r 0) ≡ []
none_of_run contents r = ap (flat_map (placed_bytes contents)) (none_first r)

-- ---- pages of a space

keeps_none : (p : PlacedPage → Bool) (f : ℕ → PlacedPage) (xs : List ℕ) → ((x : ℕ) → p (f x) ≡ false) → filter p (map f xs) ≡ []
keeps_none p f [] none = refl
keeps_none p f (x ∷ xs) none = cond-false _ _ _ (none x) ∙ keeps_none p f xs none

keeps_all : (p : PlacedPage → Bool) (f : ℕ → PlacedPage) (xs : List ℕ) → ((x : ℕ) → p (f x) ≡ true) → filter p (map f xs) ≡ map f xs
keeps_all p f [] all = refl
keeps_all p f (x ∷ xs) all = cond-true _ _ _ (all x) ∙ ap (λ ys. f x ∷ ys) (keeps_all p f xs all)

pub bytes_apart : (contents : List (List ℕ)) (space : ℕ) (r : PlacedRun) → nat_eq r.space space ≡ false → space_bytes contents space (pages_in r) ≡ []
bytes_apart contents space r apart = ap (flat_map (placed_bytes contents)) (keeps_none (λ (p : PlacedPage). nat_eq p.space space) (page_of_run r) (pages_from 0 r.count) (λ k. apart))

pub bytes_within : (contents : List (List ℕ)) (space : ℕ) (r : PlacedRun) → nat_eq r.space space ≡ true → space_bytes contents space (pages_in r) ≡ flat_map (placed_bytes contents) (pages_in r)
bytes_within contents space r within = ap (flat_map (placed_bytes contents)) (keeps_all (λ (p : PlacedPage). nat_eq p.space space) (page_of_run r) (pages_from 0 r.count) (λ k. within))
