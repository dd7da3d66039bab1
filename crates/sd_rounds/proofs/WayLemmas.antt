-- In which way rising entries have a page.
use Rattle.std.proofs.Common.{◌≡◌, ◌⊎◌, ◌↔◌, ℕ, zero, suc, ◌<◌, Bool, true, false, cond, nat_eq, List, [], ◌∷◌, length, map, Contains, Option, Some, None, refl, sym, ◌∙◌, ap, subst, inl, inr, arith}
use Rattle.std.specs.Prelude.{filter, slice_index_or}
use Rattle.std.proofs.lemmas.Bool.{eqb-true}
use Rattle.std.proofs.lemmas.Bool.Decides.{nat_tests}
use Rattle.sd_image.specs.declared.run.RunKind.{RunKind}
use Rattle.sd_image.specs.Words.{run_kind_number}
use Rattle.sd_pagetable.specs.Order.{is_above}
use Rattle.sd_pagetable.specs.Tracking.{is_page}
use Rattle.sd_image.proofs.Members.{contains_later, contains_none}
use Rattle.sd_writing.specs.Entries.{ImageEntry, Place, has_kind, pages_by, place_of_entry}
use Rattle.sd_rounds.specs.Rises.{EntriesRise, kind_at}
use Rattle.sd_image.proofs.PagePlaces.{kind_number_once as one_number}
use Rattle.sd_rounds.proofs.Clean.{no_some, one_some}
use Rattle.sd_rounds.proofs.Orders.{above_more, apart_page, page_here, page_is}
use Rattle.sd_rounds.proofs.RisesLemmas.{above_apart}

-- ---- one of a list

cons_cases : {X : Type 0} (y x : X) (xs : List X) → Contains (y ∷ xs) x → (y ≡ x) ⊎ Contains xs x
cons_cases {X} y x xs c = by c.0 c.1 c.2
  where
    by : (k : ℕ) → k < length (y ∷ xs) → slice_index_or (y ∷ xs) k x ≡ x → (y ≡ x) ⊎ Contains xs x
    by zero within is = inl is
    by (suc k) within is = inr (k, omega arith, is)

cons_head : {X : Type 0} (y x : X) (xs : List X) → y ≡ x → Contains (y ∷ xs) x
cons_head y x xs e = (0, omega arith, e)

-- ---- the pages of a kind

pages_one : (kind : RunKind) (entry : ImageEntry) (entries : List ImageEntry) (b : Bool) → has_kind kind entry ≡ b
    → pages_by kind (entry ∷ entries) ≡ cond b (entry.place ∷ pages_by kind entries) (pages_by kind entries)
pages_one kind entry entries b e = ap (λ t. map place_of_entry (cond t (entry ∷ filter (has_kind kind) entries) (filter (has_kind kind) entries))) e ∙ by b
  where
    by : (b : Bool) → map place_of_entry (cond b (entry ∷ filter (has_kind kind) entries) (filter (has_kind kind) entries)) ≡ cond b (entry.place ∷ pages_by kind entries) (pages_by kind entries)
    by true = refl
    by false = refl

same_number : (a : ℕ) → nat_eq a a ≡ true
same_number a = grind (arith, nat_tests)

-- a page that entries have is among those of its kind
found : (kind : RunKind) (entries : List ImageEntry) (at : Place) → kind_at entries at ≡ Some kind → Contains (pages_by kind entries) at
found kind [] at e = absurd (no_some kind refl e)
found kind (entry ∷ entries) at e = by (is_page entry.place.0 entry.place.1 at.0 at.1) refl e (found kind entries at)
  where
    later : Contains (pages_by kind entries) at → (b : Bool) → has_kind kind entry ≡ b → Contains (pages_by kind (entry ∷ entries)) at
    later c true is = subst (λ (l : List Place). Contains l at) (sym (pages_one kind entry entries true is)) (contains_later entry.place at (pages_by kind entries) c)
    later c false is = subst (λ (l : List Place). Contains l at) (sym (pages_one kind entry entries false is)) c

    by : (b : Bool) → is_page entry.place.0 entry.place.1 at.0 at.1 ≡ b → cond b (Some entry.kind) (kind_at entries at) ≡ Some kind
        → (kind_at entries at ≡ Some kind → Contains (pages_by kind entries) at) → Contains (pages_by kind (entry ∷ entries)) at
    by true here e rest =
        let same : entry.kind ≡ kind = one_some entry.kind kind refl e in
        let is : has_kind kind entry ≡ true = ap (λ k. nat_eq (run_kind_number k) (run_kind_number kind)) same ∙ same_number (run_kind_number kind) in
        subst (λ (l : List Place). Contains l at) (sym (pages_one kind entry entries true is)) (cons_head entry.place at (pages_by kind entries) (page_is entry.place at here))
    by false here e rest = later (rest e) (has_kind kind entry) refl

-- rising entries have no page twice
not_again : (before at : Place) (entries : List ImageEntry) → EntriesRise (Some before) entries → ((q : Place) → is_above (Some before) q.0 q.1 ≡ true → q ≡ at → ⊥) → kind_at entries at ≡ None
not_again before at [] rising apart = refl
not_again before at (entry ∷ entries) rising apart =
    ap (λ b. cond b (Some entry.kind) (kind_at entries at)) (apart_page entry.place at (apart entry.place rising.0))
    ∙ not_again entry.place at entries rising.1 (λ q above. apart q (above_more (Some before) entry.place q rising.0 above))

one_way : (kind : RunKind) (before : Option Place) (entries : List ImageEntry) (at : Place) → EntriesRise before entries → Contains (pages_by kind entries) at → kind_at entries at ≡ Some kind
one_way kind before [] at rising c = absurd (contains_none at c)
one_way kind before (entry ∷ entries) at rising c = by (has_kind kind entry) refl (one_way kind (Some entry.place) entries at rising.1)
  where
    later : kind_at entries at ≡ Some kind → (b : Bool) → is_page entry.place.0 entry.place.1 at.0 at.1 ≡ b → cond b (Some entry.kind) (kind_at entries at) ≡ Some kind
    later there true is = absurd (no_some kind
        (not_again entry.place at entries rising.1 (λ q above same. above_apart entry.place q above (page_is entry.place at is ∙ sym same))) there)
    later there false is = there

    here : entry.kind ≡ kind → entry.place ≡ at → cond (is_page entry.place.0 entry.place.1 at.0 at.1) (Some entry.kind) (kind_at entries at) ≡ Some kind
    here same place =
        ap (λ b. cond b (Some entry.kind) (kind_at entries at)) (subst (λ (q : Place). is_page entry.place.0 entry.place.1 q.0 q.1 ≡ true) place (page_here entry.place)) ∙ ap Some same

    by : (b : Bool) → has_kind kind entry ≡ b → (Contains (pages_by kind entries) at → kind_at entries at ≡ Some kind)
        → cond (is_page entry.place.0 entry.place.1 at.0 at.1) (Some entry.kind) (kind_at entries at) ≡ Some kind
    by true is rest = elim (cons_cases entry.place at (pages_by kind entries) (subst (λ (l : List Place). Contains l at) (pages_one kind entry entries true is) c)) [
      | inl place ↦ here (one_number entry.kind kind (eqb-true (run_kind_number entry.kind) (run_kind_number kind) is)) place
      | inr tail ↦ later (rest tail) (is_page entry.place.0 entry.place.1 at.0 at.1) refl
    ]
    by false is rest = later (rest (subst (λ (l : List Place). Contains l at) (pages_one kind entry entries false is) c)) (is_page entry.place.0 entry.place.1 at.0 at.1) refl

pub way : (kind : RunKind) (entries : List ImageEntry) (at : Place) → EntriesRise None entries → Contains (pages_by kind entries) at ↔ kind_at entries at ≡ Some kind
way kind entries at rising = (one_way kind None entries at rising, found kind entries at)
