-- The writes of data pages that are out: one more, and one less.
use Rattle.std.proofs.Common.{◌≡◌, ◌≢◌, ◌⊎◌, ℕ, zero, suc, ◌+◌, true, false, if◌then◌else◌, List, [], ◌∷◌, length, Option, Some, None, is_some, slice_get, slice_set, refl, sym, ◌∙◌, ap, subst, inl, inr, arith}
use Rattle.std.specs.Prelude.{MatchOption}
use Rattle.std.proofs.lemmas.Bool.{both_ways}
use Rattle.std.proofs.lemmas.List.Sums.{sum_by-cons}
use Rattle.std.proofs.lemmas.Option.{same_Some}
use Rattle.sd_gate.specs.declared.call.Call.{Call}
use Rattle.sd_gate.specs.declared.call.Call.TheVariants.{Write}
use Rattle.sd_gate.specs.declared.request_id.RequestId.{RequestId}
use Rattle.sd_gate.specs.Sequences.{data_place}
use Rattle.sd_gate.specs.Lanes.{IsInLane, is_any_out}
use Rattle.sd_rounds.specs.Writes.{AreWrites, IsPageWrite, are_all_out, no_writes, writes_out}

-- ---- a list with one element replaced

pub set_count : {X : Type 0} (xs : List X) (at : ℕ) (x : X) → length (slice_set xs at x) ≡ length xs
set_count (y ∷ xs) (suc at) x = ap suc (set_count xs at x)
set_count _ _ x = refl

-- what stands in a place is what was set there, or stood there
pub set_cases : {X : Type 0} (xs : List X) (at other : ℕ) (x one : X) → slice_get (slice_set xs at x) other ≡ Some one
    → ((other ≢ at) × (slice_get xs other ≡ Some one)) ⊎ ((other ≡ at) × (one ≡ x))
set_cases [] at other x one is = absurd (let no : None ≡ Some one = is in cc)
set_cases (y ∷ xs) zero zero x one is = inr (refl, sym (same_Some x one is))
set_cases (y ∷ xs) (suc at) (suc other) x one is = elim (set_cases xs at other x one is) [
  | inl was ↦ inl ((λ same. was.0 (omega (arith, same))), was.1)
  | inr here ↦ inr (ap suc here.0, here.1)
]
set_cases (y ∷ xs) _ _ x one is = inl ((λ same. omega (arith, same)), is)

-- ---- where a write is out

pub all_out : (writes : List (Option RequestId)) → ((lane : ℕ) → slice_get writes lane ≡ Some None → ⊥) → are_all_out writes ≡ true
all_out [] none = refl
all_out (None ∷ writes) none = absurd (none 0 refl)
all_out (Some id ∷ writes) none = all_out writes (λ lane is. none (suc lane) is)

-- a free lane is no full list
pub not_all : (writes : List (Option RequestId)) (lane : ℕ) → slice_get writes lane ≡ Some None → are_all_out writes ≡ false
not_all [] lane is = absurd (let no : None ≡ Some None = is in cc)
not_all (None ∷ writes) lane is = refl
not_all (Some id ∷ writes) zero is = absurd (let no : Some (Some id) ≡ Some None = is in cc)
not_all (Some id ∷ writes) (suc lane) is = not_all writes lane is

-- a lane was found
pub some_lane : (writes : List (Option RequestId)) (found : Option ℕ) → is_some found ≡ true → MatchOption found (are_all_out writes ≡ true) (λ lane. slice_get writes lane ≡ Some None)
    → are_all_out writes ≡ false
some_lane writes found some is = grind (arith, both_ways, not_all)

-- so many lanes without a write
abbrev empty : ℕ → List (Option RequestId)
empty zero = []
empty (suc n) = None ∷ empty n

are_empty : (writes : List (Option RequestId)) → is_any_out writes ≡ false → writes ≡ empty (length writes)
are_empty [] none = refl
are_empty (None ∷ writes) none = ap (λ w. None ∷ w) (are_empty writes none)
are_empty (Some id ∷ writes) none = absurd (both_ways true none refl)

pub no_write : (writes : List (Option RequestId)) → length writes ≡ 8 → is_any_out writes ≡ false → writes ≡ no_writes
no_write writes count none = are_empty writes none ∙ ap empty count

pub none_any : (writes : List (Option RequestId)) → writes ≡ no_writes → is_any_out writes ≡ false
none_any writes is = ap is_any_out is

pub none_count : (writes : List (Option RequestId)) → writes ≡ no_writes → writes_out writes ≡ 0
none_count writes is = ap writes_out is

-- no id is in a lane where no write is out
pub none_at : (writes : List (Option RequestId)) (lane : ℕ) (id : RequestId) → is_any_out writes ≡ false → slice_get writes lane ≡ Some (Some id) → ⊥
none_at [] lane id none is = let no : None ≡ Some (Some id) = is in cc
none_at (None ∷ writes) zero id none is = let no : Some None ≡ Some (Some id) = is in cc
none_at (None ∷ writes) (suc lane) id none is = none_at writes lane id none is
none_at (Some own ∷ writes) lane id none is = both_ways true none refl

pub none_in : (writes : List (Option RequestId)) (id : RequestId) → writes ≡ no_writes → IsInLane writes id → ⊥
none_in writes id is lane = none_at writes lane.lane id (none_any writes is) lane.is

pub out_passing : (writes : List (Option RequestId)) (lane : ℕ) (id : RequestId) → slice_get writes lane ≡ Some (Some id) → writes ≡ no_writes → ⊥
out_passing writes lane id is none = none_in writes id none (record { lane = lane; is = is })

-- ---- one more, and one less

out_cons : (write : Option RequestId) (writes : List (Option RequestId)) → writes_out (write ∷ writes) ≡ (if is_some write then 1 else 0) + writes_out writes
out_cons write writes = sum_by-cons (λ (w : Option RequestId). if is_some w then 1 else 0) write writes

pub put_count : (writes : List (Option RequestId)) (lane : ℕ) (id : RequestId) → slice_get writes lane ≡ Some None → writes_out (slice_set writes lane (Some id)) ≡ writes_out writes + 1
put_count [] lane id is = absurd (let no : None ≡ Some None = is in cc)
put_count (None ∷ writes) zero id is = omega (arith, out_cons (Some id) writes, out_cons None writes)
put_count (None ∷ writes) (suc lane) id is = omega (arith, put_count writes lane id is, out_cons None writes, out_cons None (slice_set writes lane (Some id)))
put_count (Some own ∷ writes) zero id is = absurd (let no : Some (Some own) ≡ Some None = is in cc)
put_count (Some own ∷ writes) (suc lane) id is = omega (arith, put_count writes lane id is, out_cons (Some own) writes, out_cons (Some own) (slice_set writes lane (Some id)))

pub take_count : (writes : List (Option RequestId)) (lane : ℕ) (id : RequestId) → slice_get writes lane ≡ Some (Some id) → writes_out (slice_set writes lane None) + 1 ≡ writes_out writes
take_count [] lane id is = absurd (let no : None ≡ Some (Some id) = is in cc)
take_count (None ∷ writes) zero id is = absurd (let no : Some None ≡ Some (Some id) = is in cc)
take_count (None ∷ writes) (suc lane) id is = omega (arith, take_count writes lane id is, out_cons None writes, out_cons None (slice_set writes lane None))
take_count (Some own ∷ writes) zero id is = omega (arith, out_cons (Some own) writes, out_cons None writes)
take_count (Some own ∷ writes) (suc lane) id is = omega (arith, take_count writes lane id is, out_cons (Some own) writes, out_cons (Some own) (slice_set writes lane None))

-- the call that writes a data page says its number
page_number : (a b : ℕ) → Write (data_place a) ≡ Write (data_place b) → a ≡ b
page_number a b e = omega (arith, place_of _ _ e)
  where
    at_of : Call → ℕ
    at_of (Write at) = at
    at_of call = 0

    place_of : (m n : ℕ) → Write m ≡ Write n → m ≡ n
    place_of m n e = ap at_of e

-- the write of the next data page
pub one_more : (on pages lane : ℕ) (writes : List (Option RequestId)) (id : RequestId) → AreWrites on pages writes → slice_get writes lane ≡ Some None
    → IsPageWrite on (pages + 1) id → id.call ≡ Write (data_place pages) → AreWrites on (pages + 1) (slice_set writes lane (Some id))
one_more on pages lane writes id are free own call = record {
  count = set_count writes lane (Some id) ∙ are.count;
  each = λ other found is. elim (set_cases writes lane other (Some id) (Some found) is) [
    | inl was ↦ later found (are.each other found was.1)
    | inr here ↦ subst (IsPageWrite on (pages + 1)) (sym (same_Some found id here.1)) own
  ];
  apart = λ one other a b first second same. two one other a b same (set_cases writes lane one (Some id) (Some a) first) (set_cases writes lane other (Some id) (Some b) second);
}
  where
    later : (found : RequestId) → IsPageWrite on pages found → IsPageWrite on (pages + 1) found
    later found w = record { worker = w.worker; on = w.on; place = w.place; made = omega (arith, w.made); call = w.call }

    -- a write that is out isn't of that page
    older : (other : ℕ) (b : RequestId) → slice_get writes other ≡ Some (Some b) → b.call ≡ id.call → ⊥
    older other b is same =
        let w = are.each other b is in
        let number : w.place ≡ pages = page_number w.place pages (sym w.call ∙ same ∙ call) in
        omega (arith, w.made, number)

    two : (one other : ℕ) (a b : RequestId) → a.call ≡ b.call → ((one ≢ lane) × (slice_get writes one ≡ Some (Some a))) ⊎ ((one ≡ lane) × (Some a ≡ Some id))
        → ((other ≢ lane) × (slice_get writes other ≡ Some (Some b))) ⊎ ((other ≡ lane) × (Some b ≡ Some id)) → one ≡ other
    two one other a b same (inl first) (inl second) = are.apart one other a b first.1 second.1 same
    two one other a b same (inl first) (inr here) = absurd (older one a first.1 (same ∙ ap (λ (i : RequestId). i.call) (same_Some b id here.1)))
    two one other a b same (inr here) (inl second) = absurd (older other b second.1 (sym same ∙ ap (λ (i : RequestId). i.call) (same_Some a id here.1)))
    two one other a b same (inr here) (inr there) = here.0 ∙ sym there.0

-- one that was done
pub one_less : (on pages lane : ℕ) (writes : List (Option RequestId)) → AreWrites on pages writes → AreWrites on pages (slice_set writes lane None)
one_less on pages lane writes are = record {
  count = set_count writes lane None ∙ are.count;
  each = λ other found is. are.each other found (stays other found is);
  apart = λ one other a b first second same. are.apart one other a b (stays one a first) (stays other b second) same;
}
  where
    stays : (other : ℕ) (found : RequestId) → slice_get (slice_set writes lane None) other ≡ Some (Some found) → slice_get writes other ≡ Some (Some found)
    stays other found is = elim (set_cases writes lane other None (Some found) is) [
      | inl was ↦ was.1
      | inr here ↦ absurd (let no : Some found ≡ None = here.1 in cc)
    ]
