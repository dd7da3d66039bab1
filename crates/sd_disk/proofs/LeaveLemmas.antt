-- What a call does to what a crash may leave of one file, in both directions.
use Rattle.std.proofs.Common.{◌≡◌, ◌⊎◌, ⊎_elim, inl, inr, ℕ, ◌+◌, ◌<◌, ◌≤◌, max, min, Bool, true, false, not, cond, ◌||◌, nat_lt, List, ◌∷◌, length, slice_index, refl, sym, ◌∙◌, arith}
use Rattle.std.proofs.lemmas.Bool.{cases_lt, cases_Bool}
use Rattle.std.proofs.lemmas.Bool.Decides.{nat_tests}
use Rattle.std.proofs.lemmas.Grind.{same_number_lists}
use Rattle.sd_disk.specs.Contents.{Torn, Cut}
use Rattle.sd_disk.specs.Events.{mixed}
use Rattle.sd_disk.specs.Outcomes.{Range, is_touched, Unsynced, Leaves, at_rest, with_write, with_cut}
use Rattle.sd_disk.proofs.StepLemmas.{length_mixed, mixed_at}

-- each place from the least length on may hold any byte
pub record Covers (slot : Unsynced) : Type 0 where
  pub touched : (place : ℕ) → slot.least ≤ place → place < length slot.synced → is_touched slot.touched place ≡ true

pub touched_in : (range : Range) (ranges : List Range) (place : ℕ) → range.from ≤ place → place < range.to → is_touched (range ∷ ranges) place ≡ true
touched_in range ranges place above below = grind (arith, nat_tests)

pub touched_still : (range : Range) (ranges : List Range) (place : ℕ) → is_touched ranges place ≡ true → is_touched (range ∷ ranges) place ≡ true
touched_still range ranges place was = grind (arith, nat_tests)

pub untouched_before : (range : Range) (ranges : List Range) (place : ℕ) → is_touched (range ∷ ranges) place ≡ false → is_touched ranges place ≡ false
untouched_before range ranges place free = grind (arith, nat_tests)

pub untouched_outside : (range : Range) (ranges : List Range) (place : ℕ) → is_touched (range ∷ ranges) place ≡ false
    → (place < range.from) ⊎ (range.to ≤ place)
untouched_outside range ranges place free =
    ⊎_elim inl (λ above. ⊎_elim (λ below. absurd (let in_it = touched_in range ranges place above below in cc)) inr (cases_lt place range.to)) (cases_lt place range.from)

pub untouched_still : (range : Range) (ranges : List Range) (place : ℕ) → is_touched ranges place ≡ false
    → (place < range.from) ⊎ (range.to ≤ place) → is_touched (range ∷ ranges) place ≡ false
untouched_still range ranges place free given = grind arith

pub rest_leaves : (file : List ℕ) → Leaves (at_rest file) file
rest_leaves file = record { no_shorter = omega arith; no_longer = omega arith; untouched = λ place near known free. refl }

-- right after a sync nothing else is left
pub rest_only : (file found : List ℕ) → Leaves (at_rest file) found → found ≡ file
rest_only file found left = grind (arith, same_number_lists)

pub rest_covers : (file : List ℕ) → Covers (at_rest file)
rest_covers file = record { touched = λ place from known. absurd (omega arith) }

pub write_covers : (at n : ℕ) (slot : Unsynced) → Covers slot → Covers (with_write at n slot)
write_covers at n slot covers = record { touched = λ place from known. touched_still (record { from = at; to = at + n }) slot.touched place (covers.touched place from known) }

pub cut_covers : (count n : ℕ) (slot : Unsynced) → slot.least ≤ count → Covers slot → Covers (with_cut count n slot)
cut_covers count n slot least covers = grind arith

-- a write of what was left leaves what the rules allow after it
pub write_leaves : (at n : ℕ) (slot : Unsynced) (old new : List ℕ) → Covers slot → Leaves slot old → Torn at n old new → Leaves (with_write at n slot) new
write_leaves at n slot old new covers left torn = grind arith

pub cut_leaves : (count n : ℕ) (slot : Unsynced) (old new : List ℕ) → slot.least ≤ count → Covers slot → Leaves slot old → Cut n old new
    → Leaves (with_cut count n slot) new
cut_leaves count n slot old new least covers left cut = grind arith

-- what the rules allow after a write was left by a write of something that they allowed before it
pub write_undone : (at n : ℕ) (slot : Unsynced) (new : List ℕ) → slot.least ≤ slot.greatest → Leaves (with_write at n slot) new
    → (old : List ℕ) × Leaves slot old × Torn at n old new
write_undone at n slot new ordered left =
    let count : ℕ = min (length new) slot.greatest in
    let kept : ℕ → Bool = λ i. nat_lt i at || not (nat_lt i (at + n)) in
    let old : List ℕ = mixed count kept new slot.synced in
    let range : Range = record { from = at; to = at + n } in
    let size : length old ≡ count = length_mixed count kept new slot.synced in
    let at_place : (i : ℕ) → i < count → slice_index old i ≡ cond (kept i) (slice_index new i) (slice_index slot.synced i) = mixed_at count kept new slot.synced in (
      old,
      record {
        no_shorter = omega (arith, size, left.no_shorter);
        no_longer = omega (arith, size);
        untouched = λ place near known free.
            let within : place < count = omega (arith, near, size) in
            at_place place within ∙ ⊎_elim
            (λ keep. rw keep (left.untouched place (omega (arith, within)) known (untouched_still range slot.touched place free (kept_outside at n place keep))))
            (λ not_kept. rw not_kept refl)
            (cases_Bool (kept place));
      },
      record {
        no_shorter = omega (arith, size);
        no_longer = omega (arith, size, left.no_longer);
        below = λ i near before. sym (at_place i (omega (arith, near, size)) ∙ rw (below_kept at n i before) refl);
        above = λ i near behind. sym (at_place i (omega (arith, near, size)) ∙ rw (above_kept at n i behind) refl);
      },
    )
  where
    kept_outside : (at n place : ℕ) → (nat_lt place at || not (nat_lt place (at + n))) ≡ true → (place < at) ⊎ (at + n ≤ place)
    kept_outside at n place keep = ⊎_elim inl (λ above. ⊎_elim (λ below. absurd (grind (arith, nat_tests))) inr (cases_lt place (at + n))) (cases_lt place at)

    below_kept : (at n i : ℕ) → i < at → (nat_lt i at || not (nat_lt i (at + n))) ≡ true
    below_kept at n i before = grind (arith, nat_tests)

    above_kept : (at n i : ℕ) → at + n ≤ i → (nat_lt i at || not (nat_lt i (at + n))) ≡ true
    above_kept at n i behind = grind (arith, nat_tests)

pub cut_undone : (count n : ℕ) (slot : Unsynced) (new : List ℕ) → slot.least ≤ slot.greatest → Leaves (with_cut count n slot) new
    → (old : List ℕ) × Leaves slot old × Cut n old new
cut_undone count n slot new ordered left =
    let long : ℕ = max (length new) slot.least in
    let kept : ℕ → Bool = λ i. nat_lt i n in
    let old : List ℕ = mixed long kept new slot.synced in
    let range : Range = record { from = n; to = count } in
    let size : length old ≡ long = length_mixed long kept new slot.synced in
    let at_place : (i : ℕ) → i < long → slice_index old i ≡ cond (kept i) (slice_index new i) (slice_index slot.synced i) = mixed_at long kept new slot.synced in (
      old,
      record {
        no_shorter = omega (arith, size);
        no_longer = omega (arith, size, left.no_longer, ordered);
        untouched = λ place near known free.
            let within : place < long = omega (arith, near, size) in
            at_place place within ∙ ⊎_elim
            (λ below. rw (ltb_holds place n below) (left.untouched place (omega (arith, within, below, left.no_shorter)) known (untouched_still range slot.touched place free (inl below))))
            (λ above. rw (ltb_fails place n above) refl)
            (cases_lt place n);
      },
      record {
        no_shorter = omega (arith, size, left.no_shorter);
        no_longer = omega (arith, size);
        below = λ i near before. sym (at_place i (omega (arith, near, size)) ∙ rw (ltb_holds i n before) refl);
      },
    )
  where
    ltb_holds : (i n : ℕ) → i < n → nat_lt i n ≡ true
    ltb_holds i n below = grind (arith, nat_tests)

    ltb_fails : (i n : ℕ) → n ≤ i → nat_lt i n ≡ false
    ltb_fails i n above = grind (arith, nat_tests)
