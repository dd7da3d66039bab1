-- What a call on one slot does to the list of all files.
use Rattle.std.proofs.Common.{zero-add, ◌≡◌, ℕ, ◌+◌, ◌<◌, max, min, Bool, true, not, cond, ◌&&◌, ◌||◌, nat_lt, List, [], length, take, slice_index, slice_set, refl, sym, ◌∙◌, subst, arith}
use Rattle.std.proofs.lemmas.Grind.{common_steps}
use Rattle.std.proofs.lemmas.List.{get_or-set_same, get_or-set_other, get_or-take, length-take}
use Rattle.std.proofs.lemmas.List.FromFn.{get_or-map-range_with_len, length-map-range_with_len}
use Rattle.sd_disk.specs.Contents.{file_at, file_after_write, Torn, Cut, AtSlot}
use Rattle.sd_disk.specs.Events.{mixed, torn_write, torn_cut}

-- one slot gets another file
pub at_slot : (step : List ℕ → List ℕ → Type 0) (files : List (List ℕ)) (slot : ℕ) (file : List ℕ) → slot < length files
    → step (file_at files slot) file → AtSlot slot step files (slice_set files slot file)
at_slot step files slot file known stepped = record {
  count = grind (arith, common_steps);
  here = subst (step (file_at files slot)) (sym (get_or-set_same files slot file [] known)) stepped;
  others = λ other apart. get_or-set_other files slot other file [] apart;
}

-- no slot changes
pub at_slot_same : (step : List ℕ → List ℕ → Type 0) (files : List (List ℕ)) (slot : ℕ)
    → step (file_at files slot) (file_at files slot) → AtSlot slot step files files
at_slot_same step files slot stepped = record { count = refl; here = stepped; others = λ other apart. refl }

pub torn_same : (at n : ℕ) (file : List ℕ) → Torn at n file file
torn_same at n file = record { no_shorter = omega arith; no_longer = omega arith; below = λ i old near. refl; above = λ i old far. refl }

pub cut_same : (n : ℕ) (file : List ℕ) → Cut n file file
cut_same n file = record { no_shorter = omega arith; no_longer = omega arith; below = λ i old near. refl }

pub length_written : (file bytes : List ℕ) (at : ℕ) → length (file_after_write file at bytes) ≡ max (length file) (at + length bytes)
length_written file bytes at = grind (arith, common_steps)

pub torn_written : (file bytes : List ℕ) (at : ℕ) → Torn at (length bytes) file (file_after_write file at bytes)
torn_written file bytes at =
    let size = length_written file bytes at in
    record {
      no_shorter = omega (arith, size);
      no_longer = omega (arith, size);
      below = λ i old near. grind (arith, common_steps);
      above = λ i old far. grind (arith, common_steps);
    }

pub cut_taken : (file : List ℕ) (n : ℕ) → Cut n file (take n file)
cut_taken file n =
    let size = length-take n file in
    record { no_shorter = omega (arith, size); no_longer = omega (arith, size); below = λ i old near. get_or-take n file i 0 near }

pub length_mixed : (count : ℕ) (kept : ℕ → Bool) (file others : List ℕ) → length (mixed count kept file others) ≡ count
length_mixed count kept file others = length-map-range_with_len _ 0 count

pub mixed_at : (count : ℕ) (kept : ℕ → Bool) (file others : List ℕ) (i : ℕ) → i < count
    → slice_index (mixed count kept file others) i ≡ cond (kept i) (slice_index file i) (slice_index others i)
mixed_at count kept file others i near =
    get_or-map-range_with_len (λ k. cond (kept k) (slice_index file k) (slice_index others k)) 0 count i i 0 near (zero-add i)

-- a place that is kept
mixed_kept : (count : ℕ) (kept : ℕ → Bool) (file others : List ℕ) (i : ℕ) → i < count → kept i ≡ true
    → slice_index (mixed count kept file others) i ≡ slice_index file i
mixed_kept count kept file others i near keep = mixed_at count kept file others i near ∙ rw keep refl

pub torn_by_write : (at n : ℕ) (file left : List ℕ) → Torn at n file (torn_write at n file left)
torn_by_write at n file left =
    let size = length_mixed (max (length file) (min (length left) (at + n))) (λ i. nat_lt i (length file) && (nat_lt i at || not (nat_lt i (at + n)))) file left in
    record {
      no_shorter = omega (arith, size);
      no_longer = omega (arith, size);
      below = λ i old near. mixed_kept _ _ file left i (omega arith) (grind arith);
      above = λ i old far. mixed_kept _ _ file left i (omega arith) (grind arith);
    }

pub torn_by_cut : (n : ℕ) (file left : List ℕ) → Cut n file (torn_cut n file left)
torn_by_cut n file left =
    let size = length_mixed (max (min (length file) n) (min (length file) (length left))) (λ i. nat_lt i n) file left in
    record {
      no_shorter = omega (arith, size);
      no_longer = omega (arith, size);
      below = λ i old near. mixed_kept _ _ file left i (omega arith) (grind arith);
    }
