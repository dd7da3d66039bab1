-- What marking adds to marks.
use Rattle.std.proofs.Common.{◌≡◌, ◌⊎◌, ℕ, zero, suc, ◌<◌, ◌≤◌, Bool, true, List, [], ◌∷◌, length, slice_get, slice_set, Option, Some, refl, sym, ◌∙◌, ap, inl, inr, arith}
use Rattle.std.proofs.lemmas.Option.{same_Some, slice_get_within}
use Rattle.sd_rounds.proofs.WriteLemmas.{set_count}
use Rattle.sd_chain.specs.Catalog.{Places}
use Rattle.sd_free_slots.specs.Marks.{IsMarkedSlot, TakesNeeded, TakesSlots}

-- ---- one slot

pub set_here : {X : Type 0} (marks : List X) (at : ℕ) (mark : X) → at < length marks → slice_get (slice_set marks at mark) at ≡ Some mark
set_here [] at mark within = absurd (omega (arith, within))
set_here (m ∷ marks) zero mark within = refl
set_here (m ∷ marks) (suc at) mark within = set_here marks at mark (omega (arith, within))

set_stays : (marks : List Bool) (at slot : ℕ) → IsMarkedSlot marks slot → IsMarkedSlot (slice_set marks at true) slot
set_stays (m ∷ marks) zero zero is = refl
set_stays (m ∷ marks) (suc at) (suc slot) is = set_stays marks at slot is
set_stays _ _ _ is = is

-- what stands in a place is what was set there, or stood there
pub set_cases : {X : Type 0} (marks : List X) (at slot : ℕ) (mark one : X) → slice_get (slice_set marks at mark) slot ≡ Some one
    → (slice_get marks slot ≡ Some one) ⊎ ((at ≡ slot) × (one ≡ mark))
set_cases (m ∷ marks) zero zero mark one is = inr (refl, sym (same_Some mark one is))
set_cases (m ∷ marks) (suc at) (suc slot) mark one is = elim (set_cases marks at slot mark one is) [
  | inl was ↦ inl was
  | inr here ↦ inr (ap suc here.0, here.1)
]
set_cases _ _ _ mark one is = inl is

-- and what stood in another place stays
pub set_keeps : {X : Type 0} (marks : List X) (at slot : ℕ) (mark one : X) → slice_get marks slot ≡ Some one
    → (slice_get (slice_set marks at mark) slot ≡ Some one) ⊎ (at ≡ slot)
set_keeps (m ∷ marks) zero zero mark one is = inr refl
set_keeps (m ∷ marks) (suc at) (suc slot) mark one is = elim (set_keeps marks at slot mark one is) [
  | inl kept ↦ inl kept
  | inr here ↦ inr (ap suc here)
]
set_keeps _ _ _ mark one is = inl is

pub takes_one : (marks new : List Bool) (at : ℕ) → new ≡ slice_set marks at true → TakesSlots (λ slot. at ≡ slot) marks new
takes_one marks new at is = grind (arith, set_count, set_cases, set_stays, set_here)

-- ---- one after the other

pub takes_as : (P Q : ℕ → Type 0) (old new : List Bool) → ((slot : ℕ) → P slot → Q slot) → ((slot : ℕ) → Q slot → P slot) → TakesSlots P old new → TakesSlots Q old new
takes_as P Q old new to from t = grind arith

pub takes_more : (P Q : ℕ → Type 0) (old mid new : List Bool) → TakesSlots P old mid → TakesSlots Q mid new → TakesSlots (λ slot. P slot ⊎ Q slot) old new
takes_more P Q old mid new one two = grind arith

pub needed_as : (places : Places) (P Q : ℕ → Type 0) (old new : List Bool) → ((slot : ℕ) → P slot → Q slot) → ((slot : ℕ) → Q slot → P slot)
    → TakesNeeded places P old new → TakesNeeded places Q old new
needed_as places P Q old new to from t = grind arith

pub needed_more : (places : Places) (P Q : ℕ → Type 0) (old mid new : List Bool) → TakesNeeded places P old mid → TakesNeeded places Q mid new
    → TakesNeeded places (λ slot. P slot ⊎ Q slot) old new
needed_more places P Q old mid new one two = grind arith

-- ---- a list

-- one of the first of these has the slot
pub record IsAmong {X : Type 0} (slot_in : X → Option ℕ) (list : List X) (count slot : ℕ) : Type 0 where
  pub place : ℕ
  pub one : X
  pub early : place < count
  pub there : slice_get list place ≡ Some one
  pub has : slot_in one ≡ Some slot

pub among_more : {X : Type 0} (slot_in : X → Option ℕ) (list : List X) (count next : ℕ) (one : X) (old mid new : List Bool) → next ≡ suc count → slice_get list count ≡ Some one
    → TakesSlots (IsAmong slot_in list count) old mid → TakesSlots (λ slot. slot_in one ≡ Some slot) mid new → TakesSlots (IsAmong slot_in list next) old new
among_more slot_in list count next one old mid new more there was step =
    takes_as (λ slot. IsAmong slot_in list count slot ⊎ (slot_in one ≡ Some slot)) (IsAmong slot_in list next) old new to from
    (takes_more (IsAmong slot_in list count) (λ slot. slot_in one ≡ Some slot) old mid new was step)
  where
    to : (slot : ℕ) → IsAmong slot_in list count slot ⊎ (slot_in one ≡ Some slot) → IsAmong slot_in list next slot
    to slot (inl a) = let early = a.early in record { place = a.place; one = a.one; early = omega (arith, early, more); there = a.there; has = a.has }
    to slot (inr has) = record { place = count; one = one; early = omega (arith, more); there = there; has = has }

    from : (slot : ℕ) → IsAmong slot_in list next slot → IsAmong slot_in list count slot ⊎ (slot_in one ≡ Some slot)
    from slot a = grind arith

-- marking the slot of a place
pub takes_its : {X : Type 0} (slot_in : X → Option ℕ) (one : X) (marks new : List Bool) (at : ℕ) → slot_in one ≡ Some at → new ≡ slice_set marks at true
    → TakesSlots (λ slot. slot_in one ≡ Some slot) marks new
takes_its slot_in one marks new at has is =
    takes_as (λ slot. at ≡ slot) (λ slot. slot_in one ≡ Some slot) marks new (λ slot same. has ∙ ap Some same)
    (λ slot other. same_Some at slot (sym has ∙ other)) (takes_one marks new at is)

-- all of the list
pub record HasOne {X : Type 0} (slot_in : X → Option ℕ) (list : List X) (slot : ℕ) : Type 0 where
  pub place : ℕ
  pub one : X
  pub there : slice_get list place ≡ Some one
  pub has : slot_in one ≡ Some slot

pub among_all : {X : Type 0} (slot_in : X → Option ℕ) (P : ℕ → Type 0) (list : List X) (count : ℕ) (old new : List Bool) → length list ≤ count
    → ((slot : ℕ) → HasOne slot_in list slot → P slot) → ((slot : ℕ) → P slot → HasOne slot_in list slot)
    → TakesSlots (IsAmong slot_in list count) old new → TakesSlots P old new
among_all slot_in P list count old new all to from = grind (arith, takes_as, slice_get_within)
