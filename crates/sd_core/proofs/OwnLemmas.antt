-- The slots of a checkpoint: which of them it fills, and where its image is made.
use Rattle.std.proofs.Common.{◌≡◌, ◌⊎◌, ℕ, List, length, Contains, get_or, slice_index_or, Option, Some, None, refl, sym, ◌∙◌, subst, inl, inr}
use Rattle.std.proofs.lemmas.Bool.{cases_lt}
use Rattle.std.proofs.lemmas.List.{get_or_past}
use Rattle.std.proofs.lemmas.Option.{same_Some, slice_get-get_or}
use Rattle.sd_rounds.specs.Dumper.{AreRunning, HasSlot, Running, slot_of}
use Rattle.sd_rounds.specs.Making.{Making}
use Rattle.sd_crash_safety.specs.MergerSteps.{MakesInItsSlot, MakesItInSlot}
use Rattle.sd_crash_safety.specs.Merges.{IsSpared}
use Rattle.sd_core.proofs.WorkLemmas.{own_slot}

-- each place has one of its slots
own_at : (pre_dumps : List ℕ) (dump place : ℕ) → Contains pre_dumps (get_or pre_dumps place dump) ⊎ (get_or pre_dumps place dump ≡ dump)
own_at pre_dumps dump place = elim (cases_lt place (length pre_dumps)) [
  | inl within ↦ inl (
    place,
    within,
    same_Some (slice_index_or pre_dumps place (get_or pre_dumps place dump)) (get_or pre_dumps place dump)
        (sym (slice_get-get_or pre_dumps place (get_or pre_dumps place dump) within) ∙ slice_get-get_or pre_dumps place dump within),
  )
  | inr past ↦ inr (get_or_past pre_dumps place dump past)
]

pub own_has : (running : Running) (place : ℕ) → HasSlot (Some running) (slot_of (record running { opened = place }))
own_has running place = own_at running.pre_dumps running.dump place

-- a slot that it hasn't is spared
pub spared_of : (running : Option Running) (slot : ℕ) → (HasSlot running slot → ⊥) → IsSpared running slot
spared_of None slot none = tt
spared_of (Some running) slot none = λ reserved. none (subst (HasSlot (Some running)) (sym reserved.is) (own_has running reserved.place))

-- its image is made in its slot
pub makes_in : (since : ℕ) (running : Option Running) → AreRunning since running → MakesInItsSlot running
makes_in since None are = tt
makes_in since (Some running) are = by running.image refl
  where
    by : (image : Option Making) → running.image ≡ image → MakesItInSlot running image
    by None making = tt
    by (Some image) making = own_slot since (Some running) running image are refl making
