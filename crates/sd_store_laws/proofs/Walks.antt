-- Needed images are those that are reached.
use Rattle.std.proofs.Common.{ℕ, List, refl, sym, subst, inl, inr}
use Rattle.sd_image.specs.Image.{Image}
use Rattle.sd_image.specs.Shows.{IsNamed}
use Rattle.sd_store_laws.specs.Reached.{Reaches, itself, beyond}
use Rattle.sd_store_laws.specs.Needed.{IsCalled, by_tip, by_job, by_parent, IsNeeded, IsReached, NeededIsReached}

-- what is reached reaches on
on : (images : List Image) (j i parent : Image) → IsNamed images j.header.parent parent → Reaches images j i → Reaches images parent i
on images j i parent named (itself) = beyond j parent named itself
on images j i parent named (beyond _ up names reaches) = beyond i up names (on images j up parent named reaches)

-- what a referenced number names is reached
called_reached : (images : List Image) (jobs : List ℕ) (number : ℕ) (i : Image) → IsCalled images jobs number → IsNamed images number i → IsReached images jobs i
called_reached images jobs number i (by_tip _ tip is parent) named =
    inl (tip, is, beyond tip i (subst (λ n. IsNamed images n i) (sym parent) named) itself)
called_reached images jobs number i (by_job _ among) named = inr (number, i, among, named, itself)
called_reached images jobs number i (by_parent _ before j called names parent) named =
    let next = subst (λ n. IsNamed images n i) (sym parent) named in
    elim (called_reached images jobs before j called names) [
      | inl r ↦ inl (r.0, r.1, on images j r.0 i next r.2)
      | inr r ↦ inr (r.0, r.1, r.2, r.3, on images j r.1 i next r.4)
    ]

needed_reached : (images : List Image) (jobs : List ℕ) (i : Image) → IsNeeded images jobs i → IsReached images jobs i
needed_reached images jobs i (inl tip) = inl (i, tip, itself)
needed_reached images jobs i (inr named) = called_reached images jobs named.0 i named.1 named.2

-- what an image reaches is referenced, where its parent number is
pub reaches_called : (images : List Image) (jobs : List ℕ) (i start : Image) → IsNeeded images jobs start → IsCalled images jobs start.header.parent
    → Reaches images i start → IsNeeded images jobs i
reaches_called images jobs i start needed called (itself) = needed
reaches_called images jobs i start needed called (beyond _ up names reaches) =
    reaches_called images jobs i up (inr (start.header.parent, called, names)) (by_parent up.header.parent start.header.parent up called names refl) reaches

reached_needed : (images : List Image) (jobs : List ℕ) (i : Image) → IsReached images jobs i → IsNeeded images jobs i
reached_needed images jobs i (inl r) = reaches_called images jobs i r.0 (inl r.1) (by_tip r.0.header.parent r.0 r.1 refl) r.2
reached_needed images jobs i (inr r) =
    reaches_called images jobs i r.1 (inr (r.0, by_job r.0 r.2, r.3)) (by_parent r.1.header.parent r.0 r.1 (by_job r.0 r.2) r.3 refl) r.4

pub needed_is_reached_lem : NeededIsReached
needed_is_reached_lem images jobs i = (needed_reached images jobs i, reached_needed images jobs i)
