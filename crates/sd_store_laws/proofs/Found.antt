-- The slots of a store as it is opened.
use Rattle.std.proofs.Common.{◌≡◌, ℕ, zero, suc, nat_eq, List, [], ◌∷◌, map, Some, Contains, refl, sym, ◌∙◌, ap, subst, inl, inr}
use Rattle.std.specs.List.{AllZip, IsDistinct}
use Rattle.std.proofs.lemmas.Option.{none-some, same_Some}
use Rattle.sd_image.specs.Image.{Image, IsImage, OpenImages}
use Rattle.sd_image.proofs.Members.{contains_cases, contains_front, contains_later, contains_none}
use Rattle.sd_store_laws.specs.Steps.{found_store}
use Rattle.sd_store_laws.specs.Beliefs.{Belief, Closed, Kept, Closing, Opening, image_at}
use Rattle.sd_store_laws.specs.SlotSteps.{IsFoundAs, SlotsAreFound}
use Rattle.sd_store_laws.specs.Store.{jobs}
use Rattle.sd_store_laws.proofs.Cuts.{needed_in}
use Rattle.sd_image.proofs.OneImage.{stands_not_after as other_serials}

abbrev Distinct : List Image → Type 0
Distinct images = IsDistinct nat_eq (map (λ (k : Image). k.header.serial) images)

record Found (contents : List (List ℕ)) (images : List Image) : Type 0 where
  beliefs : List Belief
  files : AllZip IsFoundAs beliefs contents
  kept : (i : Image) → Contains images i → Contains beliefs (Kept i)
  was : (i : Image) → Contains beliefs (Kept i) → Contains images i
  unclosing : (i : Image) → Contains beliefs (Closing i) → ⊥
  unopening : (i : Image) → Contains beliefs (Opening i) → ⊥
  at : (slot : ℕ) (i : Image) → image_at beliefs slot ≡ Some i → Contains images i
  apart : Distinct images → (a b : ℕ) (i j : Image) → image_at beliefs a ≡ Some i → image_at beliefs b ≡ Some j → i.header.serial ≡ j.header.serial → a ≡ b

none_found : Found [] []
none_found = record {
  beliefs = [];
  files = tt;
  kept = λ i c. absurd (contains_none i c);
  was = λ i c. absurd (contains_none (Kept i) c);
  unclosing = λ i c. contains_none (Closing i) c;
  unopening = λ i c. contains_none (Opening i) c;
  at = λ slot i e. absurd (none-some i e);
  apart = λ distinct a b i j p. absurd (none-some i p);
}

module _ (file : List ℕ) (contents : List (List ℕ)) (images : List Image) (rest : Found contents images) where
  -- one closed slot more
  with_closed : IsFoundAs Closed file → Found (file ∷ contents) images
  with_closed shut = record {
    beliefs = Closed ∷ rest.beliefs;
    files = (shut, rest.files);
    kept = λ i c. contains_later Closed (Kept i) rest.beliefs (rest.kept i c);
    was = λ i c. elim (contains_cases Closed (Kept i) rest.beliefs c) [ inl e ↦ absurd cc | inr d ↦ rest.was i d ];
    unclosing = λ i c. elim (contains_cases Closed (Closing i) rest.beliefs c) [ inl e ↦ absurd cc | inr d ↦ rest.unclosing i d ];
    unopening = λ i c. elim (contains_cases Closed (Opening i) rest.beliefs c) [ inl e ↦ absurd cc | inr d ↦ rest.unopening i d ];
    at = at;
    apart = apart;
  }
    where
      at : (slot : ℕ) (i : Image) → image_at (Closed ∷ rest.beliefs) slot ≡ Some i → Contains images i
      at zero i e = absurd (none-some i e)
      at (suc slot) i e = rest.at slot i e

      apart : Distinct images → (a b : ℕ) (i j : Image) → image_at (Closed ∷ rest.beliefs) a ≡ Some i → image_at (Closed ∷ rest.beliefs) b ≡ Some j
          → i.header.serial ≡ j.header.serial → a ≡ b
      apart distinct zero b i j p q e = absurd (none-some i p)
      apart distinct (suc a) zero i j p q e = absurd (none-some j q)
      apart distinct (suc a) (suc b) i j p q e = ap suc (rest.apart distinct a b i j p q e)

  -- one image more
  with_image : (one : Image) → IsImage file one → Found (file ∷ contents) (one ∷ images)
  unfolding IsDistinct
  with_image one is = record {
    beliefs = Kept one ∷ rest.beliefs;
    files = (is, rest.files);
    kept = λ i c. elim (contains_cases one i images c) [
      | inl e ↦ subst (λ (k : Image). Contains (Kept one ∷ rest.beliefs) (Kept k)) (sym e) (contains_front (Kept one) rest.beliefs)
      | inr d ↦ contains_later (Kept one) (Kept i) rest.beliefs (rest.kept i d)
    ];
    was = λ i c. elim (contains_cases (Kept one) (Kept i) rest.beliefs c) [
      | inl e ↦ let same : i ≡ one = cc in subst (Contains (one ∷ images)) (sym same) (contains_front one images)
      | inr d ↦ contains_later one i images (rest.was i d)
    ];
    unclosing = λ i c. elim (contains_cases (Kept one) (Closing i) rest.beliefs c) [ inl e ↦ absurd cc | inr d ↦ rest.unclosing i d ];
    unopening = λ i c. elim (contains_cases (Kept one) (Opening i) rest.beliefs c) [ inl e ↦ absurd cc | inr d ↦ rest.unopening i d ];
    at = at;
    apart = apart;
  }
    where
      at : (slot : ℕ) (i : Image) → image_at (Kept one ∷ rest.beliefs) slot ≡ Some i → Contains (one ∷ images) i
      at zero i e = subst (Contains (one ∷ images)) (same_Some one i e) (contains_front one images)
      at (suc slot) i e = contains_later one i images (rest.at slot i e)

      apart : Distinct (one ∷ images) → (a b : ℕ) (i j : Image) → image_at (Kept one ∷ rest.beliefs) a ≡ Some i → image_at (Kept one ∷ rest.beliefs) b ≡ Some j
          → i.header.serial ≡ j.header.serial → a ≡ b
      apart distinct zero zero i j p q e = refl
      apart distinct zero (suc b) i j p q e =
          absurd (other_serials one.header.serial images j distinct.0 (rest.at b j q) (ap (λ (k : Image). k.header.serial) (same_Some one i p) ∙ e))
      apart distinct (suc a) zero i j p q e =
          absurd (other_serials one.header.serial images i distinct.0 (rest.at a i p) (ap (λ (k : Image). k.header.serial) (same_Some one j q) ∙ sym e))
      apart distinct (suc a) (suc b) i j p q e = ap suc (rest.apart distinct.1 a b i j p q e)

found : (contents : List (List ℕ)) (images : List Image) → OpenImages contents images → Found contents images
found [] images none = subst (Found []) (sym none) none_found
found (file ∷ contents) images (inl shut) = with_closed file contents images (found contents images shut.1) shut.0
found (file ∷ contents) images (inr opens) =
    subst (Found (file ∷ contents)) (sym opens.2) (with_image file contents opens.1 (found contents opens.1 opens.5) opens.0 opens.4)

pub slots_are_found_lem : SlotsAreFound
slots_are_found_lem contents images store =
    let all = found contents images store.slots in (
      all.beliefs,
      all.files,
      record {
        catalog = λ i. (λ c. inl (all.kept i c), λ c. elim c [ inl kept ↦ all.was i kept | inr closing ↦ absurd (all.unclosing i closing) ]);
        needed = λ i n. all.kept i (needed_in images (jobs (found_store images)) i n);
        opening = λ i c. absurd (all.unopening i c);
        dump = tt;
        serials = all.apart store.serials;
      },
    )
