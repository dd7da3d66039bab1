-- A store in which every open slot is an image with a serial of its own has no damage.
use Rattle.std.proofs.Common.{◌≡◌, ℕ, zero, suc, Bool, true, false, nat_eq, List, [], ◌∷◌, ◌++◌, take, Result, Ok, Err, inl, inr, refl, sym, ◌∙◌, ap, subst, arith}
use Rattle.std.specs.List.{list_any, AllByRecursion, IsDistinct}
use Rattle.std.proofs.lemmas.Bool.Decides.{nat_tests}
use Rattle.std.proofs.lemmas.List.{map-append}
use Rattle.std.proofs.lemmas.Bool.{or_from}
use Rattle.sd_disk.specs.Contents.{file_at}
use Rattle.sd_image.specs.declared.reason.Reason.{Reason}
use Rattle.sd_image.specs.Image.{Image, IsImage, OpenImages, is_open}
use Rattle.sd_image.specs.Laws.{OneImage}
use Rattle.sd_image.specs.ReasonLaws.{GoodStoreHasNoReason}
use Rattle.sd_image.specs.Shows.{IsStore}
use Rattle.sd_restore.specs.Faulty.{IsFirstFaulty, IsFirstDouble, IsDamage}
use Rattle.sd_restore.proofs.ScanLemmas.{serials_of}

ok_is_no_error : {A B : Type 0} (a : A) (b : B) (r : Result A B) → r ≡ Ok a → r ≡ Err b → ⊥
ok_is_no_error a b r fine fails = absurd (let e : Ok a ≡ Err b = sym fine ∙ fails in cc)

true_is_not_false : (b : Bool) → b ≡ true → b ≡ false → ⊥
true_is_not_false b t f = absurd (let e : true ≡ false = sym t ∙ f in cc)

no_first_fault : GoodStoreHasNoReason → (contents : List (List ℕ)) (images : List Image) (slot : ℕ) (reason : Reason) → OpenImages contents images
    → IsFirstFaulty contents slot reason → ⊥
no_first_fault good contents images slot reason slots first = grind arith

-- no number of a list without doubles stands before itself
differs : (x : ℕ) (xs : List ℕ) (y : ℕ) (zs : List ℕ) → AllByRecursion (λ k. nat_eq x k ≡ false) (xs ++ y ∷ zs) → nat_eq x y ≡ false
differs x [] y zs all = all.0
differs x (w ∷ xs) y zs all = differs x xs y zs all.1

apart : (x y : ℕ) → nat_eq x y ≡ false → nat_eq y x ≡ false
apart x y e = grind (arith, nat_tests)

stands_once : (xs : List ℕ) (y : ℕ) (zs : List ℕ) → IsDistinct nat_eq (xs ++ y ∷ zs) → list_any (nat_eq y) xs ≡ false
unfolding IsDistinct
stands_once [] y zs distinct = refl
stands_once (x ∷ xs) y zs distinct = or_from (nat_eq y x) (list_any (nat_eq y) xs) (apart x y (differs x xs y zs distinct.0)) (stands_once xs y zs distinct.1)

-- the images of all slots are those of the slots before one, that of this one, and those after it
split_at_slot : OneImage → (contents : List (List ℕ)) (slot : ℕ) (earlier images : List Image) (image : Image) → OpenImages (take slot contents) earlier
    → is_open (file_at contents slot) ≡ true → IsImage (file_at contents slot) image → OpenImages contents images
    → (later : List Image) × (images ≡ earlier ++ image ∷ later)
split_at_slot one [] slot earlier images image before opens is all = absurd (let e : false ≡ true = opens in cc)
split_at_slot one (file ∷ files) zero earlier images image before opens is (inl all) = absurd (true_is_not_false (is_open file) opens all.0)
split_at_slot one (file ∷ files) zero earlier images image before opens is (inr all) =
    (all.1, all.2 ∙ ap (λ i. i ∷ all.1) (one file all.0 image all.4 is) ∙ ap (λ xs. xs ++ image ∷ all.1) (sym before))
split_at_slot one (file ∷ files) (suc slot) earlier images image (inl before) opens is (inl all) = split_at_slot one files slot earlier images image before.1 opens is all.1
split_at_slot one (file ∷ files) (suc slot) earlier images image (inl before) opens is (inr all) = absurd (true_is_not_false (is_open file) all.3 before.0)
split_at_slot one (file ∷ files) (suc slot) earlier images image (inr before) opens is (inl all) = absurd (true_is_not_false (is_open file) before.3 all.0)
split_at_slot one (file ∷ files) (suc slot) earlier images image (inr before) opens is (inr all) =
    let others = split_at_slot one files slot before.1 all.1 image before.5 opens is all.5 in (
      others.0,
      all.2 ∙ ap (λ i. i ∷ all.1) (one file all.0 before.0 all.4 before.4) ∙ ap (λ xs. before.0 ∷ xs) others.1
          ∙ ap (λ xs. xs ++ image ∷ others.0) (sym before.2),
    )

no_double : OneImage → (contents : List (List ℕ)) (images : List Image) (slot : ℕ) → IsStore contents images → IsFirstDouble contents slot → ⊥
no_double one contents images slot store first =
    let parts = split_at_slot one contents slot first.earlier images first.image first.before.slots first.opens first.is store.slots in
    true_is_not_false _ first.double (stands_once (serials_of first.earlier) first.image.header.serial (serials_of parts.0)
    (subst (IsDistinct nat_eq) (ap serials_of parts.1 ∙ map-append (λ (i : Image). i.header.serial) first.earlier (first.image ∷ parts.0)) store.serials))

pub no_damage : GoodStoreHasNoReason → OneImage → (contents : List (List ℕ)) (images : List Image) (slot : ℕ) (reason : Reason) → IsStore contents images
    → IsDamage contents slot reason → ⊥
no_damage good one contents images slot reason store (inl first) = no_first_fault good contents images slot reason store.slots first
no_damage good one contents images slot reason store (inr double) = no_double one contents images slot store double.first
