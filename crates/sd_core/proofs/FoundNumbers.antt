-- The numbers of a store that was opened are none below those that were used, and none below those of its images.
use Rattle.std.proofs.Common.{◌≡◌, ◌≤◌, ℕ, Some, sym, subst, arith}
use Rattle.std.proofs.Math.Nat.{le-max_left, le-max_right}
use Rattle.sd_chain.specs.Catalog.{IsSoundCatalog, Opened, Places, place_of}
use Rattle.sd_core.specs.Flags.{IsGreatestFound}

pub above_own : {number : Opened → ℕ} {own found : ℕ} {places : Places} → IsGreatestFound number own places found → own ≤ found
above_own {own = own} is = subst (λ k. own ≤ k) (sym is.is) (le-max_left own is.greatest)

pub above_found : {number : Opened → ℕ} {own found : ℕ} {places : Places} → IsSoundCatalog places → IsGreatestFound number own places found → (serial : ℕ) (i : Opened)
    → place_of places serial ≡ Some (Some i) → number i ≤ found
above_found {number = number} {own = own} sound is serial i at =
    let bound = is.is_greatest.bound i (sound.member serial i at) in
    let above = le-max_right own is.greatest in
    subst (λ k. number i ≤ k) (sym is.is) (omega (arith, bound, above))
