-- Two maps, compared entry by entry.
use Rattle.std.proofs.Common.{◌≡◌, Bool, true, false, not, nat_eq, IsTrue, ◌⊎◌, inl, inr, ℕ, suc, List, [], ◌∷◌, length, refl, sym, ◌∙◌, ap, arith}
use Rattle.std.proofs.lemmas.Bool.Decides.{nat_tests}
use Rattle.std.proofs.lemmas.List.{length-map}
use Rattle.std.specs.FinMap as finmap
use Rattle.std.specs.Ordering.{nat_cmp}
use Rattle.sd_audit.proofs.Seen.{Rise, mapped, seen, same_mapped}

-- an answer, by what it says
pub told_apart : {P : Type 0} → (P → ⊥) → (IsTrue false → P) × (P → IsTrue false)
told_apart never = ((λ e. absurd (let f : false ≡ true = e in cc)), λ p. absurd (never p))

pub told_same : {P : Type 0} → P → (IsTrue true → P) × (P → IsTrue true)
told_same p = ((λ _. p), λ _. refl)

-- two numbers that a test distinguishes
pub differ_by_test : (b : Bool) (k q : ℕ) → b ≡ not (nat_eq k q) → b ≡ true → k ≡ q → ⊥
differ_by_test b k q test told e = absurd (grind (arith, nat_tests))

pub told_false : {P : Type 0} (b : Bool) → (P → IsTrue b) → b ≡ false → P → ⊥
told_false b is told p = (let e : b ≡ true = is p in cc)

module _ {X Y : Type 0} (f : X → Y) where
  -- two lists of entries are seen alike just where their rests are
  pub record AreAsRests (ones others rest left : List (ℕ × X)) : Type 0 where
    pub long : length rest ≡ length left
    pub same : mapped f rest ≡ mapped f left → mapped f ones ≡ mapped f others
    pub back : mapped f ones ≡ mapped f others → mapped f rest ≡ mapped f left

  pub at_first : (ones others rest left : List (ℕ × X)) → rest ≡ ones → left ≡ others → length ones ≡ length others → AreAsRests ones others rest left
  at_first ones others rest left e d long = grind arith

  same_parts : (k q : ℕ) (x y : Y) (es fs : List (ℕ × Y)) → (k, x) ∷ es ≡ (q, y) ∷ fs → (k ≡ q) × (x ≡ y) × (es ≡ fs)
  same_parts k q x y es fs e = grind arith

  joined : (k q : ℕ) (x y : Y) (es fs : List (ℕ × Y)) → k ≡ q → x ≡ y → es ≡ fs → (k, x) ∷ es ≡ (q, y) ∷ fs
  joined k q x y es fs e d h = cc

  -- the first entries, where they are alike, are passed
  pub passed : (ones others rest left more further : List (ℕ × X)) (k q : ℕ) (x y : X) → AreAsRests ones others rest left
      → rest ≡ (k, x) ∷ more → left ≡ (q, y) ∷ further → k ≡ q → f x ≡ f y → AreAsRests ones others more further
  passed ones others rest left more further k q x y are e d key value = grind arith

  -- where the first entries differ, so do the maps
  pub differ : (ones others rest left more further : List (ℕ × X)) (k q : ℕ) (x y : X) → AreAsRests ones others rest left
      → rest ≡ (k, x) ∷ more → left ≡ (q, y) ∷ further → Rise ones → Rise others → ((k ≡ q) × (f x ≡ f y) → ⊥) → seen f ones ≡ seen f others → ⊥
  differ ones others rest left more further k q x y are e d rises others_rise apart same = grind (arith, mapped, same_mapped)

  -- lists of other lengths are other maps
  pub differ_in_length : (ones others : List (ℕ × X)) → Rise ones → Rise others → (length ones ≡ length others → ⊥) → seen f ones ≡ seen f others → ⊥
  differ_in_length ones others rises others_rise apart same =
      apart (sym (length-map ones (λ e. (e.0, f e.1))) ∙ ap length (same_mapped f ones others rises others_rise same) ∙ length-map others (λ e. (e.0, f e.1)))

  none_left : (rest left : List (ℕ × X)) → rest ≡ [] → length rest ≡ length left → mapped f rest ≡ mapped f left
  none_left rest [] e long = ap (mapped f) e
  none_left rest (entry ∷ left) e long = absurd (let n : 0 ≡ suc (length left) = sym (ap length e) ∙ long in omega arith)

  -- with nothing left in one of them the maps are the same
  pub same_at_end : (ones others rest left : List (ℕ × X)) → AreAsRests ones others rest left → (rest ≡ []) ⊎ (left ≡ []) → seen f ones ≡ seen f others
  same_at_end ones others rest left are (inl e) = ap (finmap.from_entries {R = nat_cmp}) (are.same (none_left rest left e are.long))
  same_at_end ones others rest left are (inr e) = ap (finmap.from_entries {R = nat_cmp}) (are.same (sym (none_left left rest e (sym are.long))))
