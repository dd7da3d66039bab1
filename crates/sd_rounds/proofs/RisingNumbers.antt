-- Lists of numbers, each above the one before.
use Rattle.std.proofs.Common.{◌≡◌, ℕ, zero, suc, ◌+◌, ◌<◌, ◌≤◌, Bool, true, false, nat_eq, ◌||◌, List, [], ◌∷◌, ◌++◌, refl, sym, ◌∙◌, ap, subst, arith, inl, inr}
use Rattle.std.specs.List.{list_any}
use Rattle.std.proofs.lemmas.Bool.{both_ways, cases_lt, eqb-true, or_left}
use Rattle.std.proofs.lemmas.Bool.Decides.{nat_tests}
use Rattle.std.proofs.lemmas.List.Folds.{list_any-append}
use Rattle.sd_areas.specs.Pages.{is_within, pages_from}

-- numbers from one up to another, rising
abbrev pub Between : ℕ → List ℕ → ℕ → Type 0
Between low [] high = low ≤ high
Between low (x ∷ xs) high = (low ≤ x) × Between (x + 1) xs high

abbrev pub has : ℕ → List ℕ → Bool
has n xs = list_any (λ x. nat_eq x n) xs

pub between_low : (low lower high : ℕ) (xs : List ℕ) → lower ≤ low → Between low xs high → Between lower xs high
between_low low lower high [] le are = omega (arith, le, are)
between_low low lower high (x ∷ xs) le are = (omega (arith, le, are.0), are.1)

pub between_append : (low mid high : ℕ) (xs ys : List ℕ) → Between low xs mid → Between mid ys high → Between low (xs ++ ys) high
between_append low mid high [] ys one other = between_low mid low high ys one other
between_append low mid high (x ∷ xs) ys one other = (one.0, between_append (x + 1) mid high xs ys one.1 other)

pub pages_between : (first count : ℕ) → Between first (pages_from first count) (first + count)
unfolding pages_from
pages_between first zero = omega arith
pages_between first (suc count) = (
  omega arith,
  subst (λ n. Between (first + 1) (pages_from (suc first) count) n) (omega arith)
      (between_low (suc first) (first + 1) (suc first + count) (pages_from (suc first) count) (omega arith) (pages_between (suc first) count)),
)

pub has_append : (n : ℕ) (xs ys : List ℕ) → has n (xs ++ ys) ≡ (has n xs || has n ys)
has_append n xs ys = list_any-append (λ x. nat_eq x n) xs ys

pub has_pages : (first count n : ℕ) → has n (pages_from first count) ≡ is_within first count n
unfolding pages_from
has_pages first zero n = grind (arith, nat_tests)
has_pages first (suc count) n = ap (λ b. nat_eq first n || b) (has_pages (suc first) count n) ∙ grind (arith, nat_tests)

-- what is below all of them isn't among them
none_below : (low high n : ℕ) (xs : List ℕ) → Between low xs high → n < low → has n xs ≡ false
none_below low high n [] are less = refl
none_below low high n (x ∷ xs) are less =
    ap (λ b. b || has n xs) (let f : low ≤ x = are.0 in differ x n (omega arith)) ∙ none_below (x + 1) high n xs are.1 (let f : low ≤ x = are.0 in omega arith)
  where
    differ : (a b : ℕ) → b < a → nat_eq a b ≡ false
    differ a b l = grind (arith, nat_tests)

same_number : (a : ℕ) → nat_eq a a ≡ true
same_number a = grind (arith, nat_tests)

false_or : (a b : Bool) → a ≡ false → (a || b) ≡ b
false_or a b e = grind arith

-- Two such lists with the same members are the same.
pub same_members : (low other high bound : ℕ) (xs ys : List ℕ) → Between low xs high → Between other ys bound → ((n : ℕ) → has n xs ≡ has n ys) → xs ≡ ys
same_members low other high bound [] [] one two same = refl
same_members low other high bound [] (y ∷ ys) one two same =
    absurd (both_ways false refl (same y ∙ or_left (nat_eq y y) (has y ys) (same_number y)))
same_members low other high bound (x ∷ xs) [] one two same =
    absurd (both_ways false refl (sym (same x) ∙ or_left (nat_eq x x) (has x xs) (same_number x)))
same_members low other high bound (x ∷ xs) (y ∷ ys) one two same = by first (same_members (x + 1) (y + 1) high bound xs ys one.1 two.1 (λ n. rest n first))
  where
    least_y : y < x → ⊥
    least_y less = both_ways false refl
        (sym (ap (λ b. b || has y xs) (apart x y less) ∙ none_below (x + 1) high y xs one.1 (omega arith)) ∙ same y ∙ or_left (nat_eq y y) (has y ys) (same_number y))
      where
        apart : (a b : ℕ) → b < a → nat_eq a b ≡ false
        apart a b l = grind (arith, nat_tests)

    least_x : x < y → ⊥
    least_x less = both_ways false refl
        (sym (ap (λ b. b || has x ys) (apart y x less) ∙ none_below (y + 1) bound x ys two.1 (omega arith)) ∙ sym (same x) ∙ or_left (nat_eq x x) (has x xs) (same_number x))
      where
        apart : (a b : ℕ) → b < a → nat_eq a b ≡ false
        apart a b l = grind (arith, nat_tests)

    first : x ≡ y
    first = equal x y least_y least_x
      where
        equal : (a b : ℕ) → (b < a → ⊥) → (a < b → ⊥) → a ≡ b
        equal a b no_more no_less = elim (cases_lt a b) [ inl less ↦ absurd (no_less less) | inr more ↦ elim (cases_lt b a) [ inl less ↦ absurd (no_more less) | inr rest ↦ omega arith ] ]

    rest : (n : ℕ) → x ≡ y → has n xs ≡ has n ys
    rest n e = split (nat_eq x n) refl
      where
        split : (b : Bool) → nat_eq x n ≡ b → has n xs ≡ has n ys
        split true is =
            let f : x ≡ n = eqb-true x n is in
            none_below (x + 1) high n xs one.1 (omega arith) ∙ sym (none_below (y + 1) bound n ys two.1 (omega arith))
        split false is =
            sym (false_or (nat_eq x n) (has n xs) is) ∙ same n ∙ false_or (nat_eq y n) (has n ys) (ap (λ z. nat_eq z n) (sym e) ∙ is)

    by : x ≡ y → xs ≡ ys → x ∷ xs ≡ y ∷ ys
    by e tail = ap (λ z. z ∷ xs) e ∙ ap (λ (l : List ℕ). y ∷ l) tail
