-- Choosing among the images that came so far.
use Rattle.std.proofs.Common.{◌≡◌, ◌≢◌, ◌⊎◌, ◌≤◌, max, ℕ, List, [], ◌∷◌, ◌++◌, Option, Some, None, All, refl, sym, ◌∙◌, subst, arith, inl, inr, Bor}
use Rattle.std.proofs.lemmas.Bool.{cases_lt}
use Rattle.std.proofs.lemmas.List.{append-nil}
use Rattle.std.proofs.lemmas.List.Elements.{Contains-push, Contains-push_cases, Contains-append_left, All-push, All-contains, filter_map-append}
use Rattle.sd_chain.specs.Catalog.{Opened, Places, images, IsDumpOrMerged, IsNotNewer, IsNewestAmong, IsNamedAmong, IsNewestChoice, IsNamedChoice, IsGreatest, number_at_place}

not_after_step : (a b c : Opened) → IsNotNewer a b → IsNotNewer b c → IsNotNewer a c
not_after_step a b c given also = grind arith

order_cases : (a b : Opened) → IsNotNewer a b ⊎ IsNotNewer b a
order_cases a b = grind arith

pub not_after : (a b : Opened) → (IsNotNewer a b → ⊥) → IsNotNewer b a
not_after a b never = elim (order_cases a b) [ inl x ↦ absurd (never x) | inr y ↦ y ]

-- ---- the newest

pub newest_kept : (all : List Opened) (one best : Opened) → IsNewestAmong all best → (IsDumpOrMerged one → IsNotNewer one best) → IsNewestAmong (all ++ one ∷ []) best
newest_kept all one best newest less = record {
  member = Contains-append_left all (one ∷ []) best newest.member;
  restored = newest.restored;
  greatest = λ other among restored. elim (Contains-push_cases all one other among) [
    | inl c ↦ newest.greatest other c restored
    | inr e ↦ subst (λ (f : Opened). IsNotNewer f best) e (less (subst IsDumpOrMerged (sym e) restored))
  ];
}

pub newest_first : (all : List Opened) (one : Opened) → All (λ i. IsDumpOrMerged i → ⊥) all → IsDumpOrMerged one → IsNewestAmong (all ++ one ∷ []) one
newest_first all one none restored = record {
  member = Contains-push all one;
  restored = restored;
  greatest = λ other among is. elim (Contains-push_cases all one other among) [
    | inl c ↦ absurd (All-contains (λ (i : Opened). IsDumpOrMerged i → ⊥) all other none c is)
    | inr e ↦ subst (λ (f : Opened). IsNotNewer f one) e (inr (refl, omega arith))
  ];
}

pub newest_next : (all : List Opened) (one best : Opened) → IsNewestAmong all best → IsDumpOrMerged one → IsNotNewer best one → IsNewestAmong (all ++ one ∷ []) one
newest_next all one best newest restored less = record {
  member = Contains-push all one;
  restored = restored;
  greatest = λ other among is. elim (Contains-push_cases all one other among) [
    | inl c ↦ not_after_step other best one (newest.greatest other c is) less
    | inr e ↦ subst (λ (f : Opened). IsNotNewer f one) e (inr (refl, omega arith))
  ];
}

pub choice_kept : (all : List Opened) (one : Opened) (chosen : Option (Bor Opened)) → IsNewestChoice all chosen → (IsDumpOrMerged one → ⊥) → IsNewestChoice (all ++ one ∷ []) chosen
choice_kept all one None none never = All-push (λ i. IsDumpOrMerged i → ⊥) all one none never
choice_kept all one (Some best) newest never = newest_kept all one best.now newest (λ restored. absurd (never restored))

-- ---- the one that a number names

pub named_kept : (number : ℕ) (all : List Opened) (one best : Opened) → IsNamedAmong all number best
    → (one.header.stands_for ≡ number → one.header.serial ≤ best.header.serial) → IsNamedAmong (all ++ one ∷ []) number best
named_kept number all one best named less = record {
  member = Contains-append_left all (one ∷ []) best named.member;
  stands = named.stands;
  greatest = λ other among is. elim (Contains-push_cases all one other among) [
    | inl c ↦ named.greatest other c is
    | inr e ↦ subst (λ (f : Opened). f.header.serial ≤ best.header.serial) e (less (subst (λ (f : Opened). f.header.stands_for ≡ number) (sym e) is))
  ];
}

pub named_next : (number : ℕ) (all : List Opened) (one best : Opened) → IsNamedAmong all number best → one.header.stands_for ≡ number
    → best.header.serial ≤ one.header.serial → IsNamedAmong (all ++ one ∷ []) number one
named_next number all one best named stands less = record {
  member = Contains-push all one;
  stands = stands;
  greatest = λ other among is. elim (Contains-push_cases all one other among) [
    | inl c ↦ let h = named.greatest other c is in omega (arith, h, less)
    | inr e ↦ subst (λ (f : Opened). f.header.serial ≤ one.header.serial) e (omega arith)
  ];
}

pub named_choice_kept : (number : ℕ) (all : List Opened) (one : Opened) (chosen : Option (Bor Opened)) → IsNamedChoice number all chosen → one.header.stands_for ≢ number → IsNamedChoice number (all ++ one ∷ []) chosen
named_choice_kept number all one None none never = All-push (λ i. i.header.stands_for ≢ number) all one none never
named_choice_kept number all one (Some best) named never = named_kept number all one best.now named (λ is. absurd (never is))

-- ---- images, one place more

pub images_more : (before : Places) (serial : ℕ) (i : Opened) → images (before ++ (serial, Some i) ∷ []) ≡ images before ++ i ∷ []
images_more before serial i = filter_map-append (λ (place : ℕ × Option Opened). place.1) before ((serial, Some i) ∷ [])

pub images_held : (before : Places) (serial : ℕ) → images (before ++ (serial, None) ∷ []) ≡ images before
images_held before serial = filter_map-append (λ (place : ℕ × Option Opened). place.1) before ((serial, None) ∷ []) ∙ append-nil (images before)

-- ---- the greatest number

pub greatest_none : (number : Opened → ℕ) → IsGreatest number 0 []
greatest_none number = record { bound = λ i c. absurd (omega (arith, c.1)); one = inl refl }

greatest_next : (number : Opened → ℕ) (all : List Opened) (one : Opened) (n m : ℕ) → IsGreatest number n all → m ≡ max n (number one) → IsGreatest number m (all ++ one ∷ [])
greatest_next number all one n m was is =
    let least : n ≤ m = omega arith in
    let own : number one ≤ m = omega arith in
    record {
      bound = λ i c. elim (Contains-push_cases all one i c) [
        | inl d ↦ let below = was.bound i d in omega (arith, below, least)
        | inr e ↦ subst (λ (f : Opened). number f ≤ m) e own
      ];
      one = elim (cases_lt n (number one)) [
        | inl less ↦ inr (one, Contains-push all one, omega arith)
        | inr most ↦ elim was.one [
          | inl none ↦ inl (omega (arith, none))
          | inr some ↦ inr (some.0, Contains-append_left all (one ∷ []) some.0 some.1, omega (arith, some.2))
        ]
      ];
    }

pub greatest_more : (number : Opened → ℕ) (before : Places) (serial : ℕ) (place : Option Opened) (n m : ℕ) → IsGreatest number n (images before) → m ≡ max n (number_at_place number place)
    → IsGreatest number m (images (before ++ (serial, place) ∷ []))
greatest_more number before serial None n m was is =
    let same : n ≡ m = omega arith in
    subst (IsGreatest number m) (sym (images_held before serial)) (subst (λ k. IsGreatest number k (images before)) same was)
greatest_more number before serial (Some one) n m was is =
    subst (IsGreatest number m) (sym (images_more before serial one)) (greatest_next number (images before) one n m was is)
