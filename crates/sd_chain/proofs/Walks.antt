-- The walk from an image to its parent, as far as it has come.
use Rattle.std.proofs.Common.{◌≡◌, ◌⊎◌, ◌<◌, ◌≤◌, ℕ, suc, false, nat_eq, List, [], ◌∷◌, ◌++◌, Option, Some, None, MatchOption, Contains, refl, sym, ◌∙◌, ap, subst, inl, inr, Bor, arith}
use Rattle.std.specs.Prelude.{◌↔◌, IfSome, IsNone}
use Rattle.std.specs.List.{AllByRecursion, IsDistinct}
use Rattle.std.proofs.lemmas.Bool.{eqb-true, ne_eqb}
use Rattle.std.proofs.lemmas.List.Elements.{Contains-push, Contains-push_cases, Contains-append_left, All-contains}
use Rattle.std.proofs.lemmas.Map.Views.{Contains-from_lookup}
use Rattle.sd_chain.specs.Catalog.{Opened, Places, AreInOrder, place_of, images, Names}
use Rattle.sd_chain.specs.Reaches.{IsChain, IsPath, ReachesInCatalog, ReachesSerial, ParentsFall}
use Rattle.sd_chain.proofs.Members.{open_place, contains_open, same_serial, named_once}

-- the next image of the walk, if there is one, reaches this
abbrev pub NextReaches : Places → Option (Bor Opened) → Opened → Type 0
NextReaches places next j = MatchOption next ⊥ (λ i. ReachesInCatalog places j i.now)

pub record IsWalk (places : Places) (serial : ℕ) (list : List ℕ) (next : Option (Bor Opened)) : Type 0 where
  pub said : (n : ℕ) → Contains list n → ReachesSerial places serial n
  pub member : IfSome next (λ i. Contains (images places) i.now)
  pub ahead : (j : Opened) → NextReaches places next j → ReachesSerial places serial j.header.serial
  pub left : (n : ℕ) → ReachesSerial places serial n → Contains list n ⊎ ((j : Opened) × NextReaches places next j × (j.header.serial ≡ n))

-- what a look-up by serial gives
abbrev pub IsImageOf : Places → ℕ → Option (Bor Opened) → Type 0
IsImageOf places serial found = MatchOption found
    ((i : Opened) → place_of places serial ≡ Some (Some i) → ⊥)
    (λ i. (place_of places serial ≡ Some (Some i.now)) × (i.now.header.serial ≡ serial))

pub member_of : (places : Places) (serial : ℕ) (i : Opened) → place_of places serial ≡ Some (Some i) → Contains (images places) i
member_of places serial i e = contains_open places serial i (Contains-from_lookup eqb-true serial (Some i) places e)

pub walk_begins : (places : Places) (serial : ℕ) (next : Option (Bor Opened)) → AreInOrder places → IsImageOf places serial next → IsWalk places serial [] next
walk_begins places serial None order none = record {
  said = λ n c. absurd (empty n c);
  member = tt;
  ahead = λ j never. absurd never;
  left = λ n r. absurd (none r.0 (subst (λ k. place_of places k ≡ Some (Some r.0)) r.3 (open_place places r.0 order r.2)));
}
  where
    empty : (n : ℕ) → Contains [] n → ⊥
    empty n c = omega (arith, c.1)
walk_begins places serial (Some i) order found = record {
  said = λ n c. absurd (empty n c);
  member = member_of places serial i.now found.0;
  ahead = λ j r. (i.now, j, member_of places serial i.now found.0, found.1, r, refl);
  left = λ n r.
      let is : r.0 ≡ i.now = same_serial places r.0 i.now order r.2 (member_of places serial i.now found.0) (r.3 ∙ sym found.1) in
      inr (r.1, subst (ReachesInCatalog places r.1) is r.4, r.5);
}
  where
    empty : (n : ℕ) → Contains [] n → ⊥
    empty n c = omega (arith, c.1)

-- what follows an image
pub record IsNext (places : Places) (i : Opened) (next : Option (Bor Opened)) : Type 0 where
  pub named : IfSome next (λ p. Names places i.header.parent p.now)
  pub all : i.header.parent < i.header.stands_for → IsNone next → (p : Opened) → Names places i.header.parent p → ⊥

ahead_more : (places : Places) (serial : ℕ) (i : Opened) (next : Option (Bor Opened)) → IfSome next (λ p. Names places i.header.parent p.now)
    → ((j : Opened) → ReachesInCatalog places j i → ReachesSerial places serial j.header.serial) → (j : Opened) → NextReaches places next j → ReachesSerial places serial j.header.serial
ahead_more places serial i None named was j never = absurd never
ahead_more places serial i (Some p) named was j r = was j (ReachesInCatalog.beyond i p.now named r)

member_more : (places : Places) (i : Opened) (next : Option (Bor Opened)) → IfSome next (λ p. Names places i.header.parent p.now) → IfSome next (λ p. Contains (images places) p.now)
member_more places i next named = grind arith

beyond_next : (places : Places) (i p j : Opened) (next : Option (Bor Opened)) → AreInOrder places → i.header.parent < i.header.stands_for → IsNext places i next
    → Names places i.header.parent p → ReachesInCatalog places j p → NextReaches places next j
beyond_next places i p j None order falls is named r = absurd (is.all falls refl p named)
beyond_next places i p j (Some q) order falls is named r = subst (ReachesInCatalog places j) (named_once places i.header.parent p q.now order named is.named) r

reached_more : (places : Places) (i j : Opened) (next : Option (Bor Opened)) → AreInOrder places → i.header.parent < i.header.stands_for → IsNext places i next
    → ReachesInCatalog places j i → (i ≡ j) ⊎ NextReaches places next j
reached_more places i j next order falls is r = by i r falls is
  where
    by : (k : Opened) → ReachesInCatalog places j k → k.header.parent < k.header.stands_for → IsNext places k next → (k ≡ j) ⊎ NextReaches places next j
    by _ ReachesInCatalog.itself falls is = inl refl
    by _ (ReachesInCatalog.beyond k p named rest) falls is = inr (beyond_next places k p j next order falls is named rest)

pub walk_goes_on : (places : Places) (serial : ℕ) (list : List ℕ) (i : Bor Opened) (next : Option (Bor Opened)) → AreInOrder places → ParentsFall places
    → IsWalk places serial list (Some i) → IsNext places i.now next → IsWalk places serial (list ++ i.now.header.serial ∷ []) next
walk_goes_on places serial list i next order fall walk is = record {
  said = λ n c. elim (Contains-push_cases list i.now.header.serial n c) [
    | inl d ↦ walk.said n d
    | inr e ↦ subst (ReachesSerial places serial) e (walk.ahead i.now ReachesInCatalog.itself)
  ];
  member = member_more places i.now next is.named;
  ahead = ahead_more places serial i.now next is.named walk.ahead;
  left = λ n r. elim (walk.left n r) [
    | inl c ↦ inl (Contains-append_left list (i.now.header.serial ∷ []) n c)
    | inr x ↦ elim (reached_more places i.now x.0 next order (All-contains (λ (k : Opened). k.header.parent < k.header.stands_for) (images places) i.now fall walk.member) is x.1) [
      | inl e ↦ inl (subst (Contains (list ++ i.now.header.serial ∷ [])) (ap (λ (k : Opened). k.header.serial) e ∙ x.2) (Contains-push list i.now.header.serial))
      | inr y ↦ inr (x.0, y, x.2)
    ]
  ];
}

pub walk_ends : (places : Places) (serial : ℕ) (list : List ℕ) → IsWalk places serial list None → (n : ℕ) → Contains list n ↔ ReachesSerial places serial n
walk_ends places serial list walk n = (walk.said n, λ r. elim (walk.left n r) [ inl c ↦ c | inr x ↦ absurd x.1 ])

-- ---- the order of a walk

-- the walk has come from the image of a serial to the next one, or it is whole
abbrev pub IsWayTo : Places → ℕ → List ℕ → Option (Bor Opened) → Type 0
IsWayTo places serial list next = MatchOption next (IsChain places serial list) (λ j. (i : Opened) × (place_of places serial ≡ Some (Some i)) × IsPath places i list j.now)

path_more : (places : Places) (i j p : Opened) (list : List ℕ) → IsPath places i list j → Names places j.header.parent p → IsPath places i (list ++ j.header.serial ∷ []) p
path_more places i j p [] same names =
    (ap (λ (k : Opened). k.header.serial) (sym same), (p, subst (λ (k : Opened). Names places k.header.parent p) (sym same) names, refl))
path_more places i j p (serial ∷ list) path names = (path.0, (path.1.0, path.1.1, path_more places path.1.0 j p list path.1.2 names))

pub way_begins : (places : Places) (serial : ℕ) (next : Option (Bor Opened)) → IsImageOf places serial next → IsWayTo places serial [] next
way_begins places serial next none = grind arith

pub way_goes_on : (places : Places) (serial : ℕ) (list : List ℕ) (i : Bor Opened) (next : Option (Bor Opened)) → i.now.header.parent < i.now.header.stands_for
    → IsWayTo places serial list (Some i) → IsNext places i.now next → IsWayTo places serial (list ++ i.now.header.serial ∷ []) next
way_goes_on places serial list i None falls to is =
    inr (record { first = to.0; there = to.1; last = i.now; front = list; path = to.2; are = refl; ends = is.all falls refl })
way_goes_on places serial list i (Some p) falls to is = (to.0, to.1, path_more places to.0 i.now p.now list to.2 is.named)

-- ---- each serial stands once

-- these are serials of images that stand for numbers below this
abbrev AreBelow : Places → ℕ → List ℕ → Type 0
AreBelow places number = AllByRecursion (λ n. (k : Opened) × Contains (images places) k × (k.header.serial ≡ n) × (k.header.stands_for < number))

below_more : (places : Places) (a b : ℕ) (list : List ℕ) → a ≤ b → AreBelow places a list → AreBelow places b list
below_more places a b [] le all = tt
below_more places a b (n ∷ list) le all = ((all.0.0, all.0.1, all.0.2, (let less = all.0.3 in omega (arith, less, le))), below_more places a b list le all.1)

others : (places : Places) (i : Opened) (number : ℕ) (list : List ℕ) → AreInOrder places → Contains (images places) i → number ≤ i.header.stands_for → AreBelow places number list
    → AllByRecursion (λ n. nat_eq i.header.serial n ≡ false) list
others places i number [] order c le all = tt
others places i number (n ∷ list) order c le all = (
  ne_eqb i.header.serial n (λ same.
      let k = all.0 in
      let is : i ≡ k.0 = same_serial places i k.0 order c k.1 (same ∙ sym k.2) in
      let stands : i.header.stands_for ≡ k.0.header.stands_for = ap (λ (o : Opened). o.header.stands_for) is in
      let less = k.3 in
      omega (arith, le, less, stands)),
  others places i number list order c le all.1,
)

path_once : (places : Places) (i last : Opened) (front : List ℕ) → AreInOrder places → ParentsFall places → Contains (images places) i → IsPath places i front last
    → IsDistinct nat_eq (front ++ last.header.serial ∷ []) × AreBelow places (suc i.header.stands_for) (front ++ last.header.serial ∷ [])
unfolding IsDistinct
path_once places i last [] order fall c is = ((tt, tt), ((i, c, ap (λ (o : Opened). o.header.serial) is, omega arith), tt))
path_once places i last (serial ∷ rest) order fall c path =
    let p = path.1.0 in
    let names = path.1.1 in
    let falls = All-contains (λ (k : Opened). k.header.parent < k.header.stands_for) (images places) i fall c in
    let stands = names.stands in
    let tail = path_once places p last rest order fall names.member path.1.2 in
    let le : suc p.header.stands_for ≤ i.header.stands_for = omega (arith, falls, stands) in (
      (
        subst (λ n. AllByRecursion (λ m. nat_eq n m ≡ false) (rest ++ last.header.serial ∷ [])) (sym path.0)
            (others places i (suc p.header.stands_for) (rest ++ last.header.serial ∷ []) order c le tail.1),
        tail.0,
      ),
      (
        (i, c, sym path.0, omega arith),
        below_more places (suc p.header.stands_for) (suc i.header.stands_for) (rest ++ last.header.serial ∷ []) (omega (arith, le)) tail.1,
      ),
    )

pub chain_once : (places : Places) (serial : ℕ) (list : List ℕ) → AreInOrder places → ParentsFall places → IsChain places serial list → IsDistinct nat_eq list
unfolding IsDistinct
chain_once places serial list order fall given = grind (arith, path_once, member_of)
