-- The images of a catalog are those of its places, and rise by serial.
use Rattle.std.proofs.Common.{◌≡◌, ◌⊎◌, ◌<◌, ◌≤◌, ℕ, suc, false, nat_eq, [], ◌∷◌, length, slice_index_or, Option, Some, None, Bool, true, Bor, cond, Contains, refl, sym, ◌∙◌, ap, subst, arith, inl, inr}
use Rattle.std.specs.List.{AllByRecursion, IsDistinct}
use Rattle.std.specs.List.Sorted.{IsNonDecreasingBy}
use Rattle.std.specs.Map.{keys_of}
use Rattle.std.specs.Prelude.{IfSome}
use Rattle.std.proofs.lemmas.Bool.{eqb-true}
use Rattle.std.proofs.lemmas.Cmp.{nat_eq_equiv}
use Rattle.std.proofs.lemmas.List.Elements.{Contains-get_or, recursion_from_All}
use Rattle.std.proofs.lemmas.List.Sorted.{IsNonDecreasingBy-from_sort}
use Rattle.std.proofs.lemmas.Map.Views.{Contains-from_lookup, lookup-from_Contains}
use Rattle.sd_image.proofs.Members.{contains_cases, contains_front, contains_later}
use Rattle.sd_chain.specs.Catalog.{Opened, Places, AreInOrder, Changes, IsNewestChoice, IsSoundCatalog, IsTip, place_of, images, SerialsRise, Names}
use Rattle.sd_chain.proofs.Places.{by_keys}

-- ---- an image stands at a place

entry_step : (k : ℕ) (o : Option Opened) (es : Places) (i : Opened) → (Contains (images es) i → (n : ℕ) × Contains es (n, Some i))
    → Contains (images ((k, o) ∷ es)) i → (n : ℕ) × Contains ((k, o) ∷ es) (n, Some i)
entry_step k None es i rest c = let r = rest c in (r.0, contains_later (k, None) (r.0, Some i) es r.1)
entry_step k (Some j) es i rest c = elim (contains_cases j i (images es) c) [
  | inl e ↦ (k, subst (λ (x : Opened). Contains ((k, Some j) ∷ es) (k, Some x)) (sym e) (contains_front (k, Some j) es))
  | inr d ↦ let r = rest d in (r.0, contains_later (k, Some j) (r.0, Some i) es r.1)
]

entry_of : (es : Places) (i : Opened) → Contains (images es) i → (n : ℕ) × Contains es (n, Some i)
entry_of [] i c = absurd (omega (arith, c.1))
entry_of (e ∷ es) i c = entry_step e.0 e.1 es i (entry_of es i) c

pub open_place : (es : Places) (i : Opened) → AreInOrder es → Contains (images es) i → place_of es i.header.serial ≡ Some (Some i)
open_place es i order c =
    let entry = entry_of es i c in
    let found = lookup-from_Contains nat_eq_equiv entry.0 (Some i) es order.distinct entry.1 in
    subst (λ n. place_of es n ≡ Some (Some i)) (sym (order.own entry.0 i found)) found

open_step : (k : ℕ) (o : Option Opened) (es : Places) (n : ℕ) (i : Opened) → (Contains es (n, Some i) → Contains (images es) i)
    → Contains ((k, o) ∷ es) (n, Some i) → Contains (images ((k, o) ∷ es)) i
open_step k None es n i rest c = elim (contains_cases (k, None) (n, Some i) es c) [
  | inl e ↦ absurd (let no : Some i ≡ None = ap (λ p. p.1) e in cc)
  | inr d ↦ rest d
]
open_step k (Some j) es n i rest c = elim (contains_cases (k, Some j) (n, Some i) es c) [
  | inl e ↦ let some : Some i ≡ Some j = ap (λ p. p.1) e in let is : i ≡ j = cc in subst (λ (x : Opened). Contains (j ∷ images es) x) (sym is) (contains_front j (images es))
  | inr d ↦ contains_later j i (images es) (rest d)
]

pub contains_open : (es : Places) (n : ℕ) (i : Opened) → Contains es (n, Some i) → Contains (images es) i
contains_open [] n i c = absurd (omega (arith, c.1))
contains_open (e ∷ es) n i c = open_step e.0 e.1 es n i (contains_open es n i) c

-- ---- one image a serial

pub same_serial : (es : Places) (a b : Opened) → AreInOrder es → Contains (images es) a → Contains (images es) b → a.header.serial ≡ b.header.serial → a ≡ b
same_serial es a b order ca cb e =
    let pa = open_place es a order ca in
    let pb = subst (λ n. place_of es n ≡ Some (Some b)) (sym e) (open_place es b order cb) in
    let both : Some (Some a) ≡ Some (Some b) = sym pa ∙ pb in
    cc

pub named_once : (es : Places) (number : ℕ) (a b : Opened) → AreInOrder es → Names es number a → Names es number b → a ≡ b
named_once es number a b order na nb =
    let ab = na.greatest b nb.member nb.stands in
    let ba = nb.greatest a na.member na.stands in
    same_serial es a b order na.member nb.member (omega (arith, ab, ba))

-- ---- they rise

abbrev Rise : Places → Type 0
Rise [] = Unit {0}
Rise (e ∷ es) = AllByRecursion (λ (f : ℕ × Option Opened). e.0 < f.0) es × Rise es

abbrev IsOwned : ℕ × Option Opened → Type 0
IsOwned e = (i : Opened) → e.1 ≡ Some i → i.header.serial ≡ e.0

apart : (a b : ℕ) → a ≤ b → nat_eq a b ≡ false → a < b
apart a b le ne = grind arith

all_apart : (a : ℕ) (fs : Places) → ((j : ℕ) (d : ℕ × Option Opened) → j < length fs → a ≤ (slice_index_or fs j d).0)
    → AllByRecursion (λ k. nat_eq a k ≡ false) (keys_of fs) → AllByRecursion (λ (f : ℕ × Option Opened). a < f.0) fs
all_apart a [] above ne = tt
all_apart a (f ∷ fs) above ne = (apart a f.0 (above 0 f (omega arith)) ne.0, all_apart a fs (λ j d l. above (suc j) d (omega arith)) ne.1)

places_rise : (es : Places) → IsNonDecreasingBy (λ (e : ℕ × Option Opened). e.0) es → IsDistinct nat_eq (keys_of es) → Rise es
unfolding IsDistinct
places_rise [] sorted distinct = tt
places_rise (e ∷ es) sorted distinct = (
  all_apart e.0 es (λ j d l. sorted 0 (suc j) d (omega arith) (omega arith)) distinct.0,
  places_rise es (λ i j d le l. sorted (suc i) (suc j) d (omega arith) (omega arith)) distinct.1,
)

above_step : (a k : ℕ) (o : Option Opened) (es : Places) → a < k → IsOwned (k, o) → AllByRecursion (λ (j : Opened). a < j.header.serial) (images es)
    → AllByRecursion (λ (j : Opened). a < j.header.serial) (images ((k, o) ∷ es))
above_step a k o es l own rest = grind arith

images_above : (a : ℕ) (es : Places) → AllByRecursion (λ (f : ℕ × Option Opened). a < f.0) es → AllByRecursion IsOwned es → AllByRecursion (λ (j : Opened). a < j.header.serial) (images es)
images_above a [] above own = tt
images_above a (e ∷ es) above own = above_step a e.0 e.1 es above.0 own.0 (images_above a es above.1 own.1)

rising_step : (k : ℕ) (o : Option Opened) (es : Places) → AllByRecursion (λ (f : ℕ × Option Opened). k < f.0) es → IsOwned (k, o) → AllByRecursion IsOwned es
    → SerialsRise (images es) → SerialsRise (images ((k, o) ∷ es))
rising_step k None es above own owns rest = rest
rising_step k (Some i) es above own owns rest =
    (subst (λ a. AllByRecursion (λ (j : Opened). a < j.header.serial) (images es)) (sym (own i refl)) (images_above k es above owns), rest)

images_rise : (es : Places) → Rise es → AllByRecursion IsOwned es → SerialsRise (images es)
images_rise [] rise own = tt
images_rise (e ∷ es) rise own = rising_step e.0 e.1 es rise.0 own.0 own.1 (images_rise es rise.1 own.1)

owned : (es : Places) → AreInOrder es → (e : ℕ × Option Opened) → Contains es e → IsOwned e
owned es order e c = λ i is.
    order.own e.0 i (lookup-from_Contains nat_eq_equiv e.0 (Some i) es order.distinct (subst (λ (o : Option Opened). Contains es (e.0, o)) is c))

pub rising : (es : Places) → AreInOrder es → SerialsRise (images es)
rising es order =
    images_rise es (places_rise es (IsNonDecreasingBy-from_sort (λ (e : ℕ × Option Opened). e.0) es (by_keys es order.sorted)) order.distinct)
    (recursion_from_All IsOwned es (λ k d l. owned es order (slice_index_or es k d) (Contains-get_or es k d l)))

-- the newest image stands at its serial
pub own_place : (es : Places) (answer : Option (Bor Opened)) → AreInOrder es → IsNewestChoice (images es) answer → IfSome answer (λ i. place_of es i.now.header.serial ≡ Some (Some i.now))
own_place es answer order none = grind (arith, open_place)

-- where one place changes to an image, there are no others than those before and this one
pub no_others : (old new : Places) (i : Opened) → AreInOrder old → AreInOrder new → Changes old new i.header.serial (Some (Some i))
    → (j : Opened) → Contains (images new) j → Contains (images old) j ⊎ (j ≡ i)
no_others old new i was is changes j c = at (nat_eq i.header.serial j.header.serial) (sym (changes j.header.serial) ∙ open_place new j is c)
  where
    at : (same : Bool) → cond same (Some (Some i)) (place_of old j.header.serial) ≡ Some (Some j) → Contains (images old) j ⊎ (j ≡ i)
    at true e = inr (let both : Some (Some i) ≡ Some (Some j) = e in cc)
    at false e = inl (contains_open old j.header.serial j (Contains-from_lookup eqb-true j.header.serial (Some j) old e))

-- ---- what is so of every catalog

tip_once : (es : Places) (a b : Opened) → AreInOrder es → IsTip es a → IsTip es b → a ≡ b
tip_once es a b order ta tb = same_serial es a b order ta.member tb.member (
    elim (ta.greatest b tb.member tb.restored) [
      | inl low ↦ elim (tb.greatest a ta.member ta.restored) [
        | inl high ↦ absurd (omega arith)
        | inr high ↦ absurd (omega (arith, high.0))
      ]
      | inr low ↦ elim (tb.greatest a ta.member ta.restored) [
        | inl high ↦ absurd (omega (arith, low.0))
        | inr high ↦ omega (arith, low.1, high.1)
      ]
    ])

pub is_sound : (es : Places) → AreInOrder es → IsSoundCatalog es
is_sound es order = record {
  order = order;
  rising = rising es order;
  own = λ i c. open_place es i order c;
  member = λ serial i e. contains_open es serial i (Contains-from_lookup eqb-true serial (Some i) es e);
  named_once = λ number i j a b. named_once es number i j order a b;
  newest_once = λ i j a b. tip_once es i j order a b;
}
