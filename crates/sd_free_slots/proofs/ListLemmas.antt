-- The list of the images that a merge closes.
use Rattle.std.proofs.Common.{◌≡◌, ◌⊎◌, ℕ, zero, suc, ◌+◌, ◌<◌, ◌≤◌, Bool, true, false, List, [], ◌∷◌, ◌++◌, length, take, replicate, Contains, slice_get, slice_index_or, slice_set, get_or, Option, Some, None, refl, sym, ◌∙◌, ap, subst, inl, inr, arith}
use Rattle.std.proofs.lemmas.List.{length-replicate}
use Rattle.std.proofs.lemmas.Option.{same_Some, slice_get-get_or, slice_get_within}
use Rattle.std.proofs.Math.Nat.{eq-or-lt_of_le}
use Rattle.sd_rounds.proofs.WriteLemmas.{set_count}
use Rattle.sd_image.proofs.Members.{at_contains, contains_at}
use Rattle.sd_chain.specs.Catalog.{Opened, Places, place_of}
use Rattle.sd_chain.specs.Reaches.{ParentsFall}
use Rattle.sd_gate.specs.declared.request_id.RequestId.{RequestId}
use Rattle.sd_merge.specs.declared.retired.Retired.{Retired}
use Rattle.sd_merge.specs.Merger as merger
use Rattle.sd_rounds.specs.Dumper.{Running}
use Rattle.sd_free_slots.specs.Lists.{HasNoted, Notes, StandsInSlot, listed_at, listed_from, noted}
use Rattle.sd_free_slots.specs.Marks.{IsMarkedSlot}
use Rattle.sd_free_slots.specs.Taken.{AreTaken, IsLeftOver, IsListOf, IsNeededAt}
use Rattle.sd_free_slots.proofs.MarkLemmas.{set_cases, set_here, set_keeps}

-- ---- serials by slot

noted_set : (serials : List (Option ℕ)) (at serial : ℕ) → noted (slice_set serials at (Some serial)) ≤ 1 + noted serials
noted_set [] at serial = omega arith
noted_set (None ∷ serials) zero serial = omega arith
noted_set (Some s ∷ serials) zero serial = omega arith
noted_set (None ∷ serials) (suc at) serial = noted_set serials at serial
noted_set (Some s ∷ serials) (suc at) serial = let later = noted_set serials at serial in omega (arith, later)

noted_none : (count : ℕ) → noted (replicate count None) ≡ 0
noted_none zero = refl
noted_none (suc count) = noted_none count

pub some_of : {X : Type 0} (a b : X) → Some (Some a) ≡ Some (Some b) → a ≡ b
some_of a b e = cc

pub notes_one : (places : Places) (serial : ℕ) (image : Opened) (old new : List (Option ℕ)) → place_of places serial ≡ Some (Some image)
    → new ≡ slice_set old image.slot (Some serial) → Notes places (λ own. own ≡ serial) 1 old new
notes_one places serial image old new there is = subst (Notes places (λ own. own ≡ serial) 1 old) (sym is) (record {
  count = set_count old image.slot (Some serial);
  each = λ slot own at. elim (set_cases old image.slot slot (Some serial) (Some own) at) [
    | inl was ↦ inl was
    | inr here ↦ inr (record { is_among = same_Some own serial here.1; image = image; there = ap (place_of places) (same_Some own serial here.1) ∙ there; at = here.0 })
  ];
  kept = λ slot own was. elim (set_keeps old image.slot slot (Some serial) (Some own) was) [
    | inl stays ↦ inl stays
    | inr here ↦ inr (at_its slot here (subst (λ k. k < length old) (sym here) (slice_get_within old slot (Some own) was)))
  ];
  all = λ slot own within s.
      let same = some_of image s.image (sym there ∙ ap (place_of places) (sym s.is_among) ∙ s.there) in
      let at : image.slot ≡ slot = ap (λ (o : Opened). o.slot) same ∙ s.at in
      at_its slot at (subst (λ k. k < length old) (sym at) within);
  few = noted_set old image.slot serial;
})
  where
    at_its : (slot : ℕ) → image.slot ≡ slot → image.slot < length old → HasNoted places (λ own. own ≡ serial) (slice_set old image.slot (Some serial)) slot
    at_its slot at within = record {
      serial = serial;
      noted_is = subst (λ k. slice_get (slice_set old image.slot (Some serial)) k ≡ Some (Some serial)) at (set_here old image.slot (Some serial) within);
      stands = record { is_among = refl; image = image; there = there; at = at };
    }

-- the serial is one of the first of these
pub record IsEarly (before : List ℕ) (count serial : ℕ) : Type 0 where
  pub place : ℕ
  pub early : place < count
  pub there : slice_get before place ≡ Some serial

stands_as : (places : Places) (P Q : ℕ → Type 0) (slot serial : ℕ) → ((own : ℕ) → P own → Q own) → StandsInSlot places P slot serial → StandsInSlot places Q slot serial
stands_as places P Q slot serial to s = record { is_among = to serial s.is_among; image = s.image; there = s.there; at = s.at }

pub notes_more : (places : Places) (before : List ℕ) (count next serial : ℕ) (old mid new : List (Option ℕ)) → next ≡ suc count → slice_get before count ≡ Some serial
    → Notes places (IsEarly before count) count old mid → Notes places (λ own. own ≡ serial) 1 mid new → Notes places (IsEarly before next) next old new
notes_more places before count next serial old mid new more there one two = record {
  count = two.count ∙ one.count;
  each = λ slot own is. elim (two.each slot own is) [
    | inl was ↦ elim (one.each slot own was) [
      | inl was_old ↦ inl was_old
      | inr s ↦ inr (stands_as places (IsEarly before count) (IsEarly before next) slot own early_on s)
    ]
    | inr s ↦ inr (stands_as places (λ o. o ≡ serial) (IsEarly before next) slot own this_one s)
  ];
  kept = λ slot own was. elim (one.kept slot own was) [
    | inl stays ↦ elim (two.kept slot own stays) [
      | inl on ↦ inl on
      | inr its ↦ inr (noted_as (λ o. o ≡ serial) slot this_one its)
    ]
    | inr its ↦ inr (kept_on slot its)
  ];
  all = λ slot own within s. by_place slot own within s (eq-or-lt_of_le (let early = s.is_among.early in let at_most : s.is_among.place ≤ count = omega (arith, early, more) in at_most));
  few = let a = one.few in let b = two.few in omega (arith, a, b, more);
}
  where
    early_on : (own : ℕ) → IsEarly before count own → IsEarly before next own
    early_on own e = let early = e.early in record { place = e.place; early = omega (arith, early, more); there = e.there }

    this_one : (own : ℕ) → own ≡ serial → IsEarly before next own
    this_one own same = record { place = count; early = omega (arith, more); there = there ∙ ap Some (sym same) }

    inside : (slot : ℕ) → slot < length old → slot < length mid
    inside slot within = subst (λ n. slot < n) (sym one.count) within

    noted_as : (P : ℕ → Type 0) (slot : ℕ) → ((own : ℕ) → P own → IsEarly before next own) → HasNoted places P new slot → HasNoted places (IsEarly before next) new slot
    noted_as P slot to h = record { serial = h.serial; noted_is = h.noted_is; stands = stands_as places P (IsEarly before next) slot h.serial to h.stands }

    -- what was noted before stays, or the new one took its place
    kept_on : (slot : ℕ) → HasNoted places (IsEarly before count) mid slot → HasNoted places (IsEarly before next) new slot
    kept_on slot h = grind arith

    by_place : (slot own : ℕ) → slot < length old → (s : StandsInSlot places (IsEarly before next) slot own) → (s.is_among.place ≡ count) ⊎ (s.is_among.place < count)
        → HasNoted places (IsEarly before next) new slot
    by_place slot own within s (inl same) = noted_as (λ o. o ≡ serial) slot this_one (two.all slot own (inside slot within)
        (record { is_among = same_Some own serial (sym s.is_among.there ∙ ap (slice_get before) same ∙ there); image = s.image; there = s.there; at = s.at }))
    by_place slot own within s (inr early) = kept_on slot (one.all slot own within
        (record { is_among = record { place = s.is_among.place; early = early; there = s.is_among.there }; image = s.image; there = s.there; at = s.at }))

pub notes_all : (places : Places) (before : List ℕ) (count : ℕ) (old new : List (Option ℕ)) → length before ≡ count → Notes places (IsEarly before count) count old new
    → Notes places (Contains before) (length before) old new
notes_all places before count old new all n = record {
  count = n.count;
  each = λ slot own is. elim (n.each slot own is) [
    | inl was ↦ inl was
    | inr s ↦ inr (stands_as places (IsEarly before count) (Contains before) slot own to s)
  ];
  kept = λ slot own was. elim (n.kept slot own was) [
    | inl stays ↦ inl stays
    | inr h ↦ inr (noted_as slot h)
  ];
  all = λ slot own within s. noted_as slot (n.all slot own within (stands_as places (Contains before) (IsEarly before count) slot own from s));
  few = let few = n.few in omega (arith, few, all);
}
  where
    to : (own : ℕ) → IsEarly before count own → Contains before own
    to own e = contains_at before e.place own e.there

    from : (own : ℕ) → Contains before own → IsEarly before count own
    from own c = record { place = c.0; early = subst (λ k. c.0 < k) all c.1; there = at_contains before own c }

    noted_as : (slot : ℕ) → HasNoted places (IsEarly before count) new slot → HasNoted places (Contains before) new slot
    noted_as slot h = record { serial = h.serial; noted_is = h.noted_is; stands = stands_as places (IsEarly before count) (Contains before) slot h.serial to h.stands }

-- ---- the list

pub listed_more : (first : ℕ) (marks : List Bool) (serials : List (Option ℕ)) (i : ℕ) (m : Bool) (s : Option ℕ) → i < length marks → i < length serials
    → listed_from first (take (suc i) marks) (take (suc i) serials)
    ≡ listed_from first (take i marks) (take i serials) ++ listed_at (first + i) (slice_index_or marks i m) (slice_index_or serials i s)
listed_more first [] serials i m s within inside = absurd (omega (arith, within))
listed_more first (t ∷ marks) [] i m s within inside = absurd (omega (arith, inside))
listed_more first (t ∷ marks) (o ∷ serials) zero m s within inside =
    ap (λ n. listed_at n t o ++ []) (let here : first ≡ first + 0 = omega arith in here) ∙ append_none (listed_at (first + 0) t o)
  where
    append_none : (l : List Retired) → l ++ [] ≡ l
    append_none [] = refl
    append_none (x ∷ l) = ap (λ rest. x ∷ rest) (append_none l)
listed_more first (t ∷ marks) (o ∷ serials) (suc i) m s within inside =
    ap (λ rest. listed_at first t o ++ rest) (listed_more (first + 1) marks serials i m s (omega (arith, within)) (omega (arith, inside)))
    ∙ ap (λ n. listed_at first t o ++ (listed_from (first + 1) (take i marks) (take i serials) ++ listed_at n (slice_index_or marks i m) (slice_index_or serials i s)))
    (let on : first + 1 + i ≡ first + suc i = omega arith in on)
    ∙ sym (append_three (listed_at first t o) (listed_from (first + 1) (take i marks) (take i serials)) (listed_at (first + suc i) (slice_index_or marks i m) (slice_index_or serials i s)))
  where
    append_three : (a b c : List Retired) → (a ++ b) ++ c ≡ a ++ (b ++ c)
    append_three [] b c = refl
    append_three (x ∷ a) b c = ap (λ rest. x ∷ rest) (append_three a b c)

-- where an image of the list comes from
pub record ComesFrom (first : ℕ) (marks : List Bool) (serials : List (Option ℕ)) (one : Retired) : Type 0 where
  pub at : ℕ
  pub slot : one.slot ≡ first + at
  pub unmarked : slice_get marks at ≡ Some false
  pub serial : slice_get serials at ≡ Some (Some one.serial)

comes_later : (first : ℕ) (t : Bool) (o : Option ℕ) (marks : List Bool) (serials : List (Option ℕ)) (one : Retired) → ComesFrom (first + 1) marks serials one
    → ComesFrom first (t ∷ marks) (o ∷ serials) one
comes_later first t o marks serials one c = let slot = c.slot in record { at = suc c.at; slot = omega (arith, slot); unmarked = c.unmarked; serial = c.serial }

pub comes_from : (first : ℕ) (marks : List Bool) (serials : List (Option ℕ)) (place : ℕ) (one : Retired) → slice_get (listed_from first marks serials) place ≡ Some one
    → ComesFrom first marks serials one
comes_from first [] serials place one is = absurd (let no : None ≡ Some one = is in cc)
comes_from first (t ∷ marks) [] place one is = absurd (let no : None ≡ Some one = is in cc)
comes_from first (true ∷ marks) (o ∷ serials) place one is = comes_later first true o marks serials one (comes_from (first + 1) marks serials place one is)
comes_from first (false ∷ marks) (None ∷ serials) place one is = comes_later first false None marks serials one (comes_from (first + 1) marks serials place one is)
comes_from first (false ∷ marks) (Some serial ∷ serials) zero one is =
    let same = same_Some (record { serial = serial; slot = first }) one is in
    record { at = zero; slot = sym (ap (λ (r : Retired). r.slot) same) ∙ (let here : first ≡ first + 0 = omega arith in here); unmarked = refl; serial = ap (λ (r : Retired). Some (Some r.serial)) same }
comes_from first (false ∷ marks) (Some serial ∷ serials) (suc place) one is =
    comes_later first false (Some serial) marks serials one (comes_from (first + 1) marks serials place one is)

-- an unmarked slot with a serial is listed
pub is_listed : (first : ℕ) (marks : List Bool) (serials : List (Option ℕ)) (at slot serial : ℕ) → slot ≡ first + at → slice_get marks at ≡ Some false
    → slice_get serials at ≡ Some (Some serial) → (place : ℕ) × (slice_get (listed_from first marks serials) place ≡ Some (record { serial = serial; slot = slot }))
is_listed first [] serials at slot serial is unmarked has = absurd (let no : None ≡ Some false = unmarked in cc)
is_listed first (t ∷ marks) [] at slot serial is unmarked has = absurd (let no : None ≡ Some (Some serial) = has in cc)
is_listed first (true ∷ marks) (o ∷ serials) zero slot serial is unmarked has = absurd (let no : Some true ≡ Some false = unmarked in cc)
is_listed first (false ∷ marks) (None ∷ serials) zero slot serial is unmarked has = absurd (let no : Some None ≡ Some (Some serial) = has in cc)
is_listed first (false ∷ marks) (Some s ∷ serials) zero slot serial is unmarked has =
    (zero, ap Some (ap (λ n. record { serial = n; slot = first }) (some_of s serial has) ∙ ap (λ n. record { serial = serial; slot = n }) (let here : first ≡ slot = omega (arith, is) in here)))
is_listed first (true ∷ marks) (o ∷ serials) (suc at) slot serial is unmarked has = is_listed (first + 1) marks serials at slot serial (omega (arith, is)) unmarked has
is_listed first (false ∷ marks) (None ∷ serials) (suc at) slot serial is unmarked has = is_listed (first + 1) marks serials at slot serial (omega (arith, is)) unmarked has
is_listed first (false ∷ marks) (Some s ∷ serials) (suc at) slot serial is unmarked has =
    let later = is_listed (first + 1) marks serials at slot serial (omega (arith, is)) unmarked has in
    (suc later.0, later.1)

pub listed_rises : (first : ℕ) (marks : List Bool) (serials : List (Option ℕ)) (place other : ℕ) (a b : Retired) → place < other
    → slice_get (listed_from first marks serials) place ≡ Some a → slice_get (listed_from first marks serials) other ≡ Some b → a.slot < b.slot
listed_rises first [] serials place other a b below is at = absurd (let no : None ≡ Some a = is in cc)
listed_rises first (t ∷ marks) [] place other a b below is at = absurd (let no : None ≡ Some a = is in cc)
listed_rises first (true ∷ marks) (o ∷ serials) place other a b below is at = listed_rises (first + 1) marks serials place other a b below is at
listed_rises first (false ∷ marks) (None ∷ serials) place other a b below is at = listed_rises (first + 1) marks serials place other a b below is at
listed_rises first (false ∷ marks) (Some s ∷ serials) place zero a b below is at = absurd (omega (arith, below))
listed_rises first (false ∷ marks) (Some s ∷ serials) zero (suc other) a b below is at =
    let here = ap (λ (r : Retired). r.slot) (same_Some (record { serial = s; slot = first }) a is) in
    let later = (comes_from (first + 1) marks serials other b at).slot in
    omega (arith, here, later)
listed_rises first (false ∷ marks) (Some s ∷ serials) (suc place) (suc other) a b below is at =
    listed_rises (first + 1) marks serials place other a b (omega (arith, below)) is at

pub listed_few : (first : ℕ) (marks : List Bool) (serials : List (Option ℕ)) → length (listed_from first marks serials) ≤ noted serials
listed_few first [] serials = omega arith
listed_few first (t ∷ marks) [] = omega arith
listed_few first (true ∷ marks) (None ∷ serials) = listed_few (first + 1) marks serials
listed_few first (true ∷ marks) (Some s ∷ serials) = let later = listed_few (first + 1) marks serials in omega (arith, later)
listed_few first (false ∷ marks) (None ∷ serials) = listed_few (first + 1) marks serials
listed_few first (false ∷ marks) (Some s ∷ serials) = let later = listed_few (first + 1) marks serials in omega (arith, later)

pub listed_within : (first : ℕ) (marks : List Bool) (serials : List (Option ℕ)) → length (listed_from first marks serials) ≤ length marks
listed_within first [] serials = omega arith
listed_within first (t ∷ marks) [] = omega arith
listed_within first (true ∷ marks) (o ∷ serials) = let later = listed_within (first + 1) marks serials in omega (arith, later)
listed_within first (false ∷ marks) (None ∷ serials) = let later = listed_within (first + 1) marks serials in omega (arith, later)
listed_within first (false ∷ marks) (Some s ∷ serials) = let later = listed_within (first + 1) marks serials in omega (arith, later)

-- ---- all of it

none_noted : (count slot serial : ℕ) → slice_get (replicate count None) slot ≡ Some (Some serial) → ⊥
none_noted zero slot serial is = (let no : None ≡ Some (Some serial) = is in cc)
none_noted (suc count) zero serial is = (let no : Some None ≡ Some (Some serial) = is in cc)
none_noted (suc count) (suc slot) serial is = none_noted count slot serial is

pub list_of_room : (places : Places) (running : Option Running) (merge : Option merger.Running) (outs : List (Option RequestId)) (count : ℕ) (marks : List Bool)
    (old serials : List (Option ℕ)) (list : List Retired) → AreTaken places running merge outs count marks → old ≡ replicate count None
    → Notes places (Contains (merger.before_of merge)) (length (merger.before_of merge)) old serials → list ≡ listed_from 0 marks serials
    → IsListOf places running merge outs count list
list_of_room places running merge outs count marks old serials list taken fresh notes is = record {
  each = λ one in_list. let from = found one in_list in (
    within one from,
    record {
      before = (stands one from).is_among;
      image = (stands one from).image;
      there = (stands one from).there;
      at = (stands one from).at;
      spared = λ reserved. marked one from (taken.jobs one.slot (within one from) reserved);
    },
  );
  unneeded = λ fall one in_list needed. let from = found one in_list in marked one from ((taken.exact fall one.slot (within one from)).1 (inl needed));
  all = λ fall apart one inside l none.
      let has = notes.all one.slot one.serial (subst (λ n. one.slot < n) (sym (ap length fresh ∙ length-replicate count None)) inside)
      (record { is_among = l.before; image = l.image; there = l.there; at = l.at }) in
      let same : has.serial ≡ one.serial = apart has.serial one.serial has.stands.image l.image has.stands.there l.there (has.stands.at ∙ sym l.at) in
      let placed = is_listed 0 marks serials one.slot one.slot one.serial (omega arith) (unmarked fall one inside l none) (has.noted_is ∙ ap (λ n. Some (Some n)) same) in
      contains_at list placed.0 one (ap (λ all. slice_get all placed.0) is ∙ placed.1);
  rises = λ place other a b below here there. listed_rises 0 marks serials place other a b below (ap (λ all. slice_get all place) (sym is) ∙ here)
      (ap (λ all. slice_get all other) (sym is) ∙ there);
  few = let few = listed_few 0 marks serials in let all = notes.few in let none = ap noted fresh ∙ noted_none count in let size = ap length is in
      omega (arith, few, all, none, size);
}
  where
    found : (one : Retired) → Contains list one → ComesFrom 0 marks serials one
    found one in_list = comes_from 0 marks serials in_list.0 one (ap (λ all. slice_get all in_list.0) (sym is) ∙ at_contains list one in_list)

    here_is : (one : Retired) (from : ComesFrom 0 marks serials one) → from.at ≡ one.slot
    here_is one from = let slot = from.slot in omega (arith, slot)

    within : (one : Retired) → ComesFrom 0 marks serials one → one.slot < count
    within one from = subst (λ n. one.slot < n) taken.count_is (subst (λ n. n < length marks) (here_is one from) (slice_get_within marks from.at false from.unmarked))

    marked : (one : Retired) → ComesFrom 0 marks serials one → IsMarkedSlot marks one.slot → ⊥
    marked one from is_taken = (let no : Some false ≡ Some true = sym from.unmarked ∙ ap (slice_get marks) (here_is one from) ∙ is_taken in cc)

    stands : (one : Retired) → ComesFrom 0 marks serials one → StandsInSlot places (Contains (merger.before_of merge)) one.slot one.serial
    stands one from = grind (arith, none_noted)

    unmarked : ParentsFall places → (one : Retired) → one.slot < count → IsLeftOver places running merge outs one → (IsNeededAt places running merge one.slot → ⊥)
        → slice_get marks one.slot ≡ Some false
    unmarked fall one inside l none = by (get_or marks one.slot false) (slice_get-get_or marks one.slot false (subst (λ n. one.slot < n) (sym taken.count_is) inside))
      where
        by : (b : Bool) → slice_get marks one.slot ≡ Some b → slice_get marks one.slot ≡ Some false
        by false at = at
        by true at = elim ((taken.exact fall one.slot inside).0 at) [
          | inl needed ↦ absurd (none needed)
          | inr reserved ↦ absurd (l.spared reserved)
        ]
