-- A walk from an image to what its parent number names, and on.
use Rattle.std.proofs.Common.{◌≡◌, ◌⊎◌, ℕ, ◌<◌, Bool, true, List, length, slice_set, Option, Some, None, MatchOption, Contains, Bor, refl, sym, ◌∙◌, ap, subst, inl, inr, arith}
use Rattle.std.specs.Prelude.{IfSome, IsNone}
use Rattle.std.proofs.lemmas.List.Elements.{All-contains}
use Rattle.std.proofs.lemmas.Option.{same_Some, slice_get_within}
use Rattle.sd_chain.specs.Catalog.{IsSoundCatalog, Names, Opened, Places, images, place_of}
use Rattle.sd_chain.specs.Reaches.{ParentsFall, ReachesInCatalog}
use Rattle.sd_free_slots.specs.Marks.{IsMarkedSlot, IsReachedAt, TakesNeeded, TakesSlots}
use Rattle.sd_free_slots.proofs.MarkLemmas.{takes_one}

-- an image that the next one of the walk reaches, if there is one, stands in the slot
pub record IsAhead (places : Places) (next : Option (Bor Opened)) (slot : ℕ) : Type 0 where
  pub from : Bor Opened
  pub is : next ≡ Some from
  pub image : Opened
  pub reaches : ReachesInCatalog places image from.now
  pub at : image.slot ≡ slot

-- What is marked, and what is ahead of the walk, are what was marked before it and what the image of the serial reaches.
pub record IsWalked (places : Places) (serial : ℕ) (old : List Bool) (next : Option (Bor Opened)) (marks : List Bool) : Type 0 where
  pub count : length marks ≡ length old
  pub kept : (slot : ℕ) → IsMarkedSlot old slot → IsMarkedSlot marks slot
  pub member : IfSome next (λ i. Contains (images places) i.now)
  pub done : ParentsFall places → (slot : ℕ) → slot < length old → IsMarkedSlot marks slot → IsMarkedSlot old slot ⊎ IsReachedAt places serial slot
  pub ahead : ParentsFall places → (slot : ℕ) → IsAhead places next slot → IsReachedAt places serial slot
  pub all : ParentsFall places → (slot : ℕ) → slot < length old → IsMarkedSlot old slot ⊎ IsReachedAt places serial slot → IsMarkedSlot marks slot ⊎ IsAhead places next slot

-- what a look-up by serial gives
abbrev pub IsFound : Places → ℕ → Option (Bor Opened) → Type 0
IsFound places serial found = MatchOption found
    ((i : Opened) → place_of places serial ≡ Some (Some i) → ⊥)
    (λ i. (place_of places serial ≡ Some (Some i.now)) × (i.now.header.serial ≡ serial))

pub walk_begins : (places : Places) (serial : ℕ) (marks : List Bool) (next : Option (Bor Opened)) → IsSoundCatalog places → IsFound places serial next
    → IsWalked places serial marks next marks
walk_begins places serial marks next sound none = grind arith

-- what follows an image
pub record IsNext (places : Places) (i : Opened) (next : Option (Bor Opened)) : Type 0 where
  pub named : IfSome next (λ p. Names places i.header.parent p.now)
  pub all : i.header.parent < i.header.stands_for → IsNone next → (p : Opened) → Names places i.header.parent p → ⊥

member_more : (places : Places) (i : Opened) (next : Option (Bor Opened)) → IfSome next (λ p. Names places i.header.parent p.now) → IfSome next (λ p. Contains (images places) p.now)
member_more places i next named = grind arith

named_by : (places : Places) (i : Opened) (next : Option (Bor Opened)) (from : Bor Opened) → IfSome next (λ p. Names places i.header.parent p.now) → next ≡ Some from
    → Names places i.header.parent from.now
named_by places i next from named is = grind arith

beyond_next : (places : Places) (i p j : Opened) (next : Option (Bor Opened)) → IsSoundCatalog places → i.header.parent < i.header.stands_for → IsNext places i next
    → Names places i.header.parent p → ReachesInCatalog places j p → IsAhead places next j.slot
beyond_next places i p j None sound falls is named r = absurd (is.all falls refl p named)
beyond_next places i p j (Some q) sound falls is named r =
    record { from = q; is = refl; image = j; reaches = subst (ReachesInCatalog places j) (sound.named_once i.header.parent p q.now named is.named) r; at = refl }

reached_more : (places : Places) (i j : Opened) (next : Option (Bor Opened)) → IsSoundCatalog places → i.header.parent < i.header.stands_for → IsNext places i next
    → ReachesInCatalog places j i → (i ≡ j) ⊎ IsAhead places next j.slot
reached_more places i j next sound falls is r = by i r falls is
  where
    by : (k : Opened) → ReachesInCatalog places j k → k.header.parent < k.header.stands_for → IsNext places k next → (k ≡ j) ⊎ IsAhead places next j.slot
    by _ ReachesInCatalog.itself falls is = inl refl
    by _ (ReachesInCatalog.beyond k p named rest) falls is = inr (beyond_next places k p j next sound falls is named rest)

pub walk_goes_on : (places : Places) (serial : ℕ) (old marks new : List Bool) (i : Bor Opened) (next : Option (Bor Opened)) → IsSoundCatalog places
    → IsNext places i.now next → new ≡ slice_set marks i.now.slot true → IsWalked places serial old (Some i) marks → IsWalked places serial old next new
walk_goes_on places serial old marks new i next sound is set w = record {
  count = t.count ∙ w.count;
  kept = λ slot taken. kept_on slot (w.kept slot taken);
  member = member_more places i.now next is.named;
  done = λ fall slot within taken. elim ((t.exact slot (inside slot within)).0 taken) [
    | inl was ↦ w.done fall slot within was
    | inr here ↦ inr (w.ahead fall slot (record { from = i; is = refl; image = i.now; reaches = ReachesInCatalog.itself; at = here }))
  ];
  ahead = λ fall slot a. w.ahead fall slot (record {
    from = i;
    is = refl;
    image = a.image;
    reaches = ReachesInCatalog.beyond i.now a.from.now (named_by places i.now next a.from is.named a.is) a.reaches;
    at = a.at;
  });
  all = λ fall slot within either. elim (w.all fall slot within either) [
    | inl was ↦ inl ((t.exact slot (inside slot within)).1 (inl was))
    | inr a ↦ further fall slot within a
  ];
}
  where
    t : TakesSlots (λ slot. i.now.slot ≡ slot) marks new
    t = takes_one marks new i.now.slot set

    inside : (slot : ℕ) → slot < length old → slot < length marks
    inside slot within = subst (λ n. slot < n) (sym w.count) within

    kept_on : (slot : ℕ) → IsMarkedSlot marks slot → IsMarkedSlot new slot
    kept_on slot taken = (t.exact slot (slice_get_within marks slot true taken)).1 (inl taken)

    further : ParentsFall places → (slot : ℕ) → slot < length old → IsAhead places (Some i) slot → IsMarkedSlot new slot ⊎ IsAhead places next slot
    further fall slot within a = elim (reached_more places i.now a.image next sound (All-contains (λ (o : Opened). o.header.parent < o.header.stands_for) (images places) i.now fall w.member) is
        (subst (λ (o : Bor Opened). ReachesInCatalog places a.image o.now) (sym (same_Some i a.from a.is)) a.reaches)) [
          | inl same ↦ inl ((t.exact slot (inside slot within)).1 (inr (ap (λ (o : Opened). o.slot) same ∙ a.at)))
          | inr later ↦ inr (subst (IsAhead places next) a.at later)
        ]

pub walk_ends : (places : Places) (serial : ℕ) (old marks : List Bool) → IsWalked places serial old None marks → TakesNeeded places (IsReachedAt places serial) old marks
walk_ends places serial old marks w = grind arith
