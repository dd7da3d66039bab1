-- A catalog and the images that it lists agree.
use Rattle.std.proofs.Common.{◌≡◌, ◌≢◌, ◌⊎◌, ◌<◌, ◌+◌, ◌*◌, ℕ, Bool, true, false, nat_eq, not, cond, List, slice_index_or, Contains, Option, Some, None, refl, sym, ◌∙◌, ap, subst, inl, inr, arith}
use Rattle.std.specs.Prelude.{All, replicate, slice_get}
use Rattle.std.proofs.lemmas.Bool.{eq-eqb, ne_eqb, cases_eq, false≢true}
use Rattle.std.proofs.lemmas.List.Elements.{All-contains, Contains-get_or}
use Rattle.sd_image.specs.declared.header.Header.{Header}
use Rattle.sd_image.specs.declared.run.RunKind.TheVariants.{Data, Parent, Zero}
use Rattle.sd_image.specs.Image.{Image}
use Rattle.sd_image.specs.Shows.{Holds, IsNamed, IsNotAfter, IsTip, pages_of}
use Rattle.sd_image.specs.Table.{Listed}
use Rattle.sd_image.proofs.Members.{contains_cases, contains_front, contains_later}
use Rattle.sd_chain.specs.declared.found.Found.{Found}
use Rattle.sd_chain.specs.declared.found.Found.TheVariants as found
use Rattle.sd_chain.specs.declared.way.Way.TheVariants as way
use Rattle.sd_chain.specs.Catalog.{Opened, Places, AreInOrder, Changes, images, place_of, without_slot}
use Rattle.sd_chain.specs.Catalog as catalog
use Rattle.sd_chain.specs.Ways.{HasPage, LiesAt}
use Rattle.sd_chain.specs.Ways as ways
use Rattle.sd_chain.specs.Recorded.{AddedImageIsRecorded, Agrees, CatalogLists, HaveDataPages, HeldPlacesRecordNothing, IsStoredAt, IsRecordedAs, RemovedSlotIsUnrecorded, RemovedSlotWasRecorded}
use Rattle.sd_chain.proofs.Members.{open_place}
use Rattle.sd_chain.proofs.Walks.{member_of}

-- the numbers of an image and of its entry are the same
serials : (i : Opened) (image : Image) → IsRecordedAs i image → image.header.serial ≡ i.header.serial
serials i image told = ap (λ (h : Header). h.serial) told.header

checkpoints : (i : Opened) (image : Image) → IsRecordedAs i image → image.header.checkpoint ≡ i.header.checkpoint
checkpoints i image told = ap (λ (h : Header). h.checkpoint) told.header

numbers : (i : Opened) (image : Image) → IsRecordedAs i image → image.header.stands_for ≡ i.header.stands_for
numbers i image told = ap (λ (h : Header). h.stands_for) told.header

parents : (i : Opened) (image : Image) → IsRecordedAs i image → image.header.parent ≡ i.header.parent
parents i image told = ap (λ (h : Header). h.parent) told.header

kinds : (i : Opened) (image : Image) → IsRecordedAs i image → image.header.kind ≡ i.header.kind
kinds i image told = ap (λ (h : Header). h.kind) told.header

module _ (places : Places) (all : List Image) (order : AreInOrder places) (tells : CatalogLists places all) where
  -- ---- what a number names, and the newest

  named_there : (number : ℕ) (i : Opened) (image : Image) → Contains all image → IsRecordedAs i image → catalog.Names places number i → IsNamed all number image
  named_there number i image c told names = record {
    member = c;
    stands = numbers i image told ∙ names.stands;
    greatest = λ other d is.
        let j = tells.opened other d in
        let le = names.greatest j.0 j.1 (sym (numbers j.0 other j.2) ∙ is) in
        omega (arith, le, serials j.0 other j.2, serials i image told);
  }

  named_back : (number : ℕ) (i : Opened) (image : Image) → Contains (images places) i → IsRecordedAs i image → IsNamed all number image → catalog.Names places number i
  named_back number i image c told named = record {
    member = c;
    stands = sym (numbers i image told) ∙ named.stands;
    greatest = λ j d is.
        let other = tells.image j d in
        let le = named.greatest other.0 other.1 (numbers j other.0 other.2 ∙ is) in
        omega (arith, le, serials j other.0 other.2, serials i image told);
  }

  after_there : (i j : Opened) (a b : Image) → IsRecordedAs i a → IsRecordedAs j b → catalog.IsNotNewer i j → IsNotAfter a b
  after_there i j a b ta tb given = grind arith

  after_back : (i j : Opened) (a b : Image) → IsRecordedAs i a → IsRecordedAs j b → IsNotAfter a b → catalog.IsNotNewer i j
  after_back i j a b ta tb given = grind arith

  tip_there : (i : Opened) (image : Image) → Contains all image → IsRecordedAs i image → catalog.IsTip places i → IsTip all image
  tip_there i image c told tip = record {
    member = c;
    restorable = λ pre. tip.restored (sym (kinds i image told) ∙ pre);
    greatest = λ other d restorable.
        let j = tells.opened other d in
        after_there j.0 i other image j.2 told (tip.greatest j.0 j.1 (λ pre. restorable (kinds j.0 other j.2 ∙ pre)));
  }

  tip_back : (i : Opened) (image : Image) → Contains (images places) i → IsRecordedAs i image → IsTip all image → catalog.IsTip places i
  tip_back i image c told tip = record {
    member = c;
    restored = λ pre. tip.restorable (kinds i image told ∙ pre);
    greatest = λ j d restored.
        let other = tells.image j d in
        after_back j i other.0 image other.2 told (tip.greatest other.0 other.1 (λ pre. restored (sym (kinds j other.0 other.2) ∙ pre)));
  }

  -- ---- where pages lie

  held_there : (page : ℕ × ℕ) (bytes : List ℕ) (i : Opened) (image : Image) → Contains (images places) i → Contains all image → IsRecordedAs i image
      → Holds all page.0 page.1 bytes image → (there : Found) × LiesAt places page there i × IsStoredAt places all there bytes
  held_there page bytes i image ci c told (Holds.by_data _ place at is) = (
    found.Data i.slot (4096 + 4096 * place),
    ways.by_data i place (subst (λ (spaces : List Listed). slice_get (pages_of Data spaces) place ≡ Some page) told.spaces at) refl,
    (i, image, place, ci, c, told, refl, refl, is),
  )
  held_there page bytes i image ci c told (Holds.by_zero _ at is) =
      (found.Zero, ways.by_zero i (subst (λ (spaces : List Listed). Contains (pages_of Zero spaces) page) told.spaces at) refl, is)
  held_there page bytes i image ci c told (Holds.by_parent _ parent at named holds) =
      let up = tells.opened parent named.member in
      let rest = held_there page bytes up.0 parent up.1 named.member up.2 holds in (
        rest.0,
        ways.by_parent i up.0 (subst (λ (spaces : List Listed). Contains (pages_of Parent spaces) page) told.spaces at)
            (subst (λ n. catalog.Names places n up.0) (parents i image told) (named_back image.header.parent up.0 parent up.1 up.2 named)) rest.1,
        rest.2,
      )

  lies_there : HaveDataPages all → (page : ℕ × ℕ) (there : Found) (i : Opened) (image : Image) → Contains (images places) i → Contains all image → IsRecordedAs i image
      → LiesAt places page there i → (bytes : List ℕ) × Holds all page.0 page.1 bytes image × IsStoredAt places all there bytes
  lies_there have page there i image ci c told (ways.by_data _ place has is) =
      let at : slice_get (pages_of Data image.spaces) place ≡ Some page = subst (λ (spaces : List Listed). HasPage spaces page (way.Data place)) (sym told.spaces) has in
      let stored = have image c place page at in (
        stored.0,
        Holds.by_data image place at stored.1,
        subst (λ f. IsStoredAt places all f stored.0) (sym is) (i, image, place, ci, c, told, refl, refl, stored.1),
      )
  lies_there have page there i image ci c told (ways.by_zero _ has is) = (
    replicate 4096 0,
    Holds.by_zero image (subst (λ (spaces : List Listed). Contains (pages_of Zero spaces) page) (sym told.spaces) has) refl,
    subst (λ f. IsStoredAt places all f (replicate 4096 0)) (sym is) refl,
  )
  lies_there have page there i image ci c told (ways.by_parent _ parent has names lies) =
      let up = tells.image parent names.member in
      let rest = lies_there have page there parent up.0 names.member up.1 up.2 lies in (
        rest.0,
        Holds.by_parent image up.0 (subst (λ (spaces : List Listed). Contains (pages_of Parent spaces) page) (sym told.spaces) has)
            (subst (λ n. IsNamed all n up.0) (sym (parents i image told)) (named_there i.header.parent parent up.0 up.1 up.2 names)) rest.1,
        rest.2,
      )

  -- ---- all of it

  falls : (image : Image) → All (λ (i : Opened). i.header.parent < i.header.stands_for) (images places) → Contains all image → image.header.parent < image.header.stands_for
  falls image fall c =
      let i = tells.opened image c in
      let less = All-contains (λ (i : Opened). i.header.parent < i.header.stands_for) (images places) i.0 fall i.1 in
      omega (arith, less, parents i.0 image i.2, numbers i.0 image i.2)

  falls_back : ((image : Image) → Contains all image → image.header.parent < image.header.stands_for) → All (λ (i : Opened). i.header.parent < i.header.stands_for) (images places)
  falls_back fall k d less =
      let i = slice_index_or (images places) k d in
      let image = tells.image i (Contains-get_or (images places) k d less) in
      let low = fall image.0 image.1 in
      omega (arith, low, parents i image.0 image.2, numbers i image.0 image.2)

  pub agrees : Agrees places all
  agrees = record {
    at = λ serial i e.
        let c = member_of places serial i e in
        let found = tells.image i c in
        (found.0, found.1, found.2, serials i found.0 found.2 ∙ order.own serial i e);
    stands = λ image c.
        let i = tells.opened image c in
        (i.0, subst (λ n. place_of places n ≡ Some (Some i.0)) (sym (serials i.0 image i.2)) (open_place places i.0 order i.1), i.2);
    tip = λ i image ci c told. (tip_there i image c told, tip_back i image ci told);
    named = λ number i image ci c told. (named_there number i image c told, named_back number i image ci told);
    held = held_there;
    lies = lies_there;
    fall = (λ fall image c. falls image fall c, falls_back);
  }

-- ---- changes

-- an image of the one is one of the other, where each of its places is
moved : (old new : Places) (all : List Image) → AreInOrder old → AreInOrder new → ((serial : ℕ) (i : Opened) → place_of old serial ≡ Some (Some i) → place_of new serial ≡ Some (Some i))
    → ((serial : ℕ) (i : Opened) → place_of new serial ≡ Some (Some i) → place_of old serial ≡ Some (Some i)) → CatalogLists old all → CatalogLists new all
moved old new all before after there back tells = record {
  image = λ i c. tells.image i (member_of old i.header.serial i (back i.header.serial i (open_place new i after c)));
  opened = λ image c.
      let i = tells.opened image c in
      (i.0, member_of new i.0.header.serial i.0 (there i.0.header.serial i.0 (open_place old i.0 before i.1)), i.2);
}

other_stays : (b : Bool) (place was : Option (Option Opened)) (i : Opened) → ((j : Opened) → place ≡ Some (Some j) → ⊥) → cond b place was ≡ Some (Some i) → was ≡ Some (Some i)
other_stays b place was i none e = grind arith

held_other : (old : Places) (serial other : ℕ) (place : Option (Option Opened)) (i : Opened) → ((j : Opened) → place_of old serial ≡ Some (Some j) → ⊥)
    → place_of old other ≡ Some (Some i) → cond (nat_eq serial other) place (place_of old other) ≡ Some (Some i)
held_other old serial other place i none e = grind arith

pub held_places_record_nothing : HeldPlacesRecordNothing
held_places_record_nothing old new serial place all before after none held changes =
    let there : (other : ℕ) (i : Opened) → place_of old other ≡ Some (Some i) → place_of new other ≡ Some (Some i) = λ other i e. changes other ∙ held_other old serial other place i none e in
    let back : (other : ℕ) (i : Opened) → place_of new other ≡ Some (Some i) → place_of old other ≡ Some (Some i) =
    λ other i e. other_stays (nat_eq serial other) place (place_of old other) i held (sym (changes other) ∙ e) in
    (moved old new all before after there back, moved new old all after before back there)

-- the image of a serial after it was added
now_at : (old new : Places) (i j : Opened) → Changes old new i.header.serial (Some (Some i)) → place_of new j.header.serial ≡ Some (Some j)
    → (j ≡ i) ⊎ (place_of old j.header.serial ≡ Some (Some j))
now_at old new i j changes e = by (nat_eq i.header.serial j.header.serial) (sym (changes j.header.serial) ∙ e)
  where
    by : (b : Bool) → cond b (Some (Some i)) (place_of old j.header.serial) ≡ Some (Some j) → (j ≡ i) ⊎ (place_of old j.header.serial ≡ Some (Some j))
    by true e = inl (let both : Some (Some i) ≡ Some (Some j) = e in cc)
    by false e = inr e

own_place : (old new : Places) (i : Opened) → Changes old new i.header.serial (Some (Some i)) → place_of new i.header.serial ≡ Some (Some i)
own_place old new i changes = changes i.header.serial ∙ ap (λ b. cond b (Some (Some i)) (place_of old i.header.serial)) (eq-eqb i.header.serial i.header.serial refl)

old_place : (old new : Places) (i j : Opened) → ((other : Opened) → place_of old i.header.serial ≡ Some (Some other) → ⊥) → Changes old new i.header.serial (Some (Some i))
    → place_of old j.header.serial ≡ Some (Some j) → place_of new j.header.serial ≡ Some (Some j)
old_place old new i j none changes e = changes j.header.serial ∙ held_other old i.header.serial j.header.serial (Some (Some i)) j none e

pub added_image_is_recorded : AddedImageIsRecorded
added_image_is_recorded old new i image all before after none changes told = (
  λ tells. record {
    image = λ j c. elim (now_at old new i j changes (open_place new j after c)) [
      | inl same ↦ (image, contains_front image all, subst (λ (k : Opened). IsRecordedAs k image) (sym same) told)
      | inr was ↦ let found = tells.image j (member_of old j.header.serial j was) in (found.0, contains_later image found.0 all found.1, found.2)
    ];
    opened = λ other c. elim (contains_cases image other all c) [
      | inl same ↦ (i, member_of new i.header.serial i (own_place old new i changes), subst (IsRecordedAs i) (sym same) told)
      | inr later ↦
          let j = tells.opened other later in
          (j.0, member_of new j.0.header.serial j.0 (old_place old new i j.0 none changes (open_place old j.0 before j.1)), j.2)
    ];
  },
  λ fresh tells. record {
    image = λ j c.
        let was = open_place old j before c in
        let found = tells.image j (member_of new j.header.serial j (old_place old new i j none changes was)) in
        elim (contains_cases image found.0 all found.1) [
          | inl same ↦ absurd (none j (ap (place_of old) (sym (serials i image told) ∙ ap (λ (k : Image). k.header.serial) (sym same) ∙ serials j found.0 found.2) ∙ was))
          | inr later ↦ (found.0, later, found.2)
        ];
    opened = λ other c.
        let j = tells.opened other (contains_later image other all c) in
        elim (now_at old new i j.0 changes (open_place new j.0 after j.1)) [
          | inl same ↦ absurd (fresh other c (serials j.0 other j.2 ∙ ap (λ (k : Opened). k.header.serial) same))
          | inr was ↦ (j.0, member_of old j.0.header.serial j.0 was, j.2)
        ];
  },
)

-- what removing a slot leaves
stays_elsewhere : (slot : ℕ) (j : Opened) → j.slot ≢ slot → without_slot slot (Some (Some j)) ≡ Some (Some j)
stays_elsewhere slot j differ = ap (λ b. cond (not b) (Some (Some j)) None) (ne_eqb j.slot slot differ)

pub left_place : (slot : ℕ) (o : Option (Option Opened)) (j : Opened) → without_slot slot o ≡ Some (Some j) → (o ≡ Some (Some j)) × (j.slot ≢ slot)
left_place slot None j e = absurd (let no : None ≡ Some (Some j) = e in cc)
left_place slot (Some None) j e = absurd (let no : Some None ≡ Some (Some j) = e in cc)
left_place slot (Some (Some k)) j e = by (nat_eq k.slot slot) refl e
  where
    by : (b : Bool) → nat_eq k.slot slot ≡ b → cond (not b) (Some (Some k)) None ≡ Some (Some j) → (Some (Some k) ≡ Some (Some j)) × (j.slot ≢ slot)
    by true is e = absurd (let no : None ≡ Some (Some j) = e in cc)
    by false is e = (e, λ same. false≢true (sym is ∙ eq-eqb k.slot slot ((let both : Some (Some k) ≡ Some (Some j) = e in let is : k ≡ j = cc in ap (λ (i : Opened). i.slot) is) ∙ same)))

pub removed_slot_is_unrecorded : RemovedSlotIsUnrecorded
removed_slot_is_unrecorded old new slot all left before after changes elsewhere tells = record {
  image = λ j c.
      let was = left_place slot (place_of old j.header.serial) j (sym (changes j.header.serial) ∙ open_place new j after c) in
      let found = tells.image j (member_of old j.header.serial j was.0) in
      (found.0, (elsewhere found.0).1 (found.1, λ k at. by j k was.0 (ap (place_of old) (sym (serials j found.0 found.2)) ∙ at) was.1), found.2);
  opened = λ image c.
      let is = (elsewhere image).0 c in
      let j = tells.opened image is.0 in
      let at = open_place old j.0 before j.1 in
      let differ = is.1 j.0 (ap (place_of old) (serials j.0 image j.2) ∙ at) in
      (j.0, member_of new j.0.header.serial j.0 (changes j.0.header.serial ∙ ap (without_slot slot) at ∙ stays_elsewhere slot j.0 differ), j.2);
}
  where
    by : (j k : Opened) → place_of old j.header.serial ≡ Some (Some j) → place_of old j.header.serial ≡ Some (Some k) → j.slot ≢ slot → k.slot ≢ slot
    by j k a b differ = λ same. differ ((let both : Some (Some j) ≡ Some (Some k) = sym a ∙ b in let is : j ≡ k = cc in ap (λ (i : Opened). i.slot) is) ∙ same)

-- a place that is left was there
was_place : (slot : ℕ) (old new : Places) (j : Opened) → ((serial : ℕ) → place_of new serial ≡ without_slot slot (place_of old serial)) → AreInOrder new
    → Contains (images new) j → place_of old j.header.serial ≡ Some (Some j)
was_place slot old new j changes after c = (left_place slot (place_of old j.header.serial) j (sym (changes j.header.serial) ∙ open_place new j after c)).0

pub removed_slot_was_recorded : RemovedSlotWasRecorded
removed_slot_was_recorded old new slot all left before after changes elsewhere told tells = record {
  image = λ i c. elim (cases_eq i.slot slot) [
    | inl here ↦ told.image i c here
    | inr other ↦
        let at = open_place old i before c in
        let found = tells.image i (member_of new i.header.serial i (changes i.header.serial ∙ ap (without_slot slot) at ∙ stays_elsewhere slot i other)) in
        (found.0, ((elsewhere found.0).0 found.1).0, found.2)
  ];
  opened = λ image c. by image c (place_of old image.header.serial) refl;
}
  where
    -- no image of the slot has its serial, so it is left
    stays : (image : Image) → Contains all image → ((i : Opened) → place_of old image.header.serial ≡ Some (Some i) → i.slot ≢ slot)
        → (i : Opened) × Contains (images old) i × IsRecordedAs i image
    stays image c other =
        let j = tells.opened image ((elsewhere image).1 (c, other)) in
        (j.0, member_of old j.0.header.serial j.0 (was_place slot old new j.0 changes after j.1), j.2)

    by : (image : Image) → Contains all image → (place : Option (Option Opened)) → place_of old image.header.serial ≡ place → (i : Opened) × Contains (images old) i × IsRecordedAs i image
    by image c None at = stays image c (λ i is. absurd (let no : None ≡ Some (Some i) = sym at ∙ is in cc))
    by image c (Some None) at = stays image c (λ i is. absurd (let no : Some None ≡ Some (Some i) = sym at ∙ is in cc))
    by image c (Some (Some i)) at = elim (cases_eq i.slot slot) [
      | inl here ↦ (i, member_of old image.header.serial i at, told.opened image i c at here)
      | inr other ↦ stays image c (λ k is same. other
          ((let both : Some (Some i) ≡ Some (Some k) = sym at ∙ is in let one : i ≡ k = cc in ap (λ (o : Opened). o.slot) one) ∙ same))
    ]
