-- The catalog of a live store.
use Rattle.std.proofs.Common.{◌≡◌, ◌≢◌, ◌⊎◌, ℕ, zero, suc, Bool, true, false, not, cond, nat_eq, List, [], ◌∷◌, Some, None, Contains, slice_get, refl, sym, ◌∙◌, ap, subst, inl, inr, arith}
use Rattle.std.specs.List.{AllZip}
use Rattle.std.proofs.lemmas.Bool.{cases_eq, eq-eqb, ne_eqb}
use Rattle.std.proofs.lemmas.Option.{same_Some}
use Rattle.sd_image.specs.declared.header.Header.{Header}
use Rattle.sd_image.specs.Image.{Image, IsImage}
use Rattle.sd_image.specs.Laws.{OneImage}
use Rattle.sd_image.specs.Shows.{IsNamed}
use Rattle.sd_image.proofs.Members.{contains_at, place_in}
use Rattle.sd_chain.specs.Catalog.{Changes, IsSoundCatalog, Names, Opened, Places, images, place_of, without_slot}
use Rattle.sd_chain.specs.Reaches.{ReachesSerial}
use Rattle.sd_chain.specs.Reaches as catalog
use Rattle.sd_chain.specs.Recorded.{Agrees, CatalogLists, IsRecordedAs}
use Rattle.sd_store_laws.specs.Reached.{Reaches, ReachesBySerial, itself, beyond}
use Rattle.sd_store_laws.specs.Beliefs.{Belief, Closed, Kept, Closing, Opening}
use Rattle.sd_store_laws.specs.SlotSteps.{IsFoundAs, with_belief}
use Rattle.sd_store_laws.specs.LiveImages.{CatalogFollows, LiveCatalogAgrees, CatalogIsFound, IsLiveCatalog, SlotHasImage, RecordedReachesSo}
use Rattle.sd_chain.proofs.Agreement.{left_place}
use Rattle.sd_image.proofs.ReadyLemmas.{image_opens}
use Rattle.sd_store_laws.proofs.SlotSteps.{set_other, set_same}

serials : (o : Opened) (i : Image) → IsRecordedAs o i → i.header.serial ≡ o.header.serial
serials o i told = ap (λ (h : Header). h.serial) told.header

-- ---- it describes the store

pub tells_lem : (places : Places) → IsSoundCatalog places → LiveCatalogAgrees places
tells_lem places sound s pending beliefs are held = record {
  image = λ o c.
      let found = held.image o.header.serial o (sound.own o c) in
      (found.0, (are.catalog found.0).1 (has o.slot found.0 found.2), found.1);
  opened = λ i c. elim ((are.catalog i).0 c) [
    | inl kept ↦ let k = place_in beliefs (Kept i) kept in there i (held.opened k.0 i (inl k.1))
    | inr closing ↦ let k = place_in beliefs (Closing i) closing in there i (held.opened k.0 i (inr k.1))
  ];
}
  where
    has : (slot : ℕ) (i : Image) → SlotHasImage beliefs slot i → Contains beliefs (Kept i) ⊎ Contains beliefs (Closing i)
    has slot i (inl e) = inl (contains_at beliefs slot (Kept i) e)
    has slot i (inr e) = inr (contains_at beliefs slot (Closing i) e)

    there : (i : Image) {slot : ℕ} → (o : Opened) × (place_of places i.header.serial ≡ Some (Some o)) × IsRecordedAs o i × (o.slot ≡ slot)
        → (o : Opened) × Contains (images places) o × IsRecordedAs o i
    there i found = (found.0, sound.member i.header.serial found.0 found.1, found.2)

-- ---- what it reaches

module _ (places : Places) (all : List Image) (tells : CatalogLists places all) (agrees : Agrees places all) where
  reached_image : (j i : Opened) (a : Image) → Contains (images places) i → Contains all a → IsRecordedAs i a → catalog.ReachesInCatalog places j i
      → (b : Image) × IsRecordedAs j b × Reaches all b a
  reached_image j i a ci ca told (catalog.itself) = (a, told, itself)
  reached_image j i a ci ca told (catalog.beyond _ parent names reaches) =
      let up = tells.image parent names.member in
      let number : i.header.parent ≡ a.header.parent = ap (λ (h : Header). h.parent) (sym told.header) in
      let named = (agrees.named i.header.parent parent up.0 names.member up.1 up.2).0 names in
      let rest = reached_image j parent up.0 names.member up.1 up.2 reaches in
      (rest.0, rest.1, beyond a up.0 (subst (λ n. IsNamed all n up.0) number named) rest.2)

  reached_opened : (b : Image) (i : Opened) (a : Image) → Contains (images places) i → Contains all a → IsRecordedAs i a → Reaches all b a
      → (j : Opened) × IsRecordedAs j b × catalog.ReachesInCatalog places j i
  reached_opened b i a ci ca told (itself) = (i, told, catalog.itself)
  reached_opened b i a ci ca told (beyond _ parent named reaches) =
      let up = tells.opened parent named.member in
      let number : a.header.parent ≡ i.header.parent = ap (λ (h : Header). h.parent) told.header in
      let names = (agrees.named a.header.parent up.0 parent up.1 named.member up.2).1 named in
      let rest = reached_opened b up.0 parent up.1 named.member up.2 reaches in
      (rest.0, rest.1, catalog.beyond i up.0 (subst (λ n. Names places n up.0) number names) rest.2)

  reaches_on : (serial reached : ℕ) → ReachesSerial places serial reached → ReachesBySerial all serial reached
  reaches_on serial reached r =
      let a = tells.image r.0 r.2 in
      let b = reached_image r.1 r.0 a.0 r.2 a.1 a.2 r.4 in
      (a.0, b.0, a.1, serials r.0 a.0 a.2 ∙ r.3, b.2, serials r.1 b.0 b.1 ∙ r.5)

  reaches_back : (serial reached : ℕ) → ReachesBySerial all serial reached → ReachesSerial places serial reached
  reaches_back serial reached r =
      let i = tells.opened r.0 r.2 in
      let j = reached_opened r.1 i.0 r.0 i.1 r.2 i.2 r.4 in
      (i.0, j.0, i.1, sym (serials i.0 r.0 i.2) ∙ r.3, j.2, sym (serials j.0 r.1 j.1) ∙ r.5)

pub told_reaches_so_lem : (places : Places) → ((all : List Image) → CatalogLists places all → Agrees places all) → RecordedReachesSo places
told_reaches_so_lem places law all tells serial reached =
    (reaches_on places all tells (law all tells) serial reached, reaches_back places all tells (law all tells) serial reached)

-- ---- as it is found

-- the belief of a slot that has a file, and the file of a slot that keeps an image
belief_at : (contents : List (List ℕ)) (beliefs : List Belief) → AllZip IsFoundAs beliefs contents → (slot : ℕ) (file : List ℕ) → slice_get contents slot ≡ Some file
    → (b : Belief) × (slice_get beliefs slot ≡ Some b) × IsFoundAs b file
belief_at [] beliefs all slot file at = absurd cc
belief_at (f ∷ contents) [] all slot file at = absurd all
belief_at (f ∷ contents) (b ∷ beliefs) all zero file at = (b, refl, subst (IsFoundAs b) (same_Some f file at) all.0)
belief_at (f ∷ contents) (b ∷ beliefs) all (suc slot) file at = belief_at contents beliefs all.1 slot file at

file_of : (contents : List (List ℕ)) (beliefs : List Belief) → AllZip IsFoundAs beliefs contents → (slot : ℕ) (b : Belief) → slice_get beliefs slot ≡ Some b
    → (file : List ℕ) × (slice_get contents slot ≡ Some file) × IsFoundAs b file
file_of contents [] all slot b at = absurd cc
file_of [] (c ∷ beliefs) all slot b at = absurd all
file_of (f ∷ contents) (c ∷ beliefs) all zero b at = (f, refl, subst (λ (x : Belief). IsFoundAs x f) (same_Some c b at) all.0)
file_of (f ∷ contents) (c ∷ beliefs) all (suc slot) b at = file_of contents beliefs all.1 slot b at

-- a file that is an image is found as kept
kept_so : OneImage → (b : Belief) (file : List ℕ) (i : Image) → IsImage file i → IsFoundAs b file → b ≡ Kept i
kept_so one b file i is found = grind arith

pub catalog_is_found_lem : OneImage → CatalogIsFound
catalog_is_found_lem one places contents beliefs order of all = record {
  image = λ serial o at.
      let is = of.sound serial o at in
      let b = belief_at contents beliefs all o.slot is.1.file is.1.slot in (
        is.0,
        record { header = is.1.header; spaces = is.1.spaces },
        inl (b.1 ∙ ap Some (kept_so one b.0 is.1.file is.0 is.1.spelled b.2)),
      );
  opened = λ slot i has. elim has [
    | inl kept ↦ there slot i (file_of contents beliefs all slot (Kept i) kept)
    | inr closing ↦ absurd (file_of contents beliefs all slot (Closing i) closing).2
  ];
}
  where
    there : (slot : ℕ) (i : Image) → (file : List ℕ) × (slice_get contents slot ≡ Some file) × IsImage file i
        → (o : Opened) × (place_of places i.header.serial ≡ Some (Some o)) × IsRecordedAs o i × (o.slot ≡ slot)
    there slot i found =
        let o = of.all slot found.0 found.1 (image_opens found.0 i found.2) in
        let is = of.sound o.0 o.1 o.2 in
        let same : is.1.file ≡ found.0 = same_Some is.1.file found.0 (sym is.1.slot ∙ ap (slice_get contents) o.3 ∙ found.1) in
        let it : is.0 ≡ i = one found.0 is.0 i (subst (λ f. IsImage f is.0) same is.1.spelled) found.2 in
        let told : IsRecordedAs o.1 i = record {
          header = subst (λ (k : Image). k.header ≡ o.1.header) it is.1.header;
          spaces = subst (λ (k : Image). k.spaces ≡ o.1.spaces) it is.1.spaces;
        } in
        (o.1, ap (place_of places) (serials o.1 i told ∙ order.own o.0 o.1 o.2) ∙ o.2, told, o.3)

-- ---- it follows the slots

-- an image of another slot, in both lists
move_on : (beliefs : List Belief) (slot k : ℕ) (b : Belief) (i : Image) → k ≢ slot → SlotHasImage beliefs k i → SlotHasImage (with_belief beliefs slot b) k i
move_on beliefs slot k b i other (inl e) = inl (set_other beliefs slot k b other ∙ e)
move_on beliefs slot k b i other (inr e) = inr (set_other beliefs slot k b other ∙ e)

move_back : (beliefs : List Belief) (slot k : ℕ) (b : Belief) (i : Image) → k ≢ slot → SlotHasImage (with_belief beliefs slot b) k i → SlotHasImage beliefs k i
move_back beliefs slot k b i other (inl e) = inl (sym (set_other beliefs slot k b other) ∙ e)
move_back beliefs slot k b i other (inr e) = inr (sym (set_other beliefs slot k b other) ∙ e)

-- the image of a slot with this belief
image_of : (beliefs : List Belief) (slot : ℕ) (b : Belief) (i : Image) → slice_get beliefs slot ≡ Some b → SlotHasImage beliefs slot i → (b ≡ Kept i) ⊎ (b ≡ Closing i)
image_of beliefs slot b i there given = grind arith

not_opening : (i j : Image) → (Opening i ≡ Kept j) ⊎ (Opening i ≡ Closing j) → ⊥
not_opening i j given = grind arith

not_closed : (j : Image) → (Closed ≡ Kept j) ⊎ (Closed ≡ Closing j) → ⊥
not_closed j given = grind arith

is_kept : (i j : Image) → (Kept i ≡ Kept j) ⊎ (Kept i ≡ Closing j) → i ≡ j
is_kept i j given = grind arith

module _ (old new : Places) (beliefs : List Belief) (o : Opened) (i : Image) (held : IsLiveCatalog old beliefs) (there : slice_get beliefs o.slot ≡ Some (Opening i))
    (told : IsRecordedAs o i) (none : (other : Opened) → place_of old o.header.serial ≡ Some (Some other) → ⊥) (changes : Changes old new o.header.serial (Some (Some o))) where
  abbrev now : List Belief
  now = with_belief beliefs o.slot (Kept i)

  own_slot : slice_get now o.slot ≡ Some (Kept i)
  own_slot = set_same beliefs o.slot (Opening i) (Kept i) there

  abbrev IsThere : Opened → Type 0
  IsThere p = (j : Image) × IsRecordedAs p j × SlotHasImage now p.slot j

  image_there : (serial : ℕ) (p : Opened) (b : Bool) → cond b (Some (Some o)) (place_of old serial) ≡ Some (Some p) → IsThere p
  image_there serial p true e =
      let is : o ≡ p = (let both : Some (Some o) ≡ Some (Some p) = e in cc) in
      subst IsThere is (i, told, inl own_slot)
  image_there serial p false e =
      let was = held.image serial p e in
      (was.0, was.1, move_on beliefs o.slot p.slot (Kept i) was.0 (λ same. elsewhere was.0 (subst (λ k. SlotHasImage beliefs k was.0) same was.2)) was.2)
    where
      elsewhere : (j : Image) → SlotHasImage beliefs o.slot j → ⊥
      elsewhere j has = not_opening i j (image_of beliefs o.slot (Opening i) j there has)

  abbrev IsPlaced : ℕ → Image → Type 0
  IsPlaced slot j = (p : Opened) × (place_of new j.header.serial ≡ Some (Some p)) × IsRecordedAs p j × (p.slot ≡ slot)

  opened_there : (slot : ℕ) (j : Image) → SlotHasImage now slot j → IsPlaced slot j
  opened_there slot j has = elim (cases_eq slot o.slot) [
    | inl same ↦
        let mine : i ≡ j = is_kept i j (image_of now o.slot (Kept i) j own_slot (subst (λ k. SlotHasImage now k j) same has)) in
        subst (IsPlaced slot) mine (
          o,
          changes i.header.serial ∙ ap (λ b. cond b (Some (Some o)) (place_of old i.header.serial)) (eq-eqb o.header.serial i.header.serial (sym (serials o i told))),
          told,
          sym same,
        )
    | inr other ↦
        let was = held.opened slot j (move_back beliefs o.slot slot (Kept i) j other has) in (
          was.0,
          changes j.header.serial ∙ ap (λ b. cond b (Some (Some o)) (place_of old j.header.serial))
              (ne_eqb o.header.serial j.header.serial (λ same. none was.0 (ap (place_of old) same ∙ was.1))) ∙ was.1,
          was.2,
          was.3,
        )
  ]

  adds_it : IsLiveCatalog new now
  adds_it = record {
    image = λ serial p at. image_there serial p (nat_eq o.header.serial serial) (sym (changes serial) ∙ at);
    opened = opened_there;
  }

stays_place : (slot : ℕ) (p : Opened) → p.slot ≢ slot → without_slot slot (Some (Some p)) ≡ Some (Some p)
stays_place slot p other = ap (λ b. cond (not b) (Some (Some p)) None) (ne_eqb p.slot slot other)

removes_it : (old new : Places) (beliefs : List Belief) (slot : ℕ) (i : Image) → IsLiveCatalog old beliefs
    → slice_get beliefs slot ≡ Some (Closing i) → ((serial : ℕ) → place_of new serial ≡ without_slot slot (place_of old serial))
    → IsLiveCatalog new (with_belief beliefs slot Closed)
removes_it old new beliefs slot i held there changes = record {
  image = λ serial p at.
      let was = left_place slot (place_of old serial) p (sym (changes serial) ∙ at) in
      let found = held.image serial p was.0 in
      (found.0, found.1, move_on beliefs slot p.slot Closed found.0 was.1 found.2);
  opened = λ k j has. elim (cases_eq k slot) [
    | inl same ↦ absurd (not_closed j (image_of (with_belief beliefs slot Closed) slot Closed j (set_same beliefs slot (Closing i) Closed there)
        (subst (λ n. SlotHasImage (with_belief beliefs slot Closed) n j) same has)))
    | inr other ↦
        let was = held.opened k j (move_back beliefs slot k Closed j other has) in
        (was.0, changes j.header.serial ∙ ap (without_slot slot) was.1 ∙ stays_place slot was.0 (λ same. other (sym was.3 ∙ same)), was.2, was.3)
  ];
}

pub catalog_follows_lem : CatalogFollows
catalog_follows_lem = record {
  stays = λ places beliefs new same held. record {
    image = λ serial o at. let found = held.image serial o at in (found.0, found.1, (same o.slot found.0).0 found.2);
    opened = λ slot i has. held.opened slot i ((same slot i).1 has);
  };
  adds = λ old new beliefs o i held there told none changes. adds_it old new beliefs o i held there told none changes;
  removes = removes_it;
}
