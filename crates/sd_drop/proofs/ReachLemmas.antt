-- What the newest image leads to, in a catalog and in the contents that it is of; and what is shown without another.
use Rattle.std.proofs.Common.{◌≡◌, ◌≢◌, ◌⊎◌, ◌<◌, ◌≤◌, ℕ, zero, suc, true, false, nat_eq, List, [], ◌∷◌, map, Option, Some, None, MatchOption, All, Contains, slice_get, slice_index_or, Bor, refl, sym, ◌∙◌, ap, subst, inl, inr, arith}
use Rattle.std.specs.Prelude.{IfSome, IsNone}
use Rattle.std.specs.List.{AllByRecursion, IsDistinct}
use Rattle.std.proofs.lemmas.List.Elements.{All-contains}
use Rattle.std.proofs.lemmas.Option.{none-some, same_Some}
use Rattle.sd_areas.specs.PlainMemory.{PlainMemory}
use Rattle.sd_disk.specs.Contents.{file_at}
use Rattle.sd_image.specs.declared.header.Header.{Header}
use Rattle.sd_image.specs.declared.header.Kind.TheVariants.{PreDump}
use Rattle.sd_image.specs.Image.{Image, IsImage, OpenImages, is_open}
use Rattle.sd_image.specs.Laws.{OneImage, OneStore}
use Rattle.sd_image.specs.Shows.{IsNamed, IsStore, IsTip, Shows}
use Rattle.sd_image.proofs.Members.{contains_cases, contains_front, contains_later, contains_none}
use Rattle.sd_chain.specs.Catalog.{IsSoundCatalog, Names, Opened, Places, images, place_of}
use Rattle.sd_chain.specs.Catalog as catalog
use Rattle.sd_chain.specs.Reaches.{ParentsFall, ReachesInCatalog}
use Rattle.sd_chain.specs.Store.{HasTheImages, IsCatalogOf, IsOpenedAs}
use Rattle.sd_store_laws.specs.Needed.{IsReached}
use Rattle.sd_store_laws.specs.Reached.{Reaches}
use Rattle.sd_store_laws.specs.Reached as list
use Rattle.sd_store_laws.specs.Store.{IsSoundStore}
use Rattle.sd_store_laws.specs.Steps.{found_store}
use Rattle.sd_store_laws.proofs.Cuts.{needed_in}
use Rattle.sd_store_laws.proofs.Opens.{opened_is_sound_lem, steps_show_lem}
use Rattle.sd_store_laws.proofs.Walks.{needed_is_reached_lem}
use Rattle.sd_drop.specs.Closing.{closed_at}
use Rattle.sd_drop.specs.Reached.{IsReachedAt, IsReachedIn}

-- ---- the images that are left with a slot counted as closed

abbrev serials : List Image → List ℕ
serials = map (λ (i : Image). i.header.serial)

apart_each : (x : ℕ) (images : List Image) (j : Image) → AllByRecursion (λ k. nat_eq x k ≡ false) (serials images) → Contains images j → nat_eq x j.header.serial ≡ false
apart_each x [] j all c = absurd (contains_none j c)
apart_each x (i ∷ images) j all c = elim (contains_cases i j images c) [
  | inl e ↦ subst (λ (k : Image). nat_eq x k.header.serial ≡ false) (sym e) all.0
  | inr later ↦ apart_each x images j all.1 later
]

apart_all : (x : ℕ) (images : List Image) → ((j : Image) → Contains images j → nat_eq x j.header.serial ≡ false) → AllByRecursion (λ k. nat_eq x k ≡ false) (serials images)
apart_all x [] each = tt
apart_all x (i ∷ images) each = (each i (contains_front i images), apart_all x images (λ j c. each j (contains_later i j images c)))

pub record IsLeft (contents : List (List ℕ)) (slot : ℕ) (images left : List Image) : Type 0 where
  pub slots : OpenImages (closed_at contents slot) left
  pub within : (i : Image) → Contains left i → Contains images i
  pub rest : (i : Image) → Contains images i → Contains left i ⊎ IsImage (file_at contents slot) i
  pub serials : IsDistinct nat_eq (serials images) → IsDistinct nat_eq (serials left)

distinct_more : (i : Image) (images left : List Image) → ((j : Image) → Contains left j → Contains images j)
    → (IsDistinct nat_eq (serials images) → IsDistinct nat_eq (serials left)) → IsDistinct nat_eq (serials (i ∷ images)) → IsDistinct nat_eq (serials (i ∷ left))
unfolding IsDistinct
distinct_more i images left within rest distinct =
    (apart_all i.header.serial left (λ j c. apart_each i.header.serial images j distinct.0 (within j c)), rest distinct.1)

distinct_rest : (i : Image) (images : List Image) → IsDistinct nat_eq (serials (i ∷ images)) → IsDistinct nat_eq (serials images)
unfolding IsDistinct
distinct_rest i images distinct = distinct.1

pub left_images : (contents : List (List ℕ)) (slot : ℕ) (images : List Image) → OpenImages contents images → (left : List Image) × IsLeft contents slot images left
left_images [] slot images none = (images, record { slots = none; within = λ i c. c; rest = λ i c. inl c; serials = λ d. d })
left_images (file ∷ files) zero images (inl closed) =
    (images, record { slots = inl (refl, closed.1); within = λ i c. c; rest = λ i c. inl c; serials = λ d. d })
left_images (file ∷ files) zero images (inr opens) = (
  opens.1,
  record {
    slots = inl (refl, opens.5);
    within = λ i c. subst (λ (xs : List Image). Contains xs i) (sym opens.2) (contains_later opens.0 i opens.1 c);
    rest = λ i c. elim (contains_cases opens.0 i opens.1 (subst (λ (xs : List Image). Contains xs i) opens.2 c)) [
      | inl e ↦ inr (subst (IsImage file) (sym e) opens.4)
      | inr later ↦ inl later
    ];
    serials = λ d. distinct_rest opens.0 opens.1 (subst (λ (xs : List Image). IsDistinct nat_eq (serials xs)) opens.2 d);
  },
)
left_images (file ∷ files) (suc slot) images (inl closed) =
    let more = left_images files slot images closed.1 in
    (more.0, record { slots = inl (closed.0, more.1.slots); within = more.1.within; rest = more.1.rest; serials = more.1.serials })
left_images (file ∷ files) (suc slot) images (inr opens) =
    let more = left_images files slot opens.1 opens.5 in (
      opens.0 ∷ more.0,
      record {
        slots = inr (opens.0, more.0, refl, opens.3, opens.4, more.1.slots);
        within = λ i c. subst (λ (xs : List Image). Contains xs i) (sym opens.2) (elim (contains_cases opens.0 i more.0 c) [
          | inl e ↦ subst (Contains (opens.0 ∷ opens.1)) (sym e) (contains_front opens.0 opens.1)
          | inr later ↦ contains_later opens.0 i opens.1 (more.1.within i later)
        ]);
        rest = λ i c. elim (contains_cases opens.0 i opens.1 (subst (λ (xs : List Image). Contains xs i) opens.2 c)) [
          | inl e ↦ inl (subst (Contains (opens.0 ∷ more.0)) (sym e) (contains_front opens.0 more.0))
          | inr later ↦ elim (more.1.rest i later) [
            | inl stays ↦ inl (contains_later opens.0 i more.0 stays)
            | inr here ↦ inr here
          ]
        ];
        serials = λ d. distinct_more opens.0 opens.1 more.0 more.1.within more.1.serials (subst (λ (xs : List Image). IsDistinct nat_eq (serials xs)) opens.2 d);
      },
    )

-- ---- what is shown without an image that the newest doesn't lead to

reached_here : (contents : List (List ℕ)) (slot : ℕ) (all : List Image) (i : Image) → IsStore contents all → IsImage (file_at contents slot) i → IsReached all [] i → IsReachedAt contents slot
reached_here contents slot all i store is (inl r) = record { images = all; store = store; tip = r.0; newest = r.1; image = i; is = is; reaches = r.2 }
reached_here contents slot all i store is (inr r) = absurd (contains_none r.0 r.2)

pub unneeded_shows : (contents : List (List ℕ)) (slot : ℕ) (shown : Option (ℕ × PlainMemory)) → Shows contents shown → (IsReachedAt contents slot → ⊥)
    → Shows (closed_at contents slot) shown
unneeded_shows contents slot shown was free =
    let left = left_images contents slot was.images was.store.slots in
    let sound : IsSoundStore (found_store was.images) = opened_is_sound_lem contents was.images was.store in
    record {
      images = left.0;
      store = record { slots = left.1.slots; serials = left.1.serials was.store.serials };
      newest = steps_show_lem.retires (found_store was.images) left.0 shown sound (record {
        needed = λ i needed. elim (left.1.rest i (needed_in was.images [] i needed)) [
          | inl stays ↦ stays
          | inr here ↦ absurd (free (reached_here contents slot was.images i was.store here ((needed_is_reached_lem was.images [] i).0 needed)))
        ];
        within = left.1.within;
      }) was.newest;
    }

-- ---- a catalog and the images of the contents

abbrev IsBefore : Header → Header → Type 0
IsBefore h k = (h.checkpoint < k.checkpoint) ⊎ ((h.checkpoint ≡ k.checkpoint) × (h.serial ≤ k.serial))

tip_out : (contents : List (List ℕ)) (places : Places) (all : List Image) (t : Opened) (image : Image) → HasTheImages contents places all
    → catalog.IsTip places t → Contains all image → IsOpenedAs contents t image → IsTip all image
tip_out contents places all t image h tip c at = record {
  member = c;
  restorable = subst (λ (k : Header). k.kind ≢ PreDump) (sym at.header) tip.restored;
  greatest = λ j d restorable.
      let o = h.opened j d in
      subst (λ (k : Header). IsBefore j.header k) (sym at.header) (subst (λ (k : Header). IsBefore k t.header) (sym o.2.header)
      (tip.greatest o.0 o.1 (subst (λ (k : Header). k.kind ≢ PreDump) o.2.header restorable)));
}

tip_in : (contents : List (List ℕ)) (places : Places) (all : List Image) (t : Opened) (image : Image) → HasTheImages contents places all
    → IsTip all image → Contains (images places) t → IsOpenedAs contents t image → catalog.IsTip places t
tip_in contents places all t image h tip c at = record {
  member = c;
  restored = subst (λ (k : Header). k.kind ≢ PreDump) at.header tip.restorable;
  greatest = λ i d restored.
      let o = h.image i d in
      subst (λ (k : Header). IsBefore i.header k) at.header (subst (λ (k : Header). IsBefore k image.header) o.2.header
      (tip.greatest o.0 o.1 (subst (λ (k : Header). k.kind ≢ PreDump) (sym o.2.header) restored)));
}

record Reaches_out (contents : List (List ℕ)) (all : List Image) (j : Opened) (image : Image) : Type 0 where
  end : Image
  member : Contains all end
  opened : IsOpenedAs contents j end
  reaches : Reaches all end image

reaches_out : (contents : List (List ℕ)) (places : Places) (all : List Image) (j i : Opened) (image : Image) → HasTheImages contents places all
    → ReachesInCatalog places j i → Contains all image → IsOpenedAs contents i image → Reaches_out contents all j image
reaches_out contents places all j i image h (ReachesInCatalog.itself) c at = record { end = image; member = c; opened = at; reaches = list.itself }
reaches_out contents places all j i image h (ReachesInCatalog.beyond _ parent named rest) c at =
    let p = h.image parent named.member in
    let more = reaches_out contents places all j parent p.0 h rest p.1 p.2 in
    record {
      end = more.end;
      member = more.member;
      opened = more.opened;
      reaches = list.beyond image p.0 (subst (λ (k : Header). IsNamed all k.parent p.0) (sym at.header) (h.named i.header.parent parent p.0 p.2 named)) more.reaches;
    }

record Reaches_in (contents : List (List ℕ)) (places : Places) (end : Image) (i : Opened) : Type 0 where
  image : Opened
  member : Contains (images places) image
  opened : IsOpenedAs contents image end
  reaches : ReachesInCatalog places image i

reaches_in : (contents : List (List ℕ)) (places : Places) (all : List Image) (end image : Image) (i : Opened) → HasTheImages contents places all
    → Reaches all end image → Contains (images places) i → IsOpenedAs contents i image → Reaches_in contents places end i
reaches_in contents places all end image i h (list.itself) c at = record { image = i; member = c; opened = at; reaches = ReachesInCatalog.itself }
reaches_in contents places all end image i h (list.beyond _ parent named rest) c at =
    let p = h.opened parent named.member in
    let more = reaches_in contents places all end parent p.0 h rest p.1 p.2 in
    record {
      image = more.image;
      member = more.member;
      opened = more.opened;
      reaches = ReachesInCatalog.beyond i p.0 (subst (λ (k : Header). Names places k.parent p.0) at.header (h.names image.header.parent p.0 parent p.1 p.2 named)) more.reaches;
    }

-- the file of a slot that is there
is_file : (files : List (List ℕ)) (k : ℕ) (file : List ℕ) → slice_get files k ≡ Some file → slice_index_or files k [] ≡ file
is_file [] k file e = absurd cc
is_file (f ∷ files) zero file e = same_Some f file e
is_file (f ∷ files) (suc k) file e = is_file files k file e

there : (files : List (List ℕ)) (k : ℕ) → is_open (slice_index_or files k []) ≡ true → slice_get files k ≡ Some (slice_index_or files k [])
there [] k opens = absurd (let e : false ≡ true = opens in cc)
there (f ∷ files) zero opens = refl
there (f ∷ files) (suc k) opens = there files k opens

pub reached_out : (contents : List (List ℕ)) (places : Places) (all : List Image) (slot : ℕ) → HasTheImages contents places all → IsStore contents all
    → IsReachedIn places slot → IsReachedAt contents slot
reached_out contents places all slot h store r =
    let tip = h.image r.tip r.newest.member in
    let out = reaches_out contents places all r.image r.tip tip.0 h r.reaches tip.1 tip.2 in
    record {
      images = all;
      store = store;
      tip = tip.0;
      newest = tip_out contents places all r.tip tip.0 h r.newest tip.1 tip.2;
      image = out.end;
      is = subst (λ file. IsImage file out.end) (sym (ap (file_at contents) (sym r.at) ∙ is_file contents r.image.slot out.opened.file out.opened.slot)) out.opened.spelled;
      reaches = out.reaches;
    }

-- the image of an open slot stands once in a catalog
stands_at : (contents : List (List ℕ)) (places : Places) (slot : ℕ) (image : Image) (i : Opened) → OneImage → IsSoundCatalog places → IsCatalogOf contents places
    → is_open (file_at contents slot) ≡ true → IsImage (file_at contents slot) image → Contains (images places) i → IsOpenedAs contents i image → i.slot ≡ slot
stands_at contents places slot image i one sound of opens is c at =
    let found = of.all slot (file_at contents slot) (there contents slot opens) opens in
    let its = of.sound found.0 found.1 found.2 in
    let j = found.1 in
    let file : its.1.file ≡ file_at contents slot = sym (is_file contents j.slot its.1.file its.1.slot) ∙ ap (file_at contents) found.3 in
    let same : its.0 ≡ image = one (file_at contents slot) its.0 image (subst (λ f. IsImage f its.0) file its.1.spelled) is in
    let serial : j.header.serial ≡ i.header.serial =
    ap (λ (k : Header). k.serial) (sym its.1.header) ∙ ap (λ (k : Image). k.header.serial) same ∙ ap (λ (k : Header). k.serial) at.header in
    let places_same : place_of places i.header.serial ≡ Some (Some j) = ap (place_of places) (sym serial) ∙ sound.own j (sound.member found.0 j found.2) in
    let equal : i ≡ j = same_Some i j (same_Some (Some i) (Some j) (sym (sound.own i c) ∙ places_same)) in
    ap (λ (o : Opened). o.slot) equal ∙ found.3

pub reached_in : (contents : List (List ℕ)) (places : Places) (all : List Image) (slot : ℕ) → OneImage → OneStore → IsSoundCatalog places → IsCatalogOf contents places
    → HasTheImages contents places all → OpenImages contents all → is_open (file_at contents slot) ≡ true → IsReachedAt contents slot → IsReachedIn places slot
reached_in contents places all slot one store sound of h slots opens r =
    let same : r.images ≡ all = store contents r.images all r.store.slots slots in
    let newest : IsTip all r.tip = subst (λ (xs : List Image). IsTip xs r.tip) same r.newest in
    let tip = h.opened r.tip newest.member in
    let in_it = reaches_in contents places all r.image r.tip tip.0 h (subst (λ (xs : List Image). Reaches xs r.image r.tip) same r.reaches) tip.1 tip.2 in
    record {
      tip = tip.0;
      newest = tip_in contents places all tip.0 r.tip h newest tip.1 tip.2;
      image = in_it.image;
      reaches = in_it.reaches;
      at = stands_at contents places slot r.image in_it.image one sound of opens r.is in_it.member in_it.opened;
    }

-- ---- the walk to an image in a slot

pub record IsAhead (places : Places) (next : Option (Bor Opened)) (slot : ℕ) : Type 0 where
  pub from : Bor Opened
  pub is : next ≡ Some from
  pub image : Opened
  pub reaches : ReachesInCatalog places image from.now
  pub at : image.slot ≡ slot

-- the next image of the walk is one that the tip leads to, and what stands in the slot is ahead
pub record IsWalked (places : Places) (slot : ℕ) (next : Option (Bor Opened)) : Type 0 where
  pub member : IfSome next (λ i. Contains (images places) i.now)
  pub reached : (s : ℕ) → IsAhead places next s → IsReachedIn places s
  pub all : ParentsFall places → IsReachedIn places slot → IsAhead places next slot

not_none : {X : Type 0} (x : X) → None ≡ Some x → ⊥
not_none x e = absurd (none-some x e)

pub walk_begins : (places : Places) (slot : ℕ) (next : Option (Bor Opened)) → IsSoundCatalog places
    → MatchOption next (All (λ (i : Opened). catalog.IsDumpOrMerged i → ⊥) (images places)) (λ i. catalog.IsTip places i.now) → IsWalked places slot next
walk_begins places slot None sound none = record {
  member = tt;
  reached = λ s a. absurd (not_none a.from a.is);
  all = λ fall r. absurd (All-contains (λ (i : Opened). catalog.IsDumpOrMerged i → ⊥) (images places) r.tip none r.newest.member r.newest.restored);
}
walk_begins places slot (Some t) sound tip = record {
  member = tip.member;
  reached = λ s a. record {
    tip = t.now;
    newest = tip;
    image = a.image;
    reaches = subst (λ (o : Bor Opened). ReachesInCatalog places a.image o.now) (sym (same_Some t a.from a.is)) a.reaches;
    at = a.at;
  };
  all = λ fall r. record {
    from = t;
    is = refl;
    image = r.image;
    reaches = subst (ReachesInCatalog places r.image) (sound.newest_once r.tip t.now r.newest tip) r.reaches;
    at = r.at;
  };
}

-- what follows an image
pub record IsNext (places : Places) (i : Opened) (next : Option (Bor Opened)) : Type 0 where
  pub named : IfSome next (λ p. Names places i.header.parent p.now)
  pub all : i.header.parent < i.header.stands_for → IsNone next → (p : Opened) → Names places i.header.parent p → ⊥

member_more : (places : Places) (i : Opened) (next : Option (Bor Opened)) → IfSome next (λ p. Names places i.header.parent p.now) → IfSome next (λ p. Contains (images places) p.now)
member_more places i next named = grind arith

named_by : (places : Places) (i : Opened) (next : Option (Bor Opened)) (from : Bor Opened) → IfSome next (λ p. Names places i.header.parent p.now) → next ≡ Some from
    → Names places i.header.parent from.now
named_by places i next from named is = grind arith

beyond_next : (places : Places) (i p j : Opened) (next : Option (Bor Opened)) → IsSoundCatalog places → i.header.parent < i.header.stands_for → IsNext places i next
    → Names places i.header.parent p → ReachesInCatalog places j p → IsAhead places next j.slot
beyond_next places i p j None sound falls is named r = absurd (is.all falls refl p named)
beyond_next places i p j (Some q) sound falls is named r =
    record { from = q; is = refl; image = j; reaches = subst (ReachesInCatalog places j) (sound.named_once i.header.parent p q.now named is.named) r; at = refl }

reached_more : (places : Places) (i j : Opened) (next : Option (Bor Opened)) → IsSoundCatalog places → i.header.parent < i.header.stands_for → IsNext places i next
    → ReachesInCatalog places j i → (i ≡ j) ⊎ IsAhead places next j.slot
reached_more places i j next sound falls is r = by i r falls is
  where
    by : (k : Opened) → ReachesInCatalog places j k → k.header.parent < k.header.stands_for → IsNext places k next → (k ≡ j) ⊎ IsAhead places next j.slot
    by _ ReachesInCatalog.itself falls is = inl refl
    by _ (ReachesInCatalog.beyond k p named rest) falls is = inr (beyond_next places k p j next sound falls is named rest)

pub walk_goes_on : (places : Places) (slot : ℕ) (i : Bor Opened) (next : Option (Bor Opened)) → IsSoundCatalog places → IsNext places i.now next
    → i.now.slot ≢ slot → IsWalked places slot (Some i) → IsWalked places slot next
walk_goes_on places slot i next sound is apart w = record {
  member = member_more places i.now next is.named;
  reached = λ s a. w.reached s (record {
    from = i;
    is = refl;
    image = a.image;
    reaches = ReachesInCatalog.beyond i.now a.from.now (named_by places i.now next a.from is.named a.is) a.reaches;
    at = a.at;
  });
  all = λ fall r.
      let a = w.all fall r in
      elim (reached_more places i.now a.image next sound (All-contains (λ (o : Opened). o.header.parent < o.header.stands_for) (images places) i.now fall w.member) is
      (subst (λ (o : Bor Opened). ReachesInCatalog places a.image o.now) (sym (same_Some i a.from a.is)) a.reaches)) [
        | inl same ↦ absurd (apart (ap (λ (o : Opened). o.slot) same ∙ a.at))
        | inr later ↦ subst (IsAhead places next) a.at later
      ];
}

pub walk_found : (places : Places) (slot : ℕ) (i : Bor Opened) → i.now.slot ≡ slot → IsWalked places slot (Some i) → IsReachedIn places slot
walk_found places slot i at w = w.reached slot (record { from = i; is = refl; image = i.now; reaches = ReachesInCatalog.itself; at = at })

pub walk_ends : (places : Places) (slot : ℕ) → IsWalked places slot None → ParentsFall places → IsReachedIn places slot → ⊥
walk_ends places slot w fall r = let a = w.all fall r in not_none a.from a.is
