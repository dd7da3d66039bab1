-- What contents show that keep their images, or have a pre-dump more.
use Rattle.std.proofs.Common.{◌≡◌, ◌<◌, ◌≤◌, ℕ, suc, false, nat_eq, List, [], ◌∷◌, ◌++◌, length, map, Option, Contains, slice_set, refl, sym, ◌∙◌, ap, subst, inl, inr, arith}
use Rattle.std.specs.List.{AllByRecursion, IsDistinct}
use Rattle.std.proofs.lemmas.Bool.{ne_eqb}
use Rattle.std.proofs.lemmas.List.Elements.{Contains-append_cases, Contains-append_left, Contains-append_right}
use Rattle.sd_areas.specs.PlainMemory.{PlainMemory}
use Rattle.sd_disk.specs.Contents.{file_at}
use Rattle.sd_image.specs.declared.header.Kind.{Kind}
use Rattle.sd_image.specs.declared.header.Kind.TheVariants.{PreDump, Dump, Merged}
use Rattle.sd_image.specs.Header.{AreNumbers}
use Rattle.sd_image.specs.Image.{Image, IsImage, OpenImages, is_open}
use Rattle.sd_image.specs.Shows.{IsStore, Shows}
use Rattle.sd_image.proofs.Members.{contains_cases, contains_front, contains_later, contains_none}
use Rattle.sd_image.proofs.ReadyLemmas.{image_opens}
use Rattle.sd_image.proofs.ShowsLemmas.{Adds, among_added, images_of_opened}
use Rattle.sd_store_laws.specs.Cut.{LeavesShown}
use Rattle.sd_store_laws.proofs.Cuts.{cut_shows_the_same_lem, needed_in}
use Rattle.sd_store_laws.proofs.Opens.{opened_is_sound_lem}
use Rattle.sd_store_laws.proofs.ShownStays.{pre_dump_is_harmless_lem}
use Rattle.sd_receive.specs.Arriving.{KeepsImages}

-- ---- the same images

later : (x y : List ℕ) (xs ys : List (List ℕ)) → KeepsImages (x ∷ xs) (y ∷ ys) → KeepsImages xs ys
later x y xs ys keeps = record {
  count = let more = keeps.count in omega (arith, more);
  opened = λ slot opens. keeps.opened (suc slot) opens;
  closed = λ slot shut. keeps.closed (suc slot) shut;
}

pub images_kept : (a b : List (List ℕ)) (images : List Image) → KeepsImages a b → OpenImages a images → OpenImages b images
images_kept [] [] images keeps slots = slots
images_kept [] (y ∷ ys) images keeps slots = absurd (let count = keeps.count in omega (arith, count))
images_kept (x ∷ xs) [] images keeps slots = absurd (let count = keeps.count in omega (arith, count))
images_kept (x ∷ xs) (y ∷ ys) images keeps (inl was) = inl (keeps.closed 0 was.0, images_kept xs ys images (later x y xs ys keeps) was.1)
images_kept (x ∷ xs) (y ∷ ys) images keeps (inr was) =
    let same : y ≡ x = keeps.opened 0 was.3 in
    inr (was.0, was.1, was.2, ap is_open same ∙ was.3, subst (λ (f : List ℕ). IsImage f was.0) (sym same) was.4, images_kept xs ys was.1 (later x y xs ys keeps) was.5)

-- so they show the same
pub keeps_shows : (a b : List (List ℕ)) (shown : Option (ℕ × PlainMemory)) → KeepsImages a b → Shows a shown → Shows b shown
keeps_shows a b shown keeps shows = record {
  images = shows.images;
  store = record { slots = images_kept a b shows.images keeps shows.store.slots; serials = shows.store.serials };
  newest = shows.newest;
}

-- ---- an image whose serial is above all others

abbrev serials : List Image → List ℕ
serials = map (λ (i : Image). i.header.serial)

apart_each : (x : ℕ) (images : List Image) (j : Image) → AllByRecursion (λ k. nat_eq x k ≡ false) (serials images) → Contains images j → nat_eq x j.header.serial ≡ false
apart_each x [] j all c = absurd (contains_none j c)
apart_each x (i ∷ images) j all c = elim (contains_cases i j images c) [
  | inl e ↦ subst (λ (k : Image). nat_eq x k.header.serial ≡ false) (sym e) all.0
  | inr later ↦ apart_each x images j all.1 later
]

apart_all : (x : ℕ) (images : List Image) → ((j : Image) → Contains images j → nat_eq x j.header.serial ≡ false) → AllByRecursion (λ k. nat_eq x k ≡ false) (serials images)
apart_all x [] each = tt
apart_all x (i ∷ images) each = (each i (contains_front i images), apart_all x images (λ j c. each j (contains_later i j images c)))

-- the serials of these are all below
abbrev AreUnder : List Image → Image → Type 0
AreUnder images i = (j : Image) → Contains images j → j.header.serial < i.header.serial

distinct_in : (before after : List Image) (i : Image) → AreUnder (before ++ after) i → IsDistinct nat_eq (serials (before ++ after)) → IsDistinct nat_eq (serials (before ++ i ∷ after))
unfolding IsDistinct
distinct_in [] after i under distinct = (apart_all i.header.serial after (λ j c. ne_eqb i.header.serial j.header.serial (λ e. let less = under j c in absurd (omega (arith, e, less)))), distinct)
distinct_in (x ∷ before) after i under distinct = (
  apart_all x.header.serial (before ++ i ∷ after) (λ j c. elim (among_added (before ++ after) (before ++ i ∷ after) i j (record { before = before; after = after; was = refl; is = refl }) c) [
    | inl old ↦ apart_each x.header.serial (before ++ after) j distinct.0 old
    | inr e ↦ subst (λ (k : Image). nat_eq x.header.serial k.header.serial ≡ false) (sym e)
        (ne_eqb x.header.serial i.header.serial (λ same. let less = under x (contains_front x (before ++ after)) in absurd (omega (arith, same, less))))
  ]),
  distinct_in before after i (λ j c. under j (contains_later x j (before ++ after) c)) distinct.1,
)

distinct_more : (old new : List Image) (i : Image) → Adds old new i → AreUnder old i → IsDistinct nat_eq (serials old) → IsDistinct nat_eq (serials new)
distinct_more old new i adds under distinct =
    subst (λ (xs : List Image). IsDistinct nat_eq (serials xs)) (sym adds.is)
    (distinct_in adds.before adds.after i (λ j c. under j (subst (λ (xs : List Image). Contains xs j) (sym adds.was) c))
    (subst (λ (xs : List Image). IsDistinct nat_eq (serials xs)) adds.was distinct))

stays_in : (old new : List Image) (i j : Image) → Adds old new i → Contains old j → Contains new j
stays_in old new i j adds c = subst (λ (xs : List Image). Contains xs j) (sym adds.is)
    (elim (Contains-append_cases adds.before adds.after j (subst (λ (xs : List Image). Contains xs j) adds.was c)) [
      | inl front ↦ Contains-append_left adds.before (i ∷ adds.after) j front
      | inr back ↦ Contains-append_right adds.before (i ∷ adds.after) j (contains_later i j adds.after back)
    ])

-- the numbers of an image
pub numbers : (kind : Kind) (serial stands_for parent : ℕ) → AreNumbers kind serial stands_for parent → (stands_for ≤ serial) × (parent < stands_for)
numbers PreDump serial stands_for parent are = (omega (arith, are), omega (arith, are))
numbers Dump serial stands_for parent are = (omega (arith, are), omega (arith, are))
numbers Merged serial stands_for parent are = (omega (arith, are), omega (arith, are))

numbers_in : (contents : List (List ℕ)) (images : List Image) (j : Image) → OpenImages contents images → Contains images j
    → (j.header.stands_for ≤ j.header.serial) × (j.header.parent < j.header.stands_for)
numbers_in [] images j none c = absurd (contains_none j (subst (λ (xs : List Image). Contains xs j) none c))
numbers_in (file ∷ files) images j (inl shut) c = numbers_in files images j shut.1 c
numbers_in (file ∷ files) images j (inr was) c = elim (contains_cases was.0 j was.1 (subst (λ (xs : List Image). Contains xs j) was.2 c)) [
  | inl e ↦ subst (λ (k : Image). (k.header.stands_for ≤ k.header.serial) × (k.header.parent < k.header.stands_for)) (sym e)
      (numbers was.0.header.kind was.0.header.serial was.0.header.stands_for was.0.header.parent was.4.header.numbers)
  | inr rest ↦ numbers_in files was.1 j was.5 rest
]

-- the store with the image more
pub opened_store : (contents : List (List ℕ)) (images : List Image) (slot : ℕ) (file : List ℕ) (i : Image) → IsStore contents images → slot < length contents
    → is_open (file_at contents slot) ≡ false → IsImage file i → AreUnder images i → (new : List Image) × IsStore (slice_set contents slot file) new × Adds images new i
opened_store contents images slot file i store within shut is under =
    let o = images_of_opened contents images slot file i store.slots within shut (image_opens file i is) is in
    (o.images, record { slots = o.slots; serials = distinct_more images o.images i o.adds under store.serials }, o.adds)

-- with a pre-dump more it shows the same
pub pre_dump_shows : (contents : List (List ℕ)) (slot : ℕ) (file : List ℕ) (i : Image) (shown : Option (ℕ × PlainMemory)) (shows : Shows contents shown) → slot < length contents
    → is_open (file_at contents slot) ≡ false → IsImage file i → AreUnder shows.images i → i.header.kind ≡ PreDump → Shows (slice_set contents slot file) shown
pre_dump_shows contents slot file i shown shows within shut is under kind =
    let store = opened_store contents shows.images slot file i shows.store within shut is under in
    let sound = opened_is_sound_lem contents shows.images shows.store in
    record {
      images = store.0;
      store = store.1;
      newest = cut_shows_the_same_lem shows.images (i ∷ []) store.0 [] shown sound.serials (record {
        needed = λ j needs. stays_in shows.images store.0 i j store.2 (needed_in shows.images [] j needs);
        within = λ j c. elim (among_added shows.images store.0 i j store.2 c) [
          | inl old ↦ inl old
          | inr e ↦ inr (subst (Contains (i ∷ [])) (sym e) (contains_front i []))
        ];
      }) (λ j c. elim (contains_cases i j [] c) [
        | inl e ↦ subst (LeavesShown shows.images []) (sym e) (pre_dump_is_harmless_lem shows.images [] i kind (record {
          stands = λ k d same. let n = numbers_in contents shows.images k shows.store.slots d in let less = under k d in absurd (omega (arith, n.0, less, same, itself));
          names = λ k d same. let n = numbers_in contents shows.images k shows.store.slots d in let less = under k d in absurd (omega (arith, n.0, n.1, less, same, itself));
          asks = λ c. contains_none i.header.stands_for c;
        }))
        | inr none ↦ absurd (contains_none j none)
      ]) shows.newest;
    }
  where
    itself : i.header.stands_for ≡ i.header.serial
    itself = (subst (λ (k : Kind). AreNumbers k i.header.serial i.header.stands_for i.header.parent) kind is.header.numbers).0
