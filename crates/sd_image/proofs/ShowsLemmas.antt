-- What contents show once an image is added to a closed slot.
use Rattle.std.proofs.Common.{◌≡◌, ◌⊎◌, ◌<◌, ◌≤◌, ℕ, zero, suc, Bool, true, false, nat_eq, List, [], ◌∷◌, ◌++◌, map, length, slice_set, slice_index_or, Contains, refl, sym, ◌∙◌, ap, subst, inl, inr, arith}
use Rattle.std.proofs.lemmas.Bool.{ne_eqb}
use Rattle.std.proofs.lemmas.List.{map-append}
use Rattle.std.specs.List.{AllByRecursion, IsDistinct}
use Rattle.std.proofs.lemmas.List.Elements.{Contains-append_cases, Contains-append_left, Contains-append_right, All-contains, recursion_from_All}
use Rattle.sd_image.specs.Image.{Image, IsImage, OpenImages, is_open}
use Rattle.sd_image.specs.Shows.{IsRestorable, IsTip}
use Rattle.sd_image.specs.Laws.{AreBelow, NewestIsShown}
use Rattle.sd_image.proofs.Members.{contains_cases, contains_front}

-- the new list is the old one with an image among the others
pub record Adds (old new : List Image) (i : Image) : Type 0 where
  pub before : List Image
  pub after : List Image
  pub was : old ≡ before ++ after
  pub is : new ≡ before ++ i ∷ after

pub record Opened (contents : List (List ℕ)) (old : List Image) (i : Image) : Type 0 where
  pub images : List Image
  pub slots : OpenImages contents images
  pub adds : Adds old images i

pub true_not_false : (b : Bool) → b ≡ true → b ≡ false → {A : Type 0} → A
true_not_false b t f = absurd (let e : true ≡ false = sym t ∙ f in cc)

with_first : (contents : List (List ℕ)) (old : List Image) (i first : Image) (file : List ℕ) → is_open file ≡ true → IsImage file first
    → Opened contents old i → Opened (file ∷ contents) (first ∷ old) i
with_first contents old i first file opens image o = record {
  images = first ∷ o.images;
  slots = inr (first, o.images, refl, opens, image, o.slots);
  adds = record { before = first ∷ o.adds.before; after = o.adds.after; was = ap (λ xs. first ∷ xs) o.adds.was; is = ap (λ xs. first ∷ xs) o.adds.is };
}

with_closed : (contents : List (List ℕ)) (old : List Image) (i : Image) (file : List ℕ) → is_open file ≡ false
    → Opened contents old i → Opened (file ∷ contents) old i
with_closed contents old i file closed o = record { images = o.images; slots = inl (closed, o.slots); adds = o.adds }

-- the images of contents in which a closed slot is opened
pub images_of_opened : (contents : List (List ℕ)) (images : List Image) (slot : ℕ) (file : List ℕ) (i : Image)
    → OpenImages contents images → slot < length contents → is_open (slice_index_or contents slot []) ≡ false
    → is_open file ≡ true → IsImage file i → Opened (slice_set contents slot file) images i
images_of_opened [] images slot file i slots within closed opens image = absurd (omega arith)
images_of_opened (old ∷ contents) images zero file i (inl was) within closed opens image =
    record { images = i ∷ images; slots = inr (i, images, refl, opens, image, was.1); adds = record { before = []; after = images; was = refl; is = refl } }
images_of_opened (old ∷ contents) images zero file i (inr was) within closed opens image =
    true_not_false (is_open old) was.3 closed
images_of_opened (old ∷ contents) images (suc slot) file i (inl was) within closed opens image =
    with_closed _ _ _ old was.0 (images_of_opened contents images slot file i was.1 (omega arith) closed opens image)
images_of_opened (old ∷ contents) images (suc slot) file i (inr was) within closed opens image =
    subst (λ images. Opened (old ∷ slice_set contents slot file) images i) (sym was.2)
    (with_first _ _ _ was.0 old was.3 was.4 (images_of_opened contents was.1 slot file i was.5 (omega arith) closed opens image))

-- who is among the images afterwards
pub among_added : (old new : List Image) (i j : Image) → Adds old new i → Contains new j → Contains old j ⊎ (j ≡ i)
among_added old new i j adds among =
    elim (Contains-append_cases adds.before (i ∷ adds.after) j (subst (λ xs. Contains xs j) adds.is among)) [
      | inl c ↦ inl (subst (λ xs. Contains xs j) (sym adds.was) (Contains-append_left adds.before adds.after j c))
      | inr c ↦ elim (contains_cases i j adds.after c) [
        | inl e ↦ inr e
        | inr d ↦ inl (subst (λ xs. Contains xs j) (sym adds.was) (Contains-append_right adds.before adds.after j d))
      ]
    ]

pub is_added : (old new : List Image) (i : Image) → Adds old new i → Contains new i
is_added old new i adds =
    subst (λ xs. Contains xs i) (sym adds.is) (Contains-append_right adds.before (i ∷ adds.after) i (contains_front i adds.after))

-- the tests of equality with a number above all others
none_equal : (n : ℕ) (images : List Image) → AllByRecursion (λ (i : Image). (i.header.serial < n) × (i.header.checkpoint < n)) images
    → AllByRecursion (λ k. nat_eq n k ≡ false) (map (λ (j : Image). j.header.serial) images)
none_equal n [] below = tt
none_equal n (i ∷ images) below = (ne_eqb n i.header.serial (λ e. let lt = below.0.0 in absurd (omega arith)), none_equal n images below.1)

pass_over : (m n : ℕ) → m < n → (before after : List ℕ) → AllByRecursion (λ k. nat_eq m k ≡ false) (before ++ after)
    → AllByRecursion (λ k. nat_eq m k ≡ false) (before ++ n ∷ after)
pass_over m n less [] after distinct = (ne_eqb m n (λ e. absurd (omega arith)), distinct)
pass_over m n less (k ∷ before) after distinct = (distinct.0, pass_over m n less before after distinct.1)

serials : List Image → List ℕ
serials images = map (λ (j : Image). j.header.serial) images

distinct_between : (n : ℕ) (before after : List Image)
    → AllByRecursion (λ (i : Image). (i.header.serial < n) × (i.header.checkpoint < n)) (before ++ after)
    → IsDistinct nat_eq (serials before ++ serials after) → IsDistinct nat_eq (serials before ++ n ∷ serials after)
unfolding IsDistinct serials
distinct_between n [] after below distinct = (none_equal n after below, distinct)
distinct_between n (i ∷ before) after below distinct =
    (pass_over i.header.serial n below.0.0 (serials before) (serials after) distinct.0, distinct_between n before after below.1 distinct.1)

-- a number above all others keeps the serials distinct
pub distinct_added : (n : ℕ) (old new : List Image) (i : Image) → Adds old new i → AreBelow n old → i.header.serial ≡ n
    → IsDistinct nat_eq (map (λ (j : Image). j.header.serial) old) → IsDistinct nat_eq (map (λ (j : Image). j.header.serial) new)
unfolding serials
distinct_added n old new i adds below is distinct =
    let was : IsDistinct nat_eq (serials adds.before ++ serials adds.after) =
    subst (IsDistinct nat_eq) (ap serials adds.was ∙ map-append (λ (j : Image). j.header.serial) adds.before adds.after) distinct in
    let under = recursion_from_All _ (adds.before ++ adds.after) (subst (AreBelow n) adds.was below) in
    let between = distinct_between n adds.before adds.after under was in
    let mine : serials (i ∷ adds.after) ≡ n ∷ serials adds.after = ap (λ k. k ∷ serials adds.after) is in
    subst (IsDistinct nat_eq)
    (sym (ap serials adds.is ∙ map-append (λ (j : Image). j.header.serial) adds.before (i ∷ adds.after) ∙ ap (λ xs. serials adds.before ++ xs) mine)) between

-- the image with numbers above all others is the tip
pub tip_added : (old new : List Image) (i : Image) → Adds old new i → AreBelow i.header.checkpoint old → IsRestorable i → IsTip new i
tip_added old new i adds below whole = record {
  member = is_added old new i adds;
  restorable = whole;
  greatest = λ j among restorable. elim (among_added old new i j adds among) [
    | inl c ↦ inl (All-contains (λ (k : Image). (k.header.serial < i.header.checkpoint) × (k.header.checkpoint < i.header.checkpoint)) old j below c).1
    | inr e ↦ inr (ap (λ (k : Image). k.header.checkpoint) e, subst (λ (k : Image). k.header.serial ≤ i.header.serial) (sym e) (omega arith))
  ];
}

pub newest_is_shown_lem : NewestIsShown
newest_is_shown_lem contents images slot file i memory store below is within closed opens image whole given =
    let o = images_of_opened contents images slot file i store.slots within closed opens image in
    record {
      images = o.images;
      store = record { slots = o.slots; serials = distinct_added i.header.checkpoint images o.images i o.adds below is store.serials };
      newest = (i, tip_added images o.images i o.adds below whole, refl, given o.images);
    }
