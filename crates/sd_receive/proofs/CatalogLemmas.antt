-- The catalog of contents that keep their images, or have one more.
use Rattle.std.proofs.Common.{◌≡◌, ◌≢◌, ◌⊎◌, ◌<◌, ℕ, Bool, true, false, nat_eq, cond, List, [], length, map, All, Contains, Some, slice_index_or, slice_set, refl, sym, ◌∙◌, ap, subst, inl, inr, arith}
use Rattle.std.proofs.lemmas.Bool.{cases_eq, eq-eqb, false≢true, ne_eqb}
use Rattle.std.proofs.lemmas.List.Elements.{All-contains, All-contains_itself}
use Rattle.std.proofs.lemmas.Option.{get_or_from_slice_get, slice_get-get_or, slice_get_within}
use Rattle.sd_disk.specs.Contents.{file_at}
use Rattle.sd_image.specs.Image.{Image, IsImage, is_open}
use Rattle.sd_image.specs.Table.{IsTable}
use Rattle.sd_image.proofs.Members.{from_map}
use Rattle.sd_image.proofs.ReadyLemmas.{image_opens}
use Rattle.sd_chain.specs.Catalog.{IsSoundCatalog, Opened, Places, images, place_of}
use Rattle.sd_chain.specs.Store.{IsCatalogOf, IsOpenedAs}
use Rattle.sd_chain.specs.Ways.{AreImages}
use Rattle.sd_receive.specs.Arrived.{AddsImage}
use Rattle.sd_receive.specs.Arriving.{KeepsImages}
use Rattle.sd_receive.proofs.RunLemmas.{get_set_other, get_set_same}

either : (b : Bool) → (b ≡ true) ⊎ (b ≡ false)
either true = inl refl
either false = inr refl

pub catalog_kept : (a b : List (List ℕ)) (places : Places) → KeepsImages a b → IsCatalogOf a places → IsCatalogOf b places
catalog_kept a b places keeps catalog = record {
  sound = λ serial i there. let was = catalog.sound serial i there in (was.0, opened i was.0 was.1);
  all = λ slot file there opens. elim (either (is_open (file_at a slot))) [
    | inl was ↦ catalog.all slot (file_at a slot) (slice_get-get_or a slot [] (let inside = slice_get_within b slot file there in let count = keeps.count in omega (arith, inside, count))) was
    | inr shut ↦ absurd (false≢true (sym (keeps.closed slot shut) ∙ ap is_open (get_or_from_slice_get b slot file [] there) ∙ opens))
  ];
}
  where
    opened : (i : Opened) (image : Image) → IsOpenedAs a i image → IsOpenedAs b i image
    opened i image was =
        let inside = slice_get_within a i.slot was.file was.slot in
        let here : file_at a i.slot ≡ was.file = get_or_from_slice_get a i.slot was.file [] was.slot in
        let same : file_at b i.slot ≡ file_at a i.slot = keeps.opened i.slot (ap is_open here ∙ image_opens was.file image was.spelled) in
        record {
          file = was.file;
          slot = slice_get-get_or b i.slot [] (let count = keeps.count in omega (arith, inside, count)) ∙ ap Some (same ∙ here);
          spelled = was.spelled;
          header = was.header;
          spaces = was.spaces;
        }

-- an image in a slot that was closed
pub catalog_more : (contents : List (List ℕ)) (old new : Places) (file : List ℕ) (i : Opened) (image : Image) → IsCatalogOf contents old → i.slot < length contents
    → is_open (file_at contents i.slot) ≡ false → IsImage file image → image.header ≡ i.header → image.spaces ≡ i.spaces → AddsImage old new i
    → IsCatalogOf (slice_set contents i.slot file) new
catalog_more contents old new file i image catalog within shut is header spaces adds = record {
  sound = λ serial j there. sound serial j (nat_eq i.header.serial serial) refl (sym (adds.changes serial) ∙ there);
  all = λ slot other there opens. elim (cases_eq slot i.slot) [
    | inl same ↦ (i.header.serial, i, adds.changes i.header.serial ∙ ap (λ b. cond b (Some (Some i)) (place_of old i.header.serial)) (eq-eqb i.header.serial i.header.serial refl), sym same)
    | inr apart ↦
        let was = catalog.all slot other (sym (get_set_other contents i.slot slot file apart) ∙ there) opens in
        let fresh : nat_eq i.header.serial was.0 ≡ false = ne_eqb i.header.serial was.0 (λ e. adds.fresh was.1 (ap (place_of old) e ∙ was.2)) in
        (was.0, was.1, adds.changes was.0 ∙ ap (λ b. cond b (Some (Some i)) (place_of old was.0)) fresh ∙ was.2, was.3)
  ];
}
  where
    mine : IsOpenedAs (slice_set contents i.slot file) i image
    mine = record { file = file; slot = get_set_same contents i.slot file within; spelled = is; header = header; spaces = spaces }

    still : (j : Opened) (picture : Image) → IsOpenedAs contents j picture → IsOpenedAs (slice_set contents i.slot file) j picture
    still j picture was = record {
      file = was.file;
      slot = get_set_other contents i.slot j.slot file (λ same. false≢true (sym shut ∙ ap is_open (ap (file_at contents) (sym same) ∙ get_or_from_slice_get contents j.slot was.file [] was.slot)
          ∙ image_opens was.file picture was.spelled)) ∙ was.slot;
      spelled = was.spelled;
      header = was.header;
      spaces = was.spaces;
    }

    sound : (serial : ℕ) (j : Opened) (b : Bool) → nat_eq i.header.serial serial ≡ b → cond (nat_eq i.header.serial serial) (Some (Some i)) (place_of old serial) ≡ Some (Some j)
        → (picture : Image) × IsOpenedAs (slice_set contents i.slot file) j picture
    sound serial j true test there =
        let both : Some (Some i) ≡ Some (Some j) = ap (λ b. cond b (Some (Some i)) (place_of old serial)) (sym test) ∙ there in
        let same : i ≡ j = cc in
        (image, subst (λ (k : Opened). IsOpenedAs (slice_set contents i.slot file) k image) same mine)
    sound serial j false test there =
        let was = catalog.sound serial j (ap (λ b. cond b (Some (Some i)) (place_of old serial)) (sym test) ∙ there) in
        (was.0, still j was.0 was.1)

-- a slot without an image of the catalog is closed
pub free_is_closed : (contents : List (List ℕ)) (places : Places) (slot : ℕ) → IsSoundCatalog places → IsCatalogOf contents places → slot < length contents
    → All (λ (i : Opened). i.slot ≢ slot) (images places) → is_open (file_at contents slot) ≡ false
free_is_closed contents places slot sound catalog within none = elim (either (is_open (file_at contents slot))) [
  | inl opens ↦
      let there = catalog.all slot (file_at contents slot) (slice_get-get_or contents slot [] within) opens in
      absurd (All-contains (λ (i : Opened). i.slot ≢ slot) (images places) there.1 none (sound.member there.0 there.1 there.2) there.3)
  | inr shut ↦ shut
]

-- what is so of each image that is listed is so of the list
pub each_is : {X : Type 0} (P : X → Type 0) (xs : List X) → ((x : X) → Contains xs x → P x) → All P xs
each_is P xs each k d within = each (slice_index_or xs k d) (All-contains_itself xs k d within)

pub all_mapped : {X Y : Type 0} (f : X → Y) (P : Y → Type 0) (xs : List X) → All (λ x. P (f x)) xs → All P (map f xs)
all_mapped f P xs all = each_is P (map f xs) (λ y c. let m = from_map f xs y c in subst P (sym m.2) (All-contains (λ x. P (f x)) xs m.0 all m.1))

-- with a sound image more, the images are sound
pub images_more : (old new : Places) (i : Opened) → AreImages old → i.header.parent < i.header.stands_for → IsTable i.header i.spaces
    → ((j : Opened) → Contains (images new) j → Contains (images old) j ⊎ (j ≡ i)) → AreImages new
images_more old new i are falls table among = record {
  tables = each_is (λ (j : Opened). IsTable j.header j.spaces) (images new) (λ j c. elim (among j c) [
    | inl was ↦ All-contains (λ (k : Opened). IsTable k.header k.spaces) (images old) j are.tables was
    | inr e ↦ subst (λ (k : Opened). IsTable k.header k.spaces) (sym e) table
  ]);
  fall = each_is (λ (j : Opened). j.header.parent < j.header.stands_for) (images new) (λ j c. elim (among j c) [
    | inl was ↦ All-contains (λ (k : Opened). k.header.parent < k.header.stands_for) (images old) j are.fall was
    | inr e ↦ subst (λ (k : Opened). k.header.parent < k.header.stands_for) (sym e) falls
  ]);
}
