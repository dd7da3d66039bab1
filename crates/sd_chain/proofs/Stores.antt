-- The catalog of a store, and the store's images.
use Rattle.std.proofs.Common.{◌≡◌, ◌≢◌, ◌<◌, ◌+◌, ◌*◌, ℕ, zero, suc, Bool, true, false, nat_eq, List, [], ◌∷◌, map, get_or, Contains, Option, Some, None, Bor, refl, sym, ◌∙◌, ap, subst, inl, inr, arith}
use Rattle.std.specs.Prelude.{IfSome, MatchOption}
use Rattle.std.specs.List.{AllByRecursion, IsDistinct, slice_get}
use Rattle.std.proofs.lemmas.Bool.{false≢true, ne_eqb}
use Rattle.std.proofs.lemmas.List.Elements.{All-contains, Contains-get_or}
use Rattle.std.proofs.lemmas.Option.{get_or_from_slice_get, none-some, same_Some, slice_get_within}
use Rattle.sd_image.specs.declared.header.Header.{Header}
use Rattle.sd_image.specs.declared.header.Kind.{Kind}
use Rattle.sd_image.specs.declared.header.Kind.TheVariants.{PreDump, Dump, Merged}
use Rattle.sd_image.specs.declared.run.RunKind.TheVariants.{Data, Parent, Zero}
use Rattle.sd_image.specs.Header.{AreNumbers}
use Rattle.sd_image.specs.Image.{Image, IsImage, OpenImages, is_open}
use Rattle.sd_image.specs.Laws.{OneImage, PageInFile}
use Rattle.sd_image.specs.Shows.{Holds, IsNamed, IsNotAfter, IsRestorable, IsStore, IsTip, pages_of}
use Rattle.sd_image.specs.Table.{Listed, IsTable}
use Rattle.sd_image.proofs.Members.{contains_cases, contains_front, contains_later}
use Rattle.sd_chain.specs.declared.found.Found.{Found}
use Rattle.sd_chain.specs.declared.found.Found.TheVariants as found
use Rattle.sd_chain.specs.declared.way.Way.TheVariants as way
use Rattle.sd_chain.specs.Catalog.{Opened, Places, AreInOrder, place_of, images, IsNamedChoice, Names}
use Rattle.sd_chain.specs.Catalog as catalog
use Rattle.sd_chain.specs.Ways.{AreImages, HasPage, LiesAt}
use Rattle.sd_chain.specs.Ways as ways
use Rattle.sd_chain.specs.Store.{IsOpenedAs, IsCatalogOf, HasTheImages, FindsNamed, FindsTip, FindsHeld, IsInFile, bytes_at}
use Rattle.sd_chain.proofs.Members.{open_place, same_serial}
use Rattle.sd_chain.proofs.Lies.{IsResolved}
use Rattle.sd_chain.proofs.Walks.{member_of}

-- ---- the images of contents

true_not_false : (b : Bool) → b ≡ true → b ≡ false → {A : Type 0} → A
true_not_false b t f = absurd (false≢true (sym f ∙ t))

pub image_is_open : (file : List ℕ) (image : Image) → IsImage file image → is_open file ≡ true
image_is_open file image is = grind arith

-- an image of contents stands in a slot
record Stands (contents : List (List ℕ)) (image : Image) : Type 0 where
  slot : ℕ
  file : List ℕ
  there : slice_get contents slot ≡ Some file
  opens : is_open file ≡ true
  is : IsImage file image

stands_later : (file : List ℕ) (files : List (List ℕ)) (image : Image) → Stands files image → Stands (file ∷ files) image
stands_later file files image s = record { slot = suc s.slot; file = s.file; there = s.there; opens = s.opens; is = s.is }

standing : (contents : List (List ℕ)) (all : List Image) (image : Image) → OpenImages contents all → Contains all image → Stands contents image
standing [] all image none c = absurd (let d : Contains [] image = subst (λ (xs : List Image). Contains xs image) none c in omega (arith, d.1))
standing (file ∷ files) all image (inl a) c = stands_later file files image (standing files all image a.1 c)
standing (file ∷ files) all image (inr a) c = elim (contains_cases a.0 image a.1 (subst (λ (xs : List Image). Contains xs image) a.2 c)) [
  | inl e ↦ record { slot = 0; file = file; there = refl; opens = a.3; is = subst (IsImage file) (sym e) a.4 }
  | inr later ↦ stands_later file files image (standing files a.1 image a.5 later)
]

among : OneImage → (contents : List (List ℕ)) (all : List Image) (slot : ℕ) (file : List ℕ) (image : Image) → OpenImages contents all → slice_get contents slot ≡ Some file → IsImage file image → Contains all image
among one [] all slot file image slots there is = absurd (none-some file there)
among one (first ∷ files) all zero file image (inl a) there is =
    true_not_false (is_open first) (subst (λ (f : List ℕ). is_open f ≡ true) (sym (same_Some first file there)) (image_is_open file image is)) a.0
among one (first ∷ files) all zero file image (inr a) there is =
    let same : a.0 ≡ image = one file a.0 image (subst (λ (f : List ℕ). IsImage f a.0) (same_Some first file there) a.4) is in
    subst (λ (xs : List Image). Contains xs image) (sym a.2) (subst (λ (x : Image). Contains (a.0 ∷ a.1) x) same (contains_front a.0 a.1))
among one (first ∷ files) all (suc slot) file image (inl a) there is = among one files all slot file image a.1 there is
among one (first ∷ files) all (suc slot) file image (inr a) there is =
    subst (λ (xs : List Image). Contains xs image) (sym a.2) (contains_later a.0 image a.1 (among one files a.1 slot file image a.5 there is))

open_more : (file : List ℕ) (files : List (List ℕ)) (b : Bool) → is_open file ≡ b → (is_open file ≡ true → (image : Image) × IsImage file image)
    → (all : List Image) × OpenImages files all → (all : List Image) × OpenImages (file ∷ files) all
open_more file files true opens has rest = let first = has opens in (first.0 ∷ rest.0, inr (first.0, rest.0, refl, opens, first.1, rest.1))
open_more file files false closed has rest = (rest.0, inl (closed, rest.1))

opened : (contents : List (List ℕ)) → ((slot : ℕ) (file : List ℕ) → slice_get contents slot ≡ Some file → is_open file ≡ true → (image : Image) × IsImage file image)
    → (all : List Image) × OpenImages contents all
opened [] has = ([], refl)
opened (file ∷ files) has = open_more file files (is_open file) refl (has 0 file refl) (opened files (λ slot. has (suc slot)))

-- ---- the images of the catalog are those of the contents

-- what is known of a catalog of these contents
pub record IsTied (contents : List (List ℕ)) (all : List Image) (places : Places) : Type 0 where
  pub one : OneImage
  pub order : AreInOrder places
  pub catalog : IsCatalogOf contents places
  pub slots : OpenImages contents all

as_image : (contents : List (List ℕ)) (places : Places) (i : Opened) → AreInOrder places → IsCatalogOf contents places → Contains (images places) i → (image : Image) × IsOpenedAs contents i image
as_image contents places i order catalog c = catalog.sound i.header.serial i (open_place places i order c)

pub image_of : (contents : List (List ℕ)) (all : List Image) (places : Places) (i : Opened) → IsTied contents all places → Contains (images places) i
    → (image : Image) × Contains all image × IsOpenedAs contents i image
image_of contents all places i tied c =
    let found = as_image contents places i tied.order tied.catalog c in
    (found.0, among tied.one contents all i.slot found.1.file found.0 tied.slots found.1.slot found.1.spelled, found.1)

pub opened_of : (contents : List (List ℕ)) (all : List Image) (places : Places) (image : Image) → IsTied contents all places → Contains all image
    → (i : Opened) × Contains (images places) i × IsOpenedAs contents i image
opened_of contents all places image tied c =
    let s = standing contents all image tied.slots c in
    let entry = tied.catalog.all s.slot s.file s.there s.opens in
    let found = tied.catalog.sound entry.0 entry.1 entry.2 in
    let file : found.1.file ≡ s.file = same_Some found.1.file s.file (sym found.1.slot ∙ ap (slice_get contents) entry.3 ∙ s.there) in
    let same : found.0 ≡ image = tied.one s.file found.0 image (subst (λ (f : List ℕ). IsImage f found.0) file found.1.spelled) s.is in
    (entry.1, member_of places entry.0 entry.1 entry.2, subst (IsOpenedAs contents entry.1) same found.1)

-- ---- what a number names

pub named_of : (contents : List (List ℕ)) (all : List Image) (places : Places) (number : ℕ) (i : Opened) (image : Image) → IsTied contents all places → IsOpenedAs contents i image
    → Names places number i → IsNamed all number image
named_of contents all places number i image tied entry_is names =
    let stands : image.header.stands_for ≡ i.header.stands_for = ap (λ (h : Header). h.stands_for) entry_is.header in
    let serial : image.header.serial ≡ i.header.serial = ap (λ (h : Header). h.serial) entry_is.header in
    record {
      member = among tied.one contents all i.slot entry_is.file image tied.slots entry_is.slot entry_is.spelled;
      stands = stands ∙ names.stands;
      greatest = λ other c is.
          let j = opened_of contents all places other tied c in
          let le = names.greatest j.0 j.1 (ap (λ (h : Header). h.stands_for) (sym j.2.header) ∙ is) in
          let same : other.header.serial ≡ j.0.header.serial = ap (λ (h : Header). h.serial) j.2.header in
          omega (arith, le, same, serial);
    }

pub names_of : (contents : List (List ℕ)) (all : List Image) (places : Places) (number : ℕ) (i : Opened) (image : Image) → IsTied contents all places → Contains (images places) i → IsOpenedAs contents i image
    → IsNamed all number image → Names places number i
names_of contents all places number i image tied c entry_is named =
    let stands : image.header.stands_for ≡ i.header.stands_for = ap (λ (h : Header). h.stands_for) entry_is.header in
    let serial : image.header.serial ≡ i.header.serial = ap (λ (h : Header). h.serial) entry_is.header in
    record {
      member = c;
      stands = sym stands ∙ named.stands;
      greatest = λ j d is.
          let other = image_of contents all places j tied d in
          let le = named.greatest other.0 other.1 (ap (λ (h : Header). h.stands_for) other.2.header ∙ is) in
          let same : other.0.header.serial ≡ j.header.serial = ap (λ (h : Header). h.serial) other.2.header in
          omega (arith, le, same, serial);
    }

-- ---- where a page lies, and what is held

data_page : PageInFile → (contents : List (List ℕ)) (i : Opened) (image : Image) (page : ℕ × ℕ) (place : ℕ) → IsOpenedAs contents i image → HasPage i.spaces page (way.Data place)
    → IsInFile contents (found.Data i.slot (4096 + 4096 * place)) × (slice_get image.pages place ≡ Some (bytes_at contents (found.Data i.slot (4096 + 4096 * place))))
data_page pages contents i image page place entry_is has = grind (arith, get_or_from_slice_get, slice_get_within)

pub held_there : PageInFile → (contents : List (List ℕ)) (all : List Image) (places : Places) (page : ℕ × ℕ) (there : Found) (i : Opened) (image : Image) → IsTied contents all places → IsOpenedAs contents i image
    → LiesAt places page there i → Holds all page.0 page.1 (bytes_at contents there) image
held_there pages contents all places page there i image tied entry_is (ways.by_data _ place has is) =
    let has' : slice_get (pages_of Data image.spaces) place ≡ Some page = subst (λ (spaces : List Listed). HasPage spaces page (way.Data place)) (sym entry_is.spaces) has in
    subst (λ f. Holds all page.0 page.1 (bytes_at contents f) image) (sym is)
    (Holds.by_data image place has' (data_page pages contents i image page place entry_is has).1)
held_there pages contents all places page there i image tied entry_is (ways.by_zero _ has is) =
    subst (λ f. Holds all page.0 page.1 (bytes_at contents f) image) (sym is)
    (Holds.by_zero image (subst (λ (spaces : List Listed). Contains (pages_of Zero spaces) page) (sym entry_is.spaces) has) refl)
held_there pages contents all places page there i image tied entry_is (ways.by_parent _ parent has names lies) =
    let up = image_of contents all places parent tied names.member in
    let number : image.header.parent ≡ i.header.parent = ap (λ (h : Header). h.parent) entry_is.header in
    Holds.by_parent image up.0 (subst (λ (spaces : List Listed). Contains (pages_of Parent spaces) page) (sym entry_is.spaces) has)
    (subst (λ n. IsNamed all n up.0) (sym number) (named_of contents all places i.header.parent parent up.0 tied up.2 names))
    (held_there pages contents all places page there parent up.0 tied up.2 lies)

pub lies_there : PageInFile → (contents : List (List ℕ)) (all : List Image) (places : Places) (page : ℕ × ℕ) (bytes : List ℕ) (i : Opened) (image : Image) → IsTied contents all places → IsOpenedAs contents i image
    → Holds all page.0 page.1 bytes image → (there : Found) × LiesAt places page there i × (bytes ≡ bytes_at contents there)
lies_there pages contents all places page bytes i image tied entry_is (Holds.by_data _ place has is) =
    let has' : HasPage i.spaces page (way.Data place) = subst (λ (spaces : List Listed). HasPage spaces page (way.Data place)) entry_is.spaces has in
    let law = data_page pages contents i image page place entry_is has' in
    (found.Data i.slot (4096 + 4096 * place), ways.by_data i place has' refl, same_Some bytes _ (sym is ∙ law.1))
lies_there pages contents all places page bytes i image tied entry_is (Holds.by_zero _ has is) =
    (found.Zero, ways.by_zero i (subst (λ (spaces : List Listed). Contains (pages_of Zero spaces) page) entry_is.spaces has) refl, is)
lies_there pages contents all places page bytes i image tied entry_is (Holds.by_parent _ parent has named holds) =
    let up = opened_of contents all places parent tied named.member in
    let number : image.header.parent ≡ i.header.parent = ap (λ (h : Header). h.parent) entry_is.header in
    let names = names_of contents all places i.header.parent up.0 parent tied up.1 up.2 (subst (λ n. IsNamed all n parent) number named) in
    let lies = lies_there pages contents all places page bytes up.0 parent tied up.2 holds in
    (lies.0, ways.by_parent i up.0 (subst (λ (spaces : List Listed). Contains (pages_of Parent spaces) page) entry_is.spaces has) names lies.1, lies.2)

-- what lies somewhere is within its file
pub in_file : PageInFile → (contents : List (List ℕ)) (places : Places) (page : ℕ × ℕ) (there : Found) (i : Opened) → AreInOrder places → IsCatalogOf contents places → Contains (images places) i
    → LiesAt places page there i → IsInFile contents there
in_file pages contents places page there i order catalog c (ways.by_data _ place has is) =
    let entry_is = as_image contents places i order catalog c in
    subst (IsInFile contents) (sym is) (data_page pages contents i entry_is.0 page place entry_is.1 has).0
in_file pages contents places page there i order catalog c (ways.by_zero _ has is) = subst (IsInFile contents) (sym is) tt
in_file pages contents places page there i order catalog c (ways.by_parent _ parent has names lies) = in_file pages contents places page there parent order catalog names.member lies

-- ---- the catalog of contents has images

pub falls : (h : Header) → AreNumbers h.kind h.serial h.stands_for h.parent → h.parent < h.stands_for
falls h numbers = by h.kind numbers
  where
    by : (kind : Kind) → AreNumbers kind h.serial h.stands_for h.parent → h.parent < h.stands_for
    by PreDump n = omega (arith, n.0, n.1)
    by Dump n = omega (arith, n.0, n.1)
    by Merged n = omega (arith, n.0, n.2)

pub are_images : (contents : List (List ℕ)) (places : Places) → AreInOrder places → IsCatalogOf contents places → AreImages places
are_images contents places order catalog = record {
  tables = λ k d l.
      let entry_is = as_image contents places (get_or (images places) k d) order catalog (Contains-get_or (images places) k d l) in
      subst (λ (h : Header). IsTable h (get_or (images places) k d).spaces) entry_is.1.header (subst (IsTable entry_is.0.header) entry_is.1.spaces entry_is.1.spelled.table);
  fall = λ k d l.
      let entry_is = as_image contents places (get_or (images places) k d) order catalog (Contains-get_or (images places) k d l) in
      let h : entry_is.0.header ≡ (get_or (images places) k d).header = entry_is.1.header in
      subst (λ (h : Header). h.parent < h.stands_for) h (falls entry_is.0.header entry_is.1.spelled.header.numbers);
}

pub has_the_images : (contents : List (List ℕ)) (all : List Image) (places : Places) → IsTied contents all places → HasTheImages contents places all
has_the_images contents all places tied = record {
  image = λ i c. image_of contents all places i tied c;
  opened = λ image c. opened_of contents all places image tied c;
  named = λ number i image entry_is names. named_of contents all places number i image tied entry_is names;
  names = λ number i image c entry_is named. names_of contents all places number i image tied c entry_is named;
  fall = (are_images contents places tied.order tied.catalog).fall;
}

-- ---- what is found in a catalog of contents

pub held_by : PageInFile → (contents : List (List ℕ)) (all : List Image) (places : Places) (serial : ℕ) (page : ℕ × ℕ) (answer : Option Found) → IsTied contents all places
    → IsResolved places serial page answer → FindsHeld contents all serial page answer
held_by pages contents all places serial page answer tied resolved image c is bytes =
    let i = opened_of contents all places image tied c in
    let number : i.0.header.serial ≡ serial = ap (λ (h : Header). h.serial) (sym i.2.header) ∙ is in
    let there : place_of places serial ≡ Some (Some i.0) = subst (λ n. place_of places n ≡ Some (Some i.0)) number (open_place places i.0 tied.order i.1) in (
      λ holds.
          let lies = lies_there pages contents all places page bytes i.0 image tied i.2 holds in
          subst (λ o. MatchOption o ⊥ (λ found. bytes ≡ bytes_at contents found)) (sym ((resolved lies.0).1 (i.0, there, lies.1))) lies.2,
      λ found. back i.0 there i.2 answer resolved found,
    )
  where
    back : (i : Opened) → place_of places serial ≡ Some (Some i) → IsOpenedAs contents i image → (answer : Option Found) → IsResolved places serial page answer
        → MatchOption answer ⊥ (λ found. bytes ≡ bytes_at contents found) → Holds all page.0 page.1 bytes image
    back i there entry_is None resolved found = absurd found
    back i there entry_is (Some place) resolved found =
        let lies = (resolved place).0 refl in
        let both : Some (Some lies.0) ≡ Some (Some i) = sym lies.1 ∙ there in
        let same : lies.0 ≡ i = cc in
        subst (λ (bs : List ℕ). Holds all page.0 page.1 bs image) (sym found)
        (held_there pages contents all places page place i image tied entry_is (subst (LiesAt places page place) same lies.2))

pub inside_by : PageInFile → (contents : List (List ℕ)) (places : Places) (serial : ℕ) (page : ℕ × ℕ) (answer : Option Found) → AreInOrder places → IsCatalogOf contents places
    → IsResolved places serial page answer → IfSome answer (IsInFile contents)
inside_by pages contents places serial page None order catalog resolved = tt
inside_by pages contents places serial page (Some there) order catalog resolved =
    let lies = (resolved there).0 refl in
    in_file pages contents places page there lies.0 order catalog (member_of places serial lies.0 lies.1) lies.2

pub finds_named : (contents : List (List ℕ)) (all : List Image) (places : Places) (number : ℕ) (answer : Option (Bor Opened)) → IsTied contents all places
    → IsNamedChoice number (images places) answer → FindsNamed contents all number answer
finds_named contents all places number None tied none = λ image named.
    let i = opened_of contents all places image tied named.member in
    All-contains (λ (k : Opened). k.header.stands_for ≢ number) (images places) i.0 none i.1 (ap (λ (h : Header). h.stands_for) (sym i.2.header) ∙ named.stands)
finds_named contents all places number (Some i) tied names =
    let image = image_of contents all places i.now tied names.member in
    (image.0, image.2, named_of contents all places number i.now image.0 tied image.2 names)

-- ---- the contents are a store

distinct_files : (files : List (List ℕ)) (all : List Image) → OpenImages files all
    → ((a b : ℕ) (fa fb : List ℕ) (ia ib : Image) → slice_get files a ≡ Some fa → slice_get files b ≡ Some fb → IsImage fa ia → IsImage fb ib → ia.header.serial ≡ ib.header.serial → a ≡ b)
    → IsDistinct nat_eq (map (λ (i : Image). i.header.serial) all)
unfolding IsDistinct
distinct_files [] all none apart = subst (λ (xs : List Image). IsDistinct nat_eq (map (λ (i : Image). i.header.serial) xs)) (sym none) tt
distinct_files (file ∷ files) all (inl a) apart = distinct_files files all a.1 (λ x y fx fy ix iy p q r s e. let same = apart (suc x) (suc y) fx fy ix iy p q r s e in omega (arith, same))
distinct_files (file ∷ files) all (inr a) apart =
    subst (λ (xs : List Image). IsDistinct nat_eq (map (λ (i : Image). i.header.serial) xs)) (sym a.2) (
      differ a.1 (λ j c e.
          let s = standing files a.1 j a.5 c in
          let same = apart 0 (suc s.slot) file s.file a.0 j refl s.there a.4 s.is e in
          absurd (omega (arith, same))),
      distinct_files files a.1 a.5 (λ x y fx fy ix iy p q r s e. let same = apart (suc x) (suc y) fx fy ix iy p q r s e in omega (arith, same)),
    )
  where
    differ : (others : List Image) → ((j : Image) → Contains others j → a.0.header.serial ≡ j.header.serial → ⊥)
        → AllByRecursion (λ k. nat_eq a.0.header.serial k ≡ false) (map (λ (i : Image). i.header.serial) others)
    differ [] never = tt
    differ (j ∷ others) never =
        (ne_eqb a.0.header.serial j.header.serial (never j (contains_front j others)), differ others (λ k c. never k (contains_later j k others c)))

pub store_of : OneImage → (contents : List (List ℕ)) (places : Places) → AreInOrder places → IsCatalogOf contents places → (all : List Image) × IsTied contents all places × IsStore contents all
store_of one contents places order catalog =
    let all = opened contents (λ slot file there opens. let s = entry slot file there opens in (s.1, s.2)) in
    let tied : IsTied contents all.0 places = record { one = one; order = order; catalog = catalog; slots = all.1 } in
    (all.0, tied, record { slots = all.1; serials = distinct_files contents all.0 all.1 apart })
  where
    entry : (slot : ℕ) (file : List ℕ) → slice_get contents slot ≡ Some file → is_open file ≡ true → (i : Opened) × (image : Image) × IsImage file image
    entry slot file there opens =
        let found = catalog.all slot file there opens in
        let entry_is = catalog.sound found.0 found.1 found.2 in
        let same : entry_is.1.file ≡ file = same_Some entry_is.1.file file (sym entry_is.1.slot ∙ ap (slice_get contents) found.3 ∙ there) in
        (found.1, entry_is.0, subst (λ (f : List ℕ). IsImage f entry_is.0) same entry_is.1.spelled)

    at_slot : (slot : ℕ) (file : List ℕ) (image : Image) → slice_get contents slot ≡ Some file → IsImage file image → (i : Opened) × Contains (images places) i × (i.slot ≡ slot) × (i.header.serial ≡ image.header.serial)
    at_slot slot file image there is =
        let found = catalog.all slot file there (image_is_open file image is) in
        let entry_is = catalog.sound found.0 found.1 found.2 in
        let same : entry_is.1.file ≡ file = same_Some entry_is.1.file file (sym entry_is.1.slot ∙ ap (slice_get contents) found.3 ∙ there) in
        let image_is : entry_is.0 ≡ image = one file entry_is.0 image (subst (λ (f : List ℕ). IsImage f entry_is.0) same entry_is.1.spelled) is in
        (found.1, member_of places found.0 found.1 found.2, found.3, ap (λ (h : Header). h.serial) (sym entry_is.1.header) ∙ ap (λ (x : Image). x.header.serial) image_is)

    apart : (a b : ℕ) (fa fb : List ℕ) (ia ib : Image) → slice_get contents a ≡ Some fa → slice_get contents b ≡ Some fb → IsImage fa ia → IsImage fb ib → ia.header.serial ≡ ib.header.serial → a ≡ b
    apart a b fa fb ia ib p q r s e =
        let i = at_slot a fa ia p r in
        let j = at_slot b fb ib q s in
        let same : i.0 ≡ j.0 = same_serial places i.0 j.0 order i.1 j.1 (i.3 ∙ e ∙ sym j.3) in
        sym i.2 ∙ ap (λ (k : Opened). k.slot) same ∙ j.2

not_after : (i j : Opened) (a b : Image) → a.header ≡ i.header → b.header ≡ j.header → catalog.IsNotNewer i j → IsNotAfter a b
not_after i j a b p q h = grind arith

pub finds_tip : OneImage → (contents : List (List ℕ)) (places : Places) (answer : Option (Bor Opened)) → AreInOrder places → IsCatalogOf contents places
    → catalog.IsNewestChoice (images places) answer → FindsTip contents answer
finds_tip one contents places answer order ties chosen =
    let s = store_of one contents places order ties in
    record { images = s.0; store = s.2; newest = by s.0 s.1 answer chosen }
  where
    by : (all : List Image) → IsTied contents all places → (answer : Option (Bor Opened)) → catalog.IsNewestChoice (images places) answer
        → MatchOption answer ((image : Image) → Contains all image → IsRestorable image → ⊥) (λ i. (image : Image) × IsOpenedAs contents i.now image × IsTip all image)
    by all tied None none = λ image c restored.
        let i = opened_of contents all places image tied c in
        All-contains (λ (k : Opened). catalog.IsDumpOrMerged k → ⊥) (images places) i.0 none i.1 (subst (λ (h : Header). h.kind ≢ PreDump) i.2.header restored)
    by all tied (Some i) newest =
        let image = image_of contents all places i.now tied newest.member in (
          image.0,
          image.2,
          record {
            member = image.1;
            restorable = subst (λ (h : Header). h.kind ≢ PreDump) (sym image.2.header) newest.restored;
            greatest = λ other c restored.
                let j = opened_of contents all places other tied c in
                not_after j.0 i.now other image.0 j.2.header image.2.header (newest.greatest j.0 j.1 (subst (λ (h : Header). h.kind ≢ PreDump) j.2.header restored));
          },
        )
