-- The catalog and the serials of the first slots, one slot more.
use Rattle.std.proofs.Common.{◌≡◌, ◌<◌, ◌+◌, ℕ, Bool, true, false, not, nat_eq, cond, ◌||◌, List, [], ◌∷◌, ◌++◌, map, filter, take, length, MatchOption, All, Contains, Option, None, Some, refl, sym, ◌∙◌, ap, subst, inl, inr, arith, length-append}
use Rattle.std.specs.Prelude.{is_some, ◌⊎◌, slice_index_or}
use Rattle.std.specs.List.{list_any, IsDistinct}
use Rattle.std.proofs.lemmas.Bool.Decides.{nat_tests}
use Rattle.std.proofs.lemmas.Cmp.{nat_eq_equiv}
use Rattle.std.proofs.lemmas.List.{map-append, length-take-le}
use Rattle.std.proofs.lemmas.List.Folds.{list_any-append}
use Rattle.std.proofs.lemmas.Map.Keys.{IsDistinct-push}
use Rattle.sd_disk.specs.Contents.{file_at}
use Rattle.sd_image.specs.declared.header.Header.{Header}
use Rattle.sd_image.specs.Image.{Image, IsImage, is_open}
use Rattle.sd_image.specs.Shows.{IsStore}
use Rattle.sd_image.specs.Table.{IsTable}
use Rattle.std.proofs.lemmas.List.Elements.{All-contains, Contains-get_or, filter-append}
use Rattle.sd_chain.specs.Catalog.{Opened, Places, place_of, Changes, images}
use Rattle.sd_chain.specs.Store.{IsCatalogOf}
use Rattle.sd_chain.specs.Laws.{ClosedSlotAddsNothing, OpenSlotAddsItsImage}
use Rattle.sd_image.specs.declared.reason.Reason.{Reason}
use Rattle.sd_image.specs.declared.reason.Reason.TheVariants.{DoubleSerial}
use Rattle.sd_restore.specs.declared.fault.Fault.{Fault}
use Rattle.sd_restore.specs.declared.fault.Fault.TheVariants.{Damaged}
use Rattle.sd_restore.specs.Faulty.{FaultNames, AreReadable, IsFaulty, IsFirstFaulty, IsFirstDouble, IsDamage}
use Rattle.sd_restore.specs.declared.scanned.Scanned.{Scanned}
use Rattle.sd_restore.specs.Scanned.{has_image, AreRead, IsScan, IsScanned}
use Rattle.sd_restore.proofs.TakeLemmas.{taken_at, taken_all}
use Rattle.sd_restore.proofs.FileLemmas.{open_more, closed_more}

abbrev pub serials_of : List Image → List ℕ
serials_of = map (λ (i : Image). i.header.serial)

pub scan_closed : ClosedSlotAddsNothing → (files : List (List ℕ)) (places : Places) (file : List ℕ) → IsScan files places → is_open file ≡ false → IsScan (files ++ file ∷ []) places
scan_closed law files places file was closed = grind (arith, closed_more)

pub readable_closed : (files : List (List ℕ)) (file : List ℕ) → AreReadable files → is_open file ≡ false → AreReadable (files ++ file ∷ [])
readable_closed files file was closed = record { images = was.images; are = closed_more files was.images file was.are closed }

pub readable_open : (files : List (List ℕ)) (file : List ℕ) (image : Image) → AreReadable files → is_open file ≡ true → IsImage file image → AreReadable (files ++ file ∷ [])
readable_open files file image was opens is = record { images = was.images ++ image ∷ []; are = open_more files was.images file image was.are opens is }

no_image : (place : Option (Option Opened)) → ((other : Opened) → place ≡ Some (Some other) → ⊥) → has_image place ≡ false
no_image place none = grind arith

one_more : (b : Bool) (x y : Option (Option Opened)) (c : Bool) → has_image y ≡ true → has_image x ≡ c → has_image (cond b y x) ≡ (c || (b || false))
one_more b x y c e f = grind arith

turned : (a b : ℕ) → nat_eq a b ≡ nat_eq b a
turned a b = grind (arith, nat_tests)

pub scan_open : OpenSlotAddsItsImage → (files : List (List ℕ)) (old new : Places) (file : List ℕ) (i : Opened) (image : Image)
    → IsScan files old → is_open file ≡ true → IsImage file image → image.header ≡ i.header → image.spaces ≡ i.spaces → i.slot ≡ length files
    → ((other : Opened) → place_of old i.header.serial ≡ Some (Some other) → ⊥)
    → Changes old new i.header.serial (Some (Some i)) → IsScan (files ++ file ∷ []) new
scan_open law files old new file i image was opens is header spaces slot none changes =
    let serial : ℕ = image.header.serial in
    let same : i.header.serial ≡ serial = ap (λ h. h.serial) (sym header) in
    let serials : serials_of (was.images ++ image ∷ []) ≡ serials_of was.images ++ serial ∷ [] = map-append (λ (i : Image). i.header.serial) was.images (image ∷ []) in
    let absent : list_any (nat_eq serial) (serials_of was.images) ≡ false =
    sym (was.serials serial) ∙ no_image (place_of old serial) (subst (λ n. (other : Opened) → place_of old n ≡ Some (Some other) → ⊥) same none) in
    record {
      catalog = law files old new file i image was.catalog is header spaces slot none changes;
      images = was.images ++ image ∷ [];
      store = record {
        slots = open_more files was.images file image was.store.slots opens is;
        serials = subst (IsDistinct nat_eq) (sym serials) (IsDistinct-push nat_eq_equiv (serials_of was.images) serial was.store.serials absent);
      };
      serials = λ n. ap has_image (changes n)
          ∙ one_more (nat_eq i.header.serial n) (place_of old n) (Some (Some i)) (list_any (nat_eq n) (serials_of was.images)) refl (was.serials n)
          ∙ ap (λ b. list_any (nat_eq n) (serials_of was.images) || (b || false)) (ap (λ k. nat_eq k n) same ∙ turned serial n)
          ∙ sym (ap (list_any (nat_eq n)) serials ∙ list_any-append (nat_eq n) (serials_of was.images) (serial ∷ []));
    }

length_of_files : (contents : List (List ℕ)) (slot : ℕ) → slot < length contents → slot ≡ length (take slot contents)
length_of_files contents slot less = sym (length-take-le slot contents (omega (arith, less)))

-- How many slots are open, one slot more.

count_file : (file : List ℕ) (b : Bool) → is_open file ≡ b → length (filter is_open (file ∷ [])) ≡ cond b 1 0
count_file file b is = ap (λ b. length (cond b (file ∷ []) [])) is ∙ by b
  where
    by : (b : Bool) → length (cond b (file ∷ []) []) ≡ cond b 1 0
    by true = refl
    by false = refl

count_more : (contents : List (List ℕ)) (slot : ℕ) (b : Bool) → slot < length contents → is_open (file_at contents slot) ≡ b
    → length (filter is_open (take (slot + 1) contents)) ≡ length (filter is_open (take slot contents)) + cond b 1 0
count_more contents slot b less is =
    ap (λ files. length (filter is_open files)) (taken_at contents slot [] less)
    ∙ ap length (filter-append is_open (take slot contents) (file_at contents slot ∷ []))
    ∙ length-append (filter is_open (take slot contents)) (filter is_open (file_at contents slot ∷ []))
    ∙ ap (λ n. length (filter is_open (take slot contents)) + n) (count_file (file_at contents slot) b is)

count_open : (contents : List (List ℕ)) (slot : ℕ) → slot < length contents → is_open (file_at contents slot) ≡ true
    → length (filter is_open (take (slot + 1) contents)) ≡ length (filter is_open (take slot contents)) + 1
count_open contents slot less opens = count_more contents slot true less opens

count_closed : (contents : List (List ℕ)) (slot : ℕ) → slot < length contents → is_open (file_at contents slot) ≡ false
    → length (filter is_open (take (slot + 1) contents)) ≡ length (filter is_open (take slot contents))
count_closed contents slot less closed = count_more contents slot false less closed ∙ omega arith

-- What was read of any device, one image more.

all_more : (P : Opened → Type 0) (old new : Places) (i : Opened) → ((j : Opened) → Contains (images new) j → Contains (images old) j ⊎ (j ≡ i)) → P i → All P (images old) → All P (images new)
all_more P old new i others here all k d less = elim (others (slice_index_or (images new) k d) (Contains-get_or (images new) k d less)) [
  | inl before ↦ All-contains P (images old) _ all before
  | inr is ↦ subst P (sym is) here
]

held_stays : (b : Bool) (x : Option (Option Opened)) (i : Opened) → cond b (Some (Some i)) x ≡ Some None → x ≡ Some None
held_stays b x i e = grind arith

pub one_more_read : (count : ℕ) (old new : Places) (i : Opened) → Changes old new i.header.serial (Some (Some i)) → ((j : Opened) → Contains (images new) j → Contains (images old) j ⊎ (j ≡ i)) → i.slot < count
    → IsTable i.header i.spaces → i.header.parent < i.header.stands_for → AreRead count old → AreRead count new
one_more_read count old new i changes others within table falls was = record {
  none_held = λ serial held. was.none_held serial (held_stays (nat_eq i.header.serial serial) (place_of old serial) i (sym (changes serial) ∙ held));
  slots = all_more (λ (j : Opened). j.slot < count) old new i others within was.slots;
  are = record {
    tables = all_more (λ (j : Opened). IsTable j.header j.spaces) old new i others table was.are.tables;
    fall = all_more (λ (j : Opened). j.header.parent < j.header.stands_for) old new i others falls was.are.fall;
  };
}

-- Each of these is said of the slots up to one, and of that slot's file.

-- what a state says where there is no double serial, and where there is one
state_more : (contents : List (List ℕ)) (slot : ℕ) (old new : Places) (double : Option ℕ)
    → (IsScan (take slot contents) old → IsScan (take slot contents ++ file_at contents slot ∷ []) new) → slot < length contents
    → MatchOption double (IsScan (take slot contents) old) (IsFirstDouble contents) → MatchOption double (IsScan (take (slot + 1) contents) new) (IsFirstDouble contents)
state_more contents slot old new None more less state = subst (λ files. IsScan files new) (sym (taken_at contents slot [] less)) (more state)
state_more contents slot old new (Some first) more less state = state

pub closed_scanned : ClosedSlotAddsNothing → (contents : List (List ℕ)) (slot : ℕ) (scanned : Scanned) → slot < length contents → is_open (file_at contents slot) ≡ false
    → IsScanned contents slot scanned → IsScanned contents (slot + 1) scanned
closed_scanned law contents slot scanned less closed was = record {
  counted = was.counted ∙ sym (count_closed contents slot less closed);
  readable = subst AreReadable (sym (taken_at contents slot [] less)) (readable_closed (take slot contents) (file_at contents slot) was.readable closed);
  state = state_more contents slot scanned.catalog scanned.catalog scanned.double
      (λ scan. scan_closed law (take slot contents) scanned.catalog (file_at contents slot) scan closed) less was.state;
}

pub open_scanned : OpenSlotAddsItsImage → (contents : List (List ℕ)) (slot : ℕ) (scanned : Scanned) (new : Places) (i : Opened) (image : Image) → slot < length contents
    → is_open (file_at contents slot) ≡ true → IsImage (file_at contents slot) image → image.header ≡ i.header → image.spaces ≡ i.spaces → i.slot ≡ slot
    → ((other : Opened) → place_of scanned.catalog i.header.serial ≡ Some (Some other) → ⊥)
    → Changes scanned.catalog new i.header.serial (Some (Some i))
    → IsScanned contents slot scanned → IsScanned contents (slot + 1) (record { catalog = new; images = scanned.images + 1; double = scanned.double })
open_scanned law contents slot scanned new i image less opens is header spaces at none changes was = record {
  counted = ap (λ n. n + 1) was.counted ∙ sym (count_open contents slot less opens);
  readable = subst AreReadable (sym (taken_at contents slot [] less)) (readable_open (take slot contents) (file_at contents slot) image was.readable opens is);
  state = state_more contents slot scanned.catalog new scanned.double
      (λ scan. scan_open law (take slot contents) scanned.catalog new (file_at contents slot) i image scan opens is header spaces (at ∙ length_of_files contents slot less) none changes) less was.state;
}

-- a serial that was there
first_double : (contents : List (List ℕ)) (slot : ℕ) (places : Places) (i : Opened) (image : Image) → is_open (file_at contents slot) ≡ true → IsImage (file_at contents slot) image
    → place_of places image.header.serial ≡ Some (Some i) → IsScan (take slot contents) places → IsFirstDouble contents slot
first_double contents slot places i image opens is there scan = grind arith

first_here : (contents : List (List ℕ)) (slot : ℕ) (places : Places) (double : Option ℕ) (none : Bool) → none ≡ true → is_some double ≡ not none
    → (IsScan (take slot contents) places → IsFirstDouble contents slot)
    → MatchOption double (IsScan (take slot contents) places) (IsFirstDouble contents) → IsFirstDouble contents slot
first_here contents slot places double none is has this state = grind arith

first_before : (contents : List (List ℕ)) (slot : ℕ) (old new : Places) (double : Option ℕ) (none : Bool) → none ≡ false → is_some double ≡ not none
    → MatchOption double (IsScan (take slot contents) old) (IsFirstDouble contents)
    → MatchOption double (IsScan (take (slot + 1) contents) new) (IsFirstDouble contents)
first_before contents slot old new None none is has state = absurd (let e : false ≡ true = has ∙ ap not is in cc)
first_before contents slot old new (Some first) none is has state = state

pub double_first : (contents : List (List ℕ)) (slot : ℕ) (scanned : Scanned) (new : Places) (i : Opened) (image : Image) {h : Header} (none : Bool) → none ≡ true → is_some scanned.double ≡ not none
    → slot < length contents → is_open (file_at contents slot) ≡ true → IsImage (file_at contents slot) image → image.header ≡ h
    → place_of scanned.catalog h.serial ≡ Some (Some i)
    → IsScanned contents slot scanned → IsScanned contents (slot + 1) (record { catalog = new; images = scanned.images + 1; double = Some slot })
double_first contents slot scanned new i image none is_none has less opens is header there was = record {
  counted = ap (λ n. n + 1) was.counted ∙ sym (count_open contents slot less opens);
  readable = subst AreReadable (sym (taken_at contents slot [] less)) (readable_open (take slot contents) (file_at contents slot) image was.readable opens is);
  state = first_here contents slot scanned.catalog scanned.double none is_none has
      (first_double contents slot scanned.catalog i image opens is (ap (λ h. place_of scanned.catalog h.serial) header ∙ there)) was.state;
}

pub double_again : (contents : List (List ℕ)) (slot : ℕ) (scanned : Scanned) (new : Places) (image : Image) (none : Bool) → none ≡ false → is_some scanned.double ≡ not none
    → slot < length contents → is_open (file_at contents slot) ≡ true → IsImage (file_at contents slot) image
    → IsScanned contents slot scanned → IsScanned contents (slot + 1) (record { catalog = new; images = scanned.images + 1; double = scanned.double })
double_again contents slot scanned new image none is_none has less opens is was = record {
  counted = ap (λ n. n + 1) was.counted ∙ sym (count_open contents slot less opens);
  readable = subst AreReadable (sym (taken_at contents slot [] less)) (readable_open (take slot contents) (file_at contents slot) image was.readable opens is);
  state = first_before contents slot scanned.catalog new scanned.double none is_none has was.state;
}

-- A fault at a slot, and what was found in the slots before it.

pub names_more : (P Q : ℕ → Reason → Type 0) (fault : Fault) → ((slot : ℕ) (reason : Reason) → P slot reason → Q slot reason) → FaultNames P fault → FaultNames Q fault
names_more P Q (Damaged slot reason) more names = more slot reason names
names_more P Q _ more names = tt

pub first_faulty : (contents : List (List ℕ)) (slot : ℕ) (fault : Fault) → AreReadable (take slot contents)
    → FaultNames (λ s reason. (s ≡ slot) × IsFaulty (file_at contents slot) reason) fault → FaultNames (IsFirstFaulty contents) fault
first_faulty contents slot fault before = names_more _ _ fault (λ s reason is.
    subst (λ k. IsFirstFaulty contents k reason) (sym is.0) (record { faulty = is.1; before = before }))

-- All slots.

pub double_is_damage : (contents : List (List ℕ)) (scanned : Scanned) (slot : ℕ) → scanned.double ≡ Some slot → IsScanned contents (length contents) scanned → IsDamage contents slot DoubleSerial
double_is_damage contents scanned slot is was = grind (arith, taken_all)

pub catalog_of_all : (contents : List (List ℕ)) (scanned : Scanned) → scanned.double ≡ None → IsScanned contents (length contents) scanned → IsCatalogOf contents scanned.catalog
catalog_of_all contents scanned is was = grind (arith, taken_all)

pub store_of_all : (contents : List (List ℕ)) (scanned : Scanned) → scanned.double ≡ None → IsScanned contents (length contents) scanned → (images : List Image) × IsStore contents images
store_of_all contents scanned is was =
    let scan : IsScan (take (length contents) contents) scanned.catalog =
    subst (λ double. MatchOption double (IsScan (take (length contents) contents) scanned.catalog) (IsFirstDouble contents)) is was.state in
    (scan.images, subst (λ files. IsStore files scan.images) (taken_all contents (length contents) (omega arith)) scan.store)

pub count_of_all : (contents : List (List ℕ)) (scanned : Scanned) → IsScanned contents (length contents) scanned → scanned.images ≡ length (filter is_open contents)
count_of_all contents scanned was = was.counted ∙ ap (λ files. length (filter is_open files)) (taken_all contents (length contents) (omega arith))
