-- What is needed, and what an error says.
use Rattle.std.proofs.Common.{◌≡◌, ◌≢◌, ℕ, zero, suc, true, false, List, [], ◌∷◌, Option, Some, None, Err, refl, sym, ◌∙◌, ap, subst, inl, inr}
use Rattle.std.specs.Result.{IsErrOf}
use Rattle.std.proofs.lemmas.Option.{none-some}
use Rattle.sd_areas.specs.PlainMemory.{PlainMemory}
use Rattle.sd_disk.specs.Contents.{file_at}
use Rattle.sd_image.specs.declared.reason.Reason.{Reason}
use Rattle.sd_image.specs.Image.{Image, is_open}
use Rattle.sd_image.specs.Shows.{IsStore, Shows}
use Rattle.sd_image.proofs.FileLaws.{good_store}
use Rattle.sd_image.proofs.OneImage.{one_image_lem, one_store_lem}
use Rattle.sd_image.proofs.OneMemory.{shown_once_lem}
use Rattle.sd_image.proofs.ReadyLemmas.{image_opens}
use Rattle.sd_chain.specs.Catalog.{IsSoundCatalog, Places}
use Rattle.sd_chain.specs.Store.{HasTheImages, IsCatalogOf}
use Rattle.sd_restore.specs.declared.fault.Fault.{Fault}
use Rattle.sd_restore.specs.declared.fault.Fault.TheVariants as fault
use Rattle.sd_restore.specs.Faulty.{FaultNames, IsDamage}
use Rattle.sd_restore.proofs.GoodLemmas.{no_damage}
use Rattle.sd_drop.specs.declared.drop_error.DropError.{DropError}
use Rattle.sd_drop.specs.declared.drop_error.DropError.TheVariants.{Closed, Needed, Damaged, Device, OutOfMemory}
use Rattle.sd_drop.specs.Closing.{closed_at}
use Rattle.sd_drop.specs.Errors.{ErrorSays, error_of, error_without}
use Rattle.sd_drop.specs.Needed.{IsDamagedBeside, IsNeeded, IsUnneeded}
use Rattle.sd_drop.specs.Reached.{IsReachedIn}
use Rattle.sd_drop.proofs.ReachLemmas.{left_images, reached_in, reached_out}

-- a slot that counts as closed has no bytes
pub none_at : (contents : List (List ℕ)) (slot : ℕ) → file_at (closed_at contents slot) slot ≡ []
none_at [] slot = refl
none_at (file ∷ files) zero = refl
none_at (file ∷ files) (suc slot) = none_at files slot

pub counts_closed : (contents : List (List ℕ)) (slot : ℕ) → is_open (file_at (closed_at contents slot) slot) ≡ false
counts_closed contents slot = ap is_open (none_at contents slot)

not_there : (contents : List (List ℕ)) (slot other : ℕ) → is_open (file_at (closed_at contents slot) other) ≡ true → other ≢ slot
not_there contents slot other opens same =
    absurd (let e : false ≡ true = sym (counts_closed contents slot) ∙ ap (λ s. is_open (file_at (closed_at contents slot) s)) (sym same) ∙ opens in cc)

-- so it isn't reported for damage
pub damaged_elsewhere : (contents : List (List ℕ)) (slot other : ℕ) (reason : Reason) → IsDamage (closed_at contents slot) other reason → other ≢ slot
damaged_elsewhere contents slot other reason (inl first) = not_there contents slot other first.faulty.opens
damaged_elsewhere contents slot other reason (inr double) = not_there contents slot other double.first.opens

-- ---- in order

-- the catalog of a store in order says what is needed
pub needed_in_order : (contents : List (List ℕ)) (places : Places) (all : List Image) (slot : ℕ) (error : DropError) → HasTheImages contents places all
    → IsStore contents all → (error ≡ Needed) × IsReachedIn places slot → ErrorSays ⊥ (IsNeeded contents slot) (IsDamagedBeside contents slot) error
needed_in_order contents places all slot error h store r =
    subst (ErrorSays ⊥ (IsNeeded contents slot) (IsDamagedBeside contents slot)) (sym r.0) (inl (reached_out contents places all slot h store r.1))

free_in_order : (contents : List (List ℕ)) (places : Places) (all : List Image) (slot : ℕ) → IsSoundCatalog places → IsCatalogOf contents places
    → HasTheImages contents places all → IsStore contents all → (IsReachedIn places slot → ⊥) → IsNeeded contents slot → ⊥
free_in_order contents places all slot sound of h store free (inl r) =
    free (reached_in contents places all slot one_image_lem one_store_lem sound of h store.slots (image_opens (file_at contents slot) r.image r.is) r)
free_in_order contents places all slot sound of h store free (inr m) = no_damage good_store one_image_lem contents all slot m.reason store m.damage

pub unneeded_in_order : (contents : List (List ℕ)) (places : Places) (all : List Image) (slot : ℕ) → IsSoundCatalog places → IsCatalogOf contents places
    → HasTheImages contents places all → IsStore contents all → (IsReachedIn places slot → ⊥) → IsUnneeded contents slot
unneeded_in_order contents places all slot sound of h store free =
    let left = left_images contents slot all store.slots in
    record {
      images = left.0;
      store = record { slots = left.1.slots; serials = left.1.serials store.serials };
      free = free_in_order contents places all slot sound of h store free;
    }

-- ---- damaged

free_without : (contents : List (List ℕ)) (slot : ℕ) (reason : Reason) (moment : ℕ × PlainMemory) → IsDamage contents slot reason
    → Shows (closed_at contents slot) (Some moment) → IsNeeded contents slot → ⊥
free_without contents slot reason moment damage shows (inl r) = no_damage good_store one_image_lem contents r.images slot reason r.store damage
free_without contents slot reason moment damage shows (inr m) = m.shows_none moment shows

pub unneeded_without : (contents : List (List ℕ)) (slot : ℕ) (reason : Reason) (moment : ℕ × PlainMemory) → IsDamage contents slot reason
    → Shows (closed_at contents slot) (Some moment) → IsUnneeded contents slot
unneeded_without contents slot reason moment damage shows =
    record { images = shows.images; store = shows.store; free = free_without contents slot reason moment damage shows }

missed : (contents : List (List ℕ)) (slot : ℕ) (reason : Reason) → IsDamage contents slot reason
    → ((moment : ℕ × PlainMemory) → Shows (closed_at contents slot) (Some moment) → ⊥) → IsNeeded contents slot
missed contents slot reason damage none = inr (record { reason = reason; damage = damage; shows_none = none })

-- what is said where no memory is found without the slot
pub without_says : {T : Type 0} (contents : List (List ℕ)) (slot : ℕ) (reason : Reason) (why : Fault) → IsDamage contents slot reason
    → (IsErrOf {T = T} {E = Fault} (Err why) fault.EmptyChain → Shows (closed_at contents slot) None)
    → ((shown : Option (ℕ × PlainMemory)) → Shows (closed_at contents slot) shown → FaultNames (λ _ _. ⊥) why)
    → ErrorSays ⊥ (IsNeeded contents slot) (IsDamagedBeside contents slot) (error_without why)
without_says contents slot reason fault.EmptyChain damage empty good =
    missed contents slot reason damage (λ moment shows. none-some moment (shown_once_lem (closed_at contents slot) None (Some moment) (empty refl) shows))
without_says contents slot reason (fault.Damaged other why) damage empty good = missed contents slot reason damage (λ moment shows. good (Some moment) shows)
without_says contents slot reason fault.Device damage empty good = tt
without_says contents slot reason fault.OutOfMemory damage empty good = tt

-- ---- faults of reading

-- with the slot counted as closed
pub beside_says : (contents : List (List ℕ)) (slot : ℕ) (why : Fault) → why ≢ fault.EmptyChain → FaultNames (IsDamage (closed_at contents slot)) why
    → ErrorSays ⊥ (IsNeeded contents slot) (IsDamagedBeside contents slot) (error_of why)
beside_says contents slot fault.EmptyChain some names = absurd (some refl)
beside_says contents slot (fault.Damaged other reason) some names = (damaged_elsewhere contents slot other reason names, inr names)
beside_says contents slot fault.Device some names = tt
beside_says contents slot fault.OutOfMemory some names = tt

-- and with its own file, of another slot
pub other_says : (contents : List (List ℕ)) (slot : ℕ) (why : Fault) → why ≢ fault.EmptyChain → ((reason : Reason) → why ≢ fault.Damaged slot reason)
    → FaultNames (IsDamage contents) why → ErrorSays ⊥ (IsNeeded contents slot) (IsDamagedBeside contents slot) (error_of why)
other_says contents slot fault.EmptyChain some other names = absurd (some refl)
other_says contents slot (fault.Damaged at reason) some other names =
    ((λ same. other reason (ap (λ s. fault.Damaged s reason) same)), inl names)
other_says contents slot fault.Device some other names = tt
other_says contents slot fault.OutOfMemory some other names = tt

pub its_damage : (contents : List (List ℕ)) (slot : ℕ) (why : Fault) (reason : Reason) → why ≡ fault.Damaged slot reason → FaultNames (IsDamage contents) why
    → IsDamage contents slot reason
its_damage contents slot why reason is names = subst (FaultNames (IsDamage contents)) is names

-- an error that is none of a device
pub device_of : (why : Fault) → error_of why ≡ Device → why ≡ fault.Device
device_of fault.EmptyChain e = absurd cc
device_of (fault.Damaged slot reason) e = absurd cc
device_of fault.Device e = refl
device_of fault.OutOfMemory e = absurd cc

-- what an error says where a closed slot says nothing more
pub says_more : (C N : Type 0) (P : ℕ → Reason → Type 0) (error : DropError) → ErrorSays ⊥ N P error → ErrorSays C N P error
says_more C N P Closed says = absurd says
says_more C N P Needed says = says
says_more C N P (Damaged slot reason) says = says
says_more C N P Device says = tt
says_more C N P OutOfMemory says = tt

pub closed_says : (C N : Type 0) (P : ℕ → Reason → Type 0) (error : DropError) → ErrorSays C ⊥ (λ _ _. ⊥) error → ErrorSays C N P error
closed_says C N P Closed says = says
closed_says C N P Needed says = absurd says
closed_says C N P (Damaged slot reason) says = absurd says
closed_says C N P Device says = tt
closed_says C N P OutOfMemory says = tt
