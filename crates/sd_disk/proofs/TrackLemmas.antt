-- The slots of a disk in memory keep to its record of calls.
use Rattle.std.proofs.Common.{◌≡◌, ◌≢◌, ⊎_elim, ℕ, ◌+◌, ◌<◌, Bool, true, cond, ◌||◌, nat_eq, List, [], ◌∷◌, length, map, slice_index_or, slice_set, refl, sym, ap, ◌∙◌, subst, arith, get_or-set_other, get_or-set_same}
use Rattle.std.proofs.lemmas.Bool.{cases_eq}
use Rattle.std.proofs.lemmas.Bool.Decides.{eqb_tells}
use Rattle.std.proofs.lemmas.List.{length-set, length-map, same_lists, get_or_default}
use Rattle.sd_disk.specs.Contents.{file_at}
use Rattle.sd_disk.specs.Crash.{Only}
use Rattle.sd_disk.specs.Events.{Outside, DiskEvent, files_after_call, files_after}
use Rattle.sd_disk.specs.Outcomes.{Leaves, MayLeave, AreSettled, at_rest, with_write, with_cut, unsynced_after, was_synced}
use Rattle.sd_disk.specs.Slots.{held, ShadowTracks, AreTracked}
use Rattle.sd_disk.specs.declared.call.Call.TheVariants.{Written, Cut as Cuts, Synced}
use Rattle.sd_disk.specs.declared.slot_file.SlotFile.{SlotFile}
use Rattle.sd_disk.proofs.LeaveLemmas.{rest_only}
use Rattle.sd_disk.proofs.MemoryLemmas.{file_read}

unchosen_at : {X : Type 0} (i number : ℕ) (x y : X) → number ≢ i → cond (nat_eq i number) x y ≡ y
unchosen_at i number x y apart = ⊎_elim (λ is. absurd (apart (sym is.1))) (λ is. rw is.0 refl) (eqb_tells i number)

chosen_at : {X : Type 0} (i : ℕ) (x y : X) → cond (nat_eq i i) x y ≡ x
chosen_at i x y = ⊎_elim (λ is. rw is.0 refl) (λ is. absurd (is.1 refl)) (eqb_tells i i)

either_way : (b : Bool) {c : Bool} → c ≡ true → (b || c) ≡ true
either_way b is = grind arith

-- one slot changes by a call on it
pub tracked_after : (slots : List SlotFile) (i : ℕ) (old new : SlotFile) (is_slot : i < length slots) (is : old ≡ slice_index_or slots i old)
    (outside outside' : Outside) (events events' : List DiskEvent) (event : DiskEvent) (same : outside' ≡ outside) (noted : events' ≡ event ∷ events)
    → ((number : ℕ) → number ≢ i → unsynced_after outside (event ∷ events) number ≡ unsynced_after outside events number)
    → ((number : ℕ) → was_synced events number ≡ true → was_synced (event ∷ events) number ≡ true)
    → (ShadowTracks old.shadow (unsynced_after outside events i) → ShadowTracks new.shadow (unsynced_after outside (event ∷ events) i))
    → AreTracked slots outside events → AreTracked (slice_set slots i new) outside' events'
tracked_after slots i old new is_slot is outside outside' events events' event same noted apart still tracks before =
    subst (λ es. AreTracked (slice_set slots i new) outside' es) (sym noted)
    (subst (λ o. AreTracked (slice_set slots i new) o (event ∷ events)) (sym same) (record {
      synced = λ number near. still number (before.synced number (within number near));
      shadows = λ number slot near here. ⊎_elim
          (λ at. let changed : slot ≡ new = here ∙ ap (λ n. slice_index_or (slice_set slots i new) n slot) at ∙ get_or-set_same slots i new slot is_slot in
          subst (λ s. ShadowTracks s.shadow (unsynced_after outside (event ∷ events) number)) (sym changed)
          (subst (λ n. ShadowTracks new.shadow (unsynced_after outside (event ∷ events) n)) (sym at) (tracks (before.shadows i old is_slot is))))
          (λ away. subst (ShadowTracks slot.shadow) (sym (apart number away))
          (before.shadows number slot (within number near) (here ∙ get_or-set_other slots i number new slot away)))
          (cases_eq number i);
    }))
  where
    within : (number : ℕ) → number < length (slice_set slots i new) → number < length slots
    within number near = subst (λ n. number < n) (length-set slots i new) near

pub replayed_after : (slots slots' : List SlotFile) (outside outside' : Outside) (events events' : List DiskEvent) (event : DiskEvent) → outside' ≡ outside → events' ≡ event ∷ events
    → files_after outside events ≡ map held slots → ((left : List ℕ) → files_after_call event.0 event.1 left (map held slots) ≡ map held slots')
    → files_after outside' events' ≡ map held slots'
replayed_after slots slots' outside outside' events events' event same noted before changes = grind arith

pub none_settled : (files : List (List ℕ)) (outside outside' : Outside) (events : List DiskEvent) → outside.found ≡ files → outside' ≡ outside → events ≡ []
    → AreSettled files 0 outside' events
none_settled files outside outside' events found same none = grind arith

pub one_settled : (files : List (List ℕ)) (count : ℕ) (outside outside' : Outside) (events events' : List DiskEvent) → outside' ≡ outside
    → events' ≡ (Synced count, []) ∷ events → AreSettled files count outside events → AreSettled files (count + 1) outside' events'
one_settled files count outside outside' events events' same noted before = grind arith

pub settled_only : (files : List (List ℕ)) (outside : Outside) (events : List DiskEvent) → AreSettled files (length files) outside events
    → Only files (MayLeave outside events)
settled_only files outside events settled c left =
    let size : length c ≡ length files = left.count ∙ ap length settled.replayed in
    same_lists c files size (λ number other near.
    let near_file : number < length files = subst (λ n. number < n) size near in
    let found = left.each number near (settled.synced number near_file) in
    let same : file_at c number ≡ file_at files number =
    rest_only (file_at files number) (file_at c number) (subst (λ u. Leaves u (file_at c number)) (settled.resting number) found) in
    any_default c number other near ∙ same ∙ sym (any_default files number other near_file))
  where
    any_default : (contents : List (List ℕ)) (number : ℕ) (other : List ℕ) → number < length contents → slice_index_or contents number other ≡ file_at contents number
    any_default contents number other near = get_or_default contents number other [] near

-- a call on a slot
module _ (slots : List SlotFile) (i : ℕ) (old new : SlotFile) (is_file : i < length (map held slots)) (is : old ≡ slice_index_or slots i old)
    (outside outside' : Outside) (events events' : List DiskEvent) where
  is_slot : i < length slots
  is_slot = subst (λ n. i < n) (length-map slots held) is_file

  read_here : files_after outside events ≡ map held slots → file_at (files_after outside events) i ≡ held old
  read_here replayed = ap (λ files. file_at files i) replayed ∙ file_read slots i old new is_file is

  pub write_tracked : (at : ℕ) (bytes : List ℕ) → outside' ≡ outside → events' ≡ (Written i at, bytes) ∷ events
      → (ShadowTracks old.shadow (unsynced_after outside events i) → ShadowTracks new.shadow (with_write at (length bytes) (unsynced_after outside events i)))
      → AreTracked slots outside events → AreTracked (slice_set slots i new) outside' events'
  write_tracked at bytes same noted tracks before =
      tracked_after slots i old new is_slot is outside outside' events events' (Written i at, bytes) same noted
      (λ number apart. unchosen_at i number (with_write at (length bytes) (unsynced_after outside events number)) (unsynced_after outside events number) apart)
      (λ number was. was)
      (λ before_it. subst (ShadowTracks new.shadow) (sym (chosen_at i (with_write at (length bytes) (unsynced_after outside events i)) (unsynced_after outside events i))) (tracks before_it))
      before

  pub cut_tracked : (len : ℕ) → outside' ≡ outside → events' ≡ (Cuts i len, []) ∷ events → files_after outside events ≡ map held slots
      → (ShadowTracks old.shadow (unsynced_after outside events i) → ShadowTracks new.shadow (with_cut (length (held old)) len (unsynced_after outside events i)))
      → AreTracked slots outside events → AreTracked (slice_set slots i new) outside' events'
  cut_tracked len same noted replayed tracks before =
      tracked_after slots i old new is_slot is outside outside' events events' (Cuts i len, []) same noted
      (λ number apart. unchosen_at i number (with_cut (length (file_at (files_after outside events) number)) len (unsynced_after outside events number)) (unsynced_after outside events number) apart)
      (λ number was. was)
      (λ before_it. subst (ShadowTracks new.shadow) (sym (chosen_at i (with_cut (length (file_at (files_after outside events) i)) len (unsynced_after outside events i)) (unsynced_after outside events i)
      ∙ ap (λ file. with_cut (length file) len (unsynced_after outside events i)) (read_here replayed))) (tracks before_it))
      before

  pub sync_tracked : outside' ≡ outside → events' ≡ (Synced i, []) ∷ events → files_after outside events ≡ map held slots
      → ShadowTracks new.shadow (at_rest (held old)) → AreTracked slots outside events → AreTracked (slice_set slots i new) outside' events'
  sync_tracked same noted replayed tracks before =
      tracked_after slots i old new is_slot is outside outside' events events' (Synced i, []) same noted
      (λ number apart. unchosen_at i number (at_rest (file_at (files_after outside events) number)) (unsynced_after outside events number) apart)
      (λ number was. either_way (nat_eq i number) was)
      (λ before_it. subst (ShadowTracks new.shadow) (sym (chosen_at i (at_rest (file_at (files_after outside events) i)) (unsynced_after outside events i)
      ∙ ap at_rest (read_here replayed))) tracks)
      before

pub settled_slots : (slots : List SlotFile) (outside : Outside) (events : List DiskEvent) → AreSettled (map held slots) (length slots) outside events
    → Only (map held slots) (MayLeave outside events)
settled_slots slots outside events settled =
    settled_only (map held slots) outside events (subst (λ n. AreSettled (map held slots) n outside events) (sym (length-map slots held)) settled)
