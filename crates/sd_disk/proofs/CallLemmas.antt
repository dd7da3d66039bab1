-- What one more event in a record says of what a crash may leave, in both directions, and of the moments.
use Rattle.std.proofs.Common.{◌≡◌, ⊎_elim, ℕ, ◌<◌, ◌≤◌, Bool, true, cond, ◌||◌, nat_eq, List, [], ◌∷◌, length, refl, sym, ◌∙◌, subst, arith}
use Rattle.std.proofs.lemmas.Bool.{cases_lt}
use Rattle.std.proofs.lemmas.Bool.Decides.{eqb_tells}
use Rattle.std.proofs.lemmas.List.{get_or_past, length-set}
use Rattle.sd_disk.specs.Contents.{file_at, Torn, Cut, AtSlot}
use Rattle.sd_disk.specs.Crash.{Elapses}
use Rattle.sd_disk.specs.Events.{Outside, DiskEvent, files_after}
use Rattle.sd_disk.specs.Laws.{CallLeadsTo}
use Rattle.sd_disk.specs.Moments.{LeftSince}
use Rattle.sd_disk.specs.Outcomes.{Unsynced, Leaves, MayLeave, at_rest, with_write, with_cut, unsynced_after, was_synced}
use Rattle.sd_disk.specs.declared.call.Call.TheVariants.{Written, Cut as Cuts, Synced, WriteFailed, CutFailed}
use Rattle.sd_disk.proofs.LeaveLemmas.{rest_only, write_leaves, cut_leaves, write_undone, cut_undone}
use Rattle.sd_disk.proofs.OutcomeLemmas.{Allowed, changed_at, followed}
use Rattle.sd_disk.proofs.SoundLemmas.{sound}
use Rattle.sd_disk.proofs.StepLemmas.{torn_same, cut_same}

module _ (outside : Outside) (earlier : List DiskEvent) where
  abbrev files : List (List ℕ)
  files = files_after outside earlier

  abbrev known : ℕ → Unsynced
  known = unsynced_after outside earlier

  abbrev IsBefore : (List (List ℕ) → List (List ℕ) → Type 0) → List (List ℕ) → Type 0
  IsBefore step c = (d : List (List ℕ)) × MayLeave outside earlier d × step d c

  -- the least length is no greater than the greatest
  ordered : (slot : ℕ) → (known slot).least ≤ (known slot).greatest
  ordered slot = omega (arith, (sound outside earlier slot).left.no_shorter, (sound outside earlier slot).left.no_longer)

  allowed_before : (d : List (List ℕ)) → MayLeave outside earlier d → Allowed (length files) (was_synced earlier) known d
  allowed_before d left = record { same = left.count; each = left.each }

  left_before : (d : List (List ℕ)) → Allowed (length files) (was_synced earlier) known d → MayLeave outside earlier d
  left_before d given = record { count = given.same; each = given.each }

  -- an event that changes one slot
  module _ (event : DiskEvent) (number : ℕ) (step : List ℕ → List ℕ → Type 0) (change : ℕ → Unsynced → Unsynced) (size : length (files_after outside (event ∷ earlier)) ≡ length files)
      (after : (slot : ℕ) → unsynced_after outside (event ∷ earlier) slot ≡ changed_at number change known slot) (quiet : (slot : ℕ) → was_synced (event ∷ earlier) slot ≡ was_synced earlier slot) where
    step_back : ((file : List ℕ) → step file file)
        → ((file : List ℕ) → Leaves (change number (known number)) file → (before : List ℕ) × Leaves (known number) before × step before file)
        → (c : List (List ℕ)) → MayLeave outside (event ∷ earlier) c → IsBefore (AtSlot number step) c
    step_back still undone c left =
        let found = followed (length files) (was_synced earlier) known number step change still undone c (record {
          same = left.count ∙ size;
          each = λ slot near was. subst (λ u. Leaves u (file_at c slot)) (after slot) (left.each slot near (quiet slot ∙ was));
        }) in
        (found.0, left_before found.0 found.1, found.2)

    step_on : ((before file : List ℕ) → Leaves (known number) before → step before file → Leaves (change number (known number)) file)
        → (c : List (List ℕ)) → IsBefore (AtSlot number step) c → MayLeave outside (event ∷ earlier) c
    step_on done c from = grind arith

  sync_back : (number : ℕ) (bytes : List ℕ) (c : List (List ℕ)) → MayLeave outside ((Synced number, bytes) ∷ earlier) c
      → IsBefore (λ d c. (d ≡ c) × (file_at c number ≡ file_at files number)) c
  sync_back number bytes c left =
      let here : number < length c → file_at c number ≡ file_at files number = λ near.
      rest_only (file_at files number) (file_at c number) (at_number near (left.each number near (synced_here (was_synced earlier number)))) in (
        c,
        record {
          count = left.count;
          each = λ slot near was. ⊎_elim
              (λ is. subst (λ s. Leaves (known s) (file_at c s)) is.1
              (subst (Leaves (known number)) (sym (here (subst (λ s. s < length c) (sym is.1) near))) (sound outside earlier number).left))
              (λ is. subst (λ t. Leaves (cond t (at_rest (file_at files slot)) (known slot)) (file_at c slot)) is.0 (left.each slot near (later slot was)))
              (eqb_tells number slot);
        },
        (refl, ⊎_elim here (λ past. get_or_past c number [] past ∙ sym (get_or_past files number [] (subst (λ n. n ≤ number) left.count past))) (cases_lt number (length c))),
      )
    where
      synced_here : (b : Bool) → (nat_eq number number || b) ≡ true
      synced_here b = grind arith

      later : (slot : ℕ) → was_synced earlier slot ≡ true → (nat_eq number slot || was_synced earlier slot) ≡ true
      later slot was = ⊎_elim (λ is. rw is.0 refl) (λ is. rw (is.0, was) refl) (eqb_tells number slot)

      at_number : number < length c → Leaves (cond (nat_eq number number) (at_rest (file_at files number)) (known number)) (file_at c number)
          → Leaves (at_rest (file_at files number)) (file_at c number)
      at_number near given = grind arith

  sync_on : (number : ℕ) (bytes : List ℕ) (c : List (List ℕ)) → MayLeave outside earlier c → file_at c number ≡ file_at files number
      → MayLeave outside ((Synced number, bytes) ∷ earlier) c
  sync_on number bytes c left same = grind arith

-- an outcome after a call was one before it, and the call led there
pub leads_back : (outside : Outside) (event : DiskEvent) (earlier : List DiskEvent) (c : List (List ℕ)) → MayLeave outside (event ∷ earlier) c
    → (d : List (List ℕ)) × MayLeave outside earlier d × CallLeadsTo event.0 event.1 (files_after outside earlier) d c
leads_back outside (Written number at, bytes) earlier c left =
    step_back outside earlier (Written number at, bytes) number (Torn at (length bytes)) (λ slot. with_write at (length bytes)) (length-set (files_after outside earlier) number _) (λ slot. refl) (λ slot. refl)
    (torn_same at (length bytes)) (λ file. write_undone at (length bytes) (unsynced_after outside earlier number) file (ordered outside earlier number)) c left
leads_back outside (Cuts number len, bytes) earlier c left =
    step_back outside earlier (Cuts number len, bytes) number (Cut len) (λ slot. with_cut (length (file_at (files_after outside earlier) slot)) len) (length-set (files_after outside earlier) number _) (λ slot. refl) (λ slot. refl)
    (cut_same len) (λ file. cut_undone (length (file_at (files_after outside earlier) number)) len (unsynced_after outside earlier number) file (ordered outside earlier number)) c left
leads_back outside (Synced number, bytes) earlier c left = sync_back outside earlier number bytes c left
leads_back outside (WriteFailed number at, bytes) earlier c left =
    step_back outside earlier (WriteFailed number at, bytes) number (Torn at (length bytes)) (λ slot. with_write at (length bytes)) (length-set (files_after outside earlier) number _) (λ slot. refl) (λ slot. refl)
    (torn_same at (length bytes)) (λ file. write_undone at (length bytes) (unsynced_after outside earlier number) file (ordered outside earlier number)) c left
leads_back outside (CutFailed number len, bytes) earlier c left =
    step_back outside earlier (CutFailed number len, bytes) number (Cut len) (λ slot. with_cut (length (file_at (files_after outside earlier) slot)) len) (length-set (files_after outside earlier) number _) (λ slot. refl) (λ slot. refl)
    (cut_same len) (λ file. cut_undone (length (file_at (files_after outside earlier) number)) len (unsynced_after outside earlier number) file (ordered outside earlier number)) c left
leads_back outside (_, bytes) earlier c left = (c, record { count = left.count; each = left.each }, refl)

-- what is led to from an outcome before a call is an outcome after it
pub leads_on : (outside : Outside) (event : DiskEvent) (earlier : List DiskEvent) (c : List (List ℕ))
    → ((d : List (List ℕ)) × MayLeave outside earlier d × CallLeadsTo event.0 event.1 (files_after outside earlier) d c) → MayLeave outside (event ∷ earlier) c
leads_on outside (Written number at, bytes) earlier c from =
    step_on outside earlier (Written number at, bytes) number (Torn at (length bytes)) (λ slot. with_write at (length bytes)) (length-set (files_after outside earlier) number _) (λ slot. refl) (λ slot. refl)
    (λ before file. write_leaves at (length bytes) (unsynced_after outside earlier number) before file (sound outside earlier number).covers) c from
leads_on outside (Cuts number len, bytes) earlier c from =
    step_on outside earlier (Cuts number len, bytes) number (Cut len) (λ slot. with_cut (length (file_at (files_after outside earlier) slot)) len) (length-set (files_after outside earlier) number _) (λ slot. refl) (λ slot. refl)
    (λ before file. cut_leaves (length (file_at (files_after outside earlier) number)) len (unsynced_after outside earlier number) before file (sound outside earlier number).left.no_shorter (sound outside earlier number).covers) c from
leads_on outside (Synced number, bytes) earlier c from =
    sync_on outside earlier number bytes c (subst (MayLeave outside earlier) from.2.0 from.1) from.2.1
leads_on outside (WriteFailed number at, bytes) earlier c from =
    step_on outside earlier (WriteFailed number at, bytes) number (Torn at (length bytes)) (λ slot. with_write at (length bytes)) (length-set (files_after outside earlier) number _) (λ slot. refl) (λ slot. refl)
    (λ before file. write_leaves at (length bytes) (unsynced_after outside earlier number) before file (sound outside earlier number).covers) c from
leads_on outside (CutFailed number len, bytes) earlier c from =
    step_on outside earlier (CutFailed number len, bytes) number (Cut len) (λ slot. with_cut (length (file_at (files_after outside earlier) slot)) len) (length-set (files_after outside earlier) number _) (λ slot. refl) (λ slot. refl)
    (λ before file. cut_leaves (length (file_at (files_after outside earlier) number)) len (unsynced_after outside earlier number) before file (sound outside earlier number).left.no_shorter (sound outside earlier number).covers) c from
leads_on outside (_, bytes) earlier c from = let left = subst (MayLeave outside earlier) from.2 from.1 in record { count = left.count; each = left.each }

-- an event that was noted
module _ (outside outside' : Outside) (events events' : List DiskEvent) (event : DiskEvent) (same : outside' ≡ outside) (noted : events' ≡ event ∷ events) where
  pub crash_noted : (c : List (List ℕ)) → MayLeave outside' events' c
      → (d : List (List ℕ)) × MayLeave outside events d × CallLeadsTo event.0 event.1 (files_after outside events) d c
  crash_noted c left = leads_back outside event events c (subst (λ o. MayLeave o (event ∷ events) c) same (subst (λ es. MayLeave outside' es c) noted left))

  pub reach_noted : (c : List (List ℕ)) → ((d : List (List ℕ)) × MayLeave outside events d × CallLeadsTo event.0 event.1 (files_after outside events) d c)
      → MayLeave outside' events' c
  reach_noted c from = subst (λ es. MayLeave outside' es c) (sym noted) (subst (λ o. MayLeave o (event ∷ events) c) (sym same) (leads_on outside event events c from))

  since_noted : (t : ℕ) (c : List (List ℕ)) → LeftSince outside' events' t c → LeftSince outside (event ∷ events) t c
  since_noted t c left = subst (λ o. LeftSince o (event ∷ events) t c) same (subst (λ es. LeftSince outside' es t c) noted left)

  pub time_noted : Elapses (length events) (length events') (LeftSince outside events) (LeftSince outside' events') (MayLeave outside' events')
  time_noted = grind arith
