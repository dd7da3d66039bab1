-- A merge beside a round.
use Rattle.std.proofs.Common.{◌≡◌, ◌⊎◌, ℕ, List, [], ◌∷◌, Some, Contains, refl, sym, ap, subst, inl, inr, arith, ◌+◌}
use Rattle.std.specs.List.{IsDistinct}
use Rattle.sd_image.specs.declared.header.Kind.TheVariants.{Dump, Merged}
use Rattle.sd_image.specs.declared.run.RunKind.TheVariants.{Data, Parent}
use Rattle.sd_image.specs.Image.{Image}
use Rattle.sd_image.specs.Shows.{IsNamed, IsNotAfter, IsRestorable, IsTip, ImagesShow}
use Rattle.sd_image.proofs.Members.{contains_cases, contains_front, contains_none}
use Rattle.sd_store_laws.specs.Store.{IsNextDump, IsSoundStore, IsMergedCopy, Store, jobs}
use Rattle.sd_store_laws.specs.Steps.{Adds, checkpoint_begun, committed, found_store, merging}
use Rattle.sd_store_laws.specs.Beliefs.{AreSlotsOf, Belief, Kept, Closing, Opening, IsAdded, image_at}
use Rattle.sd_store_laws.specs.Worked.{MergeBesideRound, busy, busy_slots, merged, one_page_memory, unchanged, whole}
use Rattle.sd_store_laws.proofs.Cuts.{needed_in}
use Rattle.sd_store_laws.proofs.OnePage.{page_memory}
use Rattle.sd_store_laws.proofs.Slots.{left_images_show_lem}
use Rattle.sd_store_laws.proofs.StepLemmas.{steps_keep_lem}
use Rattle.sd_store_laws.proofs.Worked.{alike_pages, each_of_one, each_of_two, holds_unchanged, holds_whole}

pub restores : (i : Image) → (i.header.kind ≡ Dump) ⊎ (i.header.kind ≡ Merged) → IsRestorable i
restores i given f = grind arith

module _ (bytes : List ℕ) where
  abbrev pub a : Image
  a = whole 1 1 bytes

  abbrev pub m : Image
  m = merged 2 1 1 bytes

  abbrev pub d : Image
  d = unchanged 3 1 2

  -- the steps that lead there
  abbrev pub started : Store
  started = checkpoint_begun (found_store []) 0

  first_dump : IsNextDump started a
  first_dump = grind arith

  a_more : Adds [] a (a ∷ [])
  a_more j = (λ c. contains_cases a j [] c, λ e. elim e [ inl same ↦ subst (Contains (a ∷ [])) (sym same) (contains_front a []) | inr none ↦ absurd (contains_none j none) ])

  pub a_tip : IsTip (a ∷ []) a
  a_tip = grind arith

  empty_sound : IsSoundStore (found_store [])
  empty_sound = steps_keep_lem.opens [] (λ i j c e. absurd (contains_none i c)) (λ i c. absurd (contains_none i c))

  pub saved_sound : IsSoundStore (committed started (a ∷ []))
  saved_sound = steps_keep_lem.commits started a (a ∷ []) (steps_keep_lem.begins_whole (found_store []) empty_sound) first_dump a_more

  merging_sound : IsSoundStore (merging (committed started (a ∷ [])) a)
  merging_sound = steps_keep_lem.merges (committed started (a ∷ [])) a saved_sound a_tip

  pub busy_sound : IsSoundStore (busy bytes)
  busy_sound = steps_keep_lem.begins (merging (committed started (a ∷ [])) a) a merging_sound refl a_tip

  -- what is being opened
  pub twin : IsMergedCopy (busy bytes).catalog (busy bytes).source m
  twin = grind (arith, alike_pages, restores, each_of_one)

  pub second_dump : IsNextDump (busy bytes) d
  second_dump = grind arith

  -- the slots
  abbrev later : List Belief
  later = Opening m ∷ Opening d ∷ []

  never_kept : (i : Image) → Contains later (Kept i) → ⊥
  never_kept i c = grind arith

  never_closing : (i : Image) → Contains (busy_slots bytes) (Closing i) → ⊥
  never_closing i c = grind arith

  is_kept : (i : Image) → Contains (a ∷ []) i → Contains (busy_slots bytes) (Kept i)
  is_kept i c = each_of_one (λ k. Contains (busy_slots bytes) (Kept k)) a (contains_front (Kept a) later) i c

  was_kept : (i : Image) → Contains (busy_slots bytes) (Kept i) → Contains (a ∷ []) i
  was_kept i c = grind arith

  is_added : (i : Image) → Contains (busy_slots bytes) (Opening i) → IsAdded (busy bytes) (Some d) i
  is_added i c = elim (contains_cases (Kept a) (Opening i) later c) [
    | inl e ↦ absurd cc
    | inr more ↦ elim (contains_cases (Opening m) (Opening i) (Opening d ∷ []) more) [
      | inl e ↦ let same : i ≡ m = cc in inr (inl (subst (IsMergedCopy (busy bytes).catalog (busy bytes).source) (sym same) twin))
      | inr rest ↦ elim (contains_cases (Opening d) (Opening i) [] rest) [
        | inl e ↦ let same : i ≡ d = cc in inr (inr (ap Some (sym same)))
        | inr none ↦ absurd (contains_none (Opening i) none)
      ]
    ]
  ]

  -- each slot's serial is one above its number
  busy_serial : (x : ℕ) (i : Image) → image_at (busy_slots bytes) x ≡ Some i → i.header.serial ≡ x + 1
  busy_serial x i p = grind arith

  busy_apart : (x y : ℕ) (i j : Image) → image_at (busy_slots bytes) x ≡ Some i → image_at (busy_slots bytes) y ≡ Some j → i.header.serial ≡ j.header.serial → x ≡ y
  busy_apart x y i j p q e = grind arith

  pub busy_are_slots : AreSlotsOf (busy bytes) (Some d) (busy_slots bytes)
  unfolding IsDistinct
  busy_are_slots = record {
    catalog = λ i. (λ c. inl (is_kept i c), λ e. elim e [ inl kept ↦ was_kept i kept | inr closing ↦ absurd (never_closing i closing) ]);
    needed = λ i n. is_kept i (needed_in (a ∷ []) (jobs (busy bytes)) i n);
    opening = is_added;
    dump = second_dump;
    serials = busy_apart;
  }

  -- what is shown
  pub last : ImagesShow (a ∷ []) (Some (1, one_page_memory bytes))
  last = (a, a_tip, refl, page_memory bytes Dump 1 1 0 1 Data (bytes ∷ []) (a ∷ []) (holds_whole (a ∷ []) Dump 1 1 0 1 bytes))

  a_named : IsNamed (d ∷ a ∷ []) 1 a
  a_named = grind arith

  pub next : ImagesShow (d ∷ a ∷ []) (Some (2, one_page_memory bytes))
  next = (
    d,
    record {
      member = contains_front d (a ∷ []);
      restorable = restores d (inl refl);
      greatest = λ j c restorable. each_of_two (λ k. IsNotAfter k d) d a (inr (refl, omega arith)) (inl (omega arith)) j c;
    },
    refl,
    page_memory bytes Dump 3 3 1 2 Parent [] (d ∷ a ∷ []) (holds_unchanged (d ∷ a ∷ []) 3 1 2 bytes a a_named (holds_whole (d ∷ a ∷ []) Dump 1 1 0 1 bytes)),
  )

  pub merge_beside_round_lem : MergeBesideRound bytes
  merge_beside_round_lem = record {
    sound = busy_sound;
    slots = busy_are_slots;
    shows = λ images left.
        left_images_show_lem.pending (busy bytes) d (busy_slots bytes) images (Some (1, one_page_memory bytes)) (Some (2, one_page_memory bytes)) busy_sound busy_are_slots left last next;
  }
