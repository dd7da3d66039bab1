-- Worked stores with their slots.
use Rattle.std.proofs.Common.{◌≡◌, ◌≢◌, ◌⊎◌, ◌<◌, ℕ, List, [], ◌∷◌, Some, None, Contains, refl, sym, ◌∙◌, ap, inl, inr, arith}
use Rattle.sd_image.specs.Image.{Image}
use Rattle.sd_image.specs.Shows.{IsNamed, IsNotAfter, IsTip}
use Rattle.sd_image.proofs.Members.{contains_cases, contains_front, contains_later, contains_none}
use Rattle.sd_store_laws.specs.Needed.{IsCalled}
use Rattle.sd_store_laws.specs.Store.{IsFresh, IsNextDump, IsSoundStore, IsMergedCopy}
use Rattle.sd_store_laws.specs.Steps.{cancelled, committed}
use Rattle.sd_store_laws.specs.Beliefs.{AreSlotsOf, Belief, Closed, Kept, Closing, Opening, image_at}
use Rattle.sd_store_laws.specs.Worked.{busy, busy_slots, merged, one_page_memory, unchanged, whole}
use Rattle.sd_store_laws.specs.WorkedSlots.{DumpInDoubt, MergeAfterTip, PreDumpGivenUp, in_round, outrun, pre_dump}
use Rattle.sd_store_laws.proofs.Busy.{a_tip, busy_are_slots, busy_sound, last, next, restores, saved_sound, second_dump, started, twin}
use Rattle.sd_store_laws.proofs.Growth.{called_all}
use Rattle.sd_store_laws.proofs.Pending.{adds_front}
use Rattle.sd_store_laws.proofs.Slots.{left_images_show_lem}
use Rattle.sd_store_laws.proofs.SlotSteps.{slots_drop_lem, slots_follow_calls_lem, slots_follow_images_lem, slots_follow_jobs_lem}
use Rattle.sd_store_laws.proofs.Stays.{twin_stays_lem}
use Rattle.sd_store_laws.proofs.StepLemmas.{steps_keep_lem}
use Rattle.sd_store_laws.proofs.Worked.{each_of_one, each_of_two, each_of_three}

module _ (bytes : List ℕ) where
  abbrev a : Image
  a = whole 1 1 bytes

  abbrev d : Image
  d = unchanged 3 1 2

  abbrev m : Image
  m = merged 2 1 1 bytes

  round_sound : IsSoundStore (in_round bytes)
  round_sound = steps_keep_lem.begins (committed (started bytes) (a ∷ [])) a (saved_sound bytes) refl (a_tip bytes)

  -- the slots before a gate is opened
  abbrev at_first : List Belief
  at_first = Kept a ∷ Closed ∷ []

  none_kept : (i : Image) → Contains (Closed ∷ []) (Kept i) → ⊥
  none_kept i c = elim (contains_cases Closed (Kept i) [] c) [ inl e ↦ absurd cc | inr none ↦ contains_none (Kept i) none ]

  none_closing : (i : Image) → Contains at_first (Closing i) → ⊥
  none_closing i c = grind arith

  none_opening : (i : Image) → Contains at_first (Opening i) → ⊥
  none_opening i c = grind arith

  is_kept : (i : Image) → Contains (a ∷ []) i → Contains at_first (Kept i)
  is_kept i c = each_of_one (λ k. Contains at_first (Kept k)) a (contains_front (Kept a) (Closed ∷ [])) i c

  was_kept : (i : Image) → Contains at_first (Kept i) → Contains (a ∷ []) i
  was_kept i c = grind arith

  first_alone : (x : ℕ) (i : Image) → image_at at_first x ≡ Some i → (x ≡ 0) × (a ≡ i)
  first_alone x i e = grind arith

  first_slots : AreSlotsOf (in_round bytes) None at_first
  first_slots = grind arith

  other_serial : (i : Image) → i.header.serial ≢ 1 → (x : ℕ) (j : Image) → image_at at_first x ≡ Some j → j.header.serial ≢ i.header.serial
  other_serial i other x j e same = other (sym same ∙ ap (λ (k : Image). k.header.serial) (sym (first_alone x j e).1))

  -- ---- a pre-dump

  module _ (other : List ℕ) where
    abbrev p : Image
    p = pre_dump 2 1 2 other

    p_fresh : IsFresh (in_round bytes) p
    p_fresh = grind arith

    p_slots : AreSlotsOf (in_round bytes) None (Kept a ∷ Opening p ∷ [])
    p_slots = slots_follow_calls_lem.opens (in_round bytes) None at_first 1 p first_slots refl (inl (refl, p_fresh)) (other_serial p (λ e. omega (arith, e)))

    p_given_up : AreSlotsOf (cancelled (in_round bytes)) None (Kept a ∷ Opening p ∷ [])
    p_given_up = slots_follow_jobs_lem.cancels (in_round bytes) (Kept a ∷ Opening p ∷ []) round_sound p_slots

    pub pre_dump_given_up_lem : PreDumpGivenUp bytes other
    pre_dump_given_up_lem = record {
      slots = p_slots;
      given_up = p_given_up;
      shows = λ images left. left_images_show_lem.last (in_round bytes) (Kept a ∷ Opening p ∷ []) images (Some (1, one_page_memory bytes)) round_sound p_slots left (last bytes);
      formatted = (slots_drop_lem (cancelled (in_round bytes)) None (Kept a ∷ Opening p ∷ []) 1 p p_given_up refl).0;
    }

  -- ---- a dump in doubt

  d_next : IsNextDump (in_round bytes) d
  d_next = grind arith

  d_slots : AreSlotsOf (in_round bytes) (Some d) (Kept a ∷ Opening d ∷ [])
  d_slots = slots_follow_calls_lem.opens (in_round bytes) (Some d) at_first 1 d (slots_follow_calls_lem.pends (in_round bytes) at_first d first_slots d_next) refl
      (inr (inr refl)) (other_serial d (λ e. omega (arith, e)))

  both_differ : (i j : Image) → Contains (d ∷ a ∷ []) i → Contains (d ∷ a ∷ []) j → i.header.serial ≡ j.header.serial → i ≡ j
  both_differ i j c e same = grind arith

  pub dump_in_doubt_lem : DumpInDoubt bytes
  dump_in_doubt_lem = record {
    sound = round_sound;
    slots = d_slots;
    shows = λ images left.
        left_images_show_lem.pending (in_round bytes) d (Kept a ∷ Opening d ∷ []) images (Some (1, one_page_memory bytes)) (Some (2, one_page_memory bytes)) round_sound d_slots left (last bytes) (next bytes);
    without_it = (
      steps_keep_lem.opens (a ∷ [])
          (λ i j c e same. each_of_one (λ k. k ≡ j) a (each_of_one (λ k. a ≡ k) a refl j e) i c)
          (λ i c. each_of_one (λ k. k.header.parent < k.header.stands_for) a (omega arith) i c),
      last bytes,
    );
    with_it = (
      steps_keep_lem.opens (d ∷ a ∷ []) both_differ
          (λ i c. each_of_two (λ k. k.header.parent < k.header.stands_for) d a (omega arith) (omega arith) i c),
      next bytes,
    );
  }

  -- ---- a merge after the tip

  outrun_sound : IsSoundStore (outrun bytes)
  outrun_sound = steps_keep_lem.commits (busy bytes) d (d ∷ a ∷ []) (busy_sound bytes) (second_dump bytes) (adds_front (a ∷ []) d)

  still_twin : IsMergedCopy (outrun bytes).catalog (outrun bytes).source m
  still_twin = twin_stays_lem.adds (busy bytes) d m (d ∷ a ∷ []) (busy_sound bytes) (second_dump bytes).next (adds_front (a ∷ []) d) (λ e. omega (arith, e)) (twin bytes)

  abbrev outrun_slots : List Belief
  outrun_slots = Kept a ∷ Opening m ∷ Kept d ∷ []

  outrun_are_slots : AreSlotsOf (outrun bytes) None outrun_slots
  outrun_are_slots = slots_follow_images_lem.commits (busy bytes) (busy_slots bytes) 2 d (d ∷ a ∷ []) (busy_sound bytes) (busy_are_slots bytes) refl (adds_front (a ∷ []) d)

  abbrev all : List Image
  all = m ∷ d ∷ a ∷ []

  -- of the numbers that are referenced, none names the source
  one_or_none : (number : ℕ) → IsCalled all [] number → (number ≡ 1) ⊎ (number ≡ 0)
  one_or_none = called_all all [] (λ number. (number ≡ 1) ⊎ (number ≡ 0))
      (λ t is. parent_of t is.member)
      (λ number c. absurd (contains_none number c))
      (λ number i was named. parent_of i named.member)
    where
      parent_of : (i : Image) → Contains all i → (i.header.parent ≡ 1) ⊎ (i.header.parent ≡ 0)
      parent_of i c = each_of_three (λ k. (k.header.parent ≡ 1) ⊎ (k.header.parent ≡ 0)) m d a (inr refl) (inl refl) (inr refl) i c

  not_named : (number : ℕ) → (number ≡ 1) ⊎ (number ≡ 0) → IsNamed all number a → ⊥
  not_named number (inl one) named = let low = named.greatest m (contains_front m (d ∷ a ∷ [])) (sym one) in omega (arith, low)
  not_named number (inr none) named = let stands = named.stands in omega (arith, stands, none)

  not_tip : IsTip all a → ⊥
  not_tip tip = by (tip.greatest d (contains_later m d (d ∷ a ∷ []) (contains_front d (a ∷ []))) (restores d (inl refl)))
    where
      by : IsNotAfter d a → ⊥
      by (inl less) = omega (arith, less)
      by (inr same) = let is = same.0 in omega (arith, is)

  pub merge_behind_tip_lem : MergeAfterTip bytes
  merge_behind_tip_lem = record {
    sound = outrun_sound;
    tip = record {
      member = contains_front d (a ∷ []);
      restorable = restores d (inl refl);
      greatest = λ j c restorable. each_of_two (λ k. IsNotAfter k d) d a (inr (refl, omega arith)) (inl (omega arith)) j c;
    };
    twin = still_twin;
    slots = outrun_are_slots;
    shows = λ images left. left_images_show_lem.last (outrun bytes) outrun_slots images (Some (2, one_page_memory bytes)) outrun_sound outrun_are_slots left (next bytes);
    entered = steps_keep_lem.replaces (outrun bytes) m all outrun_sound still_twin (adds_front (d ∷ a ∷ []) m);
    unneeded = record {
      member = contains_later m a (d ∷ a ∷ []) (contains_later d a (a ∷ []) (contains_front a []));
      unneeded = λ n. elim n [
        | inl tip ↦ not_tip tip
        | inr called ↦ not_named called.0 (one_or_none called.0 called.1) called.2
      ];
    };
  }
