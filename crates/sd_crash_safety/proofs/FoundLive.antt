-- What is known of a store that was read.
use Rattle.std.proofs.Common.{◌≡◌, ℕ, zero, suc, ◌≤◌, true, false, List, [], ◌∷◌, drop, map, Option, Some, None, Contains, option_and_then, slice_get, refl, sym, ◌∙◌, ap, subst, inl, inr, arith}
use Rattle.std.specs.List.{AllZip}
use Rattle.std.proofs.lemmas.Option.{same_Some}
use Rattle.sd_image.specs.declared.header.Kind.{Kind}
use Rattle.sd_image.specs.Header.{AreNumbers}
use Rattle.sd_image.specs.Image.{Image}
use Rattle.sd_image.proofs.Members.{place_in}
use Rattle.sd_gate.specs.Laws.{found_phase}
use Rattle.sd_gate.specs.Requests.{Asked}
use Rattle.sd_store_laws.specs.Beliefs.{AreSlotsOf, Belief, Kept, Closing, Opening, image_in}
use Rattle.sd_store_laws.specs.GateSteps.{FoundIsExact}
use Rattle.sd_store_laws.specs.LiveImages.{CatalogIsFound, IsLiveCatalog}
use Rattle.sd_store_laws.specs.SlotSteps.{IsFoundAs}
use Rattle.sd_store_laws.specs.Steps.{found_store}
use Rattle.sd_crash_safety.specs.Calls.{NoneOut}
use Rattle.sd_crash_safety.specs.LiveImages.{IsLiveOn, ids_of}
use Rattle.sd_crash_safety.specs.Laws.{IsOpenAs}
use Rattle.sd_crash_safety.specs.Merges.{IsLiveMerge, IsMergeOn}
use Rattle.sd_crash_safety.specs.View.{CoreView, history_of}
use Rattle.sd_crash_safety.proofs.Places.{free_there}
use Rattle.sd_crash_safety.proofs.Lanes.{lanes_ids}

-- the file of a slot that was found
file_of : (beliefs : List Belief) (files : List (List ℕ)) → AllZip IsFoundAs beliefs files → (slot : ℕ) (belief : Belief) → slice_get beliefs slot ≡ Some belief
    → (file : List ℕ) × IsFoundAs belief file
file_of [] files all slot belief is = absurd cc
file_of (b ∷ beliefs) [] all slot belief is = absurd all
file_of (b ∷ beliefs) (file ∷ files) all zero belief is = (file, subst (λ x. IsFoundAs x file) (same_Some b belief is) all.0)
file_of (b ∷ beliefs) (file ∷ files) all (suc slot) belief is = file_of beliefs files all.1 slot belief is

-- the number that an image stands for, and its parent, are at most its serial
pub numbers_fall : (kind : Kind) (serial stands parent : ℕ) → AreNumbers kind serial stands parent → (stands ≤ serial) × (parent ≤ serial)
numbers_fall kind serial stands parent is = grind arith

module _ (core : CoreView) (files : List (List ℕ)) (is : IsOpenAs core files) (beliefs : List Belief) (found : AllZip IsFoundAs beliefs files)
    (is_live : IsLiveCatalog core.catalog beliefs) where
  abbrev last : ℕ
  last = core.numbers.serial

  -- an image that a slot keeps
  kept_serial : (slot : ℕ) (i : Image) → slice_get beliefs slot ≡ Some (Kept i) → i.header.serial ≤ last
  kept_serial slot i at =
      let o = is_live.opened slot i (inl at) in
      let few = is.serials i.header.serial o.0 o.1 in
      let same = ap (λ h. h.serial) o.2.header in
      omega (arith, few, same)

  kept_numbers : (slot : ℕ) (i : Image) → slice_get beliefs slot ≡ Some (Kept i) → (i.header.stands_for ≤ last) × (i.header.parent ≤ last)
  kept_numbers slot i at =
      let file = file_of beliefs files found slot (Kept i) at in
      let falls = numbers_fall i.header.kind i.header.serial i.header.stands_for i.header.parent file.1.header.numbers in
      let few = kept_serial slot i at in
      let stands = falls.0 in let parent = falls.1 in
      (omega (arith, few, stands), omega (arith, few, parent))

  slot_serial : (slot : ℕ) (i : Image) (o : Option Belief) → slice_get beliefs slot ≡ o → option_and_then image_in o ≡ Some i → i.header.serial ≤ last
  slot_serial slot i (Some (Kept j)) at has = kept_serial slot i (at ∙ ap (λ x. Some (Kept x)) (same_Some j i has))
  slot_serial slot i (Some (Closing j)) at has = absurd (file_of beliefs files found slot (Closing j) at).1
  slot_serial slot i (Some (Opening j)) at has = absurd (file_of beliefs files found slot (Opening j) at).1
  slot_serial slot i _ at has = absurd cc

  -- an image of the store
  kept_in : (store_images : List Image) → AreSlotsOf (found_store store_images) None beliefs → (i : Image) → Contains store_images i
      → (slot : ℕ) × (slice_get beliefs slot ≡ Some (Kept i))
  kept_in store_images slots i member = elim ((slots.catalog i).0 member) [
    | inl kept ↦ place_in beliefs (Kept i) kept
    | inr closing ↦ let at = place_in beliefs (Closing i) closing in absurd (file_of beliefs files found at.0 (Closing i) at.1).1
  ]

pub found_in_use : FoundIsExact → CatalogIsFound → (core : CoreView) (asked : List (Option Asked)) (files : List (List ℕ)) (images : List Image) (beliefs : List Belief)
    → core.phases ≡ map found_phase files → NoneOut asked → ids_of asked ≡ core.outs → IsOpenAs core files → AllZip IsFoundAs beliefs files
    → AreSlotsOf (found_store images) None beliefs
    → IsLiveOn core.base (history_of core) core.catalog core.grows core.memory core.phases asked (map (drop 1) files) core.numbers.serial (found_store images) None beliefs core.dumper.running
found_in_use exact catalog_is core asked files images beliefs phases none out is found slots =
    let is_live = catalog_is core.catalog files beliefs is.order is.catalog found in
    let free : slice_get asked 0 ≡ Some None = free_there asked 0 (ap (λ ids. slice_get ids 0) (out ∙ is.outs)) in
    subst (λ running. IsLiveOn core.base (history_of core) core.catalog core.grows core.memory core.phases asked (map (drop 1) files) core.numbers.serial (found_store images) None beliefs running)
    (sym is.idle) (record {
      catalog = is_live;
      grows_is = sym is.grows;
      used = record {
        above = record {
          serials = λ i member. let at = kept_in core files is beliefs found is_live images slots i member in
              let few = kept_serial core files is beliefs found is_live at.0 i at.1 in omega (arith, few);
          stands = λ i member. let at = kept_in core files is beliefs found is_live images slots i member in
              let few = (kept_numbers core files is beliefs found is_live at.0 i at.1).0 in omega (arith, few);
          parents = λ i member. let at = kept_in core files is beliefs found is_live images slots i member in
              let few = (kept_numbers core files is beliefs found is_live at.0 i at.1).1 in omega (arith, few);
          jobs = λ asked_for member. absurd (let within = member.1 in omega (arith, within));
          source = tt;
        };
        slots = λ slot i has. slot_serial core files is beliefs found is_live slot i (slice_get beliefs slot) refl has;
      };
      exact = λ slot phase belief at of free_slot. exact files beliefs found slot phase belief (ap (λ p. slice_get p slot) (sym phases) ∙ at) of;
      writes = lanes_ids asked ∙ ap (drop 3) (out ∙ is.outs);
      job = record {
        gives = λ grows. absurd (let no : true ≡ false = sym grows ∙ is.grows in cc);
        none = free;
        alone = refl;
        idle = refl;
      };
    })

-- no merge runs, and each image stands in a file
pub found_merging : (core : CoreView) (asked : List (Option Asked)) (files : List (List ℕ)) (images : List Image) (beliefs : List Belief)
    → ids_of asked ≡ core.outs → IsOpenAs core files → AllZip IsFoundAs beliefs files → AreSlotsOf (found_store images) None beliefs
    → IsLiveMerge core.phases asked (map (drop 1) files) core.numbers.serial (found_store images) beliefs core.dumper.running core.merger
found_merging core asked files images beliefs out is found slots = record {
  spelled = λ i member. elim ((slots.catalog i).0 member) [
    | inl kept ↦ (let at = place_in beliefs (Kept i) kept in file_of beliefs files found at.0 (Kept i) at.1)
    | inr closing ↦ (let at = place_in beliefs (Closing i) closing in absurd (file_of beliefs files found at.0 (Closing i) at.1).1)
  ];
  is = subst (λ merge. IsMergeOn core.phases asked (map (drop 1) files) core.numbers.serial (found_store images) beliefs core.dumper.running merge) (sym is.unmerged)
      (record { source = refl; work = refl }, free_there asked 1 (ap (λ ids. slice_get ids 1) (out ∙ is.outs)));
}
