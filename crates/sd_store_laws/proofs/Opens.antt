-- A store as it is found is sound, and steps leave what is shown.
use Rattle.std.proofs.Common.{ℕ, ◌<◌, nat_eq, List, [], ◌∷◌, map, Contains, Option, Some, None, refl, sym, ◌∙◌, ap, subst, inl, inr, arith}
use Rattle.std.specs.Prelude.{◌↔◌}
use Rattle.std.specs.List.{IsDistinct}
use Rattle.sd_areas.specs.PlainMemory.{PlainMemory}
use Rattle.sd_image.specs.Image.{Image, OpenImages}
use Rattle.sd_image.specs.Shows.{Holds, by_data, by_zero, by_parent, IsNamed, IsTip, ImagesShow}
use Rattle.sd_image.specs.Laws.{SerialsDiffer}
use Rattle.sd_image.proofs.Members.{contains_cases, contains_front, contains_later, contains_none}
use Rattle.sd_store_laws.specs.Cut.{LeavesShown}
use Rattle.sd_store_laws.specs.Store.{IsSoundStore, IsMergedCopy, Store, jobs}
use Rattle.sd_store_laws.specs.Steps.{Adds}
use Rattle.sd_store_laws.specs.Opens.{OpenedIsSound, OrderIsFree, StepsShow}
use Rattle.sd_chain.proofs.Stores.{falls}
use Rattle.sd_image.proofs.OneImage.{stands_not_after as other_serials}
use Rattle.sd_store_laws.proofs.Cuts.{cut_shows_the_same_lem, needed_in}
use Rattle.sd_store_laws.proofs.ShownStays.{pre_dump_is_harmless_lem}
use Rattle.sd_store_laws.proofs.Memories.{memory_moves}
use Rattle.sd_store_laws.proofs.StepLemmas.{steps_keep_lem}

-- ---- a store as it is found

parents_fall : (contents : List (List ℕ)) (images : List Image) → OpenImages contents images → (i : Image) → Contains images i → i.header.parent < i.header.stands_for
parents_fall [] images none i c = absurd (contains_none i (subst (λ (xs : List Image). Contains xs i) none c))
parents_fall (file ∷ files) images (inl closed) i c = parents_fall files images closed.1 i c
parents_fall (file ∷ files) images (inr opens) i c = elim (contains_cases opens.0 i opens.1 (subst (λ (xs : List Image). Contains xs i) opens.2 c)) [
  | inl e ↦ subst (λ (k : Image). k.header.parent < k.header.stands_for) (sym e) (falls opens.0.header opens.4.header.numbers)
  | inr later ↦ parents_fall files opens.1 opens.5 i later
]

serials_differ : (images : List Image) → IsDistinct nat_eq (map (λ (k : Image). k.header.serial) images) → SerialsDiffer images
unfolding IsDistinct
serials_differ [] distinct i j c d e = absurd (contains_none i c)
serials_differ (one ∷ images) distinct i j c d e = elim (contains_cases one i images c) [
  | inl first ↦ elim (contains_cases one j images d) [
    | inl second ↦ first ∙ sym second
    | inr later ↦ absurd (other_serials one.header.serial images j distinct.0 later (ap (λ (k : Image). k.header.serial) (sym first) ∙ e))
  ]
  | inr later ↦ elim (contains_cases one j images d) [
    | inl second ↦ absurd (other_serials one.header.serial images i distinct.0 later (ap (λ (k : Image). k.header.serial) (sym second) ∙ sym e))
    | inr more ↦ serials_differ images distinct.1 i j later more e
  ]
]

pub opened_is_sound_lem : OpenedIsSound
opened_is_sound_lem contents images store = steps_keep_lem.opens images (serials_differ images store.serials) (parents_fall contents images store.slots)

-- ---- the order of images

abbrev SameMembers : List Image → List Image → Type 0
SameMembers one other = (i : Image) → Contains one i ↔ Contains other i

named_so : (one other : List Image) (number : ℕ) (i : Image) → SameMembers one other → IsNamed one number i → IsNamed other number i
named_so one other number i same named = record {
  member = (same i).0 named.member;
  stands = named.stands;
  greatest = λ j c is. named.greatest j ((same j).1 c) is;
}

holds_so : (one other : List Image) (space page : ℕ) (bytes : List ℕ) (i : Image) → SameMembers one other → Holds one space page bytes i → Holds other space page bytes i
holds_so one other space page bytes i same (by_data _ place has is) = by_data i place has is
holds_so one other space page bytes i same (by_zero _ has is) = by_zero i has is
holds_so one other space page bytes i same (by_parent _ parent has named holds) =
    by_parent i parent has (named_so one other i.header.parent parent same named) (holds_so one other space page bytes parent same holds)

tip_so : (one other : List Image) (i : Image) → SameMembers one other → IsTip one i → IsTip other i
tip_so one other i same tip = record {
  member = (same i).0 tip.member;
  restorable = tip.restorable;
  greatest = λ j c restorable. tip.greatest j ((same j).1 c) restorable;
}

pub order_is_free_lem : OrderIsFree
order_is_free_lem one other None same none = λ i c restorable. none i ((same i).1 c) restorable
order_is_free_lem one other (Some moment) same was = (
  was.0,
  tip_so one other was.0 same was.1,
  was.2,
  memory_moves one other was.0 was.0 moment.1 refl (record { bytes = λ space page bytes holds. holds_so one other space page bytes was.0 same holds }) was.3,
)

-- ---- steps

-- a list has one image more, which leaves what is shown
more_shows : (catalog new : List Image) (asked : List ℕ) (i : Image) (shown : Option (ℕ × PlainMemory)) → SerialsDiffer catalog → LeavesShown catalog asked i
    → Adds catalog i new → ImagesShow catalog shown → ImagesShow new shown
more_shows catalog new asked i shown differ harmless adds was =
    cut_shows_the_same_lem catalog (i ∷ []) new asked shown differ
    (record {
      needed = λ j n. (adds j).1 (inr (needed_in catalog asked j n));
      within = λ j c. elim ((adds j).0 c) [
        | inl same ↦ inr (subst (Contains (i ∷ [])) (sym same) (contains_front i []))
        | inr among ↦ inl among
      ];
    })
    (λ j c. elim (contains_cases i j [] c) [
      | inl e ↦ subst (LeavesShown catalog asked) (sym e) harmless
      | inr none ↦ absurd (contains_none j none)
    ]) was

pub twin_harmless : (s : Store) (i : Image) → IsSoundStore s → IsMergedCopy s.catalog s.source i → LeavesShown s.catalog (jobs s) i
twin_harmless s i sound twin = grind arith

pub steps_show_lem : StepsShow
steps_show_lem = record {
  adds = λ s i new shown sound is more was.
      more_shows s.catalog new (jobs s) i shown sound.serials (pre_dump_is_harmless_lem s.catalog (jobs s) i is.kind is.next.fresh.number) more was;
  commits = λ s i new shown more was. order_is_free_lem (i ∷ s.catalog) new shown (λ j. (
    λ c. (more j).1 (contains_cases i j s.catalog c),
    λ c. elim ((more j).0 c) [
      | inl same ↦ subst (Contains (i ∷ s.catalog)) (sym same) (contains_front i s.catalog)
      | inr among ↦ contains_later i j s.catalog among
    ],
  )) was;
  replaces = λ s i new shown sound is more was. more_shows s.catalog new (jobs s) i shown sound.serials (twin_harmless s i sound is) more was;
  retires = λ s new shown sound is was.
      cut_shows_the_same_lem s.catalog [] new (jobs s) shown sound.serials
      (record { needed = is.needed; within = λ j c. inl (is.within j c) }) (λ j c. absurd (contains_none j c)) was;
}
