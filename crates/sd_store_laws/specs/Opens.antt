-- A store as it is found, and what steps leave to be shown.
use Rattle.std.specs.Prelude.{◌↔◌, ℕ, List, ◌∷◌, Option, Contains}
use Rattle.sd_areas.specs.PlainMemory.{PlainMemory}
use Rattle.sd_image.specs.Image.{Image}
use Rattle.sd_image.specs.Shows.{IsStore, ImagesShow}
use Rattle.sd_store_laws.specs.Store.{IsNextPreDump, IsSoundStore, IsMergedCopy, Store}
use Rattle.sd_store_laws.specs.Steps.{Adds, Retires, found_store}

-- A store that is read without a fault is sound as it is opened.
abbrev pub OpenedIsSound : Type 0
OpenedIsSound =
    (contents : List (List ℕ)) (images : List Image) → IsStore contents images → IsSoundStore (found_store images)

-- What is shown depends on which images there are, and not on their order.
abbrev pub OrderIsFree : Type 0
OrderIsFree =
    (one other : List Image) (shown : Option (ℕ × PlainMemory)) → ((i : Image) → Contains one i ↔ Contains other i)
    → ImagesShow one shown → ImagesShow other shown

-- Only a commit changes what a store shows: to the dump's checkpoint and its memory.
pub record StepsShow : Type 0 where
  pub adds : (s : Store) (i : Image) (new : List Image) (shown : Option (ℕ × PlainMemory))
      → IsSoundStore s → IsNextPreDump s i → Adds s.catalog i new → ImagesShow s.catalog shown → ImagesShow new shown
  pub commits : (s : Store) (i : Image) (new : List Image) (shown : Option (ℕ × PlainMemory))
      → Adds s.catalog i new → ImagesShow (i ∷ s.catalog) shown → ImagesShow new shown
  pub replaces : (s : Store) (i : Image) (new : List Image) (shown : Option (ℕ × PlainMemory))
      → IsSoundStore s → IsMergedCopy s.catalog s.source i → Adds s.catalog i new → ImagesShow s.catalog shown
      → ImagesShow new shown
  pub retires : (s : Store) (new : List Image) (shown : Option (ℕ × PlainMemory))
      → IsSoundStore s → Retires s new → ImagesShow s.catalog shown → ImagesShow new shown
