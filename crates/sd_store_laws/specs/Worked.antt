-- Worked stores of one page, page 16 of space 1.
use Rattle.std.specs.Prelude.{◌⊎◌, ℕ, true, false, List, [], ◌∷◌, length, Some, ◌≡◌}
use Rattle.sd_areas.specs.declared.prot.Prot.{Prot}
use Rattle.sd_areas.specs.PlainMemory.{PlainMemory}
use Rattle.sd_image.specs.declared.header.Kind.{Kind}
use Rattle.sd_image.specs.declared.header.Kind.TheVariants.{Dump, Merged}
use Rattle.sd_image.specs.declared.run.RunKind.{RunKind}
use Rattle.sd_image.specs.declared.run.RunKind.TheVariants.{Data, Parent}
use Rattle.sd_image.specs.declared.header.Version.TheVariants.{One}
use Rattle.sd_image.specs.Words.{zero_bytes}
use Rattle.sd_image.specs.Image.{Image, gate, image_text}
use Rattle.sd_image.specs.Laws.{first_memory}
use Rattle.sd_image.specs.Shows.{IsNamed, IsTip, Shows, ImagesShow}
use Rattle.sd_store_laws.specs.Reached.{Reaches}
use Rattle.sd_store_laws.specs.Cut.{Repeats}
use Rattle.sd_store_laws.specs.Store.{IsSoundStore, Store}
use Rattle.sd_store_laws.specs.Steps.{checkpoint_begun, found_store}
use Rattle.sd_store_laws.specs.Beliefs.{AreSlotsOf, Belief, Kept, Opening, IsLeft}

abbrev pub prot : Prot
prot = record { read = true; write = true; execute = false }

abbrev pub one_page_memory : List ℕ → PlainMemory
one_page_memory bytes = first_memory 1 16 prot bytes

abbrev pub one_page : Kind → ℕ → ℕ → ℕ → ℕ → RunKind → List (List ℕ) → Image
one_page kind serial stands_for parent checkpoint way pages = record {
  header = record {
    version = One;
    kind = kind;
    serial = serial;
    stands_for = stands_for;
    parent = parent;
    checkpoint = checkpoint;
    pages = length pages;
    table_len = 72;
    digest = zero_bytes 32;
  };
  pages = pages;
  spaces = record {
    space = 1;
    areas = record { first = 16; count = 1; prot = prot } ∷ [];
    runs = record { first = 16; count = 1; kind = way } ∷ [];
  } ∷ [];
}

-- a dump with the page, and one that leaves it to its parent
abbrev pub whole : ℕ → ℕ → List ℕ → Image
whole serial checkpoint bytes = one_page Dump serial serial 0 checkpoint Data (bytes ∷ [])

abbrev pub unchanged : ℕ → ℕ → ℕ → Image
unchanged serial parent checkpoint = one_page Dump serial serial parent checkpoint Parent []

abbrev pub merged : ℕ → ℕ → ℕ → List ℕ → Image
merged serial stands_for checkpoint bytes = one_page Merged serial stands_for 0 checkpoint Data (bytes ∷ [])

-- the file of an image
abbrev pub file_of : Image → List ℕ
file_of i = gate ∷ image_text i

-- A dump; a second one that names it; and a merged image that takes the first one's place, with other bytes so that it
-- is seen.
pub record ChainRows (bytes other : List ℕ) : Type 0 where
  pub first : ImagesShow (whole 1 1 bytes ∷ []) (Some (1, one_page_memory bytes))
  pub second : ImagesShow (whole 1 1 bytes ∷ unchanged 2 1 2 ∷ []) (Some (2, one_page_memory bytes))
  pub third : ImagesShow (whole 1 1 bytes ∷ unchanged 2 1 2 ∷ merged 3 1 1 other ∷ []) (Some (2, one_page_memory other))
  pub reaches : Reaches (whole 1 1 bytes ∷ unchanged 2 1 2 ∷ merged 3 1 1 other ∷ []) (merged 3 1 1 other)
      (unchanged 2 1 2)
  pub no_more : Reaches (whole 1 1 bytes ∷ unchanged 2 1 2 ∷ merged 3 1 1 other ∷ []) (whole 1 1 bytes)
      (unchanged 2 1 2) → ⊥
  pub files : length bytes ≡ 4096 → length other ≡ 4096
      → Shows (file_of (whole 1 1 bytes) ∷ file_of (unchanged 2 1 2) ∷ file_of (merged 3 1 1 other) ∷ [])
      (Some (2, one_page_memory other))

-- a checkpoint beside a merge, the gates of both images being opened
abbrev pub busy : List ℕ → Store
busy bytes = record {
  catalog = whole 1 1 bytes ∷ [];
  chain = 1 ∷ [];
  work = 0 ∷ [];
  source = Some (whole 1 1 bytes);
  grows = true;
}

abbrev pub busy_slots : List ℕ → List Belief
busy_slots bytes = Kept (whole 1 1 bytes) ∷ Opening (merged 2 1 1 bytes) ∷ Opening (unchanged 3 1 2) ∷ []

-- Merge beside a round: each of the four sets that a crash may leave shows the first checkpoint or the second.
pub record MergeBesideRound (bytes : List ℕ) : Type 0 where
  pub sound : IsSoundStore (busy bytes)
  pub slots : AreSlotsOf (busy bytes) (Some (unchanged 3 1 2)) (busy_slots bytes)
  pub shows : (images : List Image) → IsLeft (busy_slots bytes) images
      → ImagesShow images (Some (1, one_page_memory bytes)) ⊎ ImagesShow images (Some (2, one_page_memory bytes))

-- a store that is read without a fault, whose tip isn't named by its own number
abbrev pub found : List ℕ → List ℕ → List Image
found bytes other = whole 5 2 bytes ∷ merged 6 5 1 other ∷ []

-- There an incremental checkpoint of a memory that didn't change would show other bytes, and the tip's again once a
-- merged image of the tip is there: so it may begin only where a checkpoint was acknowledged since the store was
-- opened.
pub record WhyItGrows (bytes other : List ℕ) : Type 0 where
  pub sound : IsSoundStore (found_store (found bytes other))
  pub tip : IsTip (found bytes other) (whole 5 2 bytes)
  pub shows : ImagesShow (found bytes other) (Some (2, one_page_memory bytes))
  pub misnamed : IsNamed (found bytes other) 5 (merged 6 5 1 other)
  pub changed : ImagesShow (unchanged 7 5 3 ∷ found bytes other) (Some (3, one_page_memory other))
  pub twin : Repeats (found bytes other) (whole 5 2 bytes) (merged 8 5 2 bytes)
  pub otherwise : ImagesShow (unchanged 7 5 3 ∷ merged 8 5 2 bytes ∷ found bytes other)
      (Some (3, one_page_memory bytes))
  pub unsound : IsSoundStore (checkpoint_begun (found_store (found bytes other)) 5) → ⊥
