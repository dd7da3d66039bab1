-- Worked stores with their slots: a pre-dump that is given up, a dump in doubt, and a merge that a checkpoint outruns.
use Rattle.std.specs.Prelude.{◌⊎◌, ℕ, true, List, [], ◌∷◌, Some, None}
use Rattle.sd_image.specs.declared.header.Kind.TheVariants.{PreDump}
use Rattle.sd_image.specs.declared.run.RunKind.TheVariants.{Data}
use Rattle.sd_image.specs.declared.header.Version.TheVariants.{One}
use Rattle.sd_image.specs.Words.{zero_bytes}
use Rattle.sd_image.specs.Image.{Image}
use Rattle.sd_image.specs.Shows.{ImagesShow, IsTip}
use Rattle.sd_store_laws.specs.Needs.{IsUnneeded}
use Rattle.sd_store_laws.specs.Store.{IsSoundStore, IsMergedCopy, Store}
use Rattle.sd_store_laws.specs.Steps.{cancelled, found_store, replaced}
use Rattle.sd_store_laws.specs.Beliefs.{AreSlotsOf, Closed, Kept, Opening, IsLeft}
use Rattle.sd_store_laws.specs.Worked.{merged, one_page_memory, unchanged, whole}

-- a store with one dump, and a checkpoint that began with its number
abbrev pub in_round : List ℕ → Store
in_round bytes = record { catalog = whole 1 1 bytes ∷ []; chain = 1 ∷ []; work = []; source = None; grows = true }

-- a pre-dump of the page
abbrev pub pre_dump : ℕ → ℕ → ℕ → List ℕ → Image
pre_dump serial parent checkpoint bytes = record {
  header = record {
    version = One;
    kind = PreDump;
    serial = serial;
    stands_for = serial;
    parent = parent;
    checkpoint = checkpoint;
    pages = 1;
    table_len = 48;
    digest = zero_bytes 32;
  };
  pages = bytes ∷ [];
  spaces = record { space = 1; areas = []; runs = record { first = 16; count = 1; kind = Data } ∷ [] } ∷ [];
}

-- A pre-dump whose gate is being opened is there or not, and the store shows the dump; also once its checkpoint is
-- cancelled, until its slot is formatted.
pub record PreDumpGivenUp (bytes other : List ℕ) : Type 0 where
  pub slots : AreSlotsOf (in_round bytes) None (Kept (whole 1 1 bytes) ∷ Opening (pre_dump 2 1 2 other) ∷ [])
  pub given_up : AreSlotsOf (cancelled (in_round bytes)) None
      (Kept (whole 1 1 bytes) ∷ Opening (pre_dump 2 1 2 other) ∷ [])
  pub shows : (images : List Image) → IsLeft (Kept (whole 1 1 bytes) ∷ Opening (pre_dump 2 1 2 other) ∷ []) images
      → ImagesShow images (Some (1, one_page_memory bytes))
  pub formatted : AreSlotsOf (cancelled (in_round bytes)) None (Kept (whole 1 1 bytes) ∷ Closed ∷ [])

-- A store that goes down while its second dump's gate is being opened shows the first dump or the second; it is opened
-- without the second, or with it.
pub record DumpInDoubt (bytes : List ℕ) : Type 0 where
  pub sound : IsSoundStore (in_round bytes)
  pub slots : AreSlotsOf (in_round bytes) (Some (unchanged 3 1 2))
      (Kept (whole 1 1 bytes) ∷ Opening (unchanged 3 1 2) ∷ [])
  pub shows : (images : List Image) → IsLeft (Kept (whole 1 1 bytes) ∷ Opening (unchanged 3 1 2) ∷ []) images
      → ImagesShow images (Some (1, one_page_memory bytes)) ⊎ ImagesShow images (Some (2, one_page_memory bytes))
  pub without_it : IsSoundStore (found_store (whole 1 1 bytes ∷ []))
      × ImagesShow (whole 1 1 bytes ∷ []) (Some (1, one_page_memory bytes))
  pub with_it : IsSoundStore (found_store (unchanged 3 1 2 ∷ whole 1 1 bytes ∷ []))
      × ImagesShow (unchanged 3 1 2 ∷ whole 1 1 bytes ∷ []) (Some (2, one_page_memory bytes))

-- a merge of the first dump runs, and the second is the tip
abbrev pub outrun : List ℕ → Store
outrun bytes = record {
  catalog = unchanged 3 1 2 ∷ whole 1 1 bytes ∷ [];
  chain = [];
  work = 0 ∷ [];
  source = Some (whole 1 1 bytes);
  grows = true;
}

-- The merged image still repeats its source and may enter; then nobody needs the source.
pub record MergeAfterTip (bytes : List ℕ) : Type 0 where
  pub sound : IsSoundStore (outrun bytes)
  pub tip : IsTip (outrun bytes).catalog (unchanged 3 1 2)
  pub twin : IsMergedCopy (outrun bytes).catalog (outrun bytes).source (merged 2 1 1 bytes)
  pub slots : AreSlotsOf (outrun bytes) None
      (Kept (whole 1 1 bytes) ∷ Opening (merged 2 1 1 bytes) ∷ Kept (unchanged 3 1 2) ∷ [])
  pub shows : (images : List Image)
      → IsLeft (Kept (whole 1 1 bytes) ∷ Opening (merged 2 1 1 bytes) ∷ Kept (unchanged 3 1 2) ∷ []) images
      → ImagesShow images (Some (2, one_page_memory bytes))
  pub entered : IsSoundStore (replaced (outrun bytes) (merged 2 1 1 bytes ∷ unchanged 3 1 2 ∷ whole 1 1 bytes ∷ []))
  pub unneeded : IsUnneeded (replaced (outrun bytes) (merged 2 1 1 bytes ∷ unchanged 3 1 2 ∷ whole 1 1 bytes ∷ []))
      (whole 1 1 bytes)
