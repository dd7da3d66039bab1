-- What is sent of a store: the images of its newest checkpoint that the base doesn't have.
use Rattle.std.specs.Prelude.{◌≡◌, ◌≢◌, ◌⊎◌, Contains, ℕ, ◌<◌, List, [], ◌∷◌, ◌++◌, Option, None, Some, All}
use Rattle.std.specs.Prelude.{MatchOption}
use Rattle.sha2.specs.Sha256.{sha256}
use Rattle.sd_areas.specs.PlainMemory.{PlainMemory}
use Rattle.sd_disk.specs.Contents.{file_at}
use Rattle.sd_image.specs.declared.header.Kind.{Kind}
use Rattle.sd_image.specs.declared.header.Kind.TheVariants.{PreDump, Dump, Merged}
use Rattle.sd_chain.specs.Catalog.{IsDumpOrMerged, IsTip, Names, Opened, Places, images}
use Rattle.sd_chain.specs.Checkpoints.{IsOfCheckpointAmong}
use Rattle.sd_chain.specs.Store.{IsCatalogOf}
use Rattle.sd_restore.specs.At.{ShowsAt}
use Rattle.sd_readers.specs.Texts.{memory_text}
use Rattle.sd_stream.specs.declared.base.Base.{Base}
use Rattle.sd_stream.specs.Stream.{Group}

-- the digest of the text that a restore prints of the memory that contents have at a checkpoint
abbrev pub IsDigestAt : List (List ℕ) → ℕ → List ℕ → Type 0
IsDigestAt contents number digest =
    (memory : PlainMemory) × ShowsAt contents number memory × (digest ≡ sha256 (memory_text (number, memory)))

-- the base of a stream: none, or the checkpoint that is named, with the digest of its memory
abbrev pub IsBaseAt : List (List ℕ) → Option ℕ → Option Base → Type 0
IsBaseAt contents None base = base ≡ None
IsBaseAt contents (Some n) None = ⊥
IsBaseAt contents (Some n) (Some base) = (base.number ≡ n) × IsDigestAt contents n base.digest

-- the image that an image's parent number names, of a lower number, or none
abbrev pub IsParent : Places → Opened → Option Opened → Type 0
IsParent places i None = i.header.parent < i.header.stands_for → (p : Opened) → Names places i.header.parent p → ⊥
IsParent places i (Some p) = Names places i.header.parent p × (p.header.stands_for < i.header.stands_for)

-- by parent numbers one leads from the tip over these images, the last of them first, to this one
abbrev pub Leads : Places → Option Opened → List Opened → Option Opened → Type 0
Leads places tip [] next = next ≡ tip
Leads places tip (i ∷ others) next = IsParent places i next × Leads places tip others (Some i)

-- the newest dump or merged image, or there is none
abbrev pub IsTipOrNone : Places → Option Opened → Type 0
IsTipOrNone places tip = MatchOption tip (All (λ i. IsDumpOrMerged i → ⊥) (images places)) (IsTip places)

-- there is no further image, or it is the one in this slot
abbrev pub EndsAt : Option ℕ → Option Opened → Type 0
EndsAt stop next = (next ≡ None) ⊎ ((i : Opened) × (next ≡ Some i) × (stop ≡ Some i.slot))

-- The images, parents first, that lead to the newest from the one in this slot, or from the first. That one isn't among
-- them.
pub record AreSince (places : Places) (stop : Option ℕ) (found : List Opened) : Type 0 where
  pub tip : Option Opened
  pub newest : IsTipOrNone places tip
  pub next : Option Opened
  pub leads : Leads places tip found next
  pub ends : EndsAt stop next
  pub apart : (i : Opened) → Contains found i → stop ≢ Some i.slot

-- the slot of the image of the base's checkpoint
abbrev pub IsStop : Places → Option ℕ → Option ℕ → Type 0
IsStop places None stop = stop ≡ None
IsStop places (Some n) stop = (i : Opened) × IsOfCheckpointAmong (images places) n i × (stop ≡ Some i.slot)

-- a checkpoint before others, where the image is its last; else the image goes to these
abbrev pub closes : Kind → Group → List Group → List Group → List Group
closes PreDump group open_on closed_on = open_on
closes Dump group open_on closed_on = group ∷ closed_on
closes Merged group open_on closed_on = group ∷ closed_on

-- the checkpoints of images: each ends with a dump or a merged image, and has its number; these files stand before
abbrev pub grouped : List (List ℕ) → List (List ℕ) → List Opened → List Group
grouped contents before [] = []
grouped contents before (i ∷ others) =
    closes i.header.kind (record { files = before ++ file_at contents i.slot ∷ []; number = i.header.checkpoint })
    (grouped contents (before ++ file_at contents i.slot ∷ []) others) (grouped contents [] others)

-- What is sent: the images of the newest checkpoint, back to the base's.
pub record IsSent (contents : List (List ℕ)) (since : Option ℕ) (base : Option Base)
    (groups : List Group) : Type 0 where
  pub continues : IsBaseAt contents since base
  pub places : Places
  pub catalog : IsCatalogOf contents places
  pub stop : Option ℕ
  pub stops : IsStop places since stop
  pub found : List Opened
  pub reaches : AreSince places stop found
  pub checkpoints : groups ≡ grouped contents [] found
