-- What was sent last of a store that grows, and where a further piece begins.
use Rattle.std.specs.Prelude.{◌≡◌, ◌≢◌, ◌<◌, ℕ, Option, None, Some, All, IfSome, MatchOption}
use Rattle.sd_chain.specs.Catalog.{IsDumpOrMerged, IsTip, Opened, Places, images}
use Rattle.sd_chain.specs.Checkpoints.{HasCheckpoint, IsOfCheckpointAmong}
use Rattle.sd_stream.specs.declared.base.Base.{Base}
use Rattle.sd_send.specs.declared.send_error.SendError.{SendError}
use Rattle.sd_send.specs.declared.send_error.SendError.TheVariants as send
use Rattle.sd_send.specs.declared.sender.Last.{Last}

-- the receiver has the base's checkpoint, whichever image that is
abbrev pub last_of_base : Base → Last
last_of_base base = record { number = base.number; stands_for = None }

-- it is the checkpoint of this image, with the serial for which that stands
abbrev pub last_of : Opened → Last
last_of i = record { number = i.header.checkpoint; stands_for = Some i.header.stands_for }

-- of the images of a catalog it is the newest checkpoint, or there is none
abbrev pub IsLastIn : Places → Option Last → Type 0
IsLastIn places last = MatchOption last (All (λ i. IsDumpOrMerged i → ⊥) (images places))
    (λ l. (i : Opened) × IsTip places i × (l ≡ last_of i))

-- the image of the checkpoint that was sent last, or one that was merged from it
pub record IsOfLast (places : Places) (last : Last) (i : Opened) : Type 0 where
  pub newest : IsOfCheckpointAmong (images places) last.number i
  pub stands : IfSome last.stands_for (λ serial. i.header.stands_for ≡ serial)

-- no image is of the checkpoint that was sent last, but one is of a newer
pub record IsPast (places : Places) (last : Last) : Type 0 where
  pub sent : last.stands_for ≢ None
  pub lacks : All (λ i. HasCheckpoint last.number i → ⊥) (images places)
  pub newer : (i : Opened) × IsTip places i × (last.number < i.header.checkpoint)

-- Where the next piece begins: after the image of what was sent last, in this slot; or with the first image, where
-- nothing was sent, or where only newer checkpoints are left.
abbrev pub IsStopAfter : Places → Option Last → Option ℕ → Type 0
IsStopAfter places None stop = stop ≡ None
IsStopAfter places (Some last) None = IsPast places last
IsStopAfter places (Some last) (Some slot) = (i : Opened) × IsOfLast places last i × (slot ≡ i.slot)

-- the checkpoint that was sent last has this number, and no further piece begins anywhere
abbrev pub IsGone : Places → Option Last → ℕ → Type 0
IsGone places None number = ⊥
IsGone places (Some last) number =
    (number ≡ last.number) × ((stop : Option ℕ) → IsStopAfter places (Some last) stop → ⊥)

-- an error of the store, its device, the memory or the stream's output
abbrev pub IsOfSending : SendError → Type 0
IsOfSending (send.Fault fault) = Unit {0}
IsOfSending (send.Stream error) = Unit {0}
IsOfSending _ = ⊥
