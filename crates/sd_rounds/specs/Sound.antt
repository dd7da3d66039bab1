-- What holds of every dumper, between any two calls.
use Rattle.std.specs.Prelude.{◌≡◌, ◌≤◌, ◌^◌, ◌==◌, false, Option, Some, None}
use Rattle.sd_rounds.specs.Dumper.{Running}
use Rattle.sd_rounds.specs.Making.{IsReadyFor, Making, is_passing}
use Rattle.sd_writing.specs.Entries.{data_pages}
use Rattle.sd_rounds.specs.Rises.{IsRising}
use Rattle.sd_rounds.specs.Writes.{AreWrites, no_writes}

-- an image in the making: its entries rise, it takes every page where it has no parent, its pass is that of its stage,
-- and the writes that are out are those of its data pages, during its pass
pub record IsSoundImage (image : Making) : Type 0 where
  pub rising : IsRising image.pass
  pub takes : image.pass.takes_all ≡ (image.order.parent == 0)
  pub few : data_pages image.pass.entries ≤ 2 ^ 39
  pub ready : IsReadyFor image.order image.pass image.stage
  pub lanes : AreWrites image.order.slot (data_pages image.pass.entries) image.writes
  pub rests : is_passing image.stage ≡ false → image.writes ≡ no_writes

abbrev pub IsSoundMaking : Option Making → Type 0
IsSoundMaking None = Unit {0}
IsSoundMaking (Some image) = IsSoundImage image

abbrev pub HasSoundImage : Option Running → Type 0
HasSoundImage None = Unit {0}
HasSoundImage (Some running) = IsSoundMaking running.image
