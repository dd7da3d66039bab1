-- Spare buffers for the pages of a checkpoint.
use Rattle.std.specs.Prelude.{◌≤◌, ℕ, All, vec_capacity}
use Rattle.std.specs.Global.{Vec}

-- a buffer has room for a page
abbrev pub HasRoomForPage : Vec ℕ → Type 0
HasRoomForPage buffer = 4096 ≤ vec_capacity buffer

-- each of the spare buffers has room for a page, and their list has a place for each of nine
pub record AreSpare (spare : Vec (Vec ℕ)) : Type 0 where
  pub rooms : All HasRoomForPage spare.items
  pub places : 9 ≤ vec_capacity spare
