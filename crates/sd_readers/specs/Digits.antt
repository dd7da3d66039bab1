-- The hexadecimal digits of an address.
use Rattle.std.specs.Prelude.{◌≡◌, ℕ, ◌≤◌, false, drop}
use Rattle.std.specs.Fmt.{digits}
use Rattle.std.specs.Int.{to_be_bytes, w64}
use Rattle.hex.specs.Hex.{encode_lower}

-- of the 16 digits of an address so many are zeros before those that are written
pub record IsZeroCount (address zeros : ℕ) : Type 0 where
  pub few : zeros ≤ 15
  pub written : drop zeros (encode_lower (to_be_bytes w64 address)) ≡ digits 16 false address
