-- The pairs so far are in the bytes so far.
use Rattle.std.proofs.Common.{◌≡◌, ◌*◌, take, drop}
use Rattle.hex.specs.Hex.{decode_pairs}
use Rattle.hex.proofs.Pairs.{prepend}
use Rattle.sd_script.proofs.digits.decode_into.Given as goal

abbrev pub invariant-bytes : goal.invariant-bytes
invariant-bytes l =
    decode_pairs 0 l.digits ≡ prepend (take l.place l.bytes) (decode_pairs (2 * l.place) (drop (2 * l.place) l.digits))
