use Rattle.std.proofs.Common.{◌≡◌, ℕ, List, ◌++◌}
use Rattle.std.specs.Io.KnownBytes.{Appends}
use Rattle.sd_stream.proofs.pieces.write_piece.Given as goal

-- some of the bytes are written, and the rest is left
abbrev pub invariant-loop : goal.invariant-loop
invariant-loop g l = record {
  done : List ℕ;
  split : l.bytes ≡ done ++ l.rest;
  written : Appends (g.W.Write.contents l.fn.out) (g.W.Write.contents l.out) done;
}
