use Rattle.std.proofs.Common.{◌≡◌, ◌≤◌, length, take}
use Rattle.std.specs.Io.KnownBytes.{Consumes}
use Rattle.sd_stream.proofs.pieces.read_piece.Given as goal

-- the front of the buffer is read
abbrev pub invariant-loop : goal.invariant-loop
invariant-loop g l = record {
  few : l.done ≤ l.len;
  same : length l.buffer ≡ l.len;
  taken : Consumes (g.R.Read.remaining l.fn.input) (g.R.Read.remaining l.input) (take l.done l.buffer);
}
