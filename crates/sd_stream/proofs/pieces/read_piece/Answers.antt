use Rattle.std.proofs.Common.{◌∙◌, arith}
use Rattle.sd_stream.proofs.PieceLemmas.{read_on}
use Rattle.sd_stream.proofs.pieces.read_piece.Goals as goal

pub loop-preserved : goal.loop-preserved
loop-preserved g c =
    let was = c.loop.invariant in
    let from = g.R.Read.remaining c.args.input.now in
    let mid = g.R.Read.remaining c.loop.input in
    let to = g.R.Read.remaining c.read_more.new.input in
    record {
      few = omega (arith, c.in_ok-done.ensures.fits, was.same);
      same = c.read_more.ensures.len ∙ was.same;
      taken = read_on from mid to c.loop.buffer c.read_more.new.buffer c.loop.done c.in_ok-done.field-0 was.taken c.read_more.ensures.front c.in_ok-done.ensures.bytes;
    }
