use Rattle.std.proofs.Common.{sym, arith}
use Rattle.std.proofs.lemmas.List.{length-take-le}
use Rattle.sd_send.proofs.sending.is_still_there.Goals as goal

pub slice_bounds-eq-length-then-front : goal.slice_bounds-eq-length-then-front
slice_bounds-eq-length-then-front g c =
    let long = c.encode_header-header.ensures.length in
    sym (length-take-le 95 c.encode_header-header.result (omega (arith, long)))
