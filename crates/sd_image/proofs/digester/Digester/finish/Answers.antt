use Rattle.std.proofs.Common.{sym, arith}
use Rattle.std.proofs.lemmas.List.{length-take-le}
use Rattle.sd_image.proofs.HeaderBytes.{front_of_text}
use Rattle.sd_image.proofs.digester.Digester.finish.Goals as goal

pub slice_bounds-update-end : goal.slice_bounds-update-end
slice_bounds-update-end c = sym (length-take-le 63 c.encode_header-text.result (omega (arith, c.encode_header-text.ensures.length)))

pub returns : goal.returns
returns c = grind (arith, front_of_text)
