use Rattle.sd_tables.proofs.UsedLemmas.{hole_none, hole_some}
use Rattle.sd_tables.proofs.used_places.UsedPlaces.hole_in_word.Goals as goal

pub returns-in_err-bit : goal.returns-in_err-bit
returns-in_err-bit c = rw c.from_residual.ensures (hole_none c.args.self.now.words c.args.word c.args.from c.first_bit_of-low.result c.first_bit_of-low.ensures.first c.in_err-bit.ensures)

pub returns : goal.returns
returns c = hole_some c.args.self.now.words c.args.word c.args.from c.first_bit_of-low.result c.first_bit_of-low.ensures.first c.in_ok-bit.bit c.in_ok-bit.ensures
