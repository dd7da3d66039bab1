use Rattle.sd_tables.proofs.UsedLemmas.{clear_next}
use Rattle.sd_tables.proofs.used_places.next_clear_bit.Goals as goal

pub returns : goal.returns
returns c = clear_next c.args.word c.args.from c.ranges.word.fits c.next_bit.result c.next_bit.ensures
