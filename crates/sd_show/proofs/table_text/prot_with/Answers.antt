use Rattle.sd_image.proofs.Items.{prot_is}
use Rattle.sd_show.proofs.table_text.prot_with.Goals as goal

pub returns : goal.returns
returns c = prot_is c.from_bits.result c.args.number c.if-number-gt7.false c.from_bits.ensures.within.1 c.from_bits.ensures.value
