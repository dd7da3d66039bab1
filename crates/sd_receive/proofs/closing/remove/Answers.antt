use Rattle.sd_receive.proofs.ClosedLemmas.{images_less}
use Rattle.sd_receive.proofs.closing.remove.Goals as goal

pub returns-clause-images : goal.returns-clause-images
returns-clause-images c = λ are. images_less c.args.catalog.now c.remove.new.self c.args.slot c.is_sound.ensures c.sound.ensures c.remove.ensures are
