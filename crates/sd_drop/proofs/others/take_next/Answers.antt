use Rattle.std.proofs.Common.{length}
use Rattle.sd_drop.proofs.others.take_next.Goals as goal

pub returns-clause-read : goal.returns-clause-read
returns-clause-read g c = λ was. c.in_ok-take_in.ensures.read (length (g.D.Disk.contents c.args.disk.now)) c.requires.next c.in_ok-opened.ensures.sound was
