use Rattle.std.proofs.Common.{◌≡◌, ap, arith}
use Rattle.sd_chain.specs.Catalog.{Opened}
use Rattle.sd_send.proofs.sender.has_newer.Goals as goal

pub returns-in-Some : goal.returns-in-Some
returns-in-Some c = (
  λ above. (c.in-Some.tip.now, c.in-Some.ensures.newest, grind arith),
  λ newer. let same : newer.0.header.checkpoint ≡ c.in-Some.tip.now.header.checkpoint = ap (λ (i : Opened). i.header.checkpoint) (c.sound.ensures.newest_once newer.0 c.in-Some.tip.now newer.1 c.in-Some.ensures.newest) in grind arith,
)
