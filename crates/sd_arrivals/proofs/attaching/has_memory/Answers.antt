use Rattle.std.proofs.Common.{ℕ, List, subst}
use Rattle.sd_send.specs.Sent.{IsDigestAt}
use Rattle.sd_arrivals.proofs.attaching.has_memory.Goals as goal

pub returns-clause-yes : goal.returns-clause-yes
returns-clause-yes g c = λ honest yes.
    subst (λ (digest : List ℕ). IsDigestAt (g.D.Disk.contents c.args.disk.now) c.args.base.number digest) (c.is_same_digest.ensures yes) (c.in_ok-digest.ensures.digest honest)
