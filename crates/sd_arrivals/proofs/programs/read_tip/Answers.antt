-- The digest is that of the files that were scanned.
use Rattle.std.proofs.Common.{subst}
use Rattle.sd_send.specs.Sent.{IsDigestAt}
use Rattle.sd_arrivals.proofs.programs.read_tip.Goals as goal

pub returns-clause-tip : goal.returns-clause-tip
returns-clause-tip g c = λ honest. record {
  newest = λ shown shows. c.in-Some.ensures (g.D.Disk.contents c.args.disk.now) shown (c.in_ok-catalog.ensures.catalog (c.memory_digest.ensures.reads.honest honest)) shows;
  digest_is = subst (λ files. IsDigestAt files c.in-Some.number c.in_ok-digest.digest) c.scan.ensures.reads.same (c.in_ok-digest.ensures.digest honest);
}
