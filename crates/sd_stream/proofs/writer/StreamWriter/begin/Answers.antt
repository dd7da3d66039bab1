use Rattle.std.proofs.Common.{rules, ap, sym, ◌∙◌, subst}
use Rattle.std.specs.Io.KnownBytes.{Appends}
use Rattle.sd_stream.specs.declared.tally.Tally.{Tally}
use Rattle.sd_stream.specs.Progress.{started}
use Rattle.sd_stream.specs.Tallies.{HasTaken}
use Rattle.sd_stream.proofs.HeadLemmas.{head_written, is_base}
use Rattle.sd_stream.proofs.writer.StreamWriter.begin.Goals as goal

pub returns-clause-begun : goal.returns-clause-begun
returns-clause-begun g c =
    let base = c.args.base in
    let good = is_base base (c.lacks_number.ensures.no (search rules)) c.head_bytes.ensures.number c.head_bytes.ensures.digest in
    let before = g.W.Write.contents c.args.out in
    head_written g.W.Write.contents before base c.put.new.self
    (subst (Appends before (g.W.Write.contents c.put.new.self.out)) c.head_bytes.ensures.text c.in_ok-put.ensures.bytes)
    (subst (λ (tally : Tally). HasTaken tally (started base)) (sym c.put.ensures.tally) (c.new.ensures.taken good))
    (ap (λ (tally : Tally). tally.left) c.put.ensures.tally ∙ c.new.ensures.left)
