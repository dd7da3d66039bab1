-- A front, and then how it goes on.
use Rattle.std.proofs.Common.{subst}
use Rattle.std.specs.Io.KnownBytes.{Appends}
use Rattle.sd_arrivals.specs.Programs.{why_front}
use Rattle.sd_arrivals.proofs.ProgramLemmas.{goes_on}
use Rattle.sd_arrivals.proofs.programs.print_why.Goals as goal

pub returns-in-Ok-clause-line : goal.returns-in-Ok-clause-line
returns-in-Ok-clause-line g c =
    let before = g.W.Write.contents c.args.out.now.writer in
    let mid = g.W.Write.contents c.write_all.new.self.writer in
    goes_on before mid (g.W.Write.contents c.write_all-in-Ok.new.self.writer) (why_front c.args.error) c.as_bytes.result.now c.write_all-in-Ok.result
    (subst (λ text. Appends before mid text) c.front_of.ensures c.in_ok-write_all.ensures.bytes) c.write_all-in-Ok.ensures.bytes

pub returns-in-Err-clause-line : goal.returns-in-Err-clause-line
returns-in-Err-clause-line g c =
    let before = g.W.Write.contents c.args.out.now.writer in
    let mid = g.W.Write.contents c.write_all.new.self.writer in
    goes_on before mid (g.W.Write.contents c.write_all-in-Err.new.self.writer) (why_front c.args.error) _ c.write_all-in-Err.result
    (subst (λ text. Appends before mid text) c.front_of.ensures c.in_ok-write_all.ensures.bytes) c.write_all-in-Err.ensures.bytes
