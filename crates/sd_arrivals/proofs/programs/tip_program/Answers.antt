-- What was read of the files that are found is printed.
use Rattle.std.proofs.Common.{◌≡◌, ◌∙◌, ℕ, List, subst}
use Rattle.std.specs.Io.KnownBytes.{Appends}
use Rattle.hex.specs.Hex.{encode_lower}
use Rattle.sd_arrivals.specs.Programs.{tip_text}
use Rattle.sd_arrivals.proofs.ProgramLemmas.{finished}
use Rattle.sd_arrivals.proofs.programs.tip_program.Goals as goal

pub returns : goal.returns
returns g c =
    let before = g.W.Write.contents c.args.out.now.writer in
    let mid = g.W.Write.contents c.print_tip.new.out.writer in
    let digest = c.in_ok-number.digest in
    let spelled : c.deref.result.now ≡ encode_lower digest = c.deref.ensures ∙ c.in_ok-digest.ensures in
    record {
      tips = record {
        old = c.in_ok-disk.disk;
        new = c.read_tip.new.disk;
        opened = c.in_ok-disk.ensures.files;
        reads = c.read_tip.ensures.reads;
        number = c.in_ok-number.number;
        digest = digest;
        tip = c.in_ok-number.ensures.tip;
        exits = finished before mid (g.W.Write.contents c.finish.new.self.writer) (tip_text c.args.as_json c.in_ok-number.number (encode_lower digest)) c.finish.new.self.refused 0 c.finish.result
            (subst (λ (t : List ℕ). Appends before mid (tip_text c.args.as_json c.in_ok-number.number t)) spelled c.in_ok-print_tip.ensures.line) c.finish.ensures.bytes c.finish.ensures.status;
      };
    }
