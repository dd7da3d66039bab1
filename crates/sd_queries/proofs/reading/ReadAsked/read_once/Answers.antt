-- What was read is what was found, whatever is seen of it.
use Rattle.std.proofs.Common.{sym, ◌∙◌, subst}
use Rattle.sd_program.specs.Seen.{within}
use Rattle.sd_queries.specs.Reading.{AnswersFound}
use Rattle.sd_queries.proofs.ReadingLemmas.{answers_folder}
use Rattle.sd_queries.proofs.reading.ReadAsked.read_once.Goals as goal

pub returns : goal.returns
returns g c = record {
  answers =
      let found = c.args.self.called.found.now in
      let asked = c.args.self.query in
      let before = g.W.Write.contents c.args.out.now.writer in
      let after = g.W.Write.contents c.answer-status.new.out.writer in
      let refused = c.answer-status.new.out.refused in
      let status = c.answer-status.result in
      subst (λ disk. AnswersFound found asked (disk, status) before after refused) (sym c.unseen.ensures)
      (answers_folder asked found (within c.disk-disk.result) (within c.answer-status.new.disk) before after refused status
      (c.disk-disk.ensures.files ∙ c.in_ok-disk.ensures.files) c.answer-status.ensures.reads.same c.answer-status.ensures.answers);
}
