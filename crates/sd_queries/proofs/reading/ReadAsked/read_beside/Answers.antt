-- What was held back is printed as it is.
use Rattle.std.proofs.Common.{subst}
use Rattle.sd_disk.specs.Folder.{IsFolderHonest, folder_failures, folder_files}
use Rattle.sd_exit.specs.Ending.{Exits}
use Rattle.sd_queries.proofs.ReadingLemmas.{answers_held}
use Rattle.sd_queries.proofs.reading.ReadAsked.read_beside.Goals as goal

pub returns : goal.returns
returns g c = record {
  answers =
      let tried = c.in_ok-tried.tried in
      let got = c.in_ok-tried.ensures.answers in
      let done = c.print_held-status in
      let before = g.W.Write.contents c.args.out.now.writer in
      let after = g.W.Write.contents done.new.out.writer in
      let refused = done.new.out.refused in
      record {
        files = got.files;
        answers = answers_held (IsFolderHonest tried.disk) (folder_files tried.disk) 0 (folder_failures tried.disk) before after tried.text.items refused tried.status done.result
            c.args.self.query (subst (λ text. Exits before after refused text tried.status done.result) c.deref.ensures.value done.ensures.exits) got.answers;
      };
}
