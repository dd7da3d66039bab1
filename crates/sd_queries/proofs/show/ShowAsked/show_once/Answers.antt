-- What was shown is what was found, whatever is seen of it.
use Rattle.std.proofs.Common.{◌∙◌}
use Rattle.sd_program.specs.Seen.{within}
use Rattle.sd_queries.proofs.ShowingLemmas.{shows_folder}
use Rattle.sd_queries.proofs.show.ShowAsked.show_once.Goals as goal

pub returns : goal.returns
returns g c = record {
  shows = shows_folder c.args.self.called.found.now c.args.self.slot c.args.self.as_json (within c.disk-disk.result) (within c.show_by-shown.new.disk) c.show_by-shown.result
      (g.W.Write.contents c.args.out.now) (g.W.Write.contents c.show_by-shown.new.out)
      (c.disk-disk.ensures.files ∙ c.in_ok-disk.ensures.files) c.show_by-shown.ensures.reads.same c.show_by-shown.ensures.text c.show_by-shown.ensures.damaged;
}
