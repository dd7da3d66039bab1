-- What was held back is printed as it is.
use Rattle.std.proofs.Common.{[], OnOk, Some, subst, rules}
use Rattle.std.specs.Io.KnownBytes.{Appends}
use Rattle.sd_queries.specs.Showing.{ShowsFolder}
use Rattle.sd_queries.proofs.ShowingLemmas.{shows_held}
use Rattle.sd_queries.proofs.show.ShowAsked.show_beside.Goals as goal

pub returns : goal.returns
returns g c = record {
  shows = let found = c.args.self.called.found.now in
      let slot = c.args.self.slot in
      let as_json = c.args.self.as_json in
      let shown = c.in_ok-disk.shown in
      let items = c.in_ok-disk.text.items in
      let before = g.W.Write.contents c.args.out.now.writer in
      let after = g.W.Write.contents c.print_text.new.out.writer in
      let held : ShowsFolder found slot as_json shown (Some []) (Some items) = search rules in
      let printed : OnOk shown (Appends before after c.deref.result.now) = search rules in
      shows_held found slot as_json shown items before after held (subst (λ text. OnOk shown (Appends before after text)) c.deref.ensures.value printed);
}
