use Rattle.sd_journal.proofs.PlainLemmas.{space_put}
use Rattle.sd_journal.proofs.plain_pages.put.Goals as goal

pub returns : goal.returns
returns c = space_put c.args.pages.now.entries c.insert.new.self.entries c.args.page c.args.found c.in_ok-insert.ensures.updates.0
