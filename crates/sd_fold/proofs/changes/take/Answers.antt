use Rattle.std.proofs.Common.{◌∙◌, sym, ap}
use Rattle.std.specs.Option.{option_map}
use Rattle.std.specs.Prelude.{None}
use Rattle.sd_areas.specs.Memory.{page_of_snapshot, space_of}
use Rattle.sd_fold.proofs.OverLemmas.{changes_put, over_put, touched, untouched}
use Rattle.sd_fold.proofs.Tables.{always, if_ok, get_space}
use Rattle.sd_fold.proofs.changes.take.Goals as goal

pub returns-in-Some-clause-found : goal.returns-in-Some-clause-found
returns-in-Some-clause-found c = touched c.args.changes.now.entries (space_of c.args.pages.now.entries) c.args.page c.in-Some.found (sym c.in-Some.is ∙ c.in_ok-found.ensures.old)

pub returns-in-Some-clause-rest : goal.returns-in-Some-clause-rest
returns-in-Some-clause-rest c = over_put c.args.changes.now.entries c.insert.new.self.entries c.args.page None (space_of c.args.pages.now.entries)
    (changes_put c.args.changes.now.entries c.insert.new.self.entries c.args.page None c.in_ok-found.ensures.updates.0)

pub returns-in-None-clause-found : goal.returns-in-None-clause-found
returns-in-None-clause-found c = if_ok c.copy_of_found.result _ _ (λ copy same. same ∙ ap (option_map page_of_snapshot) c.get.ensures.value
    ∙ sym (get_space c.args.pages.now.entries c.args.page)
    ∙ untouched c.args.changes.now.entries (space_of c.args.pages.now.entries) c.args.page (sym c.in-None.is ∙ c.in_ok-found.ensures.old)) c.copy_of_found.ensures

pub returns-in-None-clause-rest : goal.returns-in-None-clause-rest
returns-in-None-clause-rest c = always c.copy_of_found.result _ (over_put c.args.changes.now.entries c.insert.new.self.entries c.args.page None (space_of c.args.pages.now.entries)
    (changes_put c.args.changes.now.entries c.insert.new.self.entries c.args.page None c.in_ok-found.ensures.updates.0))
