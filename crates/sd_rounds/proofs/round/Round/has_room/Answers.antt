use Rattle.std.proofs.Common.{◌<◌, ◌^◌, subst}
use Rattle.sd_rounds.specs.Pass.{Pass}
use Rattle.sd_writing.specs.Entries.{Place, data_pages}
use Rattle.sd_rounds.specs.Rounds.{entry_parent}
use Rattle.sd_writing.specs.Tables.{listed}
use Rattle.sd_rounds.proofs.RoomLemmas.{has_room}
use Rattle.sd_rounds.proofs.RoundLemmas.{at_cursor, ends_taken}
use Rattle.sd_rounds.proofs.round.Round.has_room.Goals as goal

pub returns-in-Some : goal.returns-in-Some
returns-in-Some c = λ taking is.
    let at : Place = (c.in-Some.field-0-0, c.in-Some.page) in
    let cursor = at_cursor c.self.inside.takes_all c.self.inside.tables.items c.self.inside.after c.self.inside.taking c.self.inside.copy at c.self.invariant c.in-Some.is in
    let within = c.self.invariant.spaces at cursor in
    subst (λ (p : Pass). data_pages p.entries < 2 ^ 39) c.self.view_is
    (has_room (entry_parent c.self.inside.takes_all) (listed c.self.inside.tables.items) at c.self.invariant.are
    (ends_taken c.self.inside.takes_all c.self.inside.tables.items c.self.inside.after c.self.inside.taking c.self.inside.copy at c.self.invariant c.in-Some.is)
    within.0 within.1 (subst (λ n. n < 2 ^ 35) c.number-number.ensures.value c.number-number.ensures.within))
