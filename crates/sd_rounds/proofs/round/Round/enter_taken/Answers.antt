use Rattle.std.proofs.Common.{◌≡◌, Some, sym, ◌∙◌, ap, subst}
use Rattle.sd_rounds.specs.Pass.{Pass, place_taken, with_entry}
use Rattle.sd_rounds.specs.Rounds.{entry_parent}
use Rattle.sd_rounds.proofs.RoundLemmas.{at_cursor, ends_taken, entered_round, entered_view, place_back}
use Rattle.sd_rounds.proofs.round.Round.enter_taken.Goals as goal

pub push_entry-requires : goal.push_entry-requires
push_entry-requires c =
    let is : c.self.inside.taking ≡ Some (c.args.space, c.args.page) =
    place_back c.self.inside.copy c.self.inside.taking (c.args.space, c.args.page)
    (subst (λ (p : Pass). place_taken p ≡ Some (c.args.space, c.args.page)) (sym c.self.view_is) c.requires.here) in
    record {
      after = ends_taken c.self.inside.takes_all c.self.inside.tables.items c.self.inside.after c.self.inside.taking c.self.inside.copy
          (c.args.space, c.args.page) c.self.invariant is;
    }

pub invariant_of-self-2 : goal.invariant_of-self-2
invariant_of-self-2 c =
    let is : c.self.inside.taking ≡ Some (c.args.space, c.args.page) =
    place_back c.self.inside.copy c.self.inside.taking (c.args.space, c.args.page)
    (subst (λ (p : Pass). place_taken p ≡ Some (c.args.space, c.args.page)) (sym c.self.view_is) c.requires.here) in
    let cursor = at_cursor c.self.inside.takes_all c.self.inside.tables.items c.self.inside.after c.self.inside.taking c.self.inside.copy
    (c.args.space, c.args.page) c.self.invariant is in
    let within = c.self.invariant.spaces (c.args.space, c.args.page) cursor in
    entered_round c.self.inside.takes_all c.self.inside.tables.items c.push_entry.new.tables.items c.self.inside.after c.self.inside.taking c.self.inside.copy
    (c.args.space, c.args.page) c.args.kind c.self.invariant is
    (c.in_ok-push_entry.ensures.more (entry_parent c.self.inside.takes_all) 1 c.self.invariant.are (λ e. absurd (c.requires.own e)) within.0)

pub returns-clause-entered : goal.returns-clause-entered
returns-clause-entered c =
    let is : c.self.inside.taking ≡ Some (c.args.space, c.args.page) =
    place_back c.self.inside.copy c.self.inside.taking (c.args.space, c.args.page)
    (subst (λ (p : Pass). place_taken p ≡ Some (c.args.space, c.args.page)) (sym c.self.view_is) c.requires.here) in
    let cursor = at_cursor c.self.inside.takes_all c.self.inside.tables.items c.self.inside.after c.self.inside.taking c.self.inside.copy
    (c.args.space, c.args.page) c.self.invariant is in
    let within = c.self.invariant.spaces (c.args.space, c.args.page) cursor in
    entered_view c.self.inside.takes_all c.self.inside.tables.items c.push_entry.new.tables.items c.self.inside.after c.self.inside.taking c.self.inside.copy
    (c.args.space, c.args.page) c.args.kind (entry_parent c.self.inside.takes_all)
    (c.in_ok-push_entry.ensures.more (entry_parent c.self.inside.takes_all) 1 c.self.invariant.are (λ e. absurd (c.requires.own e)) within.0)
    ∙ ap (λ (p : Pass). with_entry p (c.args.space, c.args.page) c.args.kind) c.self.view_is
