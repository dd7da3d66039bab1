use Rattle.std.proofs.Common.{◌≡◌, None, true, false, sym, subst}
use Rattle.sd_pagetable.specs.Order.{is_above}
use Rattle.sd_rounds.specs.Pass.{Pass}
use Rattle.sd_rounds.specs.Rounds.{entry_parent}
use Rattle.sd_rounds.proofs.RoundLemmas.{left_round, ends_ahead, has_source}
use Rattle.sd_rounds.proofs.round.Round.leave.Goals as goal

pub invariant_of-self-2 : goal.invariant_of-self-2
invariant_of-self-2 c =
    left_round c.self.inside.takes_all c.self.inside.tables.items c.push_entry.new.tables.items c.self.inside.after c.self.inside.taking c.self.inside.copy
    (c.args.space, c.args.page) c.self.invariant (subst (λ (p : Pass). p.taking ≡ None) (sym c.self.view_is) c.requires.free)
    (subst (λ (p : Pass). is_above p.after c.args.space c.args.page ≡ true) (sym c.self.view_is) c.requires.above) c.requires.least c.requires.greatest
    (c.in_ok-push_entry.ensures.more (entry_parent c.self.inside.takes_all) 1 c.self.invariant.are
    (has_source c.self.inside.takes_all (subst (λ (p : Pass). p.takes_all ≡ false) (sym c.self.view_is) c.requires.parent))
    c.requires.least)

pub push_entry-requires : goal.push_entry-requires
push_entry-requires c = record {
  after = ends_ahead c.self.inside.takes_all c.self.inside.tables.items c.self.inside.after c.self.inside.taking c.self.inside.copy
      (c.args.space, c.args.page) c.self.invariant (subst (λ (p : Pass). p.taking ≡ None) (sym c.self.view_is) c.requires.free)
      (subst (λ (p : Pass). is_above p.after c.args.space c.args.page ≡ true) (sym c.self.view_is) c.requires.above) c.requires.least;
}
