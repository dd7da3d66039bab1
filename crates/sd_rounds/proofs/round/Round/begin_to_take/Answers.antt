use Rattle.std.proofs.Common.{◌≡◌, None, true, sym, subst}
use Rattle.sd_pagetable.specs.Order.{is_above}
use Rattle.sd_rounds.specs.Pass.{Pass}
use Rattle.sd_rounds.proofs.RoundLemmas.{begun_round}
use Rattle.sd_rounds.proofs.round.Round.begin_to_take.Goals as goal

pub invariant_of-self : goal.invariant_of-self
invariant_of-self c =
    begun_round c.self.inside.takes_all c.self.inside.tables.items c.self.inside.after c.self.inside.taking c.self.inside.copy c.clear.new.self
    (c.args.space, c.args.page) c.self.invariant (subst (λ (p : Pass). p.taking ≡ None) (sym c.self.view_is) c.requires.free)
    (subst (λ (p : Pass). is_above p.after c.args.space c.args.page ≡ true) (sym c.self.view_is) c.requires.above) c.requires.least c.requires.greatest c.clear.ensures
