use Rattle.std.proofs.Common.{◌≡◌, ◌++◌, Some, false, sym, subst}
use Rattle.sd_pagetable.specs.Sectors.{sector_bytes}
use Rattle.sd_rounds.specs.Pass.{Pass, Taking}
use Rattle.sd_rounds.specs.Rounds.{IsCopying, is_page_of_zeros}
use Rattle.sd_rounds.proofs.RoundLemmas.{longer_round}
use Rattle.sd_rounds.proofs.round.Round.append.Goals as goal

pub invariant_of-self-2 : goal.invariant_of-self-2
invariant_of-self-2 c =
    longer_round c.self.inside.takes_all c.self.inside.tables.items c.self.inside.after c.self.inside.taking c.self.inside.copy
    (sector_bytes c.args.sector) c.add.new.self c.self.invariant (subst (λ (p : Pass). IsCopying p) (sym c.self.view_is) c.requires.copying)
    c.requires.length c.in_ok-add.ensures.items
    (subst (λ (p : Pass). (t : Taking) → p.taking ≡ Some t → is_page_of_zeros (t.copied ++ sector_bytes c.args.sector) ≡ false) (sym c.self.view_is) c.requires.some)
