use Rattle.std.proofs.Common.{sym, ◌∙◌, subst}
use Rattle.sd_rounds.specs.Pass.{Pass}
use Rattle.sd_rounds.specs.Rounds.{IsCopied, IsCopying, taking_of}
use Rattle.sd_rounds.proofs.CopyLemmas.{taken_is}
use Rattle.sd_rounds.proofs.RoundLemmas.{some_short}
use Rattle.sd_rounds.proofs.round.Round.standing.Goals as goal

pub returns-in-Some : goal.returns-in-Some
returns-in-Some c = subst (λ (p : Pass). IsCopied p) c.self.view_is (record {
  taking = taking_of c.self.inside.copy c.in-Some.field-0;
  is = taken_is c.self.inside.takes_all c.self.inside.tables.items c.self.inside.after c.self.inside.taking c.self.inside.copy c.in-Some.field-0 c.in-Some.is;
  whole = sym c.len.ensures.value ∙ c.if-len-eq-PAGE_SIZE.true;
})

pub returns-in-Some-2 : goal.returns-in-Some-2
returns-in-Some-2 c = subst (λ (p : Pass). IsCopying p) c.self.view_is (record {
  taking = taking_of c.self.inside.copy c.in-Some-2.field-0;
  is = taken_is c.self.inside.takes_all c.self.inside.tables.items c.self.inside.after c.self.inside.taking c.self.inside.copy c.in-Some-2.field-0 c.in-Some-2.is;
  short = some_short c.self.inside.takes_all c.self.inside.tables.items c.self.inside.after c.self.inside.taking c.self.inside.copy c.in-Some-2.field-0
      c.self.invariant c.in-Some-2.is (λ e. c.if-len-eq-PAGE_SIZE.false (c.len.ensures.value ∙ e));
})
