use Rattle.std.proofs.Common.{◌≡◌, IsTrue, true, false, inl, inr, subst}
use Rattle.sd_core.specs.Opening.{IsExpected}
use Rattle.sd_core.proofs.StrangeLemmas.{failed_damage}
use Rattle.sd_core.proofs.opening.read_by.Goals as goal

pub returns-clause-opens : goal.returns-clause-opens
returns-clause-opens c = record {
  expected = c.is_expected.ensures.0 c.if-not-is_expected.false;
  told = c.in-Ok.ensures.told;
  read = λ files sees all shown shows. c.in-Ok.ensures.opened files sees all (c.store_is_rightly_digested.ensures files shows.images shows.store.slots);
  number = λ files sees all shown shows.
      let right = c.store_is_rightly_digested.ensures files shows.images shows.store.slots in
      c.shown_by-found.ensures.shown files (c.in-Ok.ensures.opened files sees all right).catalog shown shows;
}

pub returns-then-not-is_expected-clause-strange : goal.returns-then-not-is_expected-clause-strange
returns-then-not-is_expected-clause-strange c = λ none files sees all own.
    let right = c.store_is_rightly_digested.ensures files own.images own.store.slots in
    let same = c.shown_by-found.ensures.tip files (c.in-Ok.ensures.opened files sees all right).catalog own.images own.store own.number own.tip in
    let expected = subst (IsExpected c.args.last c.args.pending) same own.expected in
    absurd (let no : false ≡ true = subst IsTrue c.if-not-is_expected.true (c.is_expected.ensures.1 expected) in cc)

pub returns-then-not-is_expected-clause-damaged : goal.returns-then-not-is_expected-clause-damaged
returns-then-not-is_expected-clause-damaged c = λ none files sees all right.
    let read = c.in-Ok.ensures.opened files sees all right in
    inr (record {
      images = read.images;
      store = read.store;
      other = λ number tip expected.
          let same = c.shown_by-found.ensures.tip files read.catalog read.images read.store number tip in
          absurd (let no : false ≡ true = subst IsTrue c.if-not-is_expected.true (c.is_expected.ensures.1 (subst (IsExpected c.args.last c.args.pending) same expected)) in cc);
    })

pub returns-in_default-clause-damaged : goal.returns-in_default-clause-damaged
returns-in_default-clause-damaged c none files sees all right =
    let read = c.finish.ensures in
    inl (failed_damage files c.finish.result (λ opened is. c.in_default.not-Ok opened is) (read.names files sees all right) read.empty read.device read.memory)
