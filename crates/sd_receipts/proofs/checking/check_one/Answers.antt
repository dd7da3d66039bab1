use Rattle.std.proofs.Common.{refl, sym, subst, ◌∙◌}
use Rattle.sd_journal.specs.declared.entry.Entry.{Entry}
use Rattle.sd_journal.specs.declared.entry.Entry.TheVariants.{Applied}
use Rattle.sd_journal.specs.Receipts.{IsEntryAt}
use Rattle.sd_receipts.proofs.EntryLemmas.{has_command, never, one_entry}
use Rattle.sd_receipts.proofs.checking.check_one.Goals as goal

pub returns-in_default-clause-fault : goal.returns-in_default-clause-fault
returns-in_default-clause-fault c = (refl, λ has. c.in_default.ensures (Applied has.0 has.1 has.2) has.3)

pub returns-then-not-tells-clause-fault : goal.returns-then-not-tells-clause-fault
returns-then-not-tells-clause-fault c = (
  refl,
  has_command c.args.first c.args.entries.now c.args.receipt.now.number c.in-Some.entry.now c.in-Some.ensures (sym c.is_command.ensures ∙ c.if-not-is_command.false),
  λ stands. never (c.if-not-tells.ensures.1 (one_entry c.args.first c.args.entries.now c.args.receipt.now.number c.in-Some.entry.now _ c.in-Some.ensures stands)),
)

pub returns-then-not-rises-clause-fault : goal.returns-then-not-rises-clause-fault
returns-then-not-rises-clause-fault c =
    let stands = subst (λ (e : Entry). IsEntryAt c.args.first c.args.entries.now c.args.receipt.now.number e) (c.if-not-tells.ensures.0 refl) c.in-Some.ensures in
    (refl, stands, c.if-not-rises.ensures.other refl)
