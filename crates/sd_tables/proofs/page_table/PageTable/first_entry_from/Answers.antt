use Rattle.std.proofs.Common.{◌^◌, None, refl}
use Rattle.sd_tables.proofs.TableOfLemmas.{from_none, from_past, from_some, entry_from}
use Rattle.sd_tables.proofs.page_table.PageTable.first_entry_from.Goals as goal

pub returns-in_err-number-clause-first : goal.returns-in_err-number-clause-first
returns-in_err-number-clause-first c = rw c.from_residual.ensures (from_none (2 ^ 35) (2 ^ 36) _ c.args.start c.start_of.result c.start_of.ensures.value c.args.self.now c.self.view_is c.in_err-number.ensures)

pub returns-in_err-page-clause-first : goal.returns-in_err-page-clause-first
returns-in_err-page-clause-first c = rw c.from_residual-in_err-page.ensures (from_past (2 ^ 35) (2 ^ 36) _ c.args.start c.start_of.result c.start_of.ensures.value c.args.self.now c.self.view_is c.in_ok-number.number c.in_ok-number.entry c.in_ok-number.ensures None refl c.in_err-page.ensures.within.1)

pub returns-clause-first : goal.returns-clause-first
returns-clause-first c = from_some (2 ^ 35) (2 ^ 36) _ c.args.start c.start_of.result c.start_of.ensures.value c.args.self.now c.self.view_is c.in_ok-number.number c.in_ok-number.entry c.in_ok-number.ensures c.in_ok-page.page (c.in_ok-page.ensures.within.0 refl) c.in_ok-page.ensures.value

pub returns-clause-entry : goal.returns-clause-entry
returns-clause-entry c = entry_from (2 ^ 35) (2 ^ 36) _ c.args.start c.start_of.result c.start_of.ensures.value c.args.self.now c.self.view_is c.in_ok-number.number c.in_ok-number.entry c.in_ok-number.ensures c.in_ok-page.page (c.in_ok-page.ensures.within.0 refl) c.in_ok-page.ensures.value
