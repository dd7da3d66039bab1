use Rattle.std.proofs.Common.{◌∙◌, sym}
use Rattle.std.specs.Prelude.{None}
use Rattle.sd_fold.proofs.OverLemmas.{filling_goes, filling_skips}
use Rattle.sd_fold.proofs.Tables.{none_of}
use Rattle.sd_fold.proofs.changes.hide_all.Goals as goal

pub loop-page-preserved-in-Continue-1 : goal.loop-page-preserved-in-Continue-1
loop-page-preserved-in-Continue-1 c = filling_goes (λ _. None) c.args.pages c.loop-page.page-iterator c.next.new.self c.args.changes.now.entries c.loop-page.changes.entries
    c.put.new.changes.entries c.in-Some.page.now c.in-Some.field-0-1.now c.loop-page.invariant c.in-Some.ensures.steps (none_of _ (sym c.contains_key.ensures ∙ c.if-not-contains_key.true)) c.in_ok-put.ensures.put

pub loop-page-preserved : goal.loop-page-preserved
loop-page-preserved c = filling_skips (λ _. None) c.args.pages c.loop-page.page-iterator c.next.new.self c.args.changes.now.entries c.loop-page.changes.entries
    c.in-Some.page.now c.in-Some.field-0-1.now c.loop-page.invariant c.in-Some.ensures.steps (sym c.contains_key.ensures ∙ c.if-not-contains_key.false)
