use Rattle.std.proofs.Common.{refl, sym, ◌∙◌, ap, take, reverse}
use Rattle.sd_journal.specs.History.{pending}
use Rattle.sd_journal.proofs.FrontLemmas.{ends_here, none_at_all, none_at_first, none_more}
use Rattle.sd_journal.proofs.LegalLemmas.{next_entry}
use Rattle.sd_journal.proofs.MarkedLemmas.{never}
use Rattle.sd_journal.proofs.journal.ended_at.Goals as goal

pub loop-place-init : goal.loop-place-init
loop-place-init c = record { found = refl; none = none_at_first c.args.checkpoint c.args.entries.now }

pub loop-place-preserved : goal.loop-place-preserved
loop-place-preserved c =
    let earlier = reverse (take c.loop-place.place c.args.entries.now) in
    record {
      found = c.pending_after-found.ensures earlier c.loop-place.invariant.found
          ∙ ap pending (sym (next_entry c.args.entries.now c.loop-place.place c.index-entries-place.result c.loop-place-test.true c.index-entries-place.is));
      none = none_more c.args.checkpoint c.args.entries.now c.loop-place.place c.index-entries-place.result c.loop-place-test.true c.index-entries-place.is
          (λ ends. never (sym ((c.ends.ensures earlier c.loop-place.invariant.found).1 ends) ∙ c.if-ends.false))
          c.loop-place.invariant.none;
    }

pub returns-then-ends-clause-ends : goal.returns-then-ends-clause-ends
returns-then-ends-clause-ends c =
    ends_here c.args.checkpoint c.args.entries.now c.loop-place.place c.index-entries-place.result c.loop-place-test.true c.index-entries-place.is
    ((c.ends.ensures (reverse (take c.loop-place.place c.args.entries.now)) c.loop-place.invariant.found).0 c.if-ends.true)

pub returns-clause-ends : goal.returns-clause-ends
returns-clause-ends c = none_at_all c.args.checkpoint c.args.entries.now c.loop-place.place c.loop-place-test.false c.loop-place.invariant.none
