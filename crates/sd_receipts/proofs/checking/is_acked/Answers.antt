use Rattle.std.proofs.Common.{◌≡◌, ◌<◌, length, get_or, sym, ◌∙◌, arith}
use Rattle.sd_receipts.proofs.EntryLemmas.{acked_none, acked_same, acked_next, acked_other, never}
use Rattle.sd_receipts.proofs.checking.is_acked.Goals.{then-found-acks-via-then-found-acks, then-found-acks-via-else-found-acks+then-acks-found}
use Rattle.sd_receipts.proofs.checking.is_acked.Goals as goal

pub loop-entry-preserved-in_default : goal.loop-entry-preserved-in_default
loop-entry-preserved-in_default c =
    let was = c.loop-entry.invariant in
    record {
      within = was.within;
      so_far = acked_same c.args.entries.now c.loop-entry.entry-index _ c.entry-item.result c.args.acks.now c.loop-entry.found c.loop-entry-test.true c.entry-item.is
          (acked_none c.entry-item.result c.in_default.not-Acked) was.so_far;
    }

pub returns-then-found-acks : goal.returns-then-found-acks
returns-then-found-acks c =
    let was = c.loop-entry.invariant in
    let other = elim c.then-found-acks.branch as (λ _. (c.loop-entry.found < length c.args.acks.now) × (get_or c.args.acks.now c.loop-entry.found 0 ≡ c.in-Acked.number) → ⊥) [
      | then-found-acks-via-then-found-acks w ↦ λ both. omega (arith, w.if-found-acks.true, both.0)
      | then-found-acks-via-else-found-acks+then-acks-found w ↦ λ both. w.if-acks-found.true both.1
    ] in (
      λ e. absurd (never e),
      λ all. absurd (acked_other c.args.entries.now c.loop-entry.entry-index c.in-Acked.number _ c.args.acks.now c.loop-entry.found c.loop-entry-test.true
          (sym c.in-Acked.is ∙ c.entry-item.is) was.within was.so_far other all),
    )

pub loop-entry-preserved : goal.loop-entry-preserved
loop-entry-preserved c =
    let was = c.loop-entry.invariant in
    record {
      within = omega (arith, c.if-found-acks.false);
      so_far = acked_next c.args.entries.now c.loop-entry.entry-index c.in-Acked.number _ c.args.acks.now c.loop-entry.found c.loop-entry-test.true
          (sym c.in-Acked.is ∙ c.entry-item.is) c.if-found-acks.false c.if-acks-found.false was.so_far;
    }
