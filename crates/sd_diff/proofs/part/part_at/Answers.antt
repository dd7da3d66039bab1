use Rattle.std.proofs.Common.{None, subst, sym, arith}
use Rattle.sd_diff.specs.Parts.{IsPart}
use Rattle.sd_diff.proofs.PartLemmas.{part_before}
use Rattle.sd_diff.proofs.part.part_at.Goals as goal

pub returns-then-at-first : goal.returns-then-at-first
returns-then-at-first c =
    let value = c.number-first.ensures.value in
    let less = c.if-at-first.true in
    record {
      part = subst (λ n. IsPart c.args.runs.now c.args.at (record { until = n; run = None })) (sym value)
          (part_before c.args.runs.now c.in-Some.field-0-1.now c.in-Some.run'.now c.args.at c.in-Some.ensures.cases.0 c.requires.within (omega (arith, value, less)));
    }
