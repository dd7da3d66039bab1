use Rattle.std.proofs.Common.{◌-◌, arith, drop, length, length-drop, subst, sym}
use Rattle.sd_restore.proofs.TakeLemmas.{taken_all}
use Rattle.sd_diff.specs.Held.{AreRising}
use Rattle.sd_diff.proofs.PartLemmas.{drop_rising}
use Rattle.sd_diff.proofs.part.runs_from.Goals as goal

pub returns-clause-rising : goal.returns-clause-rising
returns-clause-rising c = λ rising.
    let runs = c.args.runs.now in
    let n = c.ended.result in
    subst AreRising (sym (taken_all (drop n runs) (length runs - n) (omega (arith, length-drop n runs)))) (drop_rising n runs rising)
