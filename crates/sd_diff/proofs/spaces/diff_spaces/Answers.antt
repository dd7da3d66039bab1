use Rattle.std.proofs.Common.{◌≡◌, ◌^◌, ℕ, List, subst, arith}
use Rattle.sd_disk.specs.Reads.{reads_join}
use Rattle.sd_diff.specs.Difference.{Adds}
use Rattle.sd_diff.specs.Spaces.{AreDifferences, held_of, runs_in}
use Rattle.sd_diff.proofs.LaidLemmas.{pages_of_space}
use Rattle.sd_diff.proofs.PartLemmas.{none_high}
use Rattle.sd_diff.proofs.SpaceLemmas.{space_more}
use Rattle.sd_diff.proofs.spaces.diff_spaces.Goals as goal

pub loop-number-preserved : goal.loop-number-preserved
loop-number-preserved g c =
    let was = c.loop-number.invariant in
    let now = c.in_ok-diff_in.ensures in
    let contents : List (List ℕ) = g.D.Disk.contents c.args.disk.now in
    let number : ℕ = c.loop-number.number in
    let old = c.args.old.now in
    let new = c.args.new.now in
    let some = c.loop-number.auto.number in
    record {
      reads = reads_join g.D.Disk c.args.disk.now c.loop-number.disk c.diff_in.new.disk was.reads now.reads;
      exact = λ honest old_rising new_rising.
          space_more contents number (2 ^ 35) (held_of old) (held_of new) c.loop-number.into c.diff_in.new.into (omega (arith, some))
          (λ page. none_high (runs_in number old) page (pages_of_space _ number old c.requires.old).within) (λ page. none_high (runs_in number new) page (pages_of_space _ number new c.requires.new).within)
          (was.exact (now.reads.honest honest) old_rising new_rising)
          (subst (λ n. Adds contents n 0 (2 ^ 35) (held_of old n) (held_of new n) c.loop-number.into c.diff_in.new.into) c.new-space.ensures
          (subst (λ contents. Adds contents c.new-space.result 0 (2 ^ 35) (held_of old c.new-space.result) (held_of new c.new-space.result) c.loop-number.into c.diff_in.new.into) was.reads.same (now.adds honest old_rising new_rising)));
    }

pub returns-clause-exact : goal.returns-clause-exact
returns-clause-exact g c = λ honest old_rising new_rising.
    let low = c.loop-number-test.false in
    let high = c.loop-number.auto.number-end in
    let end : c.loop-number.number ≡ 17 = omega (arith, low, high) in
    subst (λ n. AreDifferences (g.D.Disk.contents c.args.disk.now) n (held_of c.args.old.now) (held_of c.args.new.now) c.loop-number.into) end (c.loop-number.invariant.exact honest old_rising new_rising)
