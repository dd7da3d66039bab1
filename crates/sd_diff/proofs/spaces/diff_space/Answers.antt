use Rattle.std.proofs.Common.{rules, ◌≡◌, ◌+◌, ◌-◌, ◌≤◌, ℕ, List, length, min, ◌∙◌, subst, arith}
use Rattle.sd_disk.specs.Reads.{reads_join}
use Rattle.sd_diff.specs.Difference.{Adds}
use Rattle.sd_diff.specs.Held.{held_in}
use Rattle.sd_diff.proofs.SpaceLemmas.{part_more}
use Rattle.sd_diff.proofs.spaces.diff_space.Goals as goal

pub loop-at-preserved : goal.loop-at-preserved
loop-at-preserved g c =
    let was = c.loop-at.invariant in
    let now = c.in_ok-note_part.ensures in
    let contents : List (List ℕ) = g.D.Disk.contents c.args.disk.now in
    let space : ℕ = c.args.space in
    let at : ℕ = c.loop-at.at in
    let until : ℕ = c.min-until.result in
    let old_part = c.part_at-was.ensures.part in
    let new_part = c.part_at-is.ensures.part in
    let least : until ≡ min c.part_at-was.result.until c.part_at-is.result.until = c.min-until.ensures in
    let old_some = old_part.some in
    let new_some = new_part.some in
    let old_within = old_part.within in
    let low : at ≤ until = omega (arith, least, old_some, new_some) in
    let first : c.unwrap-first.result ≡ at = search rules in
    record {
      high = omega (arith, least, old_within);
      reads = reads_join g.D.Disk c.args.disk.now c.loop-at.disk c.note_part.new.disk was.reads now.reads;
      old_runs = record { within = c.runs_from-before.ensures.within; slots = c.runs_from-before.ensures.slots (length contents) was.old_runs.slots };
      new_runs = record { within = c.runs_from-after.ensures.within; slots = c.runs_from-after.ensures.slots (length contents) was.new_runs.slots };
      old_ahead = c.runs_from-before.ensures.ahead;
      new_ahead = c.runs_from-after.ensures.ahead;
      old_same = λ page from. c.runs_from-before.ensures.same page from ∙ was.old_same page (omega (arith, low, from));
      new_same = λ page from. c.runs_from-after.ensures.same page from ∙ was.new_same page (omega (arith, low, from));
      old_rising = λ rising. c.runs_from-before.ensures.rising (was.old_rising rising);
      new_rising = λ rising. c.runs_from-after.ensures.rising (was.new_rising rising);
      adds = λ honest old_rising new_rising.
          part_more contents space at until c.unwrap-first.result (c.unwrap-first.result + (until - at)) c.args.old.now c.args.new.now c.loop-at.before.now c.loop-at.after.now c.part_at-was.result c.part_at-is.result
          c.args.into.now c.loop-at.into c.note_part.new.into first (omega (arith, first, low)) low (omega (arith, least)) (omega (arith, least)) was.old_same was.new_same old_part new_part (was.old_rising old_rising) (was.new_rising new_rising)
          (was.adds (now.reads.honest honest) old_rising new_rising)
          (subst (λ contents. Adds contents space c.unwrap-first.result (c.unwrap-first.result + (until - at)) (held_in c.part_at-was.result.run) (held_in c.part_at-is.result.run) c.loop-at.into c.note_part.new.into) was.reads.same (now.adds honest));
    }
