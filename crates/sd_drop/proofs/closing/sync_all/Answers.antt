use Rattle.std.proofs.Common.{◌≡◌, ℕ, List, ap, ◌∙◌, arith, length}
use Rattle.sd_drop.proofs.FileLemmas.{same_files}
use Rattle.sd_drop.proofs.closing.sync_all.Goals as goal

pub returns-clause-synced : goal.returns-clause-synced
returns-clause-synced g c = λ files left.
    let was = c.loop-slot.invariant in
    let contents : List (List ℕ) = g.D.Disk.contents c.args.disk.now in
    let count : length files ≡ length contents = g.met.D.Disk.same_slots c.loop-slot.disk files left ∙ ap length was.reads.same in
    same_files files contents count (λ k within. was.synced k
    (let end = was.count in omega (arith, end, count, within, c.loop-slot-test.false)) files left)
