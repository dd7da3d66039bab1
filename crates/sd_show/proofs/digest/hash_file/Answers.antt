use Rattle.std.proofs.Common.{◌≡◌, ◌∙◌, ◌++◌, ℕ, List, [], drop, ap}
use Rattle.std.specs.Prelude.{slice_range}
use Rattle.sha2.specs.Sha256.{sha256}
use Rattle.sd_disk.specs.Contents.{file_at}
use Rattle.sd_show.proofs.ByteLemmas.{front_of_front, range_to_end}
use Rattle.sd_show.proofs.digest.hash_file.Goals as goal

pub returns-clause-digest : goal.returns-clause-digest
returns-clause-digest g c = λ honest long front.
    let file : List ℕ = file_at (g.D.Disk.contents c.args.disk.now) c.args.slot in
    let behind : slice_range file 4096 c.args.len ≡ drop 4096 file = ap (slice_range file 4096) long ∙ range_to_end file 4096 in
    let first : slice_range c.args.front.now 1 64 ≡ slice_range file 1 64 = ap (λ (xs : List ℕ). slice_range xs 1 64) front ∙ front_of_front file in
    c.finalize.ensures (slice_range file 4096 c.args.len ++ slice_range c.args.front.now 1 64)
    (c.update.ensures (slice_range file 4096 c.args.len) (c.in_ok-feed_behind.ensures.fed honest [] c.new-hasher.ensures))
    ∙ ap (λ (xs : List ℕ). sha256 (xs ++ slice_range c.args.front.now 1 64)) behind ∙ ap (λ (xs : List ℕ). sha256 (drop 4096 file ++ xs)) first
