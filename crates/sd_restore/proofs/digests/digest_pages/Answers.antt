use Rattle.std.proofs.Common.{◌≡◌, ◌∙◌, ◌+◌, ◌*◌, ◌++◌, List, ℕ, length, take, ap, refl, subst, arith}
use Rattle.std.specs.Prelude.{slice_range}
use Rattle.std.proofs.lemmas.List.{append_assoc, length-take-le}
use Rattle.sd_disk.specs.Contents.{file_at}
use Rattle.sd_disk.specs.Reads.{reads_join}
use Rattle.sd_image.specs.Digests.{HasFed}
use Rattle.sd_restore.proofs.DigestLemmas.{pages_more}
use Rattle.sd_restore.proofs.digests.digest_pages.Goals as goal

pub loop-done-preserved : goal.loop-done-preserved
loop-done-preserved g c =
    let was = c.loop-done.invariant in
    let now = c.in_ok-digest_next.ensures in
    let done : ℕ = c.loop-done.done in
    let count : ℕ = c.min-count.result in
    let few = c.min-count.ensures in
    let file : List ℕ = file_at (g.D.Disk.contents c.args.disk.now) c.args.slot in
    let long : length (take (4096 * count) c.loop-done.buffer) ≡ 4096 * count =
    length-take-le (4096 * count) c.loop-done.buffer (let room = c.requires.room in let same = c.loop-done.auto.buffer in omega (arith, few, room, same)) in
    record {
      within = omega (arith, few, c.loop-done-test.true);
      reads = reads_join g.D.Disk c.args.disk.now c.loop-done.disk c.digest_next.new.disk was.reads now.reads;
      fed = λ honest fed has.
          subst (HasFed c.digest_next.new.digester)
          (append_assoc fed (slice_range file 4096 (4096 + 4096 * done)) (slice_range file (4096 + 4096 * done) (4096 + 4096 * done + length (take (4096 * count) c.loop-done.buffer)))
          ∙ ap (λ (bytes : List ℕ). fed ++ bytes) (pages_more file done count (length (take (4096 * count) c.loop-done.buffer)) long))
          (rw was.reads.same at (now.fed honest (fed ++ slice_range file 4096 (4096 + 4096 * done)) (was.fed (now.reads.honest honest) fed has)));
      stays = now.cause.done refl ∙ was.stays;
      calls = let before = was.calls in let one = now.counted in omega (arith, before, one, few, c.loop-done-test.true);
    }
