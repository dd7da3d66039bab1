use Rattle.std.proofs.Common.{◌≡◌, ◌∙◌, ◌+◌, ◌++◌, List, ℕ, length, take, ap, refl, subst, arith}
use Rattle.std.specs.Prelude.{slice_range}
use Rattle.std.proofs.lemmas.List.{append_assoc, length-take-le}
use Rattle.sha2.specs.Hashers.{Holds256}
use Rattle.sd_disk.specs.Contents.{file_at}
use Rattle.sd_disk.specs.Reads.{reads_join}
use Rattle.sd_show.proofs.ByteLemmas.{range_then}
use Rattle.sd_show.proofs.digest.feed_behind.Goals as goal

pub loop-at-preserved : goal.loop-at-preserved
loop-at-preserved g c =
    let was = c.loop-at.invariant in
    let now = c.in_ok-feed_next.ensures in
    let at : ℕ = c.loop-at.at in
    let count : ℕ = c.min-count.result in
    let few = c.min-count.ensures in
    let file : List ℕ = file_at (g.D.Disk.contents c.args.disk.now) c.args.slot in
    let bytes : List ℕ = take count c.loop-at.buffer in
    let long : length bytes ≡ count = length-take-le count c.loop-at.buffer (let room = c.requires.room in let same = c.loop-at.auto.buffer in omega (arith, few, room, same)) in
    record {
      low = let low = was.low in omega (arith, low);
      within = omega (arith, few, c.loop-at-test.true);
      reads = reads_join g.D.Disk c.args.disk.now c.loop-at.disk c.feed_next.new.disk was.reads now.reads;
      stays = now.cause.done refl ∙ was.stays;
      fed = λ honest fed has.
          let low = was.low in
          subst (Holds256 c.feed_next.new.hasher)
          (append_assoc fed (slice_range file 4096 at) (slice_range file at (at + length bytes))
          ∙ ap (λ (rest : List ℕ). fed ++ rest) (range_then file 4096 at (length bytes) (at + length bytes) low refl)
          ∙ ap (λ n. fed ++ slice_range file 4096 (at + n)) long)
          (rw was.reads.same at (now.fed honest (fed ++ slice_range file 4096 at) (was.fed (now.reads.honest honest) fed has)));
    }
