use Rattle.std.proofs.Common.{◌≡◌, ◌+◌, ℕ, List, ◌++◌, take, drop, length, ap, ◌∙◌, subst, arith}
use Rattle.std.specs.Prelude.{slice_range}
use Rattle.std.proofs.lemmas.List.{length-append, length-drop, length-take-le, take_at}
use Rattle.sd_disk.specs.Contents.{file_at}
use Rattle.sd_disk.specs.Reads.{reads_join}
use Rattle.sd_stream.specs.Writing.{HasWritten}
use Rattle.sd_send.specs.Sending.{with_file}
use Rattle.sd_send.proofs.GroupLemmas.{piece_more}
use Rattle.sd_send.proofs.sending.send_file.Goals as goal

pub loop-done-preserved : goal.loop-done-preserved
loop-done-preserved g c =
    let was = c.loop-done.invariant in
    let now = c.in_ok-read_file.ensures in
    let least = c.min-count.ensures in
    let left = c.loop-done-test.true in
    let room = was.room in
    let count : ℕ = c.min-count.result in
    let done : ℕ = c.loop-done.done in
    let old : List ℕ = c.loop-done.buffer in
    let read : List ℕ = c.read_file.new.buffer in
    let asked : length (take count old) ≡ count = length-take-le count old (omega (arith, least)) in
    let long : length read ≡ count = c.read_file.auto.buffer ∙ asked in
    let rest = length-drop count old in
    let both = length-append read (drop count old) in
    let file : List ℕ = file_at (g.D.Disk.contents c.args.disk.now) c.args.slot in
    record {
      few = omega (arith, least, left);
      room = let few : length old ≡ length c.args.buffer.now = room in omega (arith, least, long, rest, both, few);
      reads = reads_join g.D.Disk c.args.disk.now c.loop-done.disk c.read_file.new.disk was.reads now.reads;
      whole = λ honest. was.whole (now.reads.honest honest);
      sent = λ honest before p begun.
          let bytes : read ≡ slice_range file done (done + count) =
          now.bytes honest ∙ ap (λ n. slice_range (file_at (g.D.Disk.contents c.loop-done.disk) c.args.slot) done (done + n)) asked
          ∙ ap (λ contents. slice_range (file_at contents c.args.slot) done (done + count)) was.reads.same in
          let piece : take count (read ++ drop count old) ≡ slice_range file done (done + count) = take_at read (drop count old) count long ∙ bytes in
          subst (λ xs. HasWritten g.W.Write.contents before (with_file p xs) c.bytes.new.self)
          (ap (λ xs. take done file ++ xs) piece ∙ piece_more file done count)
          (c.in_ok-bytes.ensures.written before (with_file p (take done file)) (was.sent (now.reads.honest honest) before p begun));
    }
