use Rattle.std.proofs.Common.{◌∙◌, ◌+◌, ap}
use Rattle.std.specs.Prelude.{slice_range}
use Rattle.sd_disk.specs.Contents.{file_at}
use Rattle.sd_restore.proofs.slot_reader.read_front.Goals as goal

pub returns-clause-first : goal.returns-clause-first
returns-clause-first g c = λ honest.
    c.in_ok-read_file.ensures.bytes honest
    ∙ ap (λ n. slice_range (file_at (g.D.Disk.contents c.args.disk.now) c.args.slot) 0 (0 + n)) c.told-bytes
