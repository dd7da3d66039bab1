use Rattle.std.proofs.Common.{◌<◌, ◌^◌, ℕ}
use Rattle.sd_disk.specs.Contents.{file_at}
use Rattle.sd_disk.specs.Reads.{reads_join}
use Rattle.sd_image.specs.Header.{IsHeader}
use Rattle.sd_restore.specs.Reading.{HasHeader}
use Rattle.sd_restore.proofs.slot_reader.read_slot.Goals as goal

pub returns-clause-sound : goal.returns-clause-sound
returns-clause-sound g c =
    let found : (len : ℕ) × (len < 2 ^ 64) × IsHeader c.in-Some.header len = rw c.in-Some.is at c.in_ok-header.ensures.found in
    c.in_ok-decoded.ensures.sound found.0 found.2

pub returns-clause-reads : goal.returns-clause-reads
returns-clause-reads g c =
    reads_join g.D.Disk c.args.disk.now c.read_header.new.disk c.read_behind.new.disk c.in_ok-header.ensures.reads c.in_ok-decoded.ensures.reads

pub returns-in_err-decoded-clause-reads : goal.returns-in_err-decoded-clause-reads
returns-in_err-decoded-clause-reads g c =
    reads_join g.D.Disk c.args.disk.now c.read_header.new.disk c.read_behind.new.disk c.in_ok-header.ensures.reads c.in_err-decoded.ensures.reads

pub returns-clause-reading : goal.returns-clause-reading
returns-clause-reading g c = λ honest.
    let has : HasHeader (file_at (g.D.Disk.contents c.args.disk.now) c.args.slot) c.in-Some.header =
    rw c.in-Some.is at (c.in_ok-header.ensures.header (c.in_ok-decoded.ensures.reads.honest honest)) in
    (rw c.in_ok-header.ensures.reads.same at (c.in_ok-decoded.ensures.decoded honest)) has

pub returns-in_err-decoded-clause-wanted : goal.returns-in_err-decoded-clause-wanted
returns-in_err-decoded-clause-wanted g c = λ honest _.
    (c.in-Some.header, rw c.in-Some.is at (c.in_ok-header.ensures.header (c.in_err-decoded.ensures.reads.honest honest)))

pub returns-clause-headed : goal.returns-clause-headed
returns-clause-headed g c = λ honest _.
    (c.in-Some.header, rw c.in-Some.is at (c.in_ok-header.ensures.header (c.in_ok-decoded.ensures.reads.honest honest)))
