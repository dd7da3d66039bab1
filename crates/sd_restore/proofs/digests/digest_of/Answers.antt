use Rattle.std.proofs.Common.{◌+◌, ◌*◌, ◌++◌, List, ℕ, []}
use Rattle.std.specs.Prelude.{slice_range}
use Rattle.sd_disk.specs.Contents.{file_at}
use Rattle.sd_restore.proofs.DigestLemmas.{digested_is}
use Rattle.sd_restore.proofs.digests.digest_of.Goals as goal

pub returns-clause-digest : goal.returns-clause-digest
returns-clause-digest g c = λ honest has table.
    let file : List ℕ = file_at (g.D.Disk.contents c.args.disk.now) c.args.slot in
    let pages : List ℕ = slice_range file 4096 (4096 + 4096 * c.args.header.now.pages) in
    let made = c.finish.ensures (pages ++ c.args.table.now) (c.table.ensures pages (c.in_ok-digest_pages.ensures.fed honest [] c.new-digester.ensures.fed)) in
    rw (digested_is file c.args.header.now c.args.table.now has table) at made
