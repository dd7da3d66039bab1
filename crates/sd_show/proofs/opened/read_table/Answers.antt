use Rattle.std.proofs.Common.{◌≡◌, ◌∙◌, Ok, Err, length, refl, sym, subst}
use Rattle.std.specs.Prelude.{slice_range}
use Rattle.sd_disk.specs.Contents.{file_at}
use Rattle.sd_image.specs.Reading.{header_in}
use Rattle.sd_show.proofs.TableLemmas.{no_table_of, tables_of}
use Rattle.sd_show.proofs.opened.read_table.Goals as goal

pub returns-in-Ok-clause-table : goal.returns-in-Ok-clause-table
returns-in-Ok-clause-table g c = λ honest len front.
    let file = file_at (g.D.Disk.contents c.args.disk.now) c.args.slot in
    let found : header_in c.args.front.now c.args.len ≡ Ok c.in-Ok.header = sym c.decode_header.ensures.exact ∙ c.in-Ok.is in
    let read : header_in (slice_range file 0 4096) (length file) ≡ Ok c.in-Ok.header =
    subst (λ n. header_in (slice_range file 0 4096) n ≡ Ok c.in-Ok.header) len (subst (λ bytes. header_in bytes c.args.len ≡ Ok c.in-Ok.header) front found) in
    tables_of file c.in-Ok.header c.table_start-at.result c.read_judged.result (c.table_start-at.ensures.from file len front) read (c.read_judged.ensures.judged honest len)

pub returns-in_ok-bytes-in-Err-clause-table : goal.returns-in_ok-bytes-in-Err-clause-table
returns-in_ok-bytes-in-Err-clause-table g c = λ honest len front.
    let file = file_at (g.D.Disk.contents c.args.disk.now) c.args.slot in
    let found : header_in c.args.front.now c.args.len ≡ Err c.in-Err.reason = sym c.decode_header.ensures.exact ∙ c.in-Err.is in
    let read : header_in (slice_range file 0 4096) (length file) ≡ Err c.in-Err.reason =
    subst (λ n. header_in (slice_range file 0 4096) n ≡ Err c.in-Err.reason) len (subst (λ bytes. header_in bytes c.args.len ≡ Err c.in-Err.reason) front found) in
    no_table_of file c.in_ok-bytes-in-Err.bytes.items c.table_start-at.result c.min.result c.args.len c.in-Err.reason _ refl refl (c.table_start-at.ensures.from file len front) len
    c.table_start-at.ensures.within c.min.ensures (c.in_ok-bytes-in-Err.ensures.bytes honest) read
