use Rattle.std.proofs.Common.{rules, ◌≡◌, ◌∙◌, ap, sym, map, List, ℕ}
use Rattle.sd_disk.specs.Contents.{file_at}
use Rattle.sd_disk.specs.Reads.{reads_join}
use Rattle.sd_image.specs.Reading.{table_in}
use Rattle.sd_image.specs.Table.{listing_of}
use Rattle.sd_restore.specs.Faulty.{FaultNames, IsFaulty}
use Rattle.sd_restore.specs.Reading.{HasDigestOf, table_bytes}
use Rattle.sd_restore.proofs.slot_reader.read_behind.Goals as goal

pub returns-clause-reads : goal.returns-clause-reads
returns-clause-reads g c =
    reads_join g.D.Disk c.args.disk.now c.read_table.new.disk c.check_digest.new.disk c.in_ok-table.ensures.reads c.in_ok-check_digest.ensures.reads

pub returns-in_err-check_digest-clause-reads : goal.returns-in_err-check_digest-clause-reads
returns-in_err-check_digest-clause-reads g c =
    reads_join g.D.Disk c.args.disk.now c.read_table.new.disk c.check_digest.new.disk c.in_ok-table.ensures.reads c.in_err-check_digest.ensures.reads

pub returns-in_err-decoded-clause-faulty : goal.returns-in_err-decoded-clause-faulty
returns-in_err-decoded-clause-faulty g c = λ honest has.
    let file : List ℕ = file_at (g.D.Disk.contents c.args.disk.now) c.args.slot in
    let named : FaultNames (λ s reason. (s ≡ c.args.slot) × IsFaulty file reason) c.in_err-decoded.field-0.0 =
    c.in_err-decoded.ensures.faulty file has (c.deref.ensures.value ∙ c.in_ok-table.ensures.bytes honest) in
    search rules

pub returns-in_err-check_digest-clause-faulty : goal.returns-in_err-check_digest-clause-faulty
returns-in_err-check_digest-clause-faulty g c = λ honest has.
    let file : List ℕ = file_at (g.D.Disk.contents c.args.disk.now) c.args.slot in
    let table : c.in_ok-table.table.items ≡ table_bytes c.args.header file = c.in_ok-table.ensures.bytes (c.in_err-check_digest.ensures.reads.honest honest) in
    let named : FaultNames (λ s reason. (s ≡ c.args.slot) × IsFaulty file reason) c.in_err-check_digest.field-0.0 =
    (rw c.in_ok-table.ensures.reads.same at (c.in_err-check_digest.ensures.wrong honest)) has (c.deref-2.ensures.value ∙ table)
    (map listing_of c.in_ok-decoded.decoded.table.spaces.items)
    (ap (table_in c.args.header) (c.deref-2.ensures.value ∙ sym c.deref.ensures.value) ∙ c.in_ok-decoded.ensures.read) in
    search rules

pub returns-clause-decoded : goal.returns-clause-decoded
returns-clause-decoded g c = λ honest has.
    let file : List ℕ = file_at (g.D.Disk.contents c.args.disk.now) c.args.slot in
    let table : c.in_ok-table.table.items ≡ table_bytes c.args.header file = c.in_ok-table.ensures.bytes (c.in_ok-check_digest.ensures.reads.honest honest) in
    let right : HasDigestOf file c.args.header =
    (rw c.in_ok-table.ensures.reads.same at (c.in_ok-check_digest.ensures.right honest)) has (c.deref-2.ensures.value ∙ table) in
    c.in_ok-decoded.ensures.decoded file has (c.deref.ensures.value ∙ table) right
