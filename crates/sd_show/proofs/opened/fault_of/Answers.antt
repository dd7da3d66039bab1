use Rattle.std.proofs.Common.{◌≡◌, ◌∙◌, Ok, length, refl, sym, subst}
use Rattle.std.specs.Prelude.{slice_range}
use Rattle.sd_image.specs.Header.{IsHeader}
use Rattle.sd_image.specs.Reading.{header_in}
use Rattle.sd_show.specs.Slots.{table_bytes}
use Rattle.sd_show.proofs.SlotLemmas.{others_named}
use Rattle.sd_show.proofs.opened.fault_of.Goals as goal

pub returns-in-Ok-clause-named : goal.returns-in-Ok-clause-named
returns-in-Ok-clause-named c = λ file front len digest table.
    let found : header_in c.args.front.now c.args.len ≡ Ok c.in-Ok.header = sym c.decode_header.ensures.exact ∙ c.in-Ok.is in
    let read : header_in (slice_range file 0 4096) (length file) ≡ Ok c.in-Ok.header =
    subst (λ n. header_in (slice_range file 0 4096) n ≡ Ok c.in-Ok.header) len (subst (λ bytes. header_in bytes c.args.len ≡ Ok c.in-Ok.header) front found) in
    let is : IsHeader c.in-Ok.header (length file) = subst (IsHeader c.in-Ok.header) len c.in-Ok.ensures.found.1 in
    c.or_digest.ensures ∙ others_named file (table_bytes file) c.in-Ok.header c.args.table c.has_other_digest.result read is refl (table c.in-Ok.header read)
    (c.has_other_digest.ensures file digest)
