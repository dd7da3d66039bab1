use Rattle.std.proofs.Common.{◌∙◌, ◌/◌, Err, length, ap, subst}
use Rattle.std.proofs.lemmas.Result.{err_from_is_err_and}
use Rattle.sd_elf.specs.Cores.{program_headers_in}
use Rattle.sd_elf.specs.Segments.{BreaksAtSegment}
use Rattle.sd_elf.proofs.CoreLemmas.{never_refused, segment_told, whole_told}
use Rattle.sd_elf.proofs.core_file.read_core.Goals as goal

pub returns-in_err-table-clause-only : goal.returns-in_err-table-clause-only
returns-in_err-table-clause-only g c =
    let held = g.F.CoreFile.bytes c.args.file.now in
    let p = err_from_is_err_and c.from_residual-in_err-table.result c.from_residual-in_err-table.ensures.1 in
    let told = whole_told held c.in_ok-size.size c.in_err-table.field-0.0 c.in_ok-size.ensures c.in_err-table.ensures.fault in
    rw (p.1, p.2) (never_refused held (Err c.in_err-table.field-0.0) told)

pub returns-in_err-extent-clause-fault : goal.returns-in_err-extent-clause-fault
returns-in_err-extent-clause-fault g c =
    let p = err_from_is_err_and c.from_residual-in_err-extent.result c.from_residual-in_err-extent.ensures.1 in
    let are = c.in_ok-headers.ensures ∙ ap (λ bytes. program_headers_in (length bytes / 56) bytes) c.deref.ensures.value in
    let breaks = subst (λ hs. BreaksAtSegment c.in_ok-size.size hs c.in_err-extent.field-0.0) c.deref-2.ensures.value c.in_err-extent.ensures.fault in
    let told = segment_told (g.F.CoreFile.bytes c.args.file.now) c.in_ok-table.table.items c.in_ok-size.size c.in_ok-headers.headers.items c.in_err-extent.field-0.0 c.in_ok-size.ensures c.in_ok-table.ensures.found are breaks in
    rw (p.1, p.2) told
