use Rattle.std.proofs.Common.{refl, arith}
use Rattle.sd_show.proofs.SlotLemmas.{none_failed}
use Rattle.sd_show.proofs.opened.read_opened.Goals as goal

pub returns-clause-stops : goal.returns-clause-stops
returns-clause-stops g c = λ less.
    let failed = g.D.Disk.failed in
    let front = c.in_ok-front.ensures.cause.done refl in
    let table = none_failed c.in_ok-table.table (failed c.read_front.new.disk) (failed c.read_table.new.disk) c.in_ok-table.ensures.reads.failures c.in_ok-table.ensures.stops in
    let digest = none_failed c.in_ok-digest.digest (failed c.read_table.new.disk) (failed c.digest_of.new.disk) c.in_ok-digest.ensures.reads.failures c.in_ok-digest.ensures.stops in
    absurd (omega (arith, less, front, table, digest))
