use Rattle.std.proofs.Common.{length, ap, arith}
use Rattle.std.proofs.lemmas.Result.{on_ok_weaker}
use Rattle.sd_diff.proofs.PageLemmas.{page_read}
use Rattle.sd_diff.proofs.page_pair.read_page.Goals as goal

pub returns-clause-bytes : goal.returns-clause-bytes
returns-clause-bytes g c = λ honest.
    let same = c.read_placed_pages.auto.bytes in
    let whole = ap length c.as_mut_slice.ensures.value in
    let told = c.told-page in
    on_ok_weaker c.read_placed_pages.result
    (λ read. page_read (g.D.Disk.contents c.args.disk.now) c.args.there c.read_placed_pages.new.bytes (omega (arith, same, whole, told)) (read 0 (omega (arith, whole, told))))
    (c.read_placed_pages.ensures.bytes honest)
