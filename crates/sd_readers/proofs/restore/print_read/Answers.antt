use Rattle.std.proofs.Common.{◌+◌, ◌*◌, ℕ, List, sym, subst}
use Rattle.std.specs.List.{flat_map, range_with_len, slice_range}
use Rattle.std.specs.Io.KnownBytes.{Appends}
use Rattle.std.proofs.KnownBytes.{Appends-trans}
use Rattle.sd_readers.specs.Texts.{page_text}
use Rattle.sd_readers.proofs.PageLemmas.{parts_more}
use Rattle.sd_readers.proofs.restore.print_read.Goals as goal

pub loop-k-preserved : goal.loop-k-preserved
loop-k-preserved g c =
    let from = g.W.Write.contents c.args.out.now.writer in
    let to = g.W.Write.contents c.print_page.new.out.writer in
    let bytes : List ℕ = c.args.bytes.now in
    let first : ℕ = c.args.first in
    let page : ℕ → List ℕ = λ k. page_text (4096 * (first + k)) (slice_range bytes (4096 * k) (4096 * k + 4096)) in
    subst (Appends from to) (sym (parts_more page c.loop-k.k))
    (Appends-trans from (g.W.Write.contents c.loop-k.out.writer) to (flat_map page (range_with_len 0 c.loop-k.k)) (page c.loop-k.k) c.loop-k.invariant c.in_ok-print_page.ensures.text)
