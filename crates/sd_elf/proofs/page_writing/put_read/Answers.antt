use Rattle.std.proofs.Common.{◌+◌, ◌*◌, ℕ, List, sym, subst}
use Rattle.std.specs.List.{flat_map, range_with_len, slice_range}
use Rattle.std.specs.Io.KnownBytes.{Appends}
use Rattle.std.proofs.KnownBytes.{Appends-trans}
use Rattle.sd_elf.proofs.PageLemmas.{parts_more}
use Rattle.sd_elf.proofs.page_writing.put_read.Goals as goal

pub loop-k-preserved : goal.loop-k-preserved
loop-k-preserved g c =
    let from = g.O.CoreOutput.contents c.args.out.now in
    let to = g.O.CoreOutput.contents c.put_page.new.out in
    let bytes : List ℕ = c.args.bytes.now in
    let page : ℕ → List ℕ = λ k. slice_range bytes (4096 * k) (4096 * k + 4096) in
    subst (Appends from to) (sym (parts_more page c.loop-k.k))
    (Appends-trans from (g.O.CoreOutput.contents c.loop-k.out) to (flat_map page (range_with_len 0 c.loop-k.k)) (page c.loop-k.k) c.loop-k.invariant c.in_ok-put_page.ensures)
