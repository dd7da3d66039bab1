use Rattle.std.proofs.Common.{length, sym, ◌∙◌, refl}
use Rattle.sd_image.proofs.Numbers.{zeros_are}
use Rattle.sd_elf.proofs.PageLemmas.{same_written}
use Rattle.sd_elf.proofs.page_writing.put_page.Goals as goal

pub returns-then-are_zeros : goal.returns-then-are_zeros
returns-then-are_zeros g c =
    same_written c.put_zeros.result (g.O.CoreOutput.contents c.args.out.now) (g.O.CoreOutput.contents c.put_zeros.new.self) _ _
    (zeros_are (length c.args.bytes.now) c.args.bytes.now refl (sym c.are_zeros.ensures ∙ c.if-are_zeros.true)) c.put_zeros.ensures
