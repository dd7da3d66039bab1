-- A space, and then the digits.
use Rattle.std.proofs.Common.{◌++◌, codes, OnOk, subst}
use Rattle.std.specs.Io.KnownBytes.{Appends}
use Rattle.std.proofs.KnownBytes.{Appends-trans}
use Rattle.hex.specs.Hex.{encode_lower}
use Rattle.sd_script.proofs.Printing.{then_on_ok}
use Rattle.sd_script.proofs.print.print_word.Goals as goal

pub returns : goal.returns
returns g c =
    let from = g.W.Write.contents c.args.out.now in
    let mid = g.W.Write.contents c.write_all.new.self in
    let to = g.W.Write.contents c.print_part.new.out in
    let digits = encode_lower c.to_be_bytes.result in
    subst (λ bytes. OnOk c.print_part.result (Appends from to (codes " " ++ encode_lower bytes))) c.to_be_bytes.ensures
    (then_on_ok c.print_part.result (Appends mid to digits) (Appends from to (codes " " ++ digits))
    (Appends-trans from mid to (codes " ") digits c.in_ok-write_all.ensures.bytes) c.print_part.ensures)
