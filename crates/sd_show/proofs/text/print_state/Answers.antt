use Rattle.std.proofs.Common.{OnOk, subst, ap, ◌∙◌}
use Rattle.std.specs.Fmt.{styled_decimal}
use Rattle.std.specs.Io.KnownBytes.{Appends}
use Rattle.sd_show.proofs.PrintLemmas.{slot_padded, slot_written}
use Rattle.sd_show.proofs.text.print_state.Goals as goal

pub returns : goal.returns
returns g c =
    subst (λ text. OnOk c.writeln.result (Appends (g.W.Write.contents c.args.out.now) (g.W.Write.contents c.writeln.new.self) text))
    (slot_written c.args.slot c.args.state (styled_decimal c.laid_out.result c.args.slot) c.state_word.result.now
    (ap (λ options. styled_decimal options c.args.slot) c.laid_out.ensures ∙ slot_padded c.args.slot) c.state_word.ensures)
    c.writeln.ensures.bytes
