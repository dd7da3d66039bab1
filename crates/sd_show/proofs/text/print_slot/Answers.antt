use Rattle.std.proofs.Common.{◌≡◌, ◌∙◌, true, false, sym, subst, append-nil}
use Rattle.std.specs.Io.KnownBytes.{Appends}
use Rattle.sd_image.specs.Image.{is_open}
use Rattle.sd_show.specs.Slots.{OpenSlotIsRead}
use Rattle.sd_show.specs.Texts.{slot_line}
use Rattle.sd_show.proofs.PrintLemmas.{then_printed}
use Rattle.sd_show.proofs.SlotLemmas.{text_of_open, text_of_shut}
use Rattle.sd_show.proofs.text.print_slot.Goals as goal

pub returns-in-Some : goal.returns-in-Some
returns-in-Some g c = λ file is.
    let has : (is_open file ≡ true) × OpenSlotIsRead file c.in-Some.opened = rw c.in-Some.is at is.opened in
    then_printed c.print_opened.result (g.W.Write.contents c.args.out.now) (g.W.Write.contents c.print_state.new.out) (g.W.Write.contents c.print_opened.new.out) _ _ _
    (text_of_open c.args.slot file c.args.seen.now.state c.in-Some.opened is.state has.0 has.1) c.in_ok-print_state.ensures c.print_opened.ensures

pub returns-in-None : goal.returns-in-None
returns-in-None g c = λ file is.
    let shut : is_open file ≡ false = rw c.in-None.is at is.opened in
    subst (Appends (g.W.Write.contents c.args.out.now) (g.W.Write.contents c.print_state.new.out))
    (sym (append-nil (slot_line c.args.slot c.args.seen.now.state)) ∙ text_of_shut c.args.slot file c.args.seen.now.state is.state shut) c.in_ok-print_state.ensures
