use Rattle.std.proofs.Common.{Some, sym, ◌∙◌, ap}
use Rattle.std.proofs.lemmas.Option.{same_Some}
use Rattle.sd_chain.specs.Catalog.{Opened}
use Rattle.sd_image.specs.declared.header.Header.{Header}
use Rattle.sd_free_slots.proofs.taken.tip_serial.Goals as goal

pub returns : goal.returns
returns c = λ serial.
    let tip = c.in_ok-tip.field-0.now in
    let own = ap (λ (h : Header). h.serial) c.header.ensures in (
      (λ is. record { tip = tip; is = c.in_ok-tip.ensures.newest; own = sym (same_Some c.header.result.now.serial serial is) ∙ own }),
      (λ t. ap Some (own ∙ ap (λ (o : Opened). o.header.serial) (c.sound.ensures.newest_once tip t.tip c.in_ok-tip.ensures.newest t.is) ∙ sym t.own)),
    )
