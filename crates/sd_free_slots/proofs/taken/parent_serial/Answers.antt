use Rattle.std.proofs.Common.{Some, sym, ◌∙◌, ap}
use Rattle.std.proofs.lemmas.Option.{same_Some}
use Rattle.sd_chain.specs.Catalog.{Opened}
use Rattle.sd_image.specs.declared.header.Header.{Header}
use Rattle.sd_free_slots.proofs.TakenLemmas.{names_parent, parent_names}
use Rattle.sd_free_slots.proofs.taken.parent_serial.Goals as goal

pub returns : goal.returns
returns c = λ serial.
    let start = c.in_ok-find.field-0.now in
    let is_parent = sym c.parent.ensures ∙ c.in_ok-parent.was in
    let own = ap (λ (h : Header). h.serial) c.header.ensures in (
      (λ is. record { start = start; names = names_parent c.args.catalog.now c.args.dumper.now.running c.in_ok-parent.parent start is_parent c.in_ok-find.ensures.found; own = sym (same_Some c.header.result.now.serial serial is) ∙ own }),
      (λ p. ap Some (own ∙ ap (λ (o : Opened). o.header.serial) (c.sound.ensures.named_once c.in_ok-parent.parent start p.start c.in_ok-find.ensures.found
          (parent_names c.args.catalog.now c.args.dumper.now.running c.in_ok-parent.parent p.start is_parent p.names)) ∙ sym p.own)),
    )
