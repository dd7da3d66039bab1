use Rattle.std.proofs.Common.{◌≡◌, ◌++◌, codes, OnOk, subst, ap, ◌∙◌}
use Rattle.std.specs.Fmt.{styled_decimal}
use Rattle.sd_exit.proofs.SlotLemmas.{slot_padded}
use Rattle.sd_readers.proofs.listing.push_slot.Goals as goal

pub returns : goal.returns
returns c = subst (λ shown. OnOk c.write.result (c.write.new.self.bytes.items ≡ c.args.text.now.bytes.items ++ (codes "slot " ++ shown)))
    (ap (λ options. styled_decimal options c.args.slot) c.laid_out.ensures ∙ slot_padded c.args.slot) c.write.ensures.bytes
