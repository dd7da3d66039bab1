-- A slot's number has three digits.
use Rattle.std.proofs.Common.{◌≡◌, ℕ, List, ◌++◌, codes, IfOk, string_bytes, ◌∙◌, ap, subst, append_assoc}
use Rattle.std.specs.Fmt.{styled_decimal}
use Rattle.sd_exit.specs.Texts.{slot_text}
use Rattle.sd_exit.proofs.SlotLemmas.{slot_padded}
use Rattle.sd_program.proofs.slots.slot_path.Goals as goal

joined : (folder shown : List ℕ) → folder ++ (codes "/img-" ++ shown) ≡ folder ++ codes "/img-" ++ shown
joined folder shown = simp (append_assoc)

pub returns : goal.returns
returns c =
    let shown : styled_decimal c.laid_out.result c.args.slot ≡ slot_text c.args.slot = ap (λ options. styled_decimal options c.args.slot) c.laid_out.ensures ∙ slot_padded c.args.slot in
    subst (λ text. IfOk c.format.result (λ path. string_bytes path ≡ text))
    (ap (λ t. c.args.folder.now ++ (codes "/img-" ++ t)) shown ∙ joined c.args.folder.now (slot_text c.args.slot))
    c.format.ensures.ok
