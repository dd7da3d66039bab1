use Rattle.std.proofs.Common.{◌≡◌, ℕ, List, [], ◌∷◌, ◌++◌, codes, OnOk, ◌∙◌, ap, subst, append_assoc}
use Rattle.std.specs.Io.KnownBytes.{Appends}
use Rattle.std.specs.Fmt.{decimal, styled_decimal}
use Rattle.sd_exit.specs.Texts.{slot_text}
use Rattle.sd_exit.proofs.SlotLemmas.{slot_padded}
use Rattle.sd_exit.proofs.ending.print_damaged.Goals as goal

joined : (shown number : List ℕ) → codes "damaged " ++ (shown ++ (codes " " ++ (number ++ 10 ∷ []))) ≡ codes "damaged " ++ shown ++ codes " " ++ number ++ 10 ∷ []
joined shown number = simp (append_assoc)

pub returns-clause-line : goal.returns-clause-line
returns-clause-line g c =
    let shown : styled_decimal c.laid_out.result c.args.slot ≡ slot_text c.args.slot = ap (λ options. styled_decimal options c.args.slot) c.laid_out.ensures ∙ slot_padded c.args.slot in
    subst (λ text. OnOk c.writeln.result (Appends (g.W.Write.contents c.args.out.now.writer) (g.W.Write.contents c.writeln.new.self.writer) text))
    (ap (λ t. codes "damaged " ++ (t ++ (codes " " ++ (decimal c.number.result ++ 10 ∷ [])))) shown
    ∙ joined (slot_text c.args.slot) (decimal c.number.result)
    ∙ ap (λ n. codes "damaged " ++ slot_text c.args.slot ++ codes " " ++ decimal n ++ 10 ∷ []) c.number.ensures)
    c.writeln.ensures.bytes
