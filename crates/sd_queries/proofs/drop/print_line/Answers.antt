-- A slot's number has three digits.
use Rattle.std.proofs.Common.{◌≡◌, ℕ, List, [], ◌∷◌, ◌++◌, codes, OnOk, ◌∙◌, ap, subst, append_assoc}
use Rattle.std.specs.Io.KnownBytes.{Appends}
use Rattle.std.specs.Fmt.{styled_decimal}
use Rattle.sd_exit.specs.Texts.{slot_text}
use Rattle.sd_exit.proofs.SlotLemmas.{slot_padded}
use Rattle.sd_queries.proofs.drop.print_line.Goals as goal

joined : (word shown why : List ℕ) → word ++ (codes " " ++ (shown ++ (why ++ 10 ∷ []))) ≡ word ++ codes " " ++ shown ++ why ++ 10 ∷ []
joined word shown why = simp (append_assoc)

pub returns-clause-line : goal.returns-clause-line
returns-clause-line g c =
    let shown : styled_decimal c.laid_out.result c.args.slot ≡ slot_text c.args.slot = ap (λ options. styled_decimal options c.args.slot) c.laid_out.ensures ∙ slot_padded c.args.slot in
    subst (λ text. OnOk c.writeln.result (Appends (g.W.Write.contents c.args.out.now.writer) (g.W.Write.contents c.writeln.new.self.writer) text))
    (ap (λ t. c.args.word.now ++ (codes " " ++ (t ++ (c.args.why.now ++ 10 ∷ [])))) shown ∙ joined c.args.word.now (slot_text c.args.slot) c.args.why.now)
    c.writeln.ensures.bytes
