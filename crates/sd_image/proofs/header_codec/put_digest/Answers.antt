use Rattle.std.proofs.Common.{ℕ, List, ◌++◌, take, drop, sym, ap, ◌∙◌, append_assoc}
use Rattle.std.proofs.lemmas.List.{drop-drop}
use Rattle.sd_image.proofs.header_codec.put_digest.Goals as goal

pub returns-clause-text : goal.returns-clause-text
returns-clause-text c =
    let text : List ℕ = c.args.text.now in
    ap (λ (digest : List ℕ). take 63 text ++ (digest ++ drop 32 (drop 63 text))) c.copy_from_slice.ensures.after
    ∙ ap (λ (rest : List ℕ). take 63 text ++ (c.args.digest ++ rest)) (drop-drop 32 63 text)
    ∙ sym (append_assoc (take 63 text) c.args.digest (drop 95 text))
