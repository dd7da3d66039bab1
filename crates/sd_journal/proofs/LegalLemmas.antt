-- What a legal reply says of a command that was carried out, and a legal journal of each of its entries.
use Rattle.std.proofs.Common.{◌≡◌, ℕ, suc, ◌+◌, ◌<◌, List, [], ◌∷◌, ◌++◌, length, take, get_or, reverse, sym, ◌∙◌, ap, arith}
use Rattle.std.proofs.lemmas.List.{reverse-append}
use Rattle.std.proofs.Math.Seq.{take-suc}
use Rattle.sd_journal.specs.declared.entry.Entry.{Entry}

-- ---- the entries of a legal journal in order of time

pub next_entry : (entries : List Entry) (k : ℕ) (entry : Entry) → k < length entries → entry ≡ get_or entries k entry → reverse (take (k + 1) entries) ≡ entry ∷ reverse (take k entries)
next_entry entries k entry within e =
    let more : take (suc k) entries ≡ take k entries ++ (get_or entries k entry ∷ []) = take-suc entries k entry within in
    let same : take k entries ++ (get_or entries k entry ∷ []) ≡ take k entries ++ (entry ∷ []) = ap (λ x. take k entries ++ (x ∷ [])) (sym e) in
    let one : k + 1 ≡ suc k = omega arith in
    ap (λ n. reverse (take n entries)) one ∙ ap reverse (more ∙ same) ∙ reverse-append (take k entries) (entry ∷ [])
