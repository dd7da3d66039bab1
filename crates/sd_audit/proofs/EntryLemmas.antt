-- Entries in order of time: what one more says of the checkpoints, and what those before a place are.
use Rattle.std.proofs.Common.{◌≡◌, ℕ, ◌+◌, List, [], ◌∷◌, ◌++◌, take, drop, reverse, Option, sym, ◌∙◌, ap, subst}
use Rattle.std.proofs.lemmas.List.{reverse-append, take-append-drop}
use Rattle.sd_journal.specs.declared.entry.Entry.{Entry}
use Rattle.sd_journal.specs.History.{Base, History, at_freeze}
use Rattle.sd_journal.specs.Legal.{IsLegal}
use Rattle.sd_audit.specs.Freezes.{memory_before}

-- ---- a legal journal

older_legal : (start : Base) (newer older : History) → IsLegal start (newer ++ older) → IsLegal start older
older_legal start [] older legal = legal
older_legal start (entry ∷ newer) older legal = older_legal start newer older legal.1

-- the entries before a place are a legal journal too
pub legal_before : (start : Base) (entries : List Entry) (k : ℕ) → IsLegal start (reverse entries) → IsLegal start (reverse (take k entries))
legal_before start entries k legal =
    let parts : reverse entries ≡ reverse (drop k entries) ++ reverse (take k entries) =
    ap reverse (sym (take-append-drop k entries)) ∙ reverse-append (take k entries) (drop k entries) in
    older_legal start (reverse (drop k entries)) (reverse (take k entries)) (subst (IsLegal start) parts legal)

-- ---- the latest freeze of a number

-- the place among all entries is right for those so far
abbrev pub IsPlaceSoFar : List Entry → ℕ → ℕ → Option ℕ → Type 0
IsPlaceSoFar entries k n place = (base : Base) → at_freeze base (reverse (take k entries)) n ≡ memory_before base entries n place
