-- A trim of the journal leaves what a core believes of its store.
use Rattle.std.specs.Prelude.{◌≡◌, ℕ, List, ◌++◌, Option}
use Rattle.sd_gate.specs.Requests.{Asked}
use Rattle.sd_journal.specs.Legal.{IsLegal}
use Rattle.sd_journal.specs.Marked.{Marked, entries_of}
use Rattle.sd_journal.specs.Trimming.{IsFolded, base_after}
use Rattle.sd_crash_safety.specs.Believes.{Believes}
use Rattle.sd_crash_safety.specs.View.{CoreView, history_of}

-- the core goes on from the checkpoint whose entries were folded, with those that are kept
abbrev pub trimmed : CoreView → ℕ → Marked → Marked → CoreView
trimmed core n kept folded = record core { base = base_after core.base n (entries_of folded); items = kept }

-- it believes what it believed
abbrev pub TrimStep : Type 0
TrimStep = (core : CoreView) (n : ℕ) (kept folded : Marked) (asked : List (Option Asked)) (bodies files : List (List ℕ))
    → core.items ≡ kept ++ folded → IsLegal core.base (history_of core) → IsFolded n folded
    → Believes core asked bodies files → Believes (trimmed core n kept folded) asked bodies files
