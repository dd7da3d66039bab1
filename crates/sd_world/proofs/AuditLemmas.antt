-- What an audit is lent is the base and the history of a core.
use Rattle.std.proofs.Common.{◌≡◌, ◌↔◌, ℕ, Bool, List, Result, Ok, Err, IfOk, IsTrue, reverse, sym, ◌∙◌, ap, arith}
use Rattle.std.proofs.lemmas.List.{reverse-reverse}
use Rattle.sd_audit.specs.ShowsOne.{ShowsOne}
use Rattle.sd_crash_safety.specs.Shown.{ShowsAllowed}
use Rattle.sd_journal.specs.History.{Base, History}
use Rattle.sd_journal.specs.Laws.{JournalLaws}
use Rattle.sd_restore.specs.declared.fault.Fault.{Fault}

-- the entries of a journal in order of time, read from the newest
pub same_history : (history entries : History) → entries ≡ reverse history → history ≡ reverse entries
same_history history entries is = sym (ap reverse is ∙ reverse-reverse history)

-- the contents show what the journal allows
shows_so : (base : Base) (history : History) (contents : List (List ℕ)) → ShowsOne base history contents ↔ ShowsAllowed base history contents
shows_so base history contents = grind arith

-- what is shown of a base with the same number and memory
shows_alike : JournalLaws → (one other : Base) (history : History) (contents : List (List ℕ)) → one.number ≡ other.number → one.memory ≡ other.memory
    → ShowsOne one history contents → ShowsOne other history contents
shows_alike laws one other history contents number memory s =
    record { shown = s.shown; allowed = laws.allowed_alike one other history s.shown number memory s.allowed; shows = s.shows }

pub audited : JournalLaws → (result : Result Bool Fault) (base other : Base) (history : History) (contents : List (List ℕ))
    → base.number ≡ other.number → base.memory ≡ other.memory
    → IfOk result (λ told. IsTrue told ↔ ShowsOne base history contents)
    → IfOk result (λ told. IsTrue told ↔ ShowsAllowed other history contents)
audited laws (Ok told) base other history contents number memory exact =
    let so = shows_so other history contents in (
      (λ yes. so.0 (shows_alike laws base other history contents number memory (exact.0 yes))),
      (λ shows. exact.1 (shows_alike laws other base history contents (sym number) (sym memory) (so.1 shows))),
    )
audited laws (Err fault) base other history contents number memory exact = exact
