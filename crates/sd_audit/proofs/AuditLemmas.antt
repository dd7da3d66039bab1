-- What the parts of an audit say together.
use Rattle.std.proofs.Common.{◌≡◌, ◌⊎◌, ◌↔◌, ℕ, Bool, List, Option, Some, IsTrue, subst, arith}
use Rattle.std.specs.Option.{option_map}
use Rattle.sd_areas.specs.declared.snapshot.Snapshot.{Snapshot}
use Rattle.sd_image.specs.Laws.{ShownOnce}
use Rattle.sd_image.specs.Shows.{Shows}
use Rattle.sd_journal.specs.Allowed.{Shown, IsAllowed}
use Rattle.sd_journal.specs.History.{Base, History, last, pending}
use Rattle.sd_audit.specs.ShowsOne.{ShowsOne, shown_by}

-- no other checkpoint than the last and the pending one is allowed
pub another_checkpoint : (base : Base) (history : History) (found : Option Snapshot) (snapshot : Snapshot) → found ≡ Some snapshot
    → ((last base history ≡ Some snapshot.checkpoint) ⊎ (pending history ≡ Some snapshot.checkpoint) → ⊥) → IsAllowed base history (option_map shown_by found) → ⊥
another_checkpoint base history found snapshot e never allowed = grind arith

-- contents show one thing, so they show an allowed pair just where that is allowed
pub told_of_one : (once : ShownOnce) (base : Base) (history : History) (contents : List (List ℕ)) (shown : Shown) (told : Bool) → Shows contents shown
    → IsTrue told ↔ IsAllowed base history shown → IsTrue told ↔ ShowsOne base history contents
told_of_one once base history contents shown told shows is = (
  λ told. record { shown = shown; allowed = is.0 told; shows = shows },
  λ one. is.1 (subst (IsAllowed base history) (once contents one.shown shown one.shows shows) one.allowed),
)
