-- The moments of a record of calls: one before the first, and one after each.
use Rattle.std.specs.Prelude.{◌⊎◌, ℕ, ◌≤◌, List, [], ◌∷◌, length}
use mathlib.Core.Logic.{inl, inr}
use Rattle.std.proofs.Math.Nat.{le_trans, le-suc, not-suc-le_self}
use Rattle.sd_disk.specs.Events.{Outside, DiskEvent}
use Rattle.sd_disk.specs.Outcomes.{MayLeave}

-- what a crash might have left at some moment from t on
abbrev pub LeftSince : Outside → List DiskEvent → ℕ → List (List ℕ) → Type 0
LeftSince outside [] t contents = (t ≤ 0) × MayLeave outside [] contents
LeftSince outside (event ∷ earlier) t contents =
    ((t ≤ length (event ∷ earlier)) × MayLeave outside (event ∷ earlier) contents)
    ⊎ LeftSince outside earlier t contents

-- the moment after the last call is one of them
pub counts_now : (outside : Outside) (events : List DiskEvent) (t : ℕ) (contents : List (List ℕ)) → t ≤ length events
    → MayLeave outside events contents → LeftSince outside events t contents
counts_now outside [] t contents since now = (since, now)
counts_now outside (event ∷ earlier) t contents since now = inl (since, now)

no_later : (outside : Outside) (events : List DiskEvent) (t : ℕ) (contents : List (List ℕ))
    → LeftSince outside events t contents → t ≤ length events
no_later outside [] t contents left = left.0
no_later outside (event ∷ earlier) t contents (inl now) = now.0
no_later outside (event ∷ earlier) t contents (inr before) =
    le_trans (no_later outside earlier t contents before) (le-suc (length earlier))

-- and from it on there is no other
pub only_now : (outside : Outside) (events : List DiskEvent) (contents : List (List ℕ))
    → LeftSince outside events (length events) contents
    → MayLeave outside events contents
only_now outside [] contents left = left.1
only_now outside (event ∷ earlier) contents (inl now) = now.1
only_now outside (event ∷ earlier) contents (inr before) =
    absurd (not-suc-le_self (length earlier) (no_later outside earlier (length (event ∷ earlier)) contents before))
