-- What a crash may leave of a disk, and what it might have left since a moment: sets of contents.
use Rattle.std.specs.Prelude.{◌≡◌, ◌⊎◌, ℕ, ◌≤◌, List}
use Rattle.sd_disk.specs.Contents.{file_at}

-- a set of contents
abbrev pub Outcomes : Type 1
Outcomes = List (List ℕ) → Type 0

-- each new outcome is an old outcome after a step
abbrev pub Follows : (List (List ℕ) → List (List ℕ) → Type 0) → Outcomes → Outcomes → Type 0
Follows step old new = (c : List (List ℕ)) → new c → (d : List (List ℕ)) × old d × step d c

-- and each old outcome after a step is a new one
abbrev pub CoversSteps : (List (List ℕ) → List (List ℕ) → Type 0) → Outcomes → Outcomes → Type 0
CoversSteps step old new = (c d : List (List ℕ)) → old d → step d c → new c

-- every outcome of the one is an outcome of the other
abbrev pub Within : Outcomes → Outcomes → Type 0
Within inner outer = (c : List (List ℕ)) → inner c → outer c

-- a crash leaves this file in a slot, and no other
abbrev pub OnlyAt : ℕ → List ℕ → Outcomes → Type 0
OnlyAt slot file outcomes = (c : List (List ℕ)) → outcomes c → file_at c slot ≡ file

-- a crash leaves these contents, and no others
abbrev pub Only : List (List ℕ) → Outcomes → Type 0
Only contents outcomes = (c : List (List ℕ)) → outcomes c → c ≡ contents

-- Time goes on: a crash since t might have left what it might have left before, or what it may leave now.
pub record Elapses (before now : ℕ) (past since : ℕ → List (List ℕ) → Type 0)
    (outcomes : List (List ℕ) → Type 0) : Type 0 where
  pub later : before ≤ now
  pub nothing_else : (t : ℕ) (c : List (List ℕ)) → t ≤ before → since t c → past t c ⊎ outcomes c
  pub keeps : (t : ℕ) (c : List (List ℕ)) → t ≤ before → past t c → since t c
