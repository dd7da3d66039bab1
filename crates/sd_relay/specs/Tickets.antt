-- Lists of tickets.
use Rattle.std.specs.Prelude.{◌≡◌, ℕ, ◌+◌, ◌<◌, ◌≤◌, ◌==◌, ⊤, cond, List, [], ◌∷◌, Option, None, Some}
use Rattle.std.specs.List.{All}

-- each number is below all that stand after it
abbrev pub TicketsRise : List ℕ → Type 0
TicketsRise [] = ⊤
TicketsRise (x ∷ xs) = All (λ y. x < y) xs × TicketsRise xs

-- how often t stands in the list
abbrev pub times : ℕ → List ℕ → ℕ
times t [] = 0
times t (x ∷ xs) = cond (x == t) 1 0 + times t xs

-- no ticket is above the last one, and with no last one there is none
abbrev pub IsLast : Option ℕ → List ℕ → Type 0
IsLast last put = ((t : ℕ) → last ≡ Some t → All (λ x. x ≤ t) put) × (last ≡ None → put ≡ [])
