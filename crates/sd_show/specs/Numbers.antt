-- JSON objects of numbers.
use Rattle.std.specs.Prelude.{ℕ, List, map, fold}
use Rattle.std.specs.Borrow.{Bor}
use Rattle.serde_json.specs.Data.{Members, no_members, number, unsigned, put}

-- a name and its number, of a reference to the name
abbrev pub named : Bor (List ℕ) × ℕ → List ℕ × ℕ
named pair = (pair.0.now, pair.1)

-- the members of an object with these numbers, put one after the other
abbrev pub number_members : List (List ℕ × ℕ) → Members
number_members = fold (λ members pair. put pair.0 (number (unsigned pair.1)) members) no_members
