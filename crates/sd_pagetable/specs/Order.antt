-- The order of pages: by space, and then by page.
use Rattle.std.specs.Prelude.{◌≡◌, ℕ, ◌<◌, ◌≤◌, Bool, true, false, ◌&&◌, ◌||◌, ◌==◌, nat_lt, Option, Some, None, IsSome}
use Rattle.sd_pagetable.specs.Nested.{Nested, value_at}

-- whether a page is above another, or above none
abbrev pub is_above : Option (ℕ × ℕ) → ℕ → ℕ → Bool
is_above None space page = true
is_above (Some after) space page = nat_lt after.0 space || (after.0 == space && nat_lt after.1 page)

-- the least mapped page above another, if there is one
abbrev pub IsNextPage : {X : Type 0} → Nested X → Option (ℕ × ℕ) → Option (ℕ × ℕ) → Type 0
IsNextPage spaces after None =
    (space page : ℕ) → IsSome (value_at spaces space page) → is_above after space page ≡ false
IsNextPage spaces after (Some found) =
    IsSome (value_at spaces found.0 found.1) × (is_above after found.0 found.1 ≡ true)
    × ((space page : ℕ) → IsSome (value_at spaces space page) → is_above after space page ≡ true
    → is_above (Some (space, page)) found.0 found.1 ≡ false)

-- the first page of a space, where that is above a number
abbrev pub IsFirstIn : {X : Type 0} → Nested X → ℕ → ℕ → Option (ℕ × ℕ) → Type 0
IsFirstIn spaces space above None = above < space → (page : ℕ) → IsSome (value_at spaces space page) → ⊥
IsFirstIn spaces space above (Some found) =
    (found.0 ≡ space) × (above < space) × IsSome (value_at spaces found.0 found.1)
    × ((page : ℕ) → IsSome (value_at spaces space page) → found.1 ≤ page)

-- the first page of the spaces above a number
abbrev pub IsFirstPage : {X : Type 0} → Nested X → ℕ → Option (ℕ × ℕ) → Type 0
IsFirstPage spaces above None = (space page : ℕ) → above < space → IsSome (value_at spaces space page) → ⊥
IsFirstPage spaces above (Some found) = (above < found.0) × IsSome (value_at spaces found.0 found.1)
    × ((space page : ℕ) → above < space → IsSome (value_at spaces space page)
    → is_above (Some (space, page)) found.0 found.1 ≡ false)
