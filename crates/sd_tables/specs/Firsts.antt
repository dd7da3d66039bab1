-- The first page of a table from a bound on.
use Rattle.std.specs.Prelude.{◌≡◌, ℕ, ◌+◌, ◌≤◌, Bool, true, false, nat_lt, nat_le, Option, Some, None, IsSome}
use Rattle.std.specs.declared.ops.Bound.{Bound}
use Rattle.std.specs.declared.ops.Bound.TheVariants.{Included, Excluded, Unbounded}
use Rattle.std.specs.FinMap as finmap
use Rattle.sd_tables.specs.Tables.{Table}

abbrev pub is_from : Bound ℕ → ℕ → Bool
is_from (Included first) page = nat_le first page
is_from (Excluded before) page = nat_lt before page
is_from Unbounded page = true

-- the number of the first page that a bound allows
abbrev pub first_allowed : Bound ℕ → ℕ
first_allowed (Included first) = first
first_allowed (Excluded before) = before + 1
first_allowed Unbounded = 0

-- the lowest page of a table from a bound on, if it has one there
abbrev pub IsFirstFrom : {X : Type 0} → Table X → Bound ℕ → Option ℕ → Type 0
IsFirstFrom table start None = (page : ℕ) → IsSome (finmap.get table page) → is_from start page ≡ false
IsFirstFrom table start (Some first) = IsSome (finmap.get table first) × (is_from start first ≡ true)
    × ((page : ℕ) → IsSome (finmap.get table page) → is_from start page ≡ true → first ≤ page)
