-- Tables by page, and those of all spaces: what each space has at each page.
use Rattle.std.specs.Prelude.{ℕ, Bool, Option, unwrap_or}
use Rattle.std.specs.Ordering.{nat_cmp}
use Rattle.std.specs.FinMap as finmap

-- by page
abbrev pub Table : Type 0 → Type 0
Table X = finmap.FinMap nat_cmp X

-- by space, and then by page
abbrev pub Nested : Type 0 → Type 0
Nested X = Table (Table X)

-- what a space has; nothing where it isn't alive
abbrev pub inside : {X : Type 0} → Nested X → ℕ → Table X
inside nested space = unwrap_or (finmap.get nested space) finmap.empty

-- what a space has at a page
abbrev pub value_at : {X : Type 0} → Nested X → ℕ → ℕ → Option X
value_at nested space page = finmap.get (inside nested space) page

-- whether a space is alive
abbrev pub is_alive : {X : Type 0} → Nested X → ℕ → Bool
is_alive nested space = finmap.contains_key nested space

-- a space has this at a page, and all else is as before
unfoldable pub put_at : {X : Type 0} → Nested X → ℕ → ℕ → X → Nested X
put_at nested space page x = finmap.insert nested space (finmap.insert (inside nested space) page x)

-- a space has nothing at a page, and all else is as before
unfoldable pub remove_at : {X : Type 0} → Nested X → ℕ → ℕ → Nested X
remove_at nested space page = finmap.insert nested space (finmap.remove (inside nested space) page)
