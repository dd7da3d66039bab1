-- Maps of maps: what each space has at each page, changed page by page and by runs, and summed.
use Rattle.std.specs.Prelude.{ℕ, not, ◌++◌, map, sum_by, if◌then◌else◌}
use Rattle.std.specs.FinMap as finmap
use Rattle.sd_areas.specs.Pages.{pages_from, is_within}
pub use Rattle.sd_tables.specs.Tables.{Table, Nested, inside, value_at, is_alive}
unfoldable pub use Rattle.sd_tables.specs.Tables.{put_at, remove_at}

-- each value changed, knowing its key
unfoldable pub map_entries : {X Y : Type 0} → (ℕ → X → Y) → Table X → Table Y
map_entries f table = finmap.from_entries (map (λ e. (e.0, f e.0 e.1)) (finmap.entries table))

-- each value changed
unfoldable pub map_values : {X Y : Type 0} → (X → Y) → Table X → Table Y
map_values f table = map_entries (λ _ x. f x) table

-- every page of a run has this, and every other page is as before
unfoldable pub set_within : {X : Type 0} → Table X → ℕ → ℕ → X → Table X
set_within table first count x =
    finmap.from_entries (map (λ page. (page, x)) (pages_from first count) ++ finmap.entries table)

-- no page of a run is there, and every other page is as before
unfoldable pub remove_within : {X : Type 0} → Table X → ℕ → ℕ → Table X
remove_within table first count = finmap.retain_keys table (λ page. not (is_within first count page))

-- every page of a run that is there is changed, and every other page is as before
unfoldable pub change_within : {X : Type 0} → (X → X) → Table X → ℕ → ℕ → Table X
change_within change table first count =
    map_entries (λ page x. if is_within first count page then change x else x) table

-- what the values weigh together
unfoldable pub total : {X : Type 0} → (X → ℕ) → Table X → ℕ
total weight table = sum_by (λ e. weight e.1) (finmap.entries table)

-- what the values of all spaces weigh together
unfoldable pub total_within : {X : Type 0} → (X → ℕ) → Nested X → ℕ
total_within weight nested = total (total weight) nested

-- every page of a run that isn't there gets this, and every other page is as before
unfoldable pub fill_within : {X : Type 0} → Table X → ℕ → ℕ → X → Table X
fill_within table first count x =
    finmap.from_entries (finmap.entries table ++ map (λ page. (page, x)) (pages_from first count))
