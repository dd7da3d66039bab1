-- What the front of a table says of the whole.
use Rattle.std.specs.Prelude.{◌≡◌, ◌<◌, ℕ, List, ◌++◌, length, Option, Some, None, Result, Ok, Err}
use Rattle.sd_image.specs.declared.header.Header.{Header}
use Rattle.sd_image.specs.declared.reason.Reason.{Reason}
use Rattle.sd_image.specs.declared.reason.Reason.TheVariants.{PastEnd, Total}
use Rattle.sd_image.specs.Reading.{table_in}
use Rattle.sd_image.specs.Table.{Listed}

-- Why nothing that begins so and is longer is a table, by how the front reads: a rule that breaks in it breaks there
-- too, and after a whole table bytes remain. Where an item goes past its end, nothing is known.
abbrev pub front_fault : Result (List Listed) Reason → Option Reason
front_fault (Ok spaces) = Some Total
front_fault (Err PastEnd) = None
front_fault (Err r) = Some r

-- A fault of a front is that of all that begins so and is longer.
abbrev pub FrontDecides : Header → List ℕ → Type 0
FrontDecides h front = (more : List ℕ) (r : Reason) → 0 < length more → front_fault (table_in h front) ≡ Some r
    → table_in h (front ++ more) ≡ Err r
