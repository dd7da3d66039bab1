-- An image in the making, and the pass over a memory that makes it.
use Rattle.std.specs.Prelude.{◌≡◌, ℕ, ◌+◌, ◌*◌, Bool, not, ◌||◌, if◌then◌else◌, List, [], ◌∷◌, ◌++◌}
use Rattle.std.specs.Prelude.{slice_range, Option, Some, None}
use Rattle.std.specs.Option.{option_map}
use Rattle.sd_image.specs.declared.run.RunKind.{RunKind}
use Rattle.sd_image.specs.declared.run.RunKind.TheVariants.{Data, Parent, Zero}
use Rattle.sd_pagetable.specs.Order.{is_above}
use Rattle.sd_writing.specs.Entries.{ImageEntry, Place}

-- the page that is being taken, and what was copied of it so far
pub record Taking : Type 0 where
  pub place : Place
  pub copied : List ℕ

-- an image in the making: whether it takes every page, the entries so far, the page that was visited last, and the one
-- that is being taken
pub record Pass : Type 0 where
  pub takes_all : Bool
  pub entries : List ImageEntry
  pub after : Option Place
  pub taking : Option Taking

-- the cursor is at the page, or after it
abbrev pub has_passed : Option Place → Place → Bool
has_passed after place = not (is_above after place.0 place.1)

-- a page is being taken
pub record IsTaken (pass : Pass) (place : Place) (taking : Taking) : Type 0 where
  pub is : pass.taking ≡ Some taking
  pub here : taking.place ≡ place

-- which page is being taken
abbrev pub place_taken : Pass → Option Place
place_taken pass = option_map (λ (taking : Taking). taking.place) pass.taking

-- ---- its steps

abbrev pub opened : Bool → Pass
opened takes_all = record { takes_all = takes_all; entries = []; after = None; taking = None }

-- the page gets an entry, and none is being taken
abbrev pub with_entry : Pass → Place → RunKind → Pass
with_entry pass place kind =
    record pass { entries = pass.entries ++ (record { place = place; kind = kind }) ∷ []; taking = None }

abbrev pub left_to_parent : Pass → Place → Pass
left_to_parent pass place = with_entry (record pass { after = Some place }) place Parent

abbrev pub begun_to_take : Pass → Place → Pass
begun_to_take pass place = record pass { after = Some place; taking = Some (record { place = place; copied = [] }) }

-- a page is tested and cleared: a clean one is left to the parent, any other is taken
abbrev pub visited : Pass → Place → Bool → Pass
visited pass place soft_dirty =
    if pass.takes_all || soft_dirty then begun_to_take pass place else left_to_parent pass place

-- one sector of a page with these bytes
abbrev pub sector_of : List ℕ → ℕ → List ℕ
sector_of bytes sector = slice_range bytes (512 * sector) (512 * sector + 512)

abbrev pub copied_more : Pass → Taking → List ℕ → Pass
copied_more pass taking more =
    record pass { taking = Some (record { place = taking.place; copied = taking.copied ++ more }) }

-- the page that was being taken is no longer mapped
abbrev pub dropped : Pass → Pass
dropped pass = record pass { taking = None }

-- it is all zeros, or its write is taken up
abbrev pub taken_as_zero : Pass → Taking → Pass
taken_as_zero pass taking = with_entry pass taking.place Zero

abbrev pub taken_as_data : Pass → Taking → Pass
taken_as_data pass taking = with_entry pass taking.place Data
