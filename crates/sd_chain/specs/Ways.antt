-- How an image has a page, and where the chain of an image has it.
use Rattle.std.specs.Prelude.{◌≡◌, ◌↔◌, ℕ, ◌+◌, ◌*◌, ◌<◌, List, Option, Some, None, All, Contains, slice_get}
use Rattle.sd_image.specs.declared.run.RunKind.TheVariants.{Data, Parent, Zero}
use Rattle.sd_image.specs.Table.{Listed, IsTable}
use Rattle.sd_image.specs.Shows.{pages_of}
use Rattle.sd_chain.specs.declared.found.Found.{Found}
use Rattle.sd_chain.specs.declared.found.Found.TheVariants as found
use Rattle.sd_chain.specs.declared.trace.Trace.{Trace}
use Rattle.sd_chain.specs.declared.trace.Trace.TheVariants as trace
use Rattle.sd_chain.specs.declared.way.Way.{Way}
use Rattle.sd_chain.specs.declared.way.Way.TheVariants as way
use Rattle.sd_chain.specs.Catalog.{Opened, Places, Names, images, place_of}

-- a table has a page of a space in this way: at a place among those with data, in the parent, or as zeros
abbrev pub HasPage : List Listed → ℕ × ℕ → Way → Type 0
HasPage spaces page (way.Data place) = slice_get (pages_of Data spaces) place ≡ Some page
HasPage spaces page way.Parent = Contains (pages_of Parent spaces) page
HasPage spaces page way.Zero = Contains (pages_of Zero spaces) page

-- The chain of an image has a page there: in the image's own file, after its header and the data pages before it;
-- nowhere, as it is zeros; or where the chain of the image has it that its parent number names.
pub data LiesAt (places : Places) (page : ℕ × ℕ) (there : Found) : Opened → Type 0 where
  by_data : (i : Opened) (place : ℕ) → HasPage i.spaces page (way.Data place)
      → there ≡ found.Data i.slot (4096 + 4096 * place) → LiesAt places page there i
  by_zero : (i : Opened) → HasPage i.spaces page way.Zero → there ≡ found.Zero → LiesAt places page there i
  by_parent : (i parent : Opened) → HasPage i.spaces page way.Parent → Names places i.header.parent parent
      → LiesAt places page there parent → LiesAt places page there i

-- the chain of the image of a serial has a page there
abbrev pub LiesBySerial : Places → ℕ → ℕ × ℕ → Found → Type 0
LiesBySerial places serial page there =
    (i : Opened) × (place_of places serial ≡ Some (Some i)) × LiesAt places page there i

-- an image doesn't list a page
abbrev pub IsUnlisted : ℕ × ℕ → Opened → Type 0
IsUnlisted page i = (w : Way) → HasPage i.spaces page w → ⊥

-- The chain of an image breaks at the image of a slot: here, as the image has the page in its parent, and no image that
-- its parent number names lists the page; or beyond, at an image of the chain of the one that its parent number names.
pub data BreaksAt (places : Places) (page : ℕ × ℕ) (slot : ℕ) : Opened → Type 0 where
  here : (i : Opened) → HasPage i.spaces page way.Parent
      → ((parent : Opened) → Names places i.header.parent parent → IsUnlisted page parent) → slot ≡ i.slot
      → BreaksAt places page slot i
  beyond : (i parent : Opened) → HasPage i.spaces page way.Parent → Names places i.header.parent parent
      → BreaksAt places page slot parent → BreaksAt places page slot i

-- the chain of the image of a serial breaks there
abbrev pub BreaksBySerial : Places → ℕ → ℕ × ℕ → ℕ → Type 0
BreaksBySerial places serial page slot =
    (i : Opened) × (place_of places serial ≡ Some (Some i)) × BreaksAt places page slot i

-- no image of the serial lists a page
abbrev pub IsAbsent : Places → ℕ → ℕ × ℕ → Type 0
IsAbsent places serial page = (i : Opened) → place_of places serial ≡ Some (Some i) → IsUnlisted page i

-- where a page was found, if it was
abbrev pub found_in : Trace → Option Found
found_in (trace.Found there) = Some there
found_in (trace.Broken slot) = None
found_in trace.Absent = None

-- what following a page from an image comes to
pub record IsTraceOf (places : Places) (page : ℕ × ℕ) (i : Opened) (walk : Trace) : Type 0 where
  pub found : (there : Found) → (walk ≡ trace.Found there) ↔ LiesAt places page there i
  pub broken : (slot : ℕ) → (walk ≡ trace.Broken slot) ↔ BreaksAt places page slot i
  pub absent : (walk ≡ trace.Absent) ↔ IsUnlisted page i

-- the tables are such as image text has, and each image's parent number is below the number that it stands for
pub record AreImages (places : Places) : Type 0 where
  pub tables : All (λ i. IsTable i.header i.spaces) (images places)
  pub fall : All (λ i. i.header.parent < i.header.stands_for) (images places)
