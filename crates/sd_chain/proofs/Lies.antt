-- Where the chain of an image has a page, by the one way in which its table has it.
use Rattle.std.proofs.Common.{◌≡◌, ◌+◌, ◌*◌, ℕ, Option, Some, ◌∙◌, ap}
use Rattle.std.specs.Prelude.{◌↔◌}
use Rattle.std.proofs.lemmas.Option.{same_Some}
use Rattle.sd_chain.specs.declared.found.Found.{Found}
use Rattle.sd_chain.specs.declared.found.Found.TheVariants as found
use Rattle.sd_chain.specs.declared.way.Way.{Way}
use Rattle.sd_chain.specs.declared.way.Way.TheVariants as way
use Rattle.sd_chain.specs.Catalog.{Opened, Places, Names}
use Rattle.sd_chain.specs.Ways.{HasPage, LiesAt, by_data, by_zero, by_parent, LiesBySerial}
use Rattle.sd_chain.proofs.Ways.{IsExact}

-- what an answer has to be
abbrev pub IsResolved : Places → ℕ → ℕ × ℕ → Option Found → Type 0
IsResolved places serial page answer = (there : Found) → (answer ≡ Some there) ↔ LiesBySerial places serial page there

-- ---- an image that has the page in no way

pub never_lies : (places : Places) (page : ℕ × ℕ) (there : Found) (i : Opened) → ((w : Way) → HasPage i.spaces page w → ⊥) → LiesAt places page there i → ⊥
never_lies places page there i never (by_data _ place has is) = never (way.Data place) has
never_lies places page there i never (by_zero _ has is) = never way.Zero has
never_lies places page there i never (by_parent _ parent has named lies) = never way.Parent has

-- ---- an image that has it itself

pub data_lies : (places : Places) (page : ℕ × ℕ) (there : Found) (i : Opened) (place : ℕ) → IsExact i.spaces page (Some (way.Data place)) → LiesAt places page there i → there ≡ found.Data i.slot (4096 + 4096 * place)
data_lies places page there i place exact (by_data _ other has is) =
    let e = same_Some (way.Data place) (way.Data other) ((exact (way.Data other)).1 has) in
    let same : other ≡ place = cc in
    is ∙ ap (λ n. found.Data i.slot (4096 + 4096 * n)) same
data_lies places page there i place exact (by_zero _ has is) = let e = same_Some (way.Data place) way.Zero ((exact way.Zero).1 has) in absurd cc
data_lies places page there i place exact (by_parent _ parent has named lies) = let e = same_Some (way.Data place) way.Parent ((exact way.Parent).1 has) in absurd cc

pub zero_lies : (places : Places) (page : ℕ × ℕ) (there : Found) (i : Opened) → IsExact i.spaces page (Some way.Zero) → LiesAt places page there i → there ≡ found.Zero
zero_lies places page there i exact (by_data _ other has is) = let e = same_Some way.Zero (way.Data other) ((exact (way.Data other)).1 has) in absurd cc
zero_lies places page there i exact (by_zero _ has is) = is
zero_lies places page there i exact (by_parent _ parent has named lies) = let e = same_Some way.Zero way.Parent ((exact way.Parent).1 has) in absurd cc

-- ---- an image that has it in its parent

pub parent_lies : (places : Places) (page : ℕ × ℕ) (there : Found) (i : Opened) → IsExact i.spaces page (Some way.Parent) → LiesAt places page there i
    → (parent : Opened) × Names places i.header.parent parent × LiesAt places page there parent
parent_lies places page there i exact (by_data _ other has is) = let e = same_Some way.Parent (way.Data other) ((exact (way.Data other)).1 has) in absurd cc
parent_lies places page there i exact (by_zero _ has is) = let e = same_Some way.Parent way.Zero ((exact way.Zero).1 has) in absurd cc
parent_lies places page there i exact (by_parent _ parent has named lies) = (parent, named, lies)
