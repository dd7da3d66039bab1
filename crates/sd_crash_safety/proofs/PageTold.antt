-- The bytes of a data page that was read of its image's file.
use Rattle.std.proofs.Common.{◌≡◌, ℕ, zero, suc, ◌+◌, List, length, slice_get, slice_range, Some, refl, sym, ◌∙◌, ap, arith}
use Rattle.std.proofs.lemmas.Option.{same_Some}
use Rattle.sd_areas.specs.Pages.{pages_from}
use Rattle.sd_image.specs.declared.run.RunKind.TheVariants.{Data}
use Rattle.sd_image.specs.Image.{Image, IsImage}
use Rattle.sd_image.specs.Laws.{PageInFile}
use Rattle.sd_image.specs.Shows.{pages_of}
use Rattle.sd_gate.specs.declared.call.Call.TheVariants.{Read}
use Rattle.sd_gate.specs.Looks.{IsLookedUpAs}
use Rattle.sd_gate.specs.Requests.{Made}
use Rattle.sd_gate.specs.Sequences.{data_place}
use Rattle.sd_image.proofs.PageBytes.{counted_spaces as pages_counted}
use Rattle.sd_crash_safety.proofs.Places.{has_too}

-- ---- a table lists as many data pages as it counts

length_from : (first count : ℕ) → length (pages_from first count) ≡ count
unfolding pages_from
length_from first zero = refl
length_from first (suc count) = ap (λ n. suc n) (length_from (suc first) count)

-- ---- its page stands there

page_there : PageInFile → (file : List ℕ) (i : Image) (place : ℕ) (bytes : List ℕ) → IsImage file i → slice_get i.pages place ≡ Some bytes
    → bytes ≡ slice_range file (data_place place) (data_place place + 4096)
page_there law file i place bytes is there =
    let page = has_too i.pages (pages_of Data i.spaces) place bytes (pages_counted i.spaces ∙ is.table.«data» ∙ sym is.stored) there in
    same_Some bytes (slice_range file (data_place place) (data_place place + 4096)) (sym there ∙ (law file i page.0 place is page.1).1)

-- a read that was done brings it
pub page_told : PageInFile → (file : List ℕ) (i : Image) (place : ℕ) (bytes : List ℕ) (made : Made) → IsImage file i → slice_get i.pages place ≡ Some bytes
    → made.request.id.call ≡ Read (data_place place) → length made.request.bytes ≡ 4096 → IsLookedUpAs file made → made.request.bytes ≡ bytes
page_told law file i place bytes made is there call whole told = grind (arith, page_there)
