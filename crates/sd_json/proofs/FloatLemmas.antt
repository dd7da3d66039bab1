-- The documents have no number with a point.
use Rattle.std.proofs.Common.{◌≡◌, ℕ, Bool, false, ◌||◌, List, [], ◌∷◌, length, map, Option, None, Some, refl, ap, ◌∙◌}
use Rattle.std.specs.Prelude.{filter}
use Rattle.std.specs.Option.{option_map}
use Rattle.serde_json.specs.Data.{Data}
use Rattle.serde_json.specs.View.{items_of}
use Rattle.serde_json.specs.Written.{compact_text, has_float, items_have_float}
use Rattle.serde_json.proofs.OnLiterals.{serde_json_on_literals}
use Rattle.sd_areas.specs.declared.area.Area.{Area}
use Rattle.sd_image.specs.Image.{is_open}
use Rattle.sd_image.specs.Table.{Listed}
use Rattle.sd_chain.specs.Catalog.{Opened, images}
use Rattle.sd_readers.specs.declared.at.ReaderAt.TheVariants as at
use Rattle.sd_readers.specs.declared.steady.Reader.TheVariants as reader
use Rattle.sd_restore.specs.declared.placed_run.PlacedRun.{PlacedRun}
use Rattle.sd_json.specs.declared.moment.Document.{Document}
use Rattle.sd_json.specs.declared.moment.Document.TheVariants as asked
use Rattle.sd_json.specs.Documents.{IsDocument, IsTextOf, area_fields, entry, listing, memory_fields, space_fields, verdict}

verdict_plain : (checkpoint : Option ℕ) (count : ℕ) → has_float (verdict checkpoint count) ≡ false
verdict_plain None count = refl
verdict_plain (Some n) count = refl

entry_plain : (image : Opened) → has_float (entry image) ≡ false
unfolding serde_json_on_literals
entry_plain image = refl

entries_plain : (all : List Opened) → items_have_float (items_of (map entry all)) ≡ false
entries_plain [] = refl
entries_plain (image ∷ all) = ap (λ (b : Bool). b || items_have_float (items_of (map entry all))) (entry_plain image) ∙ entries_plain all

listing_plain : (all : List Opened) (tip : Option ℕ) → has_float (listing all tip) ≡ false
listing_plain all None = ap (λ (b : Bool). b || false) (entries_plain all)
listing_plain all (Some serial) = ap (λ (b : Bool). b || false) (entries_plain all)

area_plain : (area : Area) → has_float (area_fields area) ≡ false
unfolding serde_json_on_literals
area_plain area = refl

areas_plain : (areas : List Area) → items_have_float (items_of (map area_fields areas)) ≡ false
areas_plain [] = refl
areas_plain (area ∷ areas) = ap (λ (b : Bool). b || items_have_float (items_of (map area_fields areas))) (area_plain area) ∙ areas_plain areas

space_plain : (runs : List PlacedRun) (s : Listed) → has_float (space_fields runs s) ≡ false
unfolding serde_json_on_literals
space_plain runs s = ap (λ (b : Bool). b || false) (areas_plain s.areas)

spaces_plain : (runs : List PlacedRun) (spaces : List Listed) → items_have_float (items_of (map (space_fields runs) spaces)) ≡ false
spaces_plain runs [] = refl
spaces_plain runs (s ∷ spaces) = ap (λ (b : Bool). b || items_have_float (items_of (map (space_fields runs) spaces))) (space_plain runs s) ∙ spaces_plain runs spaces

memory_plain : (n : ℕ) (spaces : List Listed) (runs : List PlacedRun) → has_float (memory_fields n spaces runs) ≡ false
unfolding serde_json_on_literals
memory_plain n spaces runs = ap (λ (b : Bool). b || false) (spaces_plain runs spaces)

plain : (which : Document) (contents : List (List ℕ)) (document : Data) → IsDocument which contents document → has_float document ≡ false
plain (asked.Newest reader.Restore) contents document exact = ap has_float exact.is ∙ memory_plain exact.checkpoint exact.spaces exact.runs
plain (asked.Newest reader.List) contents document exact = ap has_float exact.is ∙ listing_plain (images exact.places) exact.tip
plain (asked.Newest reader.Verify) contents document exact =
    ap has_float exact.is ∙ verdict_plain (option_map (λ moment. moment.0) exact.shown) (length (filter is_open contents))
plain (asked.At at.Restore n) contents document exact = ap has_float exact.is ∙ memory_plain n exact.spaces exact.runs
plain (asked.At at.Verify n) contents document exact = ap has_float exact.is ∙ verdict_plain (Some n) (length (images exact.places))

pub text_is : (which : Document) (contents : List (List ℕ)) (document : Data) (text : List ℕ) → IsDocument which contents document
    → (has_float document ≡ false → text ≡ compact_text document) → IsTextOf (IsDocument which contents) text
text_is which contents document text exact is = record {
  document = document;
  exact = exact;
  is = is (plain which contents document exact);
}
