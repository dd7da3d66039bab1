-- The text of a memory is that of the pages that lie in slots.
use Rattle.std.proofs.Common.{◌≡◌, ◌*◌, ℕ, List, [], ◌∷◌, ◌++◌, map, codes, Option, Some, refl, sym, ◌∙◌, ap, subst, arith}
use Rattle.std.specs.List.{flat_map}
use Rattle.std.specs.Fmt.{decimal}
use Rattle.std.specs.FinMap as finmap
use Rattle.std.specs.Io.KnownBytes.{Appends}
use Rattle.sd_areas.specs.Areas.{areas_of}
use Rattle.sd_areas.specs.PlainMemory.{Page, PlainMemory, Space}
use Rattle.sd_image.specs.Laws.{ShownOnce}
use Rattle.sd_image.specs.Shows.{Shows}
use Rattle.sd_image.specs.Table.{Listed}
use Rattle.sd_procfs.specs.Listing.{area_line}
use Rattle.sd_restore.specs.Fits.{prots_in}
use Rattle.sd_restore.specs.Placed.{IsLaidOut, PlacedPage, SpaceEntry, placed_entries, placed_memory}
use Rattle.sd_readers.specs.Printed.{PrintsMemory}
use Rattle.sd_readers.specs.Texts.{memory_text, page_text, placed_memory_text, placed_space_text}

of_map : {X Y Z : Type 0} (f : Y → List Z) (g : X → Y) (xs : List X) → flat_map f (map g xs) ≡ flat_map (λ x. f (g x)) xs
of_map f g [] = refl
of_map f g (x ∷ xs) = ap (λ zs. f (g x) ++ zs) (of_map f g xs)

same_texts : {X : Type 0} (f g : X → List ℕ) (xs : List X) → ((x : X) → f x ≡ g x) → flat_map f xs ≡ flat_map g xs
same_texts f g [] same = refl
same_texts f g (x ∷ xs) same = ap (λ zs. zs ++ flat_map f xs) (same x) ∙ ap (λ zs. g x ++ zs) (same_texts f g xs same)

abbrev page_lines : ℕ × Page → List ℕ
page_lines e = page_text (4096 * e.0) e.1.bytes

abbrev entry_text : SpaceEntry → List ℕ
entry_text e = codes "space " ++ decimal e.0 ++ 10 ∷ [] ++ flat_map area_line e.1.0 ++ flat_map page_lines e.1.1

abbrev seen : ℕ × Space → SpaceEntry
seen e = (e.0, (areas_of (prots_in e.1), finmap.entries e.1))

module _ (contents : List (List ℕ)) (checkpoint : ℕ) (spaces : List Listed) (pages : List PlacedPage) (memory : PlainMemory) (laid : IsLaidOut contents spaces pages memory) where
  abbrev said : Listed → SpaceEntry
  said s = (s.space, (s.areas, placed_entries contents s.space pages))

  of_space : (s : Listed) → entry_text (said s) ≡ placed_space_text contents pages s
  of_space s = grind (arith, of_map)

  pub laid_text : placed_memory_text contents checkpoint spaces pages ≡ memory_text (checkpoint, memory)
  laid_text = ap (λ xs. codes "checkpoint " ++ decimal checkpoint ++ 10 ∷ [] ++ xs)
      (sym (of_map entry_text said spaces ∙ same_texts (λ s. entry_text (said s)) (placed_space_text contents pages) spaces of_space)
      ∙ ap (flat_map entry_text) (sym laid)
      ∙ of_map entry_text seen (finmap.entries memory))

-- the memory that is printed is the one that is shown
pub prints_memory : (contents : List (List ℕ)) (before after : Option (List ℕ)) (checkpoint : ℕ) (spaces : List Listed) (pages : List PlacedPage)
    → Shows contents (Some (checkpoint, placed_memory contents spaces pages)) → IsLaidOut contents spaces pages (placed_memory contents spaces pages)
    → Appends before after (placed_memory_text contents checkpoint spaces pages) → PrintsMemory contents before after
prints_memory contents before after checkpoint spaces pages shows laid printed = record {
  moment = (checkpoint, placed_memory contents spaces pages);
  shows = shows;
  printed = subst (Appends before after) (laid_text contents checkpoint spaces pages (placed_memory contents spaces pages) laid) printed;
}

-- contents show one memory, so it is the one that was printed
pub exact_memory : ShownOnce → (contents : List (List ℕ)) (before after : Option (List ℕ)) → PrintsMemory contents before after → (moment : ℕ × PlainMemory) → Shows contents (Some moment)
    → Appends before after (memory_text moment)
exact_memory once contents before after prints moment shows =
    subst (λ m. Appends before after (memory_text m)) (same prints.moment moment (once contents (Some prints.moment) (Some moment) prints.shows shows)) prints.printed
  where
    same : (a b : ℕ × PlainMemory) → Some a ≡ Some b → a ≡ b
    same a b e = cc
