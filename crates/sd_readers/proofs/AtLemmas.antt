-- The memory at a checkpoint that is printed.
use Rattle.std.proofs.Common.{◌≡◌, ℕ, List, Option, subst, ap, ◌∙◌}
use Rattle.std.specs.Io.KnownBytes.{Appends}
use Rattle.sd_image.specs.Table.{Listed}
use Rattle.sd_restore.specs.At.{ShowsAt}
use Rattle.sd_restore.specs.Placed.{IsLaidOut, PlacedPage, placed_memory}
use Rattle.sd_readers.specs.At.{PrintsMemoryAt}
use Rattle.sd_readers.specs.Texts.{memory_text, placed_memory_text}
use Rattle.sd_readers.proofs.MemoryTexts.{laid_text}

pub prints_memory_at : (contents : List (List ℕ)) (before after : Option (List ℕ)) (number checkpoint : ℕ) (spaces : List Listed) (pages : List PlacedPage) → checkpoint ≡ number
    → ShowsAt contents number (placed_memory contents spaces pages) → IsLaidOut contents spaces pages (placed_memory contents spaces pages)
    → Appends before after (placed_memory_text contents checkpoint spaces pages) → PrintsMemoryAt contents number before after
prints_memory_at contents before after number checkpoint spaces pages is shows laid printed = record {
  memory = placed_memory contents spaces pages;
  shows = shows;
  printed = subst (Appends before after)
      (laid_text contents checkpoint spaces pages (placed_memory contents spaces pages) laid ∙ ap (λ n. memory_text (n, placed_memory contents spaces pages)) is) printed;
}
