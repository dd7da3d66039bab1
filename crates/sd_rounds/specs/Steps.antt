-- What a step of a pass in code keeps.
use Rattle.std.specs.Prelude.{◌≡◌, ℕ, List, [], ◌∷◌, ◌++◌, length, None}
use Rattle.sd_pagetable.specs.Contents.{Contents}
use Rattle.sd_rounds.specs.declared.copied.Copied.{Copied}
use Rattle.sd_rounds.specs.declared.visit.Visit.{Visit}
use Rattle.sd_rounds.specs.Pass.{Pass}
use Rattle.sd_writing.specs.Entries.{data_pages}
use Rattle.sd_writing.specs.Files.{Stored, listed_pages}
use Rattle.sd_rounds.specs.Keeps.{Chain, Keeps}
use Rattle.sd_rounds.specs.Rises.{IsRising}
use Rattle.sd_rounds.specs.Dump.{IsDumping}
use Rattle.sd_rounds.specs.Rounds.{Copies, TakesPage, Tests}

pub record StepLaws : Type 0 where
  pub visit_keeps : (stored : Stored) (chain : Chain) (old new : Pass) (before after : Contents) (visit : Visit)
      → Tests old before visit new after → old.taking ≡ None
      → Keeps stored chain old before → Keeps stored chain new after
  pub visit_dumps : (cut : Contents) (old new : Pass) (before after : Contents) (visit : Visit)
      → Tests old before visit new after → old.taking ≡ None → IsRising old
      → IsDumping cut old before → IsDumping cut new after
  pub copy_keeps : (stored : Stored) (chain : Chain) (old new : Pass) (memory : Contents) (copied : Copied)
      → Copies old memory copied new
      → Keeps stored chain old memory → Keeps stored chain new memory
  pub copy_dumps : (stored : Stored) (chain : Chain) (cut : Contents) (old new : Pass) (memory : Contents)
      (copied : Copied) → Copies old memory copied new → IsRising old
      → Keeps stored chain old memory → IsDumping cut old memory → IsDumping cut new memory
  -- a page is taken: its bytes are the next data page, once they are written
  pub take_keeps : (pages : List (List ℕ)) (chain : Chain) (old new : Pass) (memory : Contents) (bytes : List ℕ)
      → TakesPage old bytes new
      → length pages ≡ data_pages old.entries → Keeps (listed_pages pages) chain old memory
      → Keeps (listed_pages (pages ++ bytes ∷ [])) chain new memory
  pub take_dumps : (stored : Stored) (chain : Chain) (cut : Contents) (old new : Pass) (memory : Contents)
      (bytes : List ℕ) → TakesPage old bytes new
      → IsRising old → Keeps stored chain old memory → IsDumping cut old memory → IsDumping cut new memory
