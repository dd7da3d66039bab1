-- The dump of a frozen memory.
use Rattle.std.specs.Prelude.{◌≡◌, ℕ, Bool, true, false, ◌||◌, ◌==◌, if◌then◌else◌, List, length, Option, Some, None}
use Rattle.std.specs.List.{list_all}
use Rattle.sd_image.specs.declared.run.RunKind.{RunKind}
use Rattle.sd_image.specs.declared.run.RunKind.TheVariants.{Data, Parent, Zero}
use Rattle.sd_pagetable.specs.Page.{PageState, zeros}
use Rattle.sd_pagetable.specs.Contents.{Contents, page_at, plain_of}
use Rattle.sd_pagetable.specs.Order.{IsNextPage}
use Rattle.sd_pagetable.specs.Tracking.{Step, Cleared}
use Rattle.sd_writing.specs.Entries.{Place}
use Rattle.sd_rounds.specs.Pass.{Taking, Pass, IsTaken, has_passed, opened, visited, copied_more, with_entry}
use Rattle.sd_rounds.specs.Pass.{taken_as_zero}
use Rattle.sd_writing.specs.Files.{Stored}
use Rattle.sd_rounds.specs.Keeps.{Chain, EntriesGive, Keeps}
use Rattle.sd_rounds.specs.Rises.{IsRising, kind_at}

-- how the bytes of a page are taken
abbrev pub kind_of_bytes : List ℕ → RunKind
kind_of_bytes bytes = if list_all (λ byte. byte == 0) bytes then Zero else Data

-- How the image is to have a page of the memory at the freeze: as zeros or data where the whole memory is taken or the
-- page was soft-dirty, and else in its parent.
abbrev pub right_kind : Bool → Option PageState → Option RunKind
right_kind takes_all None = None
right_kind takes_all (Some page) = Some (if takes_all || page.soft_dirty then kind_of_bytes page.bytes else Parent)

-- a page that is being taken was to be taken
pub record WasToBeTaken (cut : Contents) (pass : Pass) (taking : Taking) : Type 0 where
  pub page : PageState
  pub there : page_at cut taking.place.0 taking.place.1 ≡ Some page
  pub is : (pass.takes_all || page.soft_dirty) ≡ true

-- The dump of a memory that was frozen as `cut`: it has the pages of the freeze, those ahead as they were and those
-- after clean, and each page that was passed has its entry in the right way.
pub record IsDumping (cut : Contents) (pass : Pass) (memory : Contents) : Type 0 where
  pub plain : plain_of memory ≡ plain_of cut
  pub ahead : (at : Place) → has_passed pass.after at ≡ false → page_at memory at.0 at.1 ≡ page_at cut at.0 at.1
  pub passed : (at : Place) (page : PageState) → has_passed pass.after at ≡ true → page_at memory at.0 at.1 ≡ Some page
      → page.soft_dirty ≡ false
  pub kinds : (at : Place) → has_passed pass.after at ≡ true → ((taking : Taking) → IsTaken pass at taking → ⊥)
      → kind_at pass.entries at ≡ right_kind pass.takes_all (page_at cut at.0 at.1)
  pub taken : (taking : Taking) → pass.taking ≡ Some taking → WasToBeTaken cut pass taking

-- The entries are exactly the pages of the memory at the freeze, each in the right way, and they give its bytes.
pub record IsDumped (stored : Stored) (chain : Chain) (cut : Contents) (pass : Pass) : Type 0 where
  pub kinds : (at : Place) → kind_at pass.entries at ≡ right_kind pass.takes_all (page_at cut at.0 at.1)
  pub bytes : (at : Place) (page : PageState) → page_at cut at.0 at.1 ≡ Some page
      → EntriesGive stored chain pass.entries at page.bytes

pub record DumpLaws : Type 0 where
  pub freezes : (takes_all : Bool) (memory : Contents) → IsDumping memory (opened takes_all) memory
  pub visits : (cut : Contents) (pass : Pass) (old new : Contents) (at : Place) (page : PageState) → pass.taking ≡ None
      → IsRising pass
      → IsNextPage old.spaces pass.after (Some at) → page_at old at.0 at.1 ≡ Some page
      → Step old (Cleared at.0 at.1) new → plain_of new ≡ plain_of old
      → IsDumping cut pass old → IsDumping cut (visited pass at page.soft_dirty) new
  pub copies : (cut : Contents) (pass : Pass) (memory : Contents) (taking : Taking) (more : List ℕ)
      → pass.taking ≡ Some taking
      → IsDumping cut pass memory → IsDumping cut (copied_more pass taking more) memory
  pub never_drops : (cut : Contents) (pass : Pass) (memory : Contents) (taking : Taking) → pass.taking ≡ Some taking
      → IsDumping cut pass memory
      → page_at memory taking.place.0 taking.place.1 ≡ None → ⊥
  pub enters : (stored : Stored) (chain : Chain) (cut : Contents) (pass : Pass) (memory : Contents) (taking : Taking)
      → pass.taking ≡ Some taking → IsRising pass
      → length taking.copied ≡ 4096 → Keeps stored chain pass memory
      → IsDumping cut pass memory → IsDumping cut (with_entry pass taking.place (kind_of_bytes taking.copied)) memory
  pub enters_zero : (stored : Stored) (chain : Chain) (cut : Contents) (pass : Pass) (memory : Contents)
      (taking : Taking) → pass.taking ≡ Some taking → IsRising pass
      → taking.copied ≡ zeros → Keeps stored chain pass memory → IsDumping cut pass memory
      → IsDumping cut (taken_as_zero pass taking) memory
  pub ends : (stored : Stored) (chain : Chain) (cut : Contents) (pass : Pass) (memory : Contents) → pass.taking ≡ None
      → IsRising pass
      → IsNextPage memory.spaces pass.after None → Keeps stored chain pass memory → IsDumping cut pass memory
      → IsDumped stored chain cut pass
