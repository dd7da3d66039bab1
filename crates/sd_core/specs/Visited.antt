-- Which pages a trim finds visited.
use Rattle.std.specs.Prelude.{◌≡◌, ◌⊎◌, ℕ, ◌==◌, ◌||◌, Bool, true, false, [], ◌∷◌, ◌++◌, Option, Some, IsSome}
use Rattle.sd_journal.specs.declared.entry.Entry.TheVariants.{Acked, Cancelled, Reopened}
use Rattle.sd_journal.specs.declared.mark.Mark.TheVariants.{Start}
use Rattle.sd_journal.specs.History.{Base}
use Rattle.sd_journal.specs.Marked.{Marked, Noted, Told}
use Rattle.sd_journal.specs.Trimming.{HasVisited, IsFolded}
use Rattle.sd_pagetable.specs.Contents.{Contents, page_at}
use Rattle.sd_pagetable.specs.Page.{PageState}
use Rattle.sd_rounds.specs.declared.stage.Stage.{Stage}
use Rattle.sd_rounds.specs.declared.stage.Stage.TheVariants.{Format, Freeze, Pass, Close}

-- no mapped page is soft-dirty
abbrev pub IsClean : Contents → Type 0
IsClean memory =
    (space number : ℕ) (page : PageState) → page_at memory space number ≡ Some page → page.soft_dirty ≡ false

-- the pass of the pending checkpoint's dump is over: it visited each page, and nothing was touched since
abbrev pub HasVisitedAll : Bool → Option ℕ → Contents → Type 0
HasVisitedAll swept frozen memory = swept ≡ true → IsSome frozen × IsClean memory

-- the front of the journal that ended the pending of a checkpoint, and that each page was visited then
pub record IsSettledBy (base : Base) (items : Marked) (n : ℕ) : Type 0 where
  pub kept : Marked
  pub folded : Marked
  pub parts : items ≡ kept ++ folded
  pub front : IsFolded n folded
  pub visited : HasVisited base folded

-- the last checkpoint is the base's, or there is such a front
abbrev pub HasSettled : Base → Marked → Option ℕ → Type 0
HasSettled base items newest = (newest ≡ base.number) ⊎ ((n : ℕ) × (newest ≡ Some n) × IsSettledBy base items n)

-- the image with this serial was started, and no checkpoint has ended since
abbrev pub is_begun : Marked → ℕ → Bool
is_begun [] serial = false
is_begun (Told (Acked n) ∷ earlier) serial = false
is_begun (Told (Cancelled n) ∷ earlier) serial = false
is_begun (Told (Reopened m) ∷ earlier) serial = false
is_begun (Told entry ∷ earlier) serial = is_begun earlier serial
is_begun (Noted (Start s) ∷ earlier) serial = s == serial || is_begun earlier serial
is_begun (Noted mark ∷ earlier) serial = is_begun earlier serial

-- its table was written, or is being
abbrev pub is_closing : Stage → Bool
is_closing (Format plan) = false
is_closing Freeze = false
is_closing Pass = false
is_closing (Close plan header tables) = true
