-- A memory stays tracked, by one item more of each kind; and which pages a dump finds soft-dirty.
use Rattle.std.specs.Prelude.{◌≡◌, ℕ, ◌==◌, Bool, true, false, ◌∷◌, [], if◌then◌else◌, Option, Some, None}
use Rattle.std.specs.List.{list_any}
use Rattle.sd_pagetable.specs.Contents.{Contents, IsSound, page_at, plain_of}
use Rattle.sd_pagetable.specs.Order.{IsNextPage}
use Rattle.sd_pagetable.specs.Page.{PageState}
use Rattle.sd_pagetable.specs.Tracking.{IsBeginning, Step, Cleared, clears}
use Rattle.sd_command.specs.declared.command.Command.{Command}
use Rattle.sd_command.specs.declared.refusal.Refusal.TheVariants.{Frozen}
use Rattle.sd_command.specs.declared.reply.Reply.{Reply}
use Rattle.sd_command.specs.declared.reply.Reply.TheVariants.{Refused}
use Rattle.sd_command.specs.Events.{event_of}
use Rattle.sd_command.specs.Replies.{IsLegalReply}
use Rattle.sd_journal.specs.declared.entry.Entry.{Entry}
use Rattle.sd_journal.specs.declared.entry.Entry.TheVariants.{Applied, Freeze}
use Rattle.sd_journal.specs.declared.mark.Mark.TheVariants.{Start, Visit, Table}
use Rattle.sd_journal.specs.declared.origin.Origin.TheVariants.{Opened}
use Rattle.sd_journal.specs.History.{Base, pending}
use Rattle.sd_journal.specs.Legal.{IsLegal, MayFollow}
use Rattle.sd_journal.specs.Marked.{Item, Told, Noted, Marked, entries_of, must_dump, item_event, is_of, last_visit}
use Rattle.sd_journal.specs.Marked.{visiting, IsMarked, IsTracked}
use Rattle.sd_journal.specs.Receipts.{is_command}

-- the marked journal gives each page's soft-dirty bit, step by step
pub record TrackedLaws : Type 0 where
  -- a marked journal without its marks is legal
  pub legal : (base : Base) (items : Marked) → IsMarked base items → IsLegal base (entries_of items)
  -- a memory begins as what was opened
  pub begins : (base : Base) (contents : Contents) → base.origin ≡ Opened → IsBeginning contents
      → plain_of contents ≡ base.memory
      → IsTracked base [] contents
  -- a command while nothing is pending makes its event's step
  pub applied : (base : Base) (items : Marked) (old new : Contents) (seat : ℕ) (command : Command) (reply : Reply)
      → IsSound old → IsTracked base items old → pending (entries_of items) ≡ None
      → IsLegalReply (plain_of old) false command reply
      → Step old (event_of command reply) new → IsTracked base (Told (Applied seat command reply) ∷ items) new
  -- a command while a checkpoint is pending is refused and changes nothing
  pub frozen : (base : Base) (items : Marked) (contents : Contents) (seat n : ℕ) (command : Command)
      → IsTracked base items contents → pending (entries_of items) ≡ Some n
      → IsTracked base (Told (Applied seat command (Refused Frozen)) ∷ items) contents
  -- an entry that is no command changes nothing
  pub told : (base : Base) (items : Marked) (contents : Contents) (entry : Entry)
      → IsTracked base items contents → MayFollow base (entries_of items) entry → is_command entry ≡ false
      → IsTracked base (Told entry ∷ items) contents
  -- an image starts with a serial that no mark has
  pub started : (base : Base) (items : Marked) (contents : Contents) (serial : ℕ)
      → IsTracked base items contents → list_any (is_of serial) items ≡ false
      → IsTracked base (Noted (Start serial) ∷ items) contents
  -- the next mapped page after its last visit is tested and cleared
  pub visited : (base : Base) (items : Marked) (old new : Contents) (serial space page : ℕ)
      → IsTracked base items old → visiting items ≡ Some serial
      → IsNextPage old.spaces (last_visit items serial) (Some (space, page)) → Step old (Cleared space page) new
      → IsTracked base (Noted (Visit serial space page) ∷ items) new
  -- no mapped page is left after its last visit
  pub tabled : (base : Base) (items : Marked) (contents : Contents) (serial : ℕ)
      → IsTracked base items contents → visiting items ≡ Some serial
      → IsNextPage contents.spaces (last_visit items serial) None
      → IsTracked base (Noted (Table serial) ∷ items) contents

-- ---- little work while frozen

abbrev pub is_freeze : ℕ → Item → Bool
is_freeze n (Told (Freeze m)) = m == n
is_freeze n _ = false

-- what stood before the freeze of a number
abbrev pub before_freeze : Marked → ℕ → Option Marked
before_freeze [] n = None
before_freeze (item ∷ earlier) n = if is_freeze n item then Some earlier else before_freeze earlier n

-- whether the page was visited since that freeze, for whichever image
abbrev pub visited_since : Marked → ℕ → ℕ → ℕ → Bool
visited_since [] n space page = false
visited_since (item ∷ earlier) n space page =
    if is_freeze n item then false
    else if clears space page (item_event item) then true else visited_since earlier n space page

-- the soft-dirty bit of a page says whether it must be dumped, and what must be dumped at a freeze stays so until its
-- visit
pub record MustDumpLaws : Type 0 where
  -- the soft-dirty bit that a visit finds is whether the page must be dumped
  pub bit : (base : Base) (items : Marked) (contents : Contents) (space number : ℕ) (page : PageState)
      → IsTracked base items contents → page_at contents space number ≡ Some page
      → page.soft_dirty ≡ must_dump base items space number
  -- what must be dumped at a freeze stays so while that is pending, up to the page's own visit
  pub still : (base : Base) (items frozen : Marked) (n space page : ℕ) → IsMarked base items
      → pending (entries_of items) ≡ Some n → before_freeze items n ≡ Some frozen
      → visited_since items n space page ≡ false
      → must_dump base items space page ≡ must_dump base frozen space page
