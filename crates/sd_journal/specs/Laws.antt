-- What each entry of a legal journal makes of what it allows.
use Rattle.std.specs.Prelude.{◌≡◌, ◌↔◌, ◌⊎◌, ℕ, ◌<◌, ◌∷◌, Option, Some}
use Rattle.sd_areas.specs.PlainMemory.{PlainMemory}
use Rattle.sd_command.specs.declared.command.Command.{Command}
use Rattle.sd_command.specs.declared.reply.Reply.{Reply}
use Rattle.sd_journal.specs.declared.entry.Entry.TheVariants.{Applied, Freeze, Acked, Cancelled, Reopened}
use Rattle.sd_journal.specs.History.{Base, History, memory_after, at_freeze, last, pending}
use Rattle.sd_journal.specs.Legal.{IsAbove, IsLegal}
use Rattle.sd_journal.specs.Allowed.{Shown, shown_number, IsLastPair, IsPendingPair, IsAllowed}

pub record JournalLaws : Type 0 where
  -- a command leaves what is allowed
  pub applied : (base : Base) (history : History) (seat : ℕ) (command : Command) (reply : Reply) (shown : Shown)
      → IsAllowed base (Applied seat command reply ∷ history) shown ↔ IsAllowed base history shown
  -- a freeze adds the memory as it stands, under its number
  pub freeze : (base : Base) (history : History) (n : ℕ) (shown : Shown) → IsLegal base (Freeze n ∷ history)
      → IsAllowed base (Freeze n ∷ history) shown ↔
      (IsAllowed base history shown ⊎ (shown ≡ Some (n, memory_after base history)))
  -- an acknowledgement leaves the pending pair alone
  pub acked : (base : Base) (history : History) (n : ℕ) (shown : Shown) → IsLegal base (Acked n ∷ history)
      → IsAllowed base (Acked n ∷ history) shown ↔ IsPendingPair base history shown
  -- a checkpoint that is cancelled is never shown
  pub cancelled : (base : Base) (history : History) (n : ℕ) (shown : Shown) → IsLegal base (Cancelled n ∷ history)
      → IsAllowed base (Cancelled n ∷ history) shown ↔ IsLastPair base history shown
  -- a reopening leaves the pair that was found
  pub reopened : (base : Base) (history : History) (m : Option ℕ) (shown : Shown) → IsLegal base (Reopened m ∷ history)
      → IsAllowed base (Reopened m ∷ history) shown ↔ (IsAllowed base history shown × (shown_number shown ≡ m))
  -- the last and the pending checkpoint have a memory at their freeze
  pub last_has : (base : Base) (history : History) (n : ℕ) → IsLegal base history → last base history ≡ Some n
      → (memory : PlainMemory) × (at_freeze base history n ≡ Some memory)
  pub pending_has : (base : Base) (history : History) (n : ℕ) → IsLegal base history → pending history ≡ Some n
      → (memory : PlainMemory) × (at_freeze base history n ≡ Some memory)
  -- a number above all is that of neither
  pub last_below : (base : Base) (history : History) (n k : ℕ) → IsLegal base history → IsAbove base history n
      → last base history ≡ Some k → k < n
  pub pending_below : (base : Base) (history : History) (n k : ℕ) → IsLegal base history → IsAbove base history n
      → pending history ≡ Some k → k < n
  -- where a base comes from matters neither to which journals are legal nor to what they allow
  pub legal_alike : (one other : Base) (history : History) → one.number ≡ other.number → one.memory ≡ other.memory
      → IsLegal one history → IsLegal other history
  pub allowed_alike : (one other : Base) (history : History) (shown : Shown) → one.number ≡ other.number
      → one.memory ≡ other.memory
      → IsAllowed one history shown → IsAllowed other history shown
