-- What a journal says is what its entries say of the last and the pending checkpoint.
use Rattle.std.specs.Prelude.{◌≡◌, ◌↔◌, Option, Some, None}
use Rattle.sd_journal.specs.History.{Base, History, at_freeze, memory_after, pending}
use Rattle.sd_journal.specs.Legal.{IsLegal}
use Rattle.sd_journal.specs.Allowed.{Shown, IsAllowed, IsLastPair, shown_number}
use Rattle.sd_journal.specs.Tell.{MayShow, Told, first_memory, tell}

-- a run starts from what is shown
pub record StartsAs (base : Base) (first : Shown) : Type 0 where
  pub number : base.number ≡ shown_number first
  pub memory : base.memory ≡ first_memory first

-- the pending checkpoint and the memory at its freeze, or nothing where none is pending
abbrev pub IsPendingAs : Base → History → Shown → Type 0
IsPendingAs base history None = pending history ≡ None
IsPendingAs base history (Some pair) =
    (pending history ≡ Some pair.0) × (at_freeze base history pair.0 ≡ Some pair.1)

-- both say the same
pub record Agrees (base : Base) (history : History) (told : Told) : Type 0 where
  pub memory : memory_after base history ≡ told.memory
  pub last : IsLastPair base history told.last
  pub pending : IsPendingAs base history told.pending

pub record RunLaws : Type 0 where
  pub agrees : (base : Base) (first : Shown) (history : History) → StartsAs base first → IsLegal base history
      → Agrees base history (tell first history)
  pub allowed : (base : Base) (first : Shown) (history : History) (shown : Shown) → StartsAs base first
      → IsLegal base history
      → IsAllowed base history shown ↔ MayShow (tell first history) shown
