-- What one call on a memory returns for a command, before it is answered as a reply.
use Rattle.std.specs.Prelude.{◌≡◌, ◌⊎◌, ◌%◌, ◌+◌, ℕ, length, slice_range, Option, IfSome, Result, Ok, Err}
use Rattle.sd_areas.specs.Pages.{page_of, pages_for}
use Rattle.sd_pagetable.specs.declared.access_error.AccessError.{AccessError}
use Rattle.sd_pagetable.specs.declared.memory_error.MemoryError.{MemoryError}
use Rattle.sd_pagetable.specs.declared.store_outcome.StoreOutcome.{StoreOutcome}
use Rattle.sd_pagetable.specs.declared.store_outcome.StoreOutcome.TheVariants as outcome
use Rattle.sd_pagetable.specs.Contents.{Contents, plain_of}
use Rattle.sd_pagetable.specs.RefusalOrder.{fault_refusal, store_refusal, try_outcome}
use Rattle.sd_pagetable.specs.Effects.{IsLeastFree}
use Rattle.sd_pagetable.specs.Page.{PageState}
use Rattle.sd_pagetable.specs.Tracking.{Step, Mapped, Unmapped, Protected, Forked, Exited, Faulted, Tried, Stored}
use Rattle.sd_command.specs.declared.command.Command.{Command}
use Rattle.sd_command.specs.declared.command.Command.TheVariants as command
use Rattle.sd_command.specs.declared.reply.Reply.{Reply}
use Rattle.sd_command.specs.declared.reply.Reply.TheVariants as reply
use Rattle.sd_command.specs.Replies.{denial_in}
use Rattle.sd_command.specs.Events.{page_under}

-- what a command is denied by the memory with its frames, if anything
abbrev pub denial : Contents → Command → Option AccessError
denial memory (command.Fault space address) = fault_refusal memory space address
denial memory (command.Store space address bytes) = store_refusal memory space address (length bytes)
denial memory (command.Mmap space address bytes prot) =
    denial_in (plain_of memory) (command.Mmap space address bytes prot)
denial memory (command.Munmap space address bytes) = denial_in (plain_of memory) (command.Munmap space address bytes)
denial memory (command.Mprotect space address bytes prot) =
    denial_in (plain_of memory) (command.Mprotect space address bytes prot)
denial memory (command.Fork space) = denial_in (plain_of memory) (command.Fork space)
denial memory (command.Exit space) = denial_in (plain_of memory) (command.Exit space)
denial memory (command.Load space address count) = denial_in (plain_of memory) (command.Load space address count)
denial memory (command.TryStore space address bytes) =
    denial_in (plain_of memory) (command.TryStore space address bytes)

-- the reply of a command that returns nothing more
abbrev pub done_reply : Result (Unit {0}) MemoryError → Result Reply MemoryError
done_reply (Ok _) = Ok reply.Done
done_reply (Err error) = Err error

-- the reply of a try of a store
abbrev pub try_reply : StoreOutcome → Reply
try_reply outcome.Done = reply.Done
try_reply outcome.NeedsFault = reply.NeedsFault

-- so many bytes from an address on
abbrev pub HasLoadedBytes : Contents → ℕ → ℕ → ℕ → Reply → Type 0
HasLoadedBytes memory space address count (reply.Bytes bytes) = IfSome (page_under memory space address)
    (λ (page : PageState). bytes ≡ slice_range page.bytes (address % 4096) (address % 4096 + count))
HasLoadedBytes memory space address count _ = ⊥

-- what an accepted command does, by its reply
abbrev pub CommandDoes : Command → Reply → Contents → Contents → Type 0
CommandDoes (command.Mmap space address bytes prot) answer old new =
    (answer ≡ reply.Done) × Step old (Mapped space (page_of address) (pages_for bytes) prot) new
CommandDoes (command.Munmap space address bytes) answer old new =
    (answer ≡ reply.Done) × Step old (Unmapped space (page_of address) (pages_for bytes)) new
CommandDoes (command.Mprotect space address bytes prot) answer old new =
    (answer ≡ reply.Done) × Step old (Protected space (page_of address) (pages_for bytes) prot) new
CommandDoes (command.Fork space) answer old new =
    (child : ℕ) × (answer ≡ reply.Child child) × IsLeastFree (plain_of old) child × Step old (Forked space child) new
CommandDoes (command.Exit space) answer old new = (answer ≡ reply.Done) × Step old (Exited space) new
CommandDoes (command.Load space address count) answer old new =
    (new ≡ old) × HasLoadedBytes old space address count answer
CommandDoes (command.TryStore space address bytes) answer old new =
    ((answer ≡ reply.Done) × (try_outcome old space address (length bytes) ≡ Ok outcome.Done)
    × Step old (Tried space (page_of address) (address % 4096) bytes) new)
    ⊎ ((answer ≡ reply.NeedsFault) × (try_outcome old space address (length bytes) ≡ Ok outcome.NeedsFault)
    × (new ≡ old))
CommandDoes (command.Fault space address) answer old new =
    (answer ≡ reply.Done) × Step old (Faulted space (page_of address)) new
CommandDoes (command.Store space address bytes) answer old new =
    (answer ≡ reply.Done) × Step old (Stored space (page_of address) (address % 4096) bytes) new
