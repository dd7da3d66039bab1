-- The words of pages, as a line of a script asks for them.
use Rattle.std.specs.Prelude.{◌≡◌, ◌⊎◌, ℕ, ◌+◌, ◌^◌, ◌||◌, nat_lt, map, if◌then◌else◌, Option, Some, None}
use Rattle.std.specs.List.{range_with_len}
use Rattle.sd_areas.specs.Pages.{page_of}
use Rattle.sd_areas.specs.PlainMemory.{PlainMemory}
use Rattle.sd_pagetable.specs.declared.access_error.AccessError.{AccessError}
use Rattle.sd_pagetable.specs.declared.access_error.AccessError.TheVariants.{Refused}
use Rattle.sd_pagetable.specs.declared.memory_refusal.MemoryRefusal.TheVariants as due
use Rattle.sd_pagetable.specs.Contents.{Contents, plain_of, word_at}
use Rattle.sd_pagetable.specs.RefusalOrder.{in_space}
use Rattle.sd_command.specs.declared.refusal.Refusal.TheVariants as refusal
use Rattle.sd_command.specs.declared.reply.Reply.TheVariants as reply
use Rattle.sd_command.specs.Replies.{reply_of}
use Rattle.sd_script.specs.declared.answer.Answer.{Answer}
use Rattle.sd_script.specs.declared.answer.Answer.TheVariants as answer

-- words of a space that is alive, at most 512, of pages that can be mapped
abbrev pub words_refusal : PlainMemory → ℕ → ℕ → ℕ → Option AccessError
words_refusal memory space address count =
    in_space memory space
    (if nat_lt 512 count || nat_lt (2 ^ 35) (page_of address + count) then Some (Refused due.Einval) else None)

-- the words of so many pages
abbrev pub IsWords : Contents → ℕ → ℕ → ℕ → Answer → Type 0
IsWords memory space address count (answer.Words words) =
    words.items ≡ map (word_at memory space) (range_with_len (page_of address) count)
IsWords memory space address count (answer.Reply given) = ⊥

-- words are denied in the order of the refusals, or out of memory is reported, or they are given
abbrev pub AreGiven : Contents → ℕ → ℕ → ℕ → Answer → Type 0
AreGiven memory space address count given =
    ((denied : AccessError) × (words_refusal (plain_of memory) space address count ≡ Some denied)
    × (given ≡ answer.Reply (reply_of denied)))
    ⊎ ((given ≡ answer.Reply (reply.Refused refusal.OutOfMemory))
    ⊎ ((words_refusal (plain_of memory) space address count ≡ None) × IsWords memory space address count given))
