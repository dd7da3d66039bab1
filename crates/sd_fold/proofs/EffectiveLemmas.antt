-- Entries that change nothing leave a memory.
use Rattle.std.proofs.Common.{◌≡◌, Bool, true, false, List, [], ◌∷◌, reverse, refl, sym, ap, ◌∙◌, arith}
use Rattle.std.specs.List.{list_any}
use Rattle.std.proofs.lemmas.Bool.{or_parts}
use Rattle.std.proofs.lemmas.List.Sorted.{IsPermutation-reverse, list_any-IsPermutation}
use Rattle.sd_areas.specs.PlainMemory.{PlainMemory}
use Rattle.sd_command.specs.declared.command.Command.{Command}
use Rattle.sd_command.specs.declared.command.Command.TheVariants as command
use Rattle.sd_command.specs.declared.reply.Reply.{Reply}
use Rattle.sd_command.specs.declared.reply.Reply.TheVariants as reply
use Rattle.sd_command.specs.Replies.{effect}
use Rattle.sd_journal.specs.declared.entry.Entry.{Entry}
use Rattle.sd_journal.specs.declared.entry.Entry.TheVariants.{Applied, Freeze, Acked, Cancelled, Reopened}
use Rattle.sd_journal.specs.History.{Base, memory_after}
use Rattle.sd_fold.specs.Effective.{has_effect, is_effective}

not_both : true ≡ false → (x : PlainMemory) (y : PlainMemory) → x ≡ y
not_both e x y = absurd (let no : true ≡ false = e in cc)

no_effect : (asked : Command) (told : Reply) (memory : PlainMemory) → has_effect told asked ≡ false → effect asked told memory ≡ memory
no_effect (command.Mmap space address bytes prot) reply.Done memory e = not_both e _ _
no_effect (command.Munmap space address bytes) reply.Done memory e = not_both e _ _
no_effect (command.Mprotect space address bytes prot) reply.Done memory e = not_both e _ _
no_effect (command.Fork space) (reply.Child child) memory e = not_both e _ _
no_effect (command.Exit space) reply.Done memory e = not_both e _ _
no_effect (command.TryStore space address bytes) reply.Done memory e = not_both e _ _
no_effect (command.Store space address bytes) reply.Done memory e = not_both e _ _
no_effect _ _ memory e = refl

history_unchanged : (start : Base) (history : List Entry) → list_any is_effective history ≡ false → memory_after start history ≡ start.memory
history_unchanged start [] e = refl
history_unchanged start (Applied seat asked told ∷ earlier) e =
    let parts = or_parts (has_effect told asked) (list_any is_effective earlier) e in
    no_effect asked told (memory_after start earlier) parts.0 ∙ history_unchanged start earlier parts.1
history_unchanged start (Freeze n ∷ earlier) e = history_unchanged start earlier e
history_unchanged start (Acked n ∷ earlier) e = history_unchanged start earlier e
history_unchanged start (Cancelled n ∷ earlier) e = history_unchanged start earlier e
history_unchanged start (Reopened m ∷ earlier) e = history_unchanged start earlier e

pub unchanged : (start : Base) (entries : List Entry) → list_any is_effective entries ≡ false → memory_after start (reverse entries) ≡ start.memory
unchanged start entries e = history_unchanged start (reverse entries) (sym (list_any-IsPermutation is_effective entries (reverse entries) (IsPermutation-reverse entries)) ∙ e)
