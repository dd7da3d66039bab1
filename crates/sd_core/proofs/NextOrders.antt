-- The orders to a core, as it is seen after them.
use Rattle.std.proofs.Common.{◌≡◌, ◌⊎◌, ℕ, false, List, ◌∷◌, map, Option, Some, None, Result, Ok, subst, refl, ◌∙◌, ap, inl, inr, arith}
use Rattle.sd_chain.specs.Catalog.{Places}
use Rattle.sd_command.specs.declared.command.Command.{Command}
use Rattle.sd_command.specs.declared.refusal.Refusal.{Refusal}
use Rattle.sd_command.specs.declared.reply.Reply.{Reply}
use Rattle.sd_journal.specs.declared.entry.Entry.{Entry}
use Rattle.sd_pagetable.specs.Contents.{Contents}
use Rattle.sd_crash_safety.specs.View.{CoreView}
use Rattle.sd_core.specs.declared.taken.Taken.{Taken}
use Rattle.sd_core.specs.Next.{NextByBegin, NextByCancel, NextByCommand, NextByDumper, NextByMerge, NextByReopen}
use Rattle.sd_journal.specs.declared.entry.Entry.TheVariants.{Cancelled}
use Rattle.sd_journal.specs.History.{pending}
use Rattle.sd_journal.specs.Kept.{JournalView}
use Rattle.sd_journal.specs.Marked.{Told, entries_of}
use Rattle.sd_gate.specs.declared.phase.Phase.{Phase}
use Rattle.sd_gate.specs.Phases.{given_up}
use Rattle.sd_opener.specs.Looking.{Looking}
use Rattle.sd_rounds.specs.Dumper.{Dumping, Running}
use Rattle.sd_crash_safety.specs.Calls.{running_number}
use Rattle.sd_core.specs.declared.numbers.Numbers.{Numbers}
use Rattle.sd_core.specs.Flags.{numbers_begun}
use Rattle.sd_core.specs.Sound.{IsCore, Parts, held_for}
use Rattle.sd_core.proofs.CoreParts.{seen_of}
use Rattle.sd_core.proofs.NextHands.{dumper_as}
use Rattle.sd_core.proofs.WorkLemmas.{at_work}

-- a checkpoint began
pub begun_seen : (core : Parts) (journal : JournalView) (dumper : Dumping) (numbers : Numbers) (n : ℕ) (running : Running) → journal.items ≡ core.journal.items
    → journal.limit ≡ core.journal.limit → journal.held ≡ 2 → dumper.running ≡ Some running → dumper.since_freeze ≡ core.dumper.since_freeze
    → numbers ≡ record core.numbers { checkpoint = n; begun = n }
    → seen_of (record core { journal = journal; dumper = dumper; numbers = numbers })
    ≡ record (seen_of core) { held = 2; dumper = record core.dumper { running = Some running }; numbers = numbers_begun (seen_of core).numbers n }
begun_seen core journal dumper numbers n running items limit held is since numbers_are =
    let d = dumper_as dumper (Some running) core.dumper.since_freeze is since in cc

-- one was cancelled
pub cancelled_seen : (core : Parts) (journal : JournalView) (places : Places) (dumper : Dumping) (n : ℕ) → journal.items ≡ Told (Cancelled n) ∷ core.journal.items
    → journal.limit ≡ core.journal.limit → journal.held ≡ 0 → dumper ≡ record core.dumper { running = None } → core.committing ≡ false
    → seen_of (record core { journal = journal; places = places; dumper = dumper; grows = false; frozen = None; swept = false })
    ≡ record (seen_of core) { items = Told (Cancelled n) ∷ core.journal.items; held = 0; catalog = places; dumper = record core.dumper { running = None }; grows = false; committing = false }
cancelled_seen core journal places dumper n items limit held is sure = cc

pub under_way : (core : Parts) → IsCore core → (core.dumper.running ≡ None → pending (entries_of core.journal.items) ≡ None → ⊥)
    → (running_number core.dumper.running ≡ Some core.numbers.begun) ⊎ (pending (entries_of core.journal.items) ≡ Some core.numbers.begun)
under_way core sound some = by core.dumper.running refl
  where
    frozen_is : (frozen : Option ℕ) → core.frozen ≡ frozen → core.dumper.running ≡ None → pending (entries_of core.journal.items) ≡ Some core.numbers.begun
    frozen_is frozen is idle = grind arith

    by : (running : Option Running) → core.dumper.running ≡ running
        → (running_number core.dumper.running ≡ Some core.numbers.begun) ⊎ (pending (entries_of core.journal.items) ≡ Some core.numbers.begun)
    by None is = inr (frozen_is core.frozen refl is)
    by (Some running) is = inl (ap running_number is ∙ ap Some (at_work core running sound is).number)

-- an opener began
pub one_held : (frozen : Option ℕ) (opener : Looking) → held_for frozen None (Some opener) ≡ 1
one_held None opener = refl
one_held (Some n) opener = refl

pub reopened_seen : (core : Parts) (journal : JournalView) (phases : List Phase) (now : Option Looking) (opener : Looking) → journal.items ≡ core.journal.items
    → journal.limit ≡ core.journal.limit → journal.held ≡ 1 → phases ≡ map given_up core.phases → now ≡ Some opener
    → seen_of (record core { journal = journal; phases = phases; opener = now })
    ≡ record (seen_of core) { held = 1; phases = map given_up core.phases; opener = Some opener }
reopened_seen core journal phases now opener items limit held given is = cc

-- ---- as a core is seen

pub begin_seen : (rounds : ℕ) (inside now : CoreView) (answer : Reply) (new : CoreView) → inside ≡ now → NextByBegin rounds inside answer new → NextByBegin rounds now answer new
begin_seen rounds inside now answer new same = subst (λ v. NextByBegin rounds v answer new) same

pub merge_seen : (inside now : CoreView) (answer : Reply) (new : CoreView) → inside ≡ now → NextByMerge inside answer new → NextByMerge now answer new
merge_seen inside now answer new same = subst (λ v. NextByMerge v answer new) same

pub cancel_seen : (inside now : CoreView) (answer : Reply) (new : CoreView) → inside ≡ now → NextByCancel inside answer new → NextByCancel now answer new
cancel_seen inside now answer new same = subst (λ v. NextByCancel v answer new) same

pub reopen_seen : (inside now : CoreView) (answer : Reply) (new : CoreView) → inside ≡ now → NextByReopen inside answer new → NextByReopen now answer new
reopen_seen inside now answer new same = subst (λ v. NextByReopen v answer new) same

pub command_seen : (seat : ℕ) (command : Command) (inside now : CoreView) (result : Result (ℕ × Reply) Refusal) (new : CoreView) → inside ≡ now → NextByCommand seat command inside result new
    → NextByCommand seat command now result new
command_seen seat command inside now result new same = subst (λ v. NextByCommand seat command v result new) same

pub dumper_seen : (inside now : CoreView) (made : Taken) (new : CoreView) → inside ≡ now → NextByDumper inside made new → NextByDumper now made new
dumper_seen inside now made new same = subst (λ v. NextByDumper v made new) same

-- ---- a command

pub same_seen : (core : Parts) (journal : JournalView) (memory : Contents) → journal.items ≡ core.journal.items → journal.held ≡ core.journal.held → journal.limit ≡ core.journal.limit
    → memory ≡ core.memory → seen_of (record core { journal = journal; memory = memory }) ≡ seen_of core
same_seen core journal memory items held limit same = cc

pub applied_seen : (core : Parts) (journal : JournalView) (memory : Contents) (one : Entry) → journal.items ≡ Told one ∷ core.journal.items → journal.held ≡ core.journal.held
    → journal.limit ≡ core.journal.limit
    → seen_of (record core { journal = journal; memory = memory }) ≡ record (seen_of core) { memory = memory; items = Told one ∷ core.journal.items }
applied_seen core journal memory one items held limit = cc

abbrev pub told : ℕ → Reply → Result (ℕ × Reply) Refusal
told n a = Ok (n, a)

pub told_as : (n m : ℕ) (a b : Reply) → n ≡ m → a ≡ b → told n a ≡ told m b
told_as n m a b number same = ap (λ k. told k a) number ∙ ap (told m) same
