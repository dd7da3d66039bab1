-- Commands on one space leave every other space as it is.
use Rattle.std.proofs.Common.{◌≡◌, ◌≢◌, ◌⊎◌, inl, inr, ℕ, ◌%◌, Bool, true, false, List, Option, Some, None, Result, Ok, Err, OnOk, refl, sym, ◌∙◌, ap, subst, cond, nat_eq, arith}
use Rattle.std.specs.FinMap as finmap
use Rattle.std.specs.Option.{option_map_or}
use Rattle.sd_areas.specs.Pages.{page_of}
use Rattle.sd_areas.specs.PlainMemory.{Page, PlainMemory, Space}
use Rattle.sd_command.specs.declared.command.Command.{Command}
use Rattle.sd_command.specs.declared.command.Command.TheVariants as command
use Rattle.sd_command.specs.declared.reply.Reply.{Reply}
use Rattle.sd_command.specs.declared.reply.Reply.TheVariants as reply
use Rattle.sd_command.specs.Replies.{effect}
use Rattle.sd_disk.specs.declared.disk.Disk.{Ghosts}
use Rattle.sd_journal.specs.History.{Base, memory_after}
use Rattle.sd_journal.specs.Marked.{IsTracked}
use Rattle.sd_pagetable.specs.Access.{stored_at}
use Rattle.sd_pagetable.specs.Contents.{plain_of}
use Rattle.sd_pagetable.specs.Effects.{after_store}
use Rattle.sd_pagetable.specs.Nested.{put_at, value_at}
use Rattle.sd_pagetable.proofs.TableLemmas.{get_put}
use Rattle.sd_crash_safety.specs.View.{history_of}
use Rattle.sd_world.specs.declared.event.Event.TheVariants.{Command as CommandEvent, Trim}
use Rattle.sd_world.specs.Goes.{GoesOn}
use Rattle.sd_world.specs.Runs.{IsStep}
use Rattle.sd_world.specs.View.{WorldView}
use Rattle.sd_world.proofs.GoesOnLemmas.{goes_further}
use Rattle.sd_import.specs.Changes.{ChangesOnly, IsOf, KeepsOthers, MayGoOn}

not_it : (q k : ℕ) → q ≢ k → nat_eq q k ≡ false
not_it q k apart = grind (arith, apart)

-- another space is as before, once this one is changed
put_keeps : (space : ℕ) (memory : PlainMemory) (pages : Space) → KeepsOthers space memory (finmap.insert memory space pages)
put_keeps space memory pages other apart =
    get_put memory space pages other ∙ ap (λ b. cond b (Some pages) (finmap.get memory other)) (not_it other space apart)

stored_keeps : (space page : ℕ) (memory : PlainMemory) (change : Page → Page) (o : Option Page)
    → KeepsOthers space memory (option_map_or (λ (found : Page). put_at memory space page (change found)) o memory)
unfolding put_at
stored_keeps space page memory change None other apart = refl
stored_keeps space page memory change (Some found) other apart = put_keeps space memory _ other apart

at_own : (own space : ℕ) (memory new : PlainMemory) → own ≡ space → KeepsOthers own memory new → KeepsOthers space memory new
at_own own space memory new same keeps = subst (λ s. KeepsOthers s memory new) same keeps

-- a command on a space leaves every other one
effect_keeps : (space : ℕ) (asked : Command) (answer : Reply) (memory : PlainMemory) → IsOf space asked → KeepsOthers space memory (effect asked answer memory)
effect_keeps space (command.Mmap own address bytes prot) reply.Done memory is = at_own own space memory _ is (put_keeps own memory _)
effect_keeps space (command.Munmap own address bytes) reply.Done memory is = at_own own space memory _ is (put_keeps own memory _)
effect_keeps space (command.Mprotect own address bytes prot) reply.Done memory is = at_own own space memory _ is (put_keeps own memory _)
effect_keeps space (command.Store own address bytes) reply.Done memory is =
    at_own own space memory _ is (stored_keeps own (page_of address) memory (λ (page : Page). record page { bytes = stored_at page.bytes (address % 4096) bytes }) (value_at memory own (page_of address)))
effect_keeps space (command.Mmap own address bytes prot) _ memory is = λ other apart. refl
effect_keeps space (command.Munmap own address bytes) _ memory is = λ other apart. refl
effect_keeps space (command.Mprotect own address bytes prot) _ memory is = λ other apart. refl
effect_keeps space (command.Store own address bytes) _ memory is = λ other apart. refl
effect_keeps space _ answer memory is = absurd is

-- ---- what an event does to the plain memory

module _ {D : Type 0} (g : Ghosts D) where
  -- a command has its effect, or none where it isn't journaled
  command_does : (seat : ℕ) (asked : Command) (answer : Reply) (old new : WorldView D) → IsTracked old.core.base old.core.items old.core.memory
      → IsStep g (CommandEvent seat asked) old answer new
      → (plain_of new.core.memory ≡ effect asked answer (plain_of old.core.memory)) ⊎ (plain_of new.core.memory ≡ plain_of old.core.memory)
  command_does seat asked answer old new tracked step =
      let based = step.base (λ is. let no : CommandEvent seat asked ≡ Trim = is in cc) in
      let made = step.tracked.memory ∙ ap (λ (base : Base). memory_after base (history_of new.core)) based in
      elim step.adds [
        | inl journaled ↦ inl (made ∙ ap (memory_after old.core.base) journaled.1 ∙ ap (effect asked answer) (sym tracked.memory))
        | inr none ↦ inr (made ∙ ap (memory_after old.core.base) none.1 ∙ sym tracked.memory)
      ]

  -- a command on a space changes that space alone
  pub command_changes : (space seat : ℕ) (asked : Command) (answer : Reply) (old new : WorldView D) → IsOf space asked
      → IsTracked old.core.base old.core.items old.core.memory → IsStep g (CommandEvent seat asked) old answer new → GoesOn g old new
      → ChangesOnly g space old new
  command_changes space seat asked answer old new is tracked step goes = elim (command_does seat asked answer old new tracked step) [
    | inl does ↦ ChangesOnly.goes goes (λ other apart. ap (λ (m : PlainMemory). finmap.get m other) does ∙ effect_keeps space asked answer (plain_of old.core.memory) is other apart)
    | inr none ↦ ChangesOnly.goes goes (λ other apart. ap (λ (m : PlainMemory). finmap.get m other) none)
  ]

  -- and so does a fork that makes it
  pub fork_changes : (space seat parent child : ℕ) (old new : WorldView D) → child ≡ space
      → IsTracked old.core.base old.core.items old.core.memory → IsStep g (CommandEvent seat (command.Fork parent)) old (reply.Child child) new → GoesOn g old new
      → ChangesOnly g space old new
  fork_changes space seat parent child old new same tracked step goes = elim (command_does seat (command.Fork parent) (reply.Child child) old new tracked step) [
    | inl does ↦ ChangesOnly.goes goes (λ other apart. ap (λ (m : PlainMemory). finmap.get m other) does
        ∙ put_keeps child (plain_of old.core.memory) _ other (λ it. apart (it ∙ same)))
    | inr none ↦ ChangesOnly.goes goes (λ other apart. ap (λ (m : PlainMemory). finmap.get m other) none)
  ]

  -- one after the other
  pub changes_further : (space : ℕ) (old mid new : WorldView D) → ChangesOnly g space old mid → ChangesOnly g space mid new → ChangesOnly g space old new
  changes_further space old mid new (ChangesOnly.nothing same) second = subst (λ (w : WorldView D). ChangesOnly g space w new) same second
  changes_further space old mid new first (ChangesOnly.nothing same) = subst (λ (w : WorldView D). ChangesOnly g space old w) (sym same) first
  changes_further space old mid new (ChangesOnly.goes first keeps) (ChangesOnly.goes second more) =
      ChangesOnly.goes (goes_further g old mid new first second) (λ other apart. more other apart ∙ keeps other apart)

  -- after what was done, what a last call does where it comes to its end
  pub then_ok : {T E : Type 0} (space : ℕ) (old mid new : WorldView D) (result : Result T E) → ChangesOnly g space old mid
      → OnOk result (ChangesOnly g space mid new) → OnOk result (ChangesOnly g space old new)
  then_ok space old mid new (Ok told) first second = changes_further space old mid new first second
  then_ok space old mid new (Err why) first second = tt

  -- ---- however it ends

  pub may_further : (old mid new : WorldView D) → MayGoOn g old mid → MayGoOn g mid new → MayGoOn g old new
  may_further old mid new (MayGoOn.stays same) second = subst (λ (w : WorldView D). MayGoOn g w new) same second
  may_further old mid new first (MayGoOn.stays same) = subst (λ (w : WorldView D). MayGoOn g old w) (sym same) first
  may_further old mid new (MayGoOn.goes first) (MayGoOn.goes second) = MayGoOn.goes (goes_further g old mid new first second)

  pub goes_at_least : (old new : WorldView D) → GoesOn g old old → MayGoOn g old new → GoesOn g old new
  goes_at_least old new here (MayGoOn.stays same) = subst (λ (w : WorldView D). GoesOn g old w) (sym same) here
  goes_at_least old new here (MayGoOn.goes goes) = goes
