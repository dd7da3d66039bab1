-- A step and an outcome of the opener are each one of the steps of a core.
use Rattle.std.proofs.Common.{◌≡◌, ℕ, false, if◌then◌else◌, ◌∷◌, List, Option, None, ◌∙◌, ap, subst}
use Rattle.sd_chain.specs.Catalog.{Places}
use Rattle.sd_command.specs.declared.reply.Reply.{Reply}
use Rattle.sd_crash_safety.specs.declared.standing.Standing.TheVariants as standing
use Rattle.sd_crash_safety.specs.View.{CoreView}
use Rattle.sd_gate.specs.declared.phase.Phase.{Phase}
use Rattle.sd_gate.specs.declared.request_id.RequestId.{RequestId}
use Rattle.sd_gate.specs.Requests.{Made}
use Rattle.sd_journal.specs.declared.entry.Entry.TheVariants as entry
use Rattle.sd_journal.specs.History.{pending}
use Rattle.sd_journal.specs.Kept.{JournalView}
use Rattle.sd_journal.specs.Marked.{Told, entries_of}
use Rattle.sd_opener.specs.Looking.{Looking}
use Rattle.sd_core.specs.declared.numbers.Numbers.{Numbers}
use Rattle.sd_core.specs.declared.taken.Taken.{Taken}
use Rattle.sd_core.specs.Flags.{numbers_asked, ticket_after}
use Rattle.sd_core.specs.Grown.{has_visited_all}
use Rattle.sd_core.specs.Next.{NextByOpener, NextByOpenersOutcome, NextOnceRead, with_held}
use Rattle.sd_core.specs.Sound.{IsCore, Parts, held_for}
use Rattle.sd_core.proofs.CoreParts.{seen_of}
use Rattle.sd_core.proofs.WorkLemmas.{SameNumbers}

pub opener_seen : (inside now : CoreView) (made : Taken) (new : CoreView) → inside ≡ now → NextByOpener inside made new → NextByOpener now made new
opener_seen inside now made new same = subst (λ v. NextByOpener v made new) same

pub read_seen : (inside now : CoreView) (answer : Reply) (new : CoreView) → inside ≡ now → NextOnceRead inside answer new → NextOnceRead now answer new
read_seen inside now answer new same = subst (λ v. NextOnceRead v answer new) same

pub learnt_seen : (inside now : CoreView) (made : Made) (answer : Reply) (new : CoreView) → inside ≡ now → NextByOpenersOutcome inside made answer new → NextByOpenersOutcome now made answer new
learnt_seen inside now made answer new same = subst (λ v. NextByOpenersOutcome v made answer new) same

-- a call is asked for
pub look_asked : (core : Parts) (outs now : List (Option RequestId)) (opener : Option Looking) (numbers : Numbers) → outs ≡ now → SameNumbers core.numbers numbers → numbers.ticket ≡ ticket_after core.numbers.ticket
    → seen_of (record core { outs = outs; opener = opener; numbers = numbers }) ≡ record (seen_of core) { outs = now; opener = opener; numbers = numbers_asked false (seen_of core).numbers }
look_asked core outs now opener numbers o same t = by same.begun same.given same.checkpoint same.serial
  where
    by : numbers.begun ≡ core.numbers.begun → numbers.given ≡ core.numbers.given → numbers.checkpoint ≡ core.numbers.checkpoint → numbers.serial ≡ core.numbers.serial
        → seen_of (record core { outs = outs; opener = opener; numbers = numbers }) ≡ record (seen_of core) { outs = now; opener = opener; numbers = numbers_asked false (seen_of core).numbers }
    by b g c s = cc

-- the opener has ended
pub let_go_seen : (core : Parts) → IsCore core → (journal : JournalView) (opener : Option Looking) → journal.items ≡ core.journal.items → journal.limit ≡ core.journal.limit
    → journal.held ≡ held_for core.frozen core.dumper.running None → opener ≡ None
    → seen_of (record core { journal = journal; opener = opener }) ≡ with_held (record (seen_of core) { opener = None })
let_go_seen core sound journal opener items limit held none = by (held ∙ ap (λ f. held_for f core.dumper.running None) sound.journal_is.frozen_for)
  where
    by : journal.held ≡ held_for (pending (entries_of core.journal.items)) core.dumper.running None
        → seen_of (record core { journal = journal; opener = opener }) ≡ with_held (record (seen_of core) { opener = None })
    by held = cc

-- with the outcome of its call
pub failed_seen : (core : Parts) → IsCore core → (journal : JournalView) (phases now : List Phase) (outs out : List (Option RequestId)) (opener : Option Looking) → journal.items ≡ core.journal.items
    → journal.limit ≡ core.journal.limit → journal.held ≡ held_for core.frozen core.dumper.running None → phases ≡ now → outs ≡ out → opener ≡ None
    → seen_of (record core { journal = journal; phases = phases; outs = outs; opener = opener }) ≡ with_held (record (seen_of core) { phases = now; outs = out; opener = None })
failed_seen core sound journal phases now outs out opener items limit held p o none = by (held ∙ ap (λ f. held_for f core.dumper.running None) sound.journal_is.frozen_for)
  where
    by : journal.held ≡ held_for (pending (entries_of core.journal.items)) core.dumper.running None
        → seen_of (record core { journal = journal; phases = phases; outs = outs; opener = opener }) ≡ with_held (record (seen_of core) { phases = now; outs = out; opener = None })
    by held = cc

pub taught_seen : (core : Parts) (phases now : List Phase) (outs out : List (Option RequestId)) (opener : Option Looking) → phases ≡ now → outs ≡ out
    → seen_of (record core { phases = phases; outs = outs; opener = opener }) ≡ record (seen_of core) { phases = now; outs = out; opener = opener }
taught_seen core phases now outs out opener p o = cc

-- the store is open
pub opened_seen : (core : Parts) (journal : JournalView) (phases : List Phase) (places : Places) (opener : Option Looking) (numbers : Numbers) (found newest : Option ℕ)
    → journal.items ≡ Told (entry.Reopened found) ∷ core.journal.items → journal.limit ≡ core.journal.limit → journal.held ≡ 0 → opener ≡ None
    → seen_of (record core {
      journal = journal;
      frozen = None;
      newest = newest;
      standing = standing.Open;
      places = places;
      phases = phases;
      opener = opener;
      numbers = numbers;
      grows = false;
      committing = false;
      swept = false;
    }) ≡ record (seen_of core) {
      items = Told (entry.Reopened found) ∷ core.journal.items;
      held = 0;
      standing = standing.Open;
      phases = phases;
      catalog = places;
      opener = None;
      numbers = (seen_of (record core { numbers = numbers })).numbers;
      grows = false;
      committing = false;
    }
opened_seen core journal phases places opener numbers found newest items limit held none = cc

-- the checkpoint that the store may show beside the last one
pub awaited_is : (core : Parts) → IsCore core → (awaited : Option ℕ) → awaited ≡ (if core.swept then core.frozen else None)
    → awaited ≡ (if has_visited_all core.journal.items then pending (entries_of core.journal.items) else None)
awaited_is core sound awaited is = is ∙ ap (λ b. if b then core.frozen else None) sound.flags_are.visited_by ∙ ap (λ p. if has_visited_all core.journal.items then p else None) sound.journal_is.frozen_for
