-- What is so of every core holds of what is seen of it; and the order to begin leaves what is believed.
use Rattle.std.proofs.Common.{◌≡◌, ℕ, Some, None, refl, sym, ◌∙◌, ap, subst, arith}
use Rattle.sd_journal.specs.History.{last, pending}
use Rattle.sd_journal.specs.Kept.{JournalView}
use Rattle.sd_journal.specs.Marked.{entries_of}
use Rattle.sd_rounds.specs.Dumper.{begun_checkpoint}
use Rattle.sd_crash_safety.specs.Calls.{Stays}
use Rattle.sd_command.specs.declared.reply.Reply.{Reply}
use Rattle.sd_crash_safety.specs.CheckpointSteps.{BeginningIsBelieved}
use Rattle.sd_crash_safety.specs.CoreSteps.{CoreSteps}
use Rattle.sd_crash_safety.specs.View.{CoreView}
use Rattle.sd_free_slots.specs.Taken.{FreeSlotsLaw}
use Rattle.sd_core.specs.Next.{Begins, NextByBegin, begins, no_slot, out_of_memory, refused}
use Rattle.sd_core.specs.Sound.{IsCore, IsJournal, Parts}
use Rattle.sd_core.specs.SoundView.{IsSoundView, parts_in}
use Rattle.sd_core.specs.Beginning.{BeginsAs, IsFirstParent, begin_refusal}
use Rattle.sd_core.proofs.ApplyLemmas.{same_phases, stays_same}
use Rattle.sd_core.proofs.BeginLemmas.{may_begin, none_opens}
use Rattle.sd_core.proofs.CoreParts.{seen_of}
use Rattle.sd_core.proofs.SlotLemmas.{filled_free, free_unreached, free_within, has_parent, leaves_merge, slots_apart}

-- the journal without what is hidden of it
abbrev plain : Parts → JournalView
plain core = record { first = core.base.folded; items = core.journal.items; held = core.journal.held; limit = core.journal.limit; room = 0; mark_room = 0 }

its_journal : (core : Parts) → IsCore core → IsJournal core.base (plain core) core.memory core.frozen core.newest
its_journal core sound = record {
  tracked = sound.journal_is.tracked;
  first = refl;
  limit = sound.journal_is.limit;
  frozen_for = sound.journal_is.frozen_for;
  newest_is = sound.journal_is.newest_is;
  settled = sound.journal_is.settled;
}

plainly : (core : Parts) → IsCore core → IsCore (record core { journal = plain core })
plainly core sound = record {
  journal_is = its_journal core sound;
  held = sound.held;
  outs_are = sound.outs_are;
  opening = sound.opening;
  numbers_are = sound.numbers_are;
  counted = sound.counted;
  rests = sound.rests;
  work = sound.work;
  little = sound.little;
  merging = sound.merging;
  visited_is = sound.visited_is;
  flags_are = sound.flags_are;
  gated = sound.gated;
}

pub seen_sound : (core : Parts) → IsCore core → IsCore (parts_in (seen_of core) core.room)
seen_sound core sound =
    subst (λ s. IsCore (record core { journal = plain core; frozen = pending (entries_of core.journal.items); newest = last core.base (entries_of core.journal.items); swept = s })) sound.flags_are.visited_by
    (subst (λ n. IsCore (record core { journal = plain core; frozen = pending (entries_of core.journal.items); newest = n })) sound.journal_is.newest_is
    (subst (λ f. IsCore (record core { journal = plain core; frozen = f })) sound.journal_is.frozen_for (plainly core sound)))

-- ---- a checkpoint that begins

pub stays_begun : FreeSlotsLaw → (old : CoreView) → IsSoundView old → BeginningIsBelieved old.catalog → (rounds n : ℕ) (new : CoreView) → Begins rounds old n new → Stays old new
stays_begun free old sound law rounds n new b =
    let may = may_begin old rounds b.may in
    let closed = none_opens old.opener old.standing old.phases sound.is.opening may.stands in
    let running = begun_checkpoint n b.pre_dumps b.dump b.parent in
    let r = b.reserved in
    let number = b.number in
    subst (Stays old) (sym b.new_is) (record {
      base = refl;
      outs = refl;
      phases = same_phases old.outs old.phases;
      goes_on = λ asked bodies files believed. law old _ running asked bodies files (record {
        rest = record { stands = may.stands; base = refl; closed = closed; grows = refl; merger = refl };
        history = refl;
        memory = refl;
        phases = refl;
        outs = refl;
        serial = refl;
        its_catalog = refl;
        catalog = refl;
        was = may.idle;
        is = refl;
        fresh = (refl, refl);
        some = omega (arith, number);
        newest = λ serial o at. (let below = sound.is.counted serial o at in omega (arith, number, below));
        parent = has_parent old.catalog old running b.first;
        within = λ slot reserved. free_within free old r.slots slot r.free (filled_free old rounds n b.pre_dumps b.dump b.parent slot r reserved);
        unreached = λ falls slot reserved. free_unreached free old r.slots slot r.free (filled_free old rounds n b.pre_dumps b.dump b.parent slot r reserved) sound.catalog falls;
        merge = λ falls. leaves_merge free old rounds n b.pre_dumps b.dump b.parent r sound.catalog falls;
        apart = λ one other from below within. slots_apart free old rounds b.pre_dumps b.dump one other r below within;
      }) believed;
    })

pub stays_as : CoreSteps → (old new : CoreView) → new ≡ old → Stays old new
stays_as steps old new same = subst (Stays old) (sym same) (stays_same steps old old (record {
  store = record { base = refl; phases = refl; outs = refl; opener = refl; standing = refl; catalog = refl; grows = refl; committing = refl; dumper = refl; merger = refl; serial = refl };
  history = refl;
  memory = refl;
}))

pub begin_keeps : FreeSlotsLaw → CoreSteps → (old : CoreView) → IsSoundView old → BeginningIsBelieved old.catalog → (rounds : ℕ) (answer : Reply) (new : CoreView)
    → NextByBegin rounds old answer new → Stays old new
begin_keeps free steps old sound law rounds answer new (begins n is b) = stays_begun free old sound law rounds n new b
begin_keeps free steps old sound law rounds answer new (refused why may is) = stays_as steps old new is.1
begin_keeps free steps old sound law rounds answer new (no_slot may few is) = stays_as steps old new is.1
begin_keeps free steps old sound law rounds answer new (out_of_memory may is) = stays_as steps old new is.1

pub begin_as : (old : CoreView) → IsSoundView old → (rounds : ℕ) (answer : Reply) (new : CoreView) → NextByBegin rounds old answer new → begin_refusal old rounds ≡ None
    → BeginsAs old rounds answer new
begin_as old sound rounds answer new (begins n is b) none = subst (λ a. BeginsAs old rounds a new) (sym is) (record {
  number = b.number;
  pre_dumps = b.pre_dumps;
  dump = b.dump;
  parent = b.parent;
  reserved = b.reserved;
  first = b.first;
  since = subst (λ g. IsFirstParent old.catalog g b.parent) sound.is.flags_are.grown b.first;
  running = ap (λ (v : CoreView). v.dumper.running) b.new_is;
  stands = ap (λ (v : CoreView). v.standing) b.new_is;
  merger = ap (λ (v : CoreView). v.merger) b.new_is;
})
begin_as old sound rounds answer new (refused why may is) none = absurd (let no : Some why ≡ None = sym may ∙ none in cc)
begin_as old sound rounds answer new (no_slot may few is) none = subst (λ a. BeginsAs old rounds a new) (sym is.0) (few, is.1)
begin_as old sound rounds answer new (out_of_memory may is) none = subst (λ a. BeginsAs old rounds a new) (sym is.0) is.1
