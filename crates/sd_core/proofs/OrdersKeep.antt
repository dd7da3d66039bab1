-- Commands and orders keep what is believed of the store.
use Rattle.std.proofs.Common.{ℕ, Result, refl, sym, ◌∙◌, subst, inl}
use Rattle.sd_command.specs.declared.command.Command.{Command}
use Rattle.sd_command.specs.declared.refusal.Refusal.{Refusal}
use Rattle.sd_command.specs.declared.reply.Reply.{Reply}
use Rattle.sd_journal.specs.History.{pending}
use Rattle.sd_rounds.specs.Dumper.{HasSlot, serial_of_running}
use Rattle.sd_crash_safety.specs.Calls.{Stays}
use Rattle.sd_crash_safety.specs.CheckpointSteps.{CancellingIsBelieved}
use Rattle.sd_crash_safety.specs.CoreSteps.{CoreSteps}
use Rattle.sd_crash_safety.specs.MergerSteps.{MergeBeginningIsBelieved}
use Rattle.sd_crash_safety.specs.OpenerSteps.{OpenerSteps}
use Rattle.sd_crash_safety.specs.View.{CoreView, history_of}
use Rattle.sd_free_slots.specs.Taken.{FreeSlotsLaw}
use Rattle.sd_core.specs.Next.{Applies, BeginsMerge, Cancels, NextByCancel, NextByCommand, NextByMerge, NextByReopen, Reopens}
use Rattle.sd_core.specs.Next.{applies, journal_full, out_of_memory as command_finds_none}
use Rattle.sd_core.specs.Next.{begins, no_slot, out_of_memory, refused, cancels, reopens}
use Rattle.sd_core.specs.SoundView.{IsSoundView, parts_in}
use Rattle.sd_core.proofs.ApplyLemmas.{commanded, same_phases, stays_applied}
use Rattle.sd_core.proofs.BeginLemmas.{none_opens}
use Rattle.sd_core.proofs.CancelLemmas.{images_same, written_of}
use Rattle.sd_core.proofs.MergeBegin.{free_uncalled, may_merge}
use Rattle.sd_core.proofs.NextSound.{stays_as}
use Rattle.sd_core.proofs.OpeningLemmas.{stays_reopened}
use Rattle.sd_core.proofs.OwnLemmas.{makes_in, spared_of}
use Rattle.sd_core.proofs.RefusalLemmas.{may_cancel_now, may_reopen, nobody_rests}
use Rattle.sd_core.proofs.SlotLemmas.{IsFreeAt, free_unreached, free_unreserved, free_within}

-- ---- a command

pub applied_keeps : CoreSteps → (old : CoreView) → IsSoundView old → (seat : ℕ) (command : Command) (told : Reply) (new : CoreView) → Applies seat command old told new → Stays old new
applied_keeps steps old s seat command told new a = subst (Stays old) (sym a.new_is) (stays_applied steps old _ seat command told (record {
  store = record { base = refl; phases = refl; outs = refl; opener = refl; standing = refl; catalog = refl; grows = refl; committing = refl; dumper = refl; merger = refl; serial = refl };
  items = refl;
  memory = commanded (pending (history_of old)) command told old.memory a.memory s.memory a.answered;
}))

pub command_keeps : CoreSteps → (old : CoreView) → IsSoundView old → (seat : ℕ) (command : Command) (told : Result (ℕ × Reply) Refusal) (new : CoreView) → NextByCommand seat command old told new
    → Stays old new
command_keeps steps old s seat command told new (applies answer is a) = applied_keeps steps old s seat command answer new a
command_keeps steps old s seat command told new (journal_full full is same) = stays_as steps old new same
command_keeps steps old s seat command told new (command_finds_none room is same) = stays_as steps old new same

-- ---- a merge

stays_merging : FreeSlotsLaw → (old : CoreView) → IsSoundView old → MergeBeginningIsBelieved old.catalog → (new : CoreView) → BeginsMerge old new → Stays old new
stays_merging free old s law new b =
    let may = may_merge old b.may in
    let closed = none_opens old.opener old.standing old.phases s.is.opening may.stands in
    let f : IsFreeAt b.slots b.slot = record { place = 0; at = b.lowest } in
    let spared = (λ (has : HasSlot old.dumper.running b.slot). free_unreserved free old b.slots b.slot b.free f (inl has)) in
    subst (Stays old) (sym b.new_is) (record {
      base = refl;
      outs = refl;
      phases = same_phases old.outs old.phases;
      goes_on = λ asked bodies files believed. law _ _ b.tip b.slot _ asked bodies files (record {
        rest = record { stands = may.stands; base = refl; history = refl; memory = refl; closed = closed; grows = refl; committing = refl; dumper = refl; makes = makes_in old.dumper.since_freeze old.dumper.running s.orders };
        phases = refl;
        outs = refl;
        serial = refl;
        its_catalog = refl;
        catalog = refl;
        was = may.idle;
        is_tip = b.is_tip;
        within = free_within free old b.slots b.slot b.free f;
        spared = spared_of old.dumper.running b.slot spared;
        unreached = λ falls. free_unreached free old b.slots b.slot b.free f s.catalog falls;
        uncalled = λ falls. free_uncalled free old b.slots b.slot b.free f s.catalog falls;
        is = refl;
      }) believed;
    })

pub merge_keeps : FreeSlotsLaw → CoreSteps → (old : CoreView) → IsSoundView old → MergeBeginningIsBelieved old.catalog → (answer : Reply) (new : CoreView) → NextByMerge old answer new → Stays old new
merge_keeps free steps old s law answer new (begins is b) = stays_merging free old s law new b
merge_keeps free steps old s law answer new (refused why may is) = stays_as steps old new is.1
merge_keeps free steps old s law answer new (no_slot may few is) = stays_as steps old new is.1
merge_keeps free steps old s law answer new (out_of_memory may is) = stays_as steps old new is.1

-- ---- a checkpoint that is cancelled

stays_cancelled : CancellingIsBelieved → (old : CoreView) → IsSoundView old → (n : ℕ) (new : CoreView) → Cancels old n new → Stays old new
stays_cancelled law old s n new x =
    let may = may_cancel_now old x.may in
    subst (Stays old) (sym x.new_is) (record {
      base = refl;
      outs = refl;
      phases = same_phases old.outs old.phases;
      goes_on = λ asked bodies files believed. law _ _ n asked bodies files (record {
        base = refl;
        items = refl;
        memory = refl;
        phases = refl;
        outs = refl;
        standing = refl;
        serial = refl;
        closed = may.closed;
        free = may.rests;
        written = written_of (parts_in old s.room) s.is may.pages;
        sure = may.sure;
        merger = refl;
        images = images_same (serial_of_running old.dumper.running) old.catalog x.places x.released;
        grows = refl;
        is = refl;
      }) believed;
    })

pub cancel_keeps : CancellingIsBelieved → CoreSteps → (old : CoreView) → IsSoundView old → (answer : Reply) (new : CoreView) → NextByCancel old answer new → Stays old new
cancel_keeps law steps old s answer new (cancels n is x) = stays_cancelled law old s n new x
cancel_keeps law steps old s answer new (refused why may is) = stays_as steps old new is.1

-- ---- a store that is opened again

stays_opening : OpenerSteps → (old : CoreView) → IsSoundView old → (new : CoreView) → Reopens old new → Stays old new
stays_opening laws old s new x =
    let may = may_reopen old x.may in
    subst (Stays old) (sym x.new_is) (stays_reopened laws old _ x.opener (record {
      rest = record { closed = may.closed; base = refl; items = refl; memory = refl; standing = refl; catalog = refl; dumper = refl; numbers = refl; grows = refl; committing = refl };
      outs = refl;
      none = nobody_rests (parts_in old s.room) s.is may.rest;
      phases = refl;
      is = refl;
      slots = x.fresh.count;
      told = x.fresh.told;
      stage = x.fresh.stage;
      sees = λ files count. x.fresh.sees files (count ∙ x.fresh.count);
    }))

pub reopen_keeps : OpenerSteps → CoreSteps → (old : CoreView) → IsSoundView old → (answer : Reply) (new : CoreView) → NextByReopen old answer new → Stays old new
reopen_keeps laws steps old s answer new (reopens is x) = stays_opening laws old s new x
reopen_keeps laws steps old s answer new (refused why may is) = stays_as steps old new is.1
reopen_keeps laws steps old s answer new (out_of_memory may is) = stays_as steps old new is.1
