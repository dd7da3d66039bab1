-- A command that is applied and journaled.
use Rattle.std.proofs.Common.{◌≡◌, ℕ, Bool, List, ◌∷◌, Option, Some, None, is_some, refl, sym, subst, inl, arith}
use Rattle.sd_gate.specs.declared.phase.Phase.{Phase}
use Rattle.sd_gate.specs.declared.request_id.RequestId.{RequestId}
use Rattle.sd_command.specs.declared.command.Command.{Command}
use Rattle.sd_command.specs.declared.refusal.Refusal.TheVariants.{Frozen}
use Rattle.sd_command.specs.declared.reply.Reply.{Reply}
use Rattle.sd_command.specs.declared.reply.Reply.TheVariants.{Bytes, Refused}
use Rattle.sd_command.specs.Events.{event_of}
use Rattle.sd_journal.specs.declared.entry.Entry.TheVariants.{Applied}
use Rattle.sd_journal.specs.History.{Base, pending}
use Rattle.sd_journal.specs.Marked.{Told, Marked, IsTracked, entries_of}
use Rattle.sd_journal.specs.TrackedLaws.{TrackedLaws}
use Rattle.sd_pagetable.specs.Contents.{Contents, IsSound}
use Rattle.sd_pagetable.specs.Tracking.{Step}
use Rattle.sd_crash_safety.specs.CoreSteps.{CoreSteps, IsCommanded, JournalsCommand, SameCore}
use Rattle.sd_crash_safety.specs.Calls.{AreGivenUp, Stays}
use Rattle.sd_crash_safety.specs.View.{CoreView}
use Rattle.sd_core.specs.Answering.{IsAnswered}

-- ---- what a reply with bytes changes: nothing

load_passes : (command : Command) (bytes : List ℕ) (old new : Contents) → Step old (event_of command (Bytes bytes)) new → new ≡ old
load_passes command bytes old new step = grind arith

pub bytes_pass : (frozen : Bool) (command : Command) (reply : Reply) (bytes : List ℕ) (old new : Contents) → reply ≡ Bytes bytes
    → IsAnswered frozen command reply old new → new ≡ old
bytes_pass frozen command reply bytes old new is told = grind arith

-- ---- the memory stays tracked

pub tracked_on : TrackedLaws → (base : Base) (items : Marked) (old new : Contents) (seat : ℕ) (command : Command) (reply : Reply) (waiting : Option ℕ)
    → waiting ≡ pending (entries_of items) → IsSound old → IsTracked base items old → IsAnswered (is_some waiting) command reply old new
    → IsTracked base (Told (Applied seat command reply) ∷ items) new
tracked_on laws base items old new seat command reply None none sound was told =
    laws.applied base items old new seat command reply sound was (sym none) told.legal told.step
tracked_on laws base items old new seat command reply (Some n) some sound was told =
    subst (λ r. IsTracked base (Told (Applied seat command r) ∷ items) new) (sym told.0)
    (subst (IsTracked base (Told (Applied seat command (Refused Frozen)) ∷ items)) (sym told.1) (laws.frozen base items old seat n command was (sym some)))

-- ---- what is believed

pub same_phases : (outs : List (Option RequestId)) (phases : List Phase) → AreGivenUp outs phases phases
same_phases outs phases = record { count = refl; each = λ slot phase at. (phase, at, inl refl) }

-- nothing that is known of the store changed
pub stays_same : CoreSteps → (old new : CoreView) → SameCore old new → Stays old new
stays_same steps old new same = record {
  base = same.store.base;
  outs = same.store.outs;
  phases = subst (λ p. AreGivenUp new.outs old.phases p) (sym same.store.phases) (same_phases new.outs old.phases);
  goes_on = λ asked bodies files b. steps.same old new asked bodies files same b;
}

-- a command was journaled
pub stays_applied : CoreSteps → (old new : CoreView) (seat : ℕ) (command : Command) (reply : Reply) → JournalsCommand old seat command reply new → Stays old new
stays_applied steps old new seat command reply a = record {
  base = a.store.base;
  outs = a.store.outs;
  phases = subst (λ p. AreGivenUp new.outs old.phases p) (sym a.store.phases) (same_phases new.outs old.phases);
  goes_on = λ asked bodies files b. steps.applied old new seat command reply asked bodies files a b;
}

-- what the memory does, by what is pending
pub commanded : (waiting : Option ℕ) (command : Command) (reply : Reply) (old new : Contents) → IsSound old → IsAnswered (is_some waiting) command reply old new
    → IsCommanded waiting command reply old new
commanded waiting command reply old new sound answered = grind arith
