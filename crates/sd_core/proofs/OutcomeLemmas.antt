-- The outcomes of a dumper's calls.
use Rattle.std.proofs.Common.{◌≡◌, ℕ, ◌≤◌, ◌==◌, Bool, true, false, if◌then◌else◌, List, length, Option, Some, None, slice_get, slice_set, refl, sym, ◌∙◌, ap, subst, arith}
use Rattle.std.proofs.lemmas.Option.{same_Some}
use Rattle.sd_chain.specs.Catalog.{Changes, IsHeld, Opened, Places, place_of}
use Rattle.sd_gate.specs.declared.phase.Phase.{Phase}
use Rattle.sd_gate.specs.Calls.{is_done}
use Rattle.sd_gate.specs.Phases.{bodies_after, phases_after}
use Rattle.sd_gate.specs.Requests.{Asked, Made}
use Rattle.sd_command.specs.declared.reply.Reply.{Reply}
use Rattle.sd_crash_safety.specs.Believes.{Believes}
use Rattle.sd_crash_safety.specs.Calls.{AddsByOutcome, AreGivenUp, HandedIn}
use Rattle.sd_crash_safety.specs.DumperOutcomes.{IsDumpersOutcome, LeavesCatalog}
use Rattle.sd_crash_safety.specs.View.{CoreView, history_of}
use Rattle.sd_core.specs.declared.numbers.Numbers.{Numbers}
use Rattle.sd_core.specs.Sound.{CheckpointsAreCounted}
use Rattle.sd_core.proofs.ApplyLemmas.{same_phases}

-- ---- as the calls of a core say it

pub handed_dumper : (old new : CoreView) (lane : ℕ) (made : Made) (phase : Phase) (answer : Reply) → IsDumpersOutcome old lane made phase new
    → length new.phases ≡ length old.phases
    → ((asked : List (Option Asked)) (bodies files : List (List ℕ)) → slice_get asked lane ≡ Some (Some made.request) → Believes old asked bodies files
    → Believes new (slice_set asked lane None) (bodies_after bodies made.request.id made.request.bytes) files)
    → AddsByOutcome made.request.id.worker answer (history_of old) (history_of new) → HandedIn old lane made answer new
handed_dumper old new lane made phase answer o count goes adds = record {
  base = o.base;
  outs = o.outs;
  count = count;
  phases = λ other waits.
      let same : phase ≡ other = same_Some phase other (sym o.phase_is ∙ waits.is) in
      let now = o.phases ∙ ap (λ p. phases_after old.phases made.request.id p (is_done made.answer)) same in
      subst (λ p. AreGivenUp new.outs (phases_after old.phases made.request.id other (is_done made.answer)) p) (sym now)
      (same_phases new.outs (phases_after old.phases made.request.id other (is_done made.answer)));
  goes_on = λ asked bodies files at told b. goes asked bodies files at b;
  adds = adds;
}

-- ---- images that leave the catalog

pub left_held : (closed : Bool) (slot : ℕ) (old new : Places) (serial : ℕ) → LeavesCatalog closed slot old new → IsHeld old serial → IsHeld new serial
left_held closed slot old new serial leaves held = grind arith

pub left_counted : (closed : Bool) (slot : ℕ) (old new : Places) (numbers : Numbers) → LeavesCatalog closed slot old new → CheckpointsAreCounted numbers old → CheckpointsAreCounted numbers new
left_counted closed slot old new numbers leaves was serial o at = grind arith

-- ---- an image that is open

-- a place changes to that of an image whose checkpoint was begun
pub counted_opened : (numbers : Numbers) (old new : Places) (serial : ℕ) (o : Opened) → Changes old new serial (Some (Some o)) → o.header.checkpoint ≤ numbers.checkpoint
    → CheckpointsAreCounted numbers old → CheckpointsAreCounted numbers new
counted_opened numbers old new serial o changes below was s other at = go (serial == s) refl (sym (changes s) ∙ at)
  where
    go : (b : Bool) → (serial == s) ≡ b → (if b then Some (Some o) else place_of old s) ≡ Some (Some other) → other.header.checkpoint ≤ numbers.checkpoint
    go true is e = subst (λ (i : Opened). i.header.checkpoint ≤ numbers.checkpoint) (same_Some o other (same_Some (Some o) (Some other) e)) below
    go false is e = was s other e

-- ---- the acknowledgement
