-- The dumper's steps, as the calls of a core say them.
use Rattle.std.proofs.Common.{◌≡◌, ℕ, ◌<◌, List, length, Option, Some, slice_get, slice_set, refl, sym, ◌∙◌, ap, subst, inl, inr, arith}
use Rattle.sd_gate.specs.declared.request_id.RequestId.{RequestId}
use Rattle.sd_gate.specs.declared.phase.Phase.{Phase}
use Rattle.sd_gate.specs.declared.worker.Worker.TheVariants.{Dumper}
use Rattle.sd_gate.specs.Requests.{Asked}
use Rattle.sd_command.specs.declared.reply.Reply.TheVariants as reply
use Rattle.sd_journal.specs.Marked.{entries_of}
use Rattle.sd_rounds.specs.declared.image_step.ImageStep.{ImageStep}
use Rattle.sd_rounds.specs.declared.image_step.ImageStep.TheVariants.{Call}
use Rattle.sd_rounds.specs.Dumper.{Running}
use Rattle.sd_gate.specs.PlanUse.{IsAskedBy}
use Rattle.sd_rounds.specs.Making.{Making}
use Rattle.sd_writing.specs.Entries.{data_pages}
use Rattle.sd_crash_safety.specs.Believes.{Believes}
use Rattle.sd_crash_safety.specs.Calls.{AreGivenUp, HandsOut, IsFree, MakesStep, running_number}
use Rattle.sd_crash_safety.specs.DumperSteps.{AsksFor, AsksToWrite, BeginsImage, DumperSteps, FreezesMemory, IsOnPages, WorksOnMemory}
use Rattle.sd_crash_safety.specs.View.{CoreView, page_lane}
use Rattle.sd_core.proofs.ApplyLemmas.{same_phases}

-- a device call is asked for
pub hands_asked : (old new : CoreView) (running : Running) (image next : Making) (number : ℕ) (step : ImageStep) (request : Asked)
    → AsksFor old running image number step request next new → IsAskedBy Dumper number request → request.id.slot < length old.phases
    → ((asked : List (Option Asked)) (bodies files : List (List ℕ)) → AsksFor old running image number step request next new → Believes old asked bodies files
    → Believes new (slice_set asked 0 (Some request)) bodies files)
    → HandsOut old Dumper request new
hands_asked old new running image next number step request a whose slot goes = grind arith

-- the write of a page
pub hands_page : DumperSteps → (old new : CoreView) (running : Running) (image next : Making) (number lane : ℕ) (request : Asked)
    → AsksToWrite old running image number lane request next new → IsAskedBy Dumper number request → request.id.slot < length old.phases
    → ((other_lane : ℕ) (other : RequestId) → slice_get old.outs other_lane ≡ Some (Some other) → other.slot ≡ request.id.slot → 2 < other_lane)
    → HandsOut old Dumper request new
hands_page steps old new running image next number lane request a whose slot beside = record {
  lane = page_lane lane;
  free = a.free;
  base = a.rest.base;
  history = a.history;
  phases = a.phases;
  outs = a.outs;
  whose = whose.worker;
  slot = slot;
  apart = a.apart;
  pages = λ some. record { on = refl; place = data_pages image.pass.entries; call = a.steps.0.call; whole = a.steps.0.taken.whole };
  beside = λ other_lane other out same. (omega arith, beside other_lane other out same);
  goes_on = λ asked bodies files b. steps.writes_page old new running image next number lane request asked bodies files a b;
}

-- a page is visited, or a sector copied
pub works_on : DumperSteps → (old new : CoreView) (running : Running) (image next : Making) (number : ℕ) (step : ImageStep) → IsOnPages step
    → WorksOnMemory old running image number step next new → MakesStep old Dumper reply.Worked new
works_on steps old new running image next number step on works = record {
  keeps = inl (record {
    base = works.rest.base;
    outs = works.outs;
    phases = subst (λ p. AreGivenUp new.outs old.phases p) (sym works.phases) (same_phases new.outs old.phases);
    goes_on = λ asked bodies files b. steps.works old new running image next number step asked bodies files on works b;
  });
  adds = inl works.history;
}

-- the memory is frozen
pub freezes_it : DumperSteps → (old new : CoreView) (running : Running) (image next : Making) (number : ℕ) → FreezesMemory old running image number next new
    → MakesStep old Dumper reply.Worked new
freezes_it steps old new running image next number f = record {
  keeps = inl (record {
    base = f.rest.base;
    outs = f.outs;
    phases = subst (λ p. AreGivenUp new.outs old.phases p) (sym f.phases) (same_phases new.outs old.phases);
    goes_on = λ asked bodies files b. steps.freezes old new running image next number asked bodies files f b;
  });
  adds = inr (running.number, record { dumper = refl; number = ap running_number f.was }, ap entries_of f.items);
}

-- the next image begins, and asks for its first call
pub begins_asking : DumperSteps → (old mid new : CoreView) (running : Running) (phase : Phase) (image next : Making) (number : ℕ) (request : Asked)
    → BeginsImage old running phase mid → AsksFor mid (record running { image = Some image }) image number (Call request) request next new
    → IsAskedBy Dumper number request → request.id.slot < length old.phases → HandsOut old Dumper request new
begins_asking steps old mid new running phase image next number request b a whose slot = record {
  lane = 0;
  free = ap (λ outs. slice_get outs 0) (sym b.outs) ∙ a.free;
  base = a.rest.base ∙ b.rest.base;
  history = a.history ∙ b.history;
  phases = a.phases ∙ b.phases;
  outs = a.outs ∙ ap (λ outs. slice_set outs 0 (Some request.id)) b.outs;
  whose = whose.worker;
  slot = slot;
  apart = λ lane other out same. absurd (subst (λ outs. IsFree outs request.id.slot) b.outs a.apart lane other out same);
  pages = λ few. absurd (omega (arith, few));
  beside = λ lane other out same. absurd (subst (λ outs. IsFree outs request.id.slot) b.outs a.apart lane other out same);
  goes_on = λ asked bodies files believed.
      steps.asks mid new (record running { image = Some image }) image next number request asked bodies files a
      (steps.begins_image old mid running phase asked bodies files b believed);
}
