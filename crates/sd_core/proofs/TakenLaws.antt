-- What is said of a step of a worker, by the step.
use Rattle.std.proofs.Common.{◌≡◌, Some, refl, arith, rules}
use Rattle.sd_command.specs.declared.refusal.Refusal.{Refusal}
use Rattle.sd_command.specs.declared.reply.Reply.TheVariants as reply
use Rattle.sd_gate.specs.declared.worker.Worker.{Worker}
use Rattle.sd_gate.specs.declared.worker.Worker.TheVariants.{Dumper, Merger, Opener}
use Rattle.sd_crash_safety.specs.CoreSteps.{CoreSteps}
use Rattle.sd_crash_safety.specs.View.{CoreView}
use Rattle.sd_core.specs.declared.taken.Taken.{Taken}
use Rattle.sd_core.specs.declared.taken.Taken.TheVariants.{Step}
use Rattle.sd_core.specs.Beside.{LeavesOthers, StepsBeside}
use Rattle.sd_core.specs.Called.{IsTakenUp}
use Rattle.sd_core.specs.Counted.{counted_by_step}
use Rattle.sd_core.specs.Flags.{FlagsByStep}
use Rattle.sd_core.specs.Kept.{KeepsImagesOpen}
use Rattle.sd_core.specs.Lasting.{FixesNoList, MergeLasts}
use Rattle.sd_core.specs.Next.{NextByDumper, NextByMerger, NextByOpener, NextByWork, refused}
use Rattle.sd_core.specs.Noted.{NotesBy}
use Rattle.sd_core.specs.Refusals.{work_refusal}
use Rattle.sd_core.specs.Rounds.{SameRound}
use Rattle.sd_core.specs.SoundView.{IsSoundView}
use Rattle.sd_core.proofs.NextLaws.{notes_all}
use Rattle.sd_core.proofs.RoundLemmas.{same_round}

-- ---- one that is refused

refused_by : (core : CoreView) (worker : Worker) (why : Refusal) → work_refusal core worker ≡ Some why → NextByWork worker core (Step (reply.Refused why)) core
refused_by core Dumper why is = refused why is refl refl
refused_by core Merger why is = refused why is refl refl
refused_by core Opener why is = refused why is refl refl

pub taken_refused : CoreSteps → (core : CoreView) (worker : Worker) (why : Refusal) → work_refusal core worker ≡ Some why → IsTakenUp worker core (Step (reply.Refused why)) core
taken_refused steps core worker why is = record {
  step = refused_by core worker why is;
  takes = search rules;
  refused = search rules;
  leaves = search rules;
  lasts = search rules;
  fixes = search rules;
  finds = search rules;
  rounds = λ dumper. same_round core.dumper.running;
  flags = search rules;
  beside = search rules;
  refuses = search rules;
  scans = search rules;
  opens = search rules;
  shows = search rules;
}

-- ---- one of the dumper

pub dumper_flags : (old : CoreView) (made : Taken) (new : CoreView) → NextByDumper old made new → FlagsByStep old Dumper made new
dumper_flags old made new step = grind arith

dumper_others : (old : CoreView) (made : Taken) (new : CoreView) → NextByDumper old made new → LeavesOthers Dumper old new
dumper_others old made new step = grind arith

pub dumper_rounds : (old : CoreView) (made : Taken) (new : CoreView) → NextByDumper old made new → SameRound old.dumper.running new.dumper.running
dumper_rounds old made new step = grind arith

dumper_images : (old : CoreView) (made : Taken) (new : CoreView) → NextByDumper old made new → KeepsImagesOpen old made new
dumper_images old made new step = grind arith

dumper_counted : (old : CoreView) (made : Taken) (new : CoreView) → IsSoundView old → NextByDumper old made new → new.dumper.since_freeze ≡ counted_by_step old new
dumper_counted old made new sound step = grind arith

pub dumper_beside : (old : CoreView) (made : Taken) (new : CoreView) → IsSoundView old → NextByDumper old made new → StepsBeside Dumper old made new
dumper_beside old made new sound step = record {
  others = dumper_others old made new step;
  notes = notes_all made old new step;
  images = dumper_images old made new step;
  counted = dumper_counted old made new sound step;
}

-- ---- one of the merger

pub merger_flags : (old : CoreView) (made : Taken) (new : CoreView) → NextByMerger old made new → FlagsByStep old Merger made new
merger_flags old made new step = grind arith

merger_notes : (old : CoreView) (made : Taken) (new : CoreView) → NextByMerger old made new → NotesBy Merger old made new
merger_notes old made new step = grind arith

merger_others : (old : CoreView) (made : Taken) (new : CoreView) → NextByMerger old made new → LeavesOthers Merger old new
merger_others old made new step = grind arith

pub merger_lasts : (old : CoreView) (made : Taken) (new : CoreView) → NextByMerger old made new → MergeLasts old new
merger_lasts old made new step = grind arith

pub merger_fixes : (old : CoreView) (made : Taken) (new : CoreView) → NextByMerger old made new → FixesNoList old new
merger_fixes old made new step = grind arith

merger_images : (old : CoreView) (made : Taken) (new : CoreView) → NextByMerger old made new → KeepsImagesOpen old made new
merger_images old made new step = grind arith

merger_counted : (old : CoreView) (made : Taken) (new : CoreView) → NextByMerger old made new → new.dumper.since_freeze ≡ counted_by_step old new
merger_counted old made new step = grind arith

pub merger_beside : (old : CoreView) (made : Taken) (new : CoreView) → NextByMerger old made new → StepsBeside Merger old made new
merger_beside old made new step = record {
  others = merger_others old made new step;
  notes = merger_notes old made new step;
  images = merger_images old made new step;
  counted = merger_counted old made new step;
}

-- ---- one of the opener

pub opener_flags : (old : CoreView) (made : Taken) (new : CoreView) → NextByOpener old made new → FlagsByStep old Opener made new
opener_flags old made new step = grind arith

opener_notes : (old : CoreView) (made : Taken) (new : CoreView) → NextByOpener old made new → NotesBy Opener old made new
opener_notes old made new step = grind arith

opener_others : (old : CoreView) (made : Taken) (new : CoreView) → NextByOpener old made new → LeavesOthers Opener old new
opener_others old made new step = grind arith

opener_images : (old : CoreView) (made : Taken) (new : CoreView) → NextByOpener old made new → KeepsImagesOpen old made new
opener_images old made new step = grind arith

opener_counted : (old : CoreView) (made : Taken) (new : CoreView) → NextByOpener old made new → new.dumper.since_freeze ≡ counted_by_step old new
opener_counted old made new step = grind arith

pub opener_beside : (old : CoreView) (made : Taken) (new : CoreView) → NextByOpener old made new → StepsBeside Opener old made new
opener_beside old made new step = record {
  others = opener_others old made new step;
  notes = opener_notes old made new step;
  images = opener_images old made new step;
  counted = opener_counted old made new step;
}
