-- What is said of an outcome that is handed in, by its step: where the core is sound before it and after it.
use Rattle.std.proofs.Common.{◌≡◌, ◌≢◌, ℕ, true, false, refl, sym, ◌∙◌, ap, subst, arith, rules, is_none, slice_get, Some}
use Rattle.std.proofs.lemmas.Bool.{both_ways}
use Rattle.sd_command.specs.declared.refusal.Refusal.TheVariants.{Idle, StoreDown}
use Rattle.sd_command.specs.declared.reply.Reply.{Reply}
use Rattle.sd_command.specs.declared.reply.Reply.TheVariants as reply
use Rattle.sd_gate.specs.declared.worker.Worker.{Worker}
use Rattle.sd_gate.specs.declared.worker.Worker.TheVariants.{Dumper, Merger, Opener}
use Rattle.sd_gate.specs.Calls.{is_done}
use Rattle.sd_gate.specs.Requests.{Made}
use Rattle.sd_journal.specs.TrackedLaws.{MustDumpLaws, TrackedLaws}
use Rattle.sd_merge.specs.Left as merge_left
use Rattle.sd_opener.specs.Looking.{IsDoneAsAsked}
use Rattle.sd_pagetable.specs.Law.{PlainLaw}
use Rattle.sd_rounds.specs.Left.{LeftLaws}
use Rattle.sd_rounds.specs.LittleWork.{LittleLaws}
use Rattle.sd_crash_safety.specs.Calls.{HandedIn, IsOut}
use Rattle.sd_crash_safety.specs.DumperOutcomes.{DumperOutcomes}
use Rattle.sd_crash_safety.specs.MergerOutcomes.{MergerOutcomes}
use Rattle.sd_crash_safety.specs.OpenerSteps.{OpenerSteps}
use Rattle.sd_crash_safety.specs.View.{CoreView}
use Rattle.sd_core.specs.Beside.{HandsBeside, LeavesOthers}
use Rattle.sd_core.specs.Called.{IsHandedIn}
use Rattle.sd_core.specs.Counted.{counted_by_outcome}
use Rattle.sd_core.specs.Flags.{FlagsByOutcome}
use Rattle.sd_core.specs.Lasting.{MergeLasts}
use Rattle.sd_core.specs.LittleWork.{OpensPreDump}
use Rattle.sd_core.specs.Next.{ComesLate, NextByDumpersOutcome, NextByMergersOutcome, NextByOpenersOutcome, NextByOutcome, late, of_dumper, of_merger, of_opener, strange}
use Rattle.sd_core.specs.Noted.{KeepsMarks}
use Rattle.sd_core.specs.Refusals.{is_idle}
use Rattle.sd_core.specs.SoundView.{IsSoundView, parts_in}
use Rattle.sd_core.specs.Working.{LeavesByOutcome}
use Rattle.sd_core.proofs.CoreLemmas.{alone_is}
use Rattle.sd_core.proofs.FallenLemmas.{runs_by}
use Rattle.sd_core.proofs.NextLooking.{late_handed, late_other, opener_handed}
use Rattle.sd_core.proofs.NextMerging.{merge_copies, merge_cuts, merge_handed_out, merge_images, merge_lasts, merge_lists, merge_merged, merge_opens, merge_rests, merge_retires}
use Rattle.sd_core.proofs.NextOutcomes.{gates_out, handed_out, images, little, round, rounds}
use Rattle.sd_core.proofs.OutcomesLeave.{acked, dumper_fails, dumper_outcome_leaves, late_leaves, merger_fails, merger_outcome_leaves, opener_fails, opener_outcome_leaves}
use Rattle.sd_core.proofs.RoundLemmas.{late_turns, none_enters}

-- the laws that they rest on
pub record OutcomeLaws (new : CoreView) : Type 0 where
  pub dumper : DumperOutcomes
  pub merger : MergerOutcomes new.catalog
  pub opener : OpenerSteps
  pub tracked : TrackedLaws
  pub due : MustDumpLaws
  pub little : LittleLaws
  pub left : LeftLaws
  pub merge_left : merge_left.LeftLaws
  pub plain : PlainLaw

-- a merge that stays is the same
same_lasts : (core : CoreView) → MergeLasts core core
same_lasts core merge next was is = grind arith

-- no worker is two
another : {P : Type 0} (w one other : Worker) → w ≡ one → w ≡ other → one ≢ other → P
another w one other is also differs = absurd (differs (sym is ∙ also))

module _ (old : CoreView) (sound : IsSoundView old) (made : Made) (answer : Reply) (new : CoreView) (after : IsSoundView new) (laws : OutcomeLaws new) where
  -- ---- the dumper's

  module _ (step : NextByDumpersOutcome old made answer new) where
    dumper_out : IsOut old made.request.id
    dumper_out = grind arith

    dumper_whose : made.request.id.worker ≡ Dumper
    dumper_whose = grind arith

    dumper_busy : is_idle old Dumper ≡ false
    dumper_busy = grind arith

    never_merges : (serial : ℕ) → answer ≢ reply.Merged serial
    never_merges serial = grind arith

    dumper_flags : FlagsByOutcome old answer new
    dumper_flags = grind arith

    dumper_marks : KeepsMarks old new
    dumper_marks = grind arith

    dumper_counted : new.dumper.since_freeze ≡ counted_by_outcome old Dumper
    dumper_counted = grind arith

    dumper_lasts : MergeLasts old new
    dumper_lasts = grind arith

    dumper_others : is_done made.answer ≡ true → LeavesOthers Dumper old new
    dumper_others done = grind arith

    pub dumper_handed : IsHandedIn made answer old new
    dumper_handed =
        let fails = dumper_fails old sound made answer new step in
        record {
          step = of_dumper step;
          strange = λ no. absurd (no dumper_out);
          handed = λ out. handed_out old sound made new after laws.dumper laws.tracked answer step out;
          failed = λ out failed. fails.0 failed;
          down = λ out other busy is. fails.1 is;
          late = λ out idle. absurd (both_ways (is_idle old made.request.id.worker) (ap (is_idle old) dumper_whose ∙ dumper_busy) idle);
          goes_on = λ out opener as_asked. another _ Dumper Opener dumper_whose opener (λ no. cc);
          leaves = λ out. subst (λ w. LeavesByOutcome old w answer new) (sym dumper_whose) (dumper_outcome_leaves old sound made laws.left answer new step);
          lasts = dumper_lasts;
          acked = λ n out. acked old sound made new after answer step n;
          little = λ n out. little old sound made new after laws.little laws.plain laws.due answer step n;
          round = λ out dumper. round old sound made new after laws.little answer step;
          rounds = λ out dumper. rounds old sound made new after answer step;
          gates = λ out dumper. gates_out old sound made new after laws.dumper answer step out;
          merged = λ serial out is. absurd (never_merges serial is);
          opens = λ out merger. another _ Dumper Merger dumper_whose merger (λ no. cc);
          lists = λ out merger. another _ Dumper Merger dumper_whose merger (λ no. cc);
          retires = λ out merger. another _ Dumper Merger dumper_whose merger (λ no. cc);
          copies = λ out merger. another _ Dumper Merger dumper_whose merger (λ no. cc);
          rests = λ out merger. another _ Dumper Merger dumper_whose merger (λ no. cc);
          cuts = λ serial out is. absurd (never_merges serial is);
          flags = dumper_flags;
          beside = λ out. record {
            others = λ done. subst (λ w. LeavesOthers w old new) (sym dumper_whose) (dumper_others done);
            marks = dumper_marks;
            images = images old sound made new after answer step;
            counted = λ busy. dumper_counted ∙ ap (counted_by_outcome old) (sym dumper_whose);
          };
        }

  -- ---- the merger's

  module _ (step : NextByMergersOutcome old made answer new) where
    merger_out : IsOut old made.request.id
    merger_out = grind arith

    merger_whose : made.request.id.worker ≡ Merger
    merger_whose = grind arith

    merger_busy : is_idle old Merger ≡ false
    merger_busy = grind arith

    never_acks : (n : ℕ) → answer ≢ reply.Acked n
    never_acks n = grind arith

    merger_flags : FlagsByOutcome old answer new
    merger_flags = grind arith

    merger_marks : KeepsMarks old new
    merger_marks = grind arith

    merger_counted : new.dumper.since_freeze ≡ old.dumper.since_freeze
    merger_counted = grind arith

    merger_others : is_done made.answer ≡ true → LeavesOthers Merger old new
    merger_others done = grind arith

    pub merger_handed : IsHandedIn made answer old new
    merger_handed =
        let fails = merger_fails old sound made answer new step in
        record {
          step = of_merger step;
          strange = λ no. absurd (no merger_out);
          handed = λ out. merge_handed_out old sound made new after laws.merger answer step out;
          failed = λ out failed. fails.0 failed;
          down = λ out other busy is. fails.1 is;
          late = λ out idle. absurd (both_ways (is_idle old made.request.id.worker) (ap (is_idle old) merger_whose ∙ merger_busy) idle);
          goes_on = λ out opener as_asked. another _ Merger Opener merger_whose opener (λ no. cc);
          leaves = λ out. subst (λ w. LeavesByOutcome old w answer new) (sym merger_whose) (merger_outcome_leaves old sound made laws.merge_left answer new step);
          lasts = merge_lasts old sound made new after answer step;
          acked = λ n out is. absurd (never_acks n is);
          little = λ n out is. absurd (never_acks n is);
          round = λ out dumper. another _ Merger Dumper merger_whose dumper (λ no. cc);
          rounds = λ out dumper. another _ Merger Dumper merger_whose dumper (λ no. cc);
          gates = λ out dumper. another _ Merger Dumper merger_whose dumper (λ no. cc);
          merged = λ serial out. merge_merged old sound made new after answer step serial;
          opens = λ out merger. merge_opens old sound made new after answer step;
          lists = λ out merger. merge_lists old sound made new after answer step;
          retires = λ out merger. merge_retires old sound made new after laws.merger answer step;
          copies = λ out merger. merge_copies old sound made new after laws.merger answer step;
          rests = λ out merger. merge_rests old sound made new after laws.merger answer step;
          cuts = λ serial out. merge_cuts old sound made new after laws.merger answer step serial;
          flags = merger_flags;
          beside = λ out. record {
            others = λ done. subst (λ w. LeavesOthers w old new) (sym merger_whose) (merger_others done);
            marks = merger_marks;
            images = merge_images old sound made new after answer step;
            counted = λ busy. merger_counted ∙ ap (counted_by_outcome old) (sym merger_whose);
          };
        }

  -- ---- the opener's

  module _ (step : NextByOpenersOutcome old made answer new) where
    opener_out : IsOut old made.request.id
    opener_out = grind arith

    opener_whose : made.request.id.worker ≡ Opener
    opener_whose = grind arith

    opener_merger : new.merger ≡ old.merger
    opener_merger = grind arith

    opener_ends_none : (n : ℕ) → answer ≢ reply.Acked n
    opener_ends_none n = grind arith

    opener_merges_none : (n : ℕ) → answer ≢ reply.Merged n
    opener_merges_none n = grind arith

    opener_goes_on : IsDoneAsAsked made → answer ≡ reply.Worked
    opener_goes_on as_asked = grind arith

    opener_flags : FlagsByOutcome old answer new
    opener_flags = grind arith

    opener_beside : HandsBeside made old new
    opener_beside = grind arith

    opener_lasts : MergeLasts old new
    opener_lasts = grind arith

    opener_at : slice_get old.outs 2 ≡ Some (Some made.request.id)
    opener_at = grind arith

    opener_busy : is_idle old Opener ≡ false
    opener_busy = ap is_none (runs_by old.opener made.request.id (alone_is (parts_in old sound.room) made.request.id sound.is opener_at).0).1

    pub opener_is_handed : IsHandedIn made answer old new
    opener_is_handed = record {
      step = of_opener step;
      strange = λ no. absurd (no opener_out);
      handed = λ out. opener_handed old sound made laws.opener answer new step out;
      failed = λ out failed. opener_fails old sound made answer new step failed;
      down = λ out other busy is. absurd (other opener_whose);
      late = λ out idle. absurd (both_ways (is_idle old made.request.id.worker) (ap (is_idle old) opener_whose ∙ opener_busy) idle);
      goes_on = λ out opener as_asked. opener_goes_on as_asked;
      leaves = λ out. subst (λ w. LeavesByOutcome old w answer new) (sym opener_whose) (opener_outcome_leaves old sound made answer new step);
      lasts = opener_lasts;
      acked = λ n out is. absurd (opener_ends_none n is);
      little = λ n out is. absurd (opener_ends_none n is);
      round = λ out dumper. another _ Opener Dumper opener_whose dumper (λ no. cc);
      rounds = λ out dumper. another _ Opener Dumper opener_whose dumper (λ no. cc);
      gates = λ out dumper. another _ Opener Dumper opener_whose dumper (λ no. cc);
      merged = λ serial out is. absurd (opener_merges_none serial is);
      opens = λ out merger. another _ Opener Merger opener_whose merger (λ no. cc);
      lists = λ out merger. another _ Opener Merger opener_whose merger (λ no. cc);
      retires = λ out merger. another _ Opener Merger opener_whose merger (λ no. cc);
      copies = λ out merger. another _ Opener Merger opener_whose merger (λ no. cc);
      rests = λ out merger. another _ Opener Merger opener_whose merger (λ no. cc);
      cuts = λ serial out is. absurd (opener_merges_none serial is);
      flags = opener_flags;
      beside = λ out. opener_beside;
    }

  -- ---- one that comes late

  module _ (told : answer ≡ reply.Refused StoreDown) (step : ComesLate old made new) where
    late_out : IsOut old made.request.id
    late_out = record { lane = step.lane; is = step.out }

    late_not : (other : Reply) → other ≢ reply.Refused StoreDown → answer ≢ other
    late_not other differs is = differs (sym is ∙ told)

    late_flags : FlagsByOutcome old answer new
    late_flags = grind arith

    late_beside : HandsBeside made old new
    late_beside = grind arith

    late_lasts : MergeLasts old new
    late_lasts = grind arith

    opens_none : (running : _) → OpensPreDump running old new → ⊥
    opens_none running opens = grind arith

    late_left : LeavesByOutcome old made.request.id.worker answer new
    late_left = subst (λ a. LeavesByOutcome old made.request.id.worker a new) (sym told) (late_leaves old sound made new step)

    idle_dumper : made.request.id.worker ≡ Dumper → is_none old.dumper.running ≡ true
    idle_dumper is = ap (is_idle old) (sym is) ∙ step.idle

    pub late_is_handed : IsHandedIn made answer old new
    late_is_handed = record {
      step = late told step;
      strange = λ no. absurd (no late_out);
      handed = λ out. subst (λ a. HandedIn old out.lane made a new) (sym told) (late_handed old sound made laws.dumper laws.merger new step out);
      failed = λ out failed. told;
      down = λ out other busy is. absurd (both_ways (is_idle old made.request.id.worker) busy step.idle);
      late = λ out idle. told;
      goes_on = λ out opener as_asked. absurd (late_other old sound made new step opener);
      leaves = λ out. late_left;
      lasts = late_lasts;
      acked = λ n out is. absurd (late_not (reply.Acked n) (λ no. cc) is);
      little = λ n out is. absurd (late_not (reply.Acked n) (λ no. cc) is);
      round = λ out dumper running opens. absurd (opens_none running opens);
      rounds = λ out dumper. late_turns made.request.id.worker old new answer told late_left;
      gates = λ out dumper running asked bodies files enters at b. absurd (none_enters running old new answer (idle_dumper dumper) enters);
      merged = λ serial out is. absurd (late_not (reply.Merged serial) (λ no. cc) is);
      opens = search rules;
      lists = search rules;
      retires = search rules;
      copies = search rules;
      rests = search rules;
      cuts = λ serial out is. absurd (late_not (reply.Merged serial) (λ no. cc) is);
      flags = late_flags;
      beside = λ out. late_beside;
    }

  -- ---- whoever's it is

  strange_is_handed : (IsOut old made.request.id → ⊥) → answer ≡ reply.Refused Idle → new ≡ old → IsHandedIn made answer old new
  strange_is_handed other told same = record {
    step = strange other (told, same);
    strange = λ no. (told, same);
    handed = λ out. absurd (other out);
    failed = λ out. absurd (other out);
    down = λ out. absurd (other out);
    late = λ out. absurd (other out);
    goes_on = λ out. absurd (other out);
    leaves = λ out. absurd (other out);
    lasts = subst (MergeLasts old) (sym same) (same_lasts old);
    acked = λ n out. absurd (other out);
    little = λ n out. absurd (other out);
    round = λ out. absurd (other out);
    rounds = λ out. absurd (other out);
    gates = λ out. absurd (other out);
    merged = λ serial out. absurd (other out);
    opens = λ out. absurd (other out);
    lists = λ out. absurd (other out);
    retires = λ out. absurd (other out);
    copies = λ out. absurd (other out);
    rests = λ out. absurd (other out);
    cuts = λ serial out. absurd (other out);
    flags = subst (λ v. FlagsByOutcome old answer v) (sym same) (subst (λ a. FlagsByOutcome old a old) (sym told) (record { grows_is = refl; committing_is = refl; numbers_are = refl }));
    beside = λ out. absurd (other out);
  }

  pub is_handed : NextByOutcome old made answer new → IsHandedIn made answer old new
  is_handed (of_dumper step) = dumper_handed step
  is_handed (of_merger step) = merger_handed step
  is_handed (of_opener step) = opener_is_handed step
  is_handed (late told step) = late_is_handed told step
  is_handed (strange other is) = strange_is_handed other is.0 is.1
