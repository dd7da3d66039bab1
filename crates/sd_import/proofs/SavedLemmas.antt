-- What a checkpoint saves that is made of a world as it stands.
use Rattle.std.proofs.Common.{◌≡◌, ℕ, false, None, arith}
use Rattle.sd_command.specs.declared.reply.Reply.{Reply}
use Rattle.sd_core.specs.Beginning.{begin_refusal}
use Rattle.sd_core.specs.Next.{NextByBegin}
use Rattle.sd_core.specs.SoundView.{IsSoundView}
use Rattle.sd_crash_safety.specs.View.{CoreView, history_of}
use Rattle.sd_crash_safety.specs.declared.standing.Standing.TheVariants.{Open}
use Rattle.sd_disk.specs.declared.disk.Disk.{Ghosts}
use Rattle.sd_journal.specs.History.{pending}
use Rattle.sd_journal.specs.Marked.{IsTracked}
use Rattle.sd_import.specs.Saved.{IsSavedNext}
use Rattle.sd_world.specs.Jobs.{IsJob, is_end}
use Rattle.sd_world.specs.View.{WorldView}
use Rattle.sd_world.proofs.SavedLemmas.{checkpoint_saves}

-- a checkpoint is begun in an open store in which none runs, so none is pending
may_begin : (core : CoreView) (rounds : ℕ) → begin_refusal core rounds ≡ None → (core.dumper.running ≡ None) × (core.standing ≡ Open)
may_begin core rounds may = grind arith

begun_in : (core next : CoreView) (rounds : ℕ) (begun : Reply) → is_end begun ≡ false → NextByBegin rounds core begun next → begin_refusal core rounds ≡ None
begun_in core next rounds begun goes step = grind arith

none_pending : (core next : CoreView) (rounds : ℕ) (begun : Reply) → is_end begun ≡ false → NextByBegin rounds core begun next → IsSoundView core
    → pending (history_of core) ≡ None
none_pending core next rounds begun goes step sound =
    let may = may_begin core rounds (begun_in core next rounds begun goes step) in
    sound.is.rests may.0 may.1

module _ {D : Type 0} (g : Ghosts D) where
  pub next_saved : (world : WorldView D) → IsTracked world.core.base world.core.items world.core.memory → IsSoundView world.core → IsSavedNext g world
  next_saved world tracked sound rounds n acked (IsJob.refused ends step) shows = absurd step.adds
  next_saved world tracked sound rounds n acked (IsJob.finished begun mid goes step finished) shows = λ honest contents left.
      checkpoint_saves g rounds n world acked contents tracked (none_pending world.core mid.core rounds begun goes step.does.1.step sound)
      (IsJob.finished begun mid goes step finished) (shows honest contents left)
