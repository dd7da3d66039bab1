-- What the steps and the outcomes of a worker leave: how the store stands, and what is left of its job.
use Rattle.std.specs.Prelude.{◌≡◌, ◌≢◌, ◌⊎◌, ℕ, ◌<◌, true, false, List, Option, Some, None}
use Rattle.sd_command.specs.declared.refusal.Refusal.TheVariants.{Damaged, OutOfMemory, StoreDown}
use Rattle.sd_command.specs.declared.reply.Reply.{Reply}
use Rattle.sd_command.specs.declared.reply.Reply.TheVariants as reply
use Rattle.sd_gate.specs.declared.worker.Worker.{Worker}
use Rattle.sd_gate.specs.declared.worker.Worker.TheVariants.{Dumper, Merger, Opener}
use Rattle.sd_gate.specs.Requests.{Asked}
use Rattle.sd_merge.specs.Left as merger
use Rattle.sd_opener.specs.Left.{looking_left}
use Rattle.sd_opener.specs.Looking.{Looking}
use Rattle.sd_pagetable.specs.Contents.{plain_of}
use Rattle.sd_rounds.specs.Left.{left_of}
use Rattle.sd_crash_safety.specs.declared.standing.Standing.{Standing}
use Rattle.sd_crash_safety.specs.declared.standing.Standing.TheVariants.{NotOpen, Open, Down}
use Rattle.sd_crash_safety.specs.Believes.{Believes}
use Rattle.sd_crash_safety.specs.View.{CoreView}
use Rattle.sd_core.specs.declared.taken.Taken.{Taken}
use Rattle.sd_core.specs.declared.taken.Taken.TheVariants.{Step, Call}
use Rattle.sd_core.specs.Images.{job_of}
use Rattle.sd_core.specs.Refusals.{is_idle}

abbrev pub opener_left : Option Looking → ℕ
opener_left None = 0
opener_left (Some opener) = looking_left opener

-- how many steps and outcomes a worker's job has before it, at most
abbrev pub left_by : CoreView → Worker → ℕ
left_by core Dumper = left_of core.dumper.running (plain_of core.memory)
left_by core Merger = merger.left_of core.merger
left_by core Opener = opener_left core.opener

abbrev pub Lowers : CoreView → Worker → CoreView → Type 0
Lowers old worker new = left_by new worker < left_by old worker

-- the job goes on, the store stands as before, and a checkpoint stays the one that began
pub record MovesOn (old : CoreView) (worker : Worker) (new : CoreView) : Type 0 where
  pub stands : new.standing ≡ old.standing
  pub job : job_of new.dumper.running ≡ job_of old.dumper.running
  pub lowers : Lowers old worker new

-- the job has ended, and the store stands so
pub record HasEnded (stands : Standing) (old : CoreView) (worker : Worker) (new : CoreView) : Type 0 where
  pub stands_so : new.standing ≡ stands
  pub lowers : Lowers old worker new
  pub idle : is_idle new worker ≡ true

-- What a step leaves that couldn't read the store: the opener has ended, and the merge too, or nothing changed.
abbrev pub LeavesUnread : CoreView → Worker → CoreView → Type 0
LeavesUnread old Dumper new = ⊥
LeavesUnread old Merger new = (new ≡ old) ⊎ HasEnded old.standing old Merger new
LeavesUnread old Opener new = HasEnded old.standing old Opener new

-- What a step leaves. Out of memory it changes nothing; a store that is damaged, or another run's, isn't read.
abbrev pub LeavesByStep : CoreView → Worker → Reply → CoreView → Type 0
LeavesByStep old worker reply.Worked new = MovesOn old worker new
LeavesByStep old worker (reply.Reopened m) new = HasEnded Open old worker new
LeavesByStep old worker (reply.Refused OutOfMemory) new = new ≡ old
LeavesByStep old worker (reply.Refused Damaged) new = LeavesUnread old worker new
LeavesByStep old worker _ new = ⊥

abbrev pub LeavesByWork : CoreView → Worker → Taken → CoreView → Type 0
LeavesByWork old worker (Step answer) new = LeavesByStep old worker answer new
LeavesByWork old worker (Call request) new = MovesOn old worker new

-- an open store is down after a call that failed
abbrev pub fallen : Standing → Standing
fallen NotOpen = NotOpen
fallen Open = Down
fallen Down = Down

-- A call failed, or one of a job that had ended came late: all jobs have ended, and an open store is down.
pub record HasFallen (old : CoreView) (worker : Worker) (new : CoreView) : Type 0 where
  pub stands_so : new.standing ≡ fallen old.standing
  pub idle : (one : Worker) → is_idle new one ≡ true
  pub lowers : is_idle old worker ≡ false → Lowers old worker new

-- What an outcome leaves.
abbrev pub LeavesByOutcome : CoreView → Worker → Reply → CoreView → Type 0
LeavesByOutcome old worker reply.Worked new = MovesOn old worker new
LeavesByOutcome old worker (reply.Acked n) new = HasEnded old.standing old worker new
LeavesByOutcome old worker (reply.Merged serial) new = (worker ≡ Merger) × HasEnded old.standing old worker new
LeavesByOutcome old worker (reply.Refused StoreDown) new = HasFallen old worker new
LeavesByOutcome old worker _ new = ⊥

-- The source of a merge is there to be read, where the store is as it is believed to be: the step isn't refused as
-- damaged.
abbrev pub FindsSource : CoreView → Taken → Type 0
FindsSource core made = (asked : List (Option Asked)) (bodies files : List (List ℕ)) → Believes core asked bodies files
    → made ≢ Step (reply.Refused Damaged)
