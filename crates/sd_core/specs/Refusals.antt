-- When calls of a core are refused, by priority.
use Rattle.std.specs.Prelude.{◌≡◌, ◌==◌, ℕ, ◌<◌, Bool, true, false, not, ◌&&◌, ◌||◌, is_none, is_some, if◌then◌else◌}
use Rattle.std.specs.Prelude.{drop, List, [], ◌∷◌, slice_get, Option, Some, None}
use Rattle.sd_command.specs.declared.refusal.Refusal.{Refusal}
use Rattle.sd_command.specs.declared.refusal.Refusal.TheVariants as refusal
use Rattle.sd_gate.specs.declared.request_id.RequestId.{RequestId}
use Rattle.sd_gate.specs.declared.worker.Worker.{Worker}
use Rattle.sd_gate.specs.declared.worker.Worker.TheVariants.{Dumper, Merger, Opener}
use Rattle.sd_journal.specs.History.{pending}
use Rattle.sd_pagetable.specs.Contents.{plain_of}
use Rattle.sd_rounds.specs.Waits.{dumper_must_wait}
use Rattle.sd_gate.specs.Lanes.{is_any_out}
use Rattle.sd_crash_safety.specs.declared.standing.Standing.{Standing}
use Rattle.sd_crash_safety.specs.declared.standing.Standing.TheVariants as standing
use Rattle.sd_crash_safety.specs.View.{CoreView, history_of, index}
use Rattle.sd_core.specs.Beginning.{first_of, free_entries}

-- no request is out of a worker
abbrev pub none_at : Option (Option RequestId) → Bool
none_at None = false
none_at (Some None) = true
none_at (Some (Some id)) = false

abbrev pub is_resting : List (Option RequestId) → Worker → Bool
is_resting outs worker = none_at (slice_get outs (index worker))

-- the write of a data page is out
abbrev pub is_page_out : List (Option RequestId) → Bool
is_page_out outs = is_any_out (drop 3 outs)

-- the request with this id is out, and writes a data page
pub record IsPageOut (outs : List (Option RequestId)) (id : RequestId) : Type 0 where
  pub lane : ℕ
  pub behind : 2 < lane
  pub is : slice_get outs lane ≡ Some (Some id)

-- no request is out
abbrev pub are_resting : List (Option RequestId) → Bool
are_resting outs = not (is_any_out outs)

abbrev pub is_store_open : Standing → Bool
is_store_open standing.NotOpen = false
is_store_open standing.Open = true
is_store_open standing.Down = false

-- a checkpoint runs or is pending
abbrev pub has_checkpoint : CoreView → Bool
has_checkpoint core = is_some core.dumper.running || is_some (pending (history_of core))

-- an opener runs, a request of the dumper is out, or the opening of the dump's gate was taken up
abbrev pub cant_cancel : CoreView → Bool
cant_cancel core = is_some core.opener || not (is_resting core.outs Dumper) || is_page_out core.outs || core.committing

-- why nothing can be cancelled
abbrev pub cancel_refusal : CoreView → Option Refusal
cancel_refusal core = first_of ((not (has_checkpoint core), refusal.Idle) ∷ (cant_cancel core, refusal.Busy) ∷ [])

-- the store is open, an opener runs, or a request is out
abbrev pub is_store_busy : CoreView → Bool
is_store_busy core = is_store_open core.standing || is_some core.opener || not (are_resting core.outs)

-- no entry is held for a pending checkpoint, and none is free
abbrev pub needs_entry : CoreView → Bool
needs_entry core = is_none (pending (history_of core)) && (free_entries core == 0)

-- why a store can't be opened again
abbrev pub reopen_refusal : CoreView → Option Refusal
reopen_refusal core = first_of ((is_store_busy core, refusal.Busy) ∷ (needs_entry core, refusal.JournalFull) ∷ [])

-- a worker has no job
abbrev pub is_idle : CoreView → Worker → Bool
is_idle core Dumper = is_none core.dumper.running
is_idle core Merger = is_none core.merger
is_idle core Opener = is_none core.opener

-- The outcome of the write of a data page is awaited: eight are out, or some where no page is left. A checkpoint that
-- has ended waits for all of them.
abbrev pub must_wait_for_pages : CoreView → Bool
must_wait_for_pages core = if is_none core.dumper.running then is_page_out core.outs
    else dumper_must_wait core.dumper.running (plain_of core.memory)

-- an outcome of a worker is awaited before it goes on
abbrev pub must_wait : CoreView → Worker → Bool
must_wait core Dumper = not (is_resting core.outs Dumper) || must_wait_for_pages core
must_wait core Merger = not (is_resting core.outs Merger)
must_wait core Opener = not (is_resting core.outs Opener)

-- why a worker can't go on: also one that is idle may have a request out, since its job may have ended before the
-- outcome
abbrev pub work_refusal : CoreView → Worker → Option Refusal
work_refusal core worker = first_of ((must_wait core worker, refusal.Busy) ∷ (is_idle core worker, refusal.Idle) ∷ [])
