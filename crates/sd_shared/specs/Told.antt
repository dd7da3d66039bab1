-- Why a seat is refused, and what a worker is answered to its job.
use Rattle.std.specs.Prelude.{◌≡◌, ◌⊎◌, ℕ, Bool, true, false, List, map}
use Rattle.std.specs.List.{range_with_len}
use Rattle.sd_command.specs.declared.refusal.Refusal.{Refusal}
use Rattle.sd_command.specs.declared.refusal.Refusal.TheVariants.{LockBusy}
use Rattle.sd_command.specs.declared.reply.Reply.{Reply}
use Rattle.sd_command.specs.declared.reply.Reply.TheVariants as reply
use Rattle.sd_crash_safety.specs.Calls.{IsUnjournaled}
use Rattle.sd_core.specs.declared.taken.Taken.{Taken}
use Rattle.sd_core.specs.declared.taken.Taken.TheVariants.{Step}
use Rattle.sd_shared.specs.declared.seat.Seat.{Seat}

-- why a command that doesn't wait is refused: another thread may have the lock, or as one that waits
abbrev pub IsRefusedAtOnce : Refusal → Type 0
IsRefusedAtOnce why = (why ≡ LockBusy) ⊎ IsUnjournaled why

-- the last reply of a worker's job: the job came to its end, or was refused
abbrev pub ends_job : Reply → Bool
ends_job (reply.Acked n) = true
ends_job (reply.Merged serial) = true
ends_job (reply.Reopened m) = true
ends_job (reply.Refused why) = true
ends_job _ = false

-- a step was refused
abbrev pub is_refused : Taken → Bool
is_refused (Step (reply.Refused why)) = true
is_refused _ = false

-- so many seats, numbered from 0
abbrev pub seats_from_0 : ℕ → List Seat
seats_from_0 count = map (λ n. record { number = n; turns = 0 }) (range_with_len 0 count)
