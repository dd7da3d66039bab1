use Rattle.std.proofs.Common.{◌≤◌, length, IfSome}
use Rattle.sd_audit.proofs.EntryLemmas.{IsPlaceSoFar}
use Rattle.sd_audit.proofs.freezes.freeze_place.Given as goal

abbrev pub invariant-loop-place : goal.invariant-loop-place
invariant-loop-place l = record { within : IfSome l.latest (λ place. place ≤ length l.entries); place : IsPlaceSoFar l.entries l.place l.checkpoint l.latest }
