-- The fields so far and those of the rest are those of the line.
use Rattle.std.proofs.Common.{◌≡◌, ◌≤◌, length, take}
use denote.Text.{Utf8}
use denote.Shadow.{shadow}
use Rattle.sd_script.proofs.Fields.{Splits}
use Rattle.sd_script.proofs.line.split_into.Given as goal

abbrev pub invariant-loop-field : goal.invariant-loop-field
invariant-loop-field l = shadow (Utf8 l.rest) × (l.count ≤ 4) × (length l.fields ≡ 5) × Splits l.line (take l.count l.fields) l.rest

abbrev pub decreases-loop-field : goal.decreases-loop-field
decreases-loop-field l = length l.rest
