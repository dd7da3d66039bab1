-- The lines so far fit, and made the requests so far.
use Rattle.std.proofs.Common.{length}
use Rattle.sd_script.proofs.Parsing.{Parsed}
use Rattle.sd_script.proofs.script.Script.parse.Given as goal

abbrev pub invariant-loop-line : goal.invariant-loop-line
invariant-loop-line l = Parsed l.script l.rest l.number l.lines.items

abbrev pub decreases-loop-line : goal.decreases-loop-line
decreases-loop-line l = length l.rest
