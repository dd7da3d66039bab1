use Rattle.std.proofs.Common.{◌≡◌, map, take}
use Rattle.sd_history.specs.declared.history.Past.{Past}
use Rattle.sd_history.proofs.history.all_past.Given as goal

abbrev pub invariant-loop-place : goal.invariant-loop-place
invariant-loop-place l = map (λ (p : Past). p.number) l.past.items ≡ take l.place l.numbers
