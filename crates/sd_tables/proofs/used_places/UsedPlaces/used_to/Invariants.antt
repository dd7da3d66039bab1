use Rattle.std.proofs.Common.{◌≡◌, ℕ, ◌/◌, ◌<◌, ◌≤◌, true}
use Rattle.sd_tables.specs.Radix.{is_used}
use Rattle.sd_tables.proofs.used_places.UsedPlaces.used_to.Given as goal

abbrev pub invariant-loop-word : goal.invariant-loop-word
invariant-loop-word l = (place : ℕ) → l.from ≤ place → place / 64 < l.word → is_used l.self.words place ≡ true
