use Rattle.std.proofs.Common.{◌≡◌, map, take}
use Rattle.serde_json.specs.View.{members_view}
use Rattle.sd_show.specs.Numbers.{named, number_members}
use Rattle.sd_show.proofs.numbers.numbers_object.Given as goal

-- the numbers so far
abbrev pub invariant-loop-name : goal.invariant-loop-name
invariant-loop-name l = members_view l.object.entries ≡ number_members (map named (take l.name-index l.numbers))
