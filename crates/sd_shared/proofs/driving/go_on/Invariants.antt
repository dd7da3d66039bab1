use Rattle.std.proofs.Common.{◌≡◌, ◌⊎◌}
use Rattle.sd_command.specs.declared.reply.Reply.{Reply}
use Rattle.sd_shared.proofs.driving.go_on.Given as goal

-- no more may be said than before, and the last reply is the first one, or was said
abbrev pub invariant-loop : goal.invariant-loop
invariant-loop g l = ((reply : Reply) → g.H.Hands.is_told l.hands reply → g.H.Hands.is_told l.initial.hands reply)
    × ((g.H.Hands.last l.hands ≡ g.H.Hands.last l.initial.hands) ⊎ g.H.Hands.is_told l.initial.hands (g.H.Hands.last l.hands))
