-- What a front has done.
use Rattle.std.specs.Prelude.{◌≡◌, ℕ, List}
use Rattle.crossbeam_channel.specs.Claims.{view}
use Rattle.crossbeam_channel.specs.Ends.{sends_on}
use Rattle.sd_relay.specs.declared.front.Front.{Front}
use Rattle.sd_relay.specs.declared.hand.Hand.{Hand}

-- what its pass knows
abbrev pub hand_of : Front → Hand
hand_of front = view front.pass

-- the tickets that were put into it, in order
abbrev pub put_into : Front → List ℕ
put_into front = (hand_of front).put

-- it is on the same channel, with the same parts, and took nothing
abbrev pub StaysOnChannel : Front → Front → Type 0
StaysOnChannel before after = (sends_on after.sender ≡ sends_on before.sender)
    × ((hand_of after).parts ≡ (hand_of before).parts)
    × ((hand_of after).taken ≡ (hand_of before).taken)
