-- The rule: who puts and who takes, in what order, and what the queue holds.
use Rattle.std.specs.Prelude.{◌≡◌, ℕ, ◌+◌, true, false, List, [], ◌∷◌, ◌++◌}
use mathlib.Core.Option.{some}
use lib.ListN.{get_elem?}
use Rattle.sd_relay.specs.declared.hand.Hand.{Hand}
use Rattle.sd_relay.specs.declared.message.Message.{Message}
use Rattle.sd_relay.specs.Hands.{all_parts, tickets}
use Rattle.sd_relay.specs.Tickets.{TicketsRise, times}

-- f of each view, added up
abbrev pub total_of_hands : (Hand → ℕ) → List Hand → ℕ
total_of_hands f [] = 0
total_of_hands f (v ∷ views) = f v + total_of_hands f views

-- only the pass with the number `front` puts, and it put these tickets; a pass with no part took nothing
abbrev pub Fits : ℕ → List ℕ → ℕ → Hand → Type 0
Fits front put pass v =
    (v.puts ≡ true → (pass ≡ front) × (v.put ≡ put)) × (v.puts ≡ false → v.put ≡ []) × (v.parts ≡ 0 → v.taken ≡ [])

-- what holds of the messages in the queue, oldest first, and of what the passes have done
pub record Relays (messages : List Message) (views : List Hand) : Type 0 where
  -- the number of the pass that puts
  pub front : ℕ
  -- the tickets that were put so far, in order
  pub put : List ℕ
  -- those of them that were taken, in order
  pub taken : List ℕ
  -- the queue holds what was put and not yet taken
  pub left : put ≡ taken ++ tickets messages
  pub rises : TicketsRise put
  pub fits : (pass : ℕ) (v : Hand) → get_elem? views pass ≡ some v → Fits front put pass v
  -- each ticket was taken by the passes as often as from the queue
  pub shared : (t : ℕ) → total_of_hands (λ v. times t v.taken) views ≡ times t taken
  -- no part is lost
  pub parts : total_of_hands (λ v. v.parts) views ≡ all_parts

-- what was put rises, and each ticket that was put was taken or is left, as often as it was put
abbrev pub IsSettled : List ℕ → List ℕ → List ℕ → Type 0
IsSettled put taken left = TicketsRise put × ((t : ℕ) → times t put ≡ times t taken + times t left)
