-- What a pass has done, and what a message adds to it.
use Rattle.std.specs.Prelude.{◌≡◌, ℕ, Bool, false, List, [], ◌∷◌, ◌++◌}
use Rattle.sd_relay.specs.declared.hand.Hand.{Hand}
use Rattle.sd_relay.specs.declared.message.Message.{Message}
use Rattle.sd_relay.specs.declared.message.Message.TheVariants.{Errand, End}

-- the parts of the right to know the whole: one for the front, and one for each of eight writers
abbrev pub all_parts : ℕ
all_parts = 9

-- a pass with so many parts, and what it put and took
abbrev pub hand : ℕ → Bool → List ℕ → List ℕ → Hand
hand parts puts put taken = record { parts = parts; puts = puts; put = put; taken = taken }

-- the ticket of a message's errand, if it has one
abbrev pub ticket_of : Message → List ℕ
ticket_of (Errand errand) = errand.request.id.ticket ∷ []
ticket_of End = []

-- the tickets of the errands among the messages
abbrev pub tickets : List Message → List ℕ
tickets [] = []
tickets (message ∷ messages) = ticket_of message ++ tickets messages

-- after a message was put
abbrev pub after_put : Hand → Message → Hand
after_put v message = hand v.parts v.puts (v.put ++ ticket_of message) v.taken

-- after a message was taken
abbrev pub after_taking : Hand → Message → Hand
after_taking v message = hand v.parts v.puts v.put (v.taken ++ ticket_of message)

-- a writer's pass has one part, and puts nothing
abbrev pub IsWriters : Hand → Type 0
IsWriters v = (v.parts ≡ 1) × (v.puts ≡ false)
