-- Lists of tickets that grow at the end.
use Rattle.std.proofs.Common.{◌≡◌, ℕ, ◌+◌, ◌<◌, ◌≤◌, ◌==◌, cond, List, [], ◌∷◌, ◌++◌, refl, sym, ap, ◌∙◌, append_assoc, Some, arith}
use Rattle.std.specs.List.{All}
use Rattle.std.proofs.lemmas.List.Elements.{All-nil, All-head, All-tail, All-push, All-weaker}
use Rattle.sd_relay.specs.declared.message.Message.{Message}
use Rattle.sd_relay.specs.Hands.{ticket_of, tickets}
use Rattle.sd_relay.specs.Tickets.{IsLast, TicketsRise, times}

-- what rises still does with a greater one after it
pub rises_more : (xs : List ℕ) (t : ℕ) → TicketsRise xs → All (λ x. x < t) xs → TicketsRise (xs ++ t ∷ [])
rises_more [] t rises below = (All-nil (λ y. t < y), tt)
rises_more (x ∷ xs) t rises below =
    (All-push (λ y. x < y) xs t rises.0 (All-head (λ y. y < t) x xs below), rises_more xs t rises.1 (All-tail (λ y. y < t) x xs below))

-- what is above the last one is above all
pub above_last : (xs : List ℕ) (last t : ℕ) → IsLast (Some last) xs → last < t → All (λ x. x < t) xs
above_last xs last t all above = All-weaker (λ x. x ≤ last) (λ x. x < t) (λ x h. omega arith) xs (all.0 last refl)

pub times_append : (t : ℕ) (xs ys : List ℕ) → times t (xs ++ ys) ≡ times t xs + times t ys
times_append t [] ys = omega arith
times_append t (x ∷ xs) ys = let h = times_append t xs ys in let first : ℕ = cond (x == t) 1 0 in omega arith

pub tickets_append : (xs ys : List Message) → tickets (xs ++ ys) ≡ tickets xs ++ tickets ys
tickets_append [] ys = refl
tickets_append (x ∷ xs) ys = ap (λ l. ticket_of x ++ l) (tickets_append xs ys) ∙ sym (append_assoc (ticket_of x) (tickets xs) (tickets ys))
