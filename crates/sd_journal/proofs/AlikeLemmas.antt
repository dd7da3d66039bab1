-- Bases with the same number and memory.
use Rattle.std.proofs.Common.{◌≡◌, ℕ, ◌<◌, ◌==◌, if◌then◌else◌, [], ◌∷◌, Some, None, IfSome, is_some, refl, sym, ◌∙◌, ap, subst, inl, inr}
use Rattle.sd_command.specs.Replies.{IsLegalReply, effect}
use Rattle.sd_journal.specs.declared.entry.Entry.TheVariants.{Applied, Freeze, Acked, Cancelled, Reopened}
use Rattle.sd_journal.specs.History.{Base, History, at_base, at_freeze, last, memory_after, pending}
use Rattle.sd_journal.specs.Legal.{IsAbove, IsLegal}
use Rattle.sd_journal.specs.Allowed.{IsAllowed, Shown}

module _ (one other : Base) (number : one.number ≡ other.number) (memory : one.memory ≡ other.memory) where
  memory_alike : (history : History) → memory_after one history ≡ memory_after other history
  memory_alike [] = memory
  memory_alike (Applied seat command reply ∷ earlier) = ap (effect command reply) (memory_alike earlier)
  memory_alike (Freeze n ∷ earlier) = memory_alike earlier
  memory_alike (Acked n ∷ earlier) = memory_alike earlier
  memory_alike (Cancelled n ∷ earlier) = memory_alike earlier
  memory_alike (Reopened m ∷ earlier) = memory_alike earlier

  last_alike : (history : History) → last one history ≡ last other history
  last_alike [] = number
  last_alike (Applied seat command reply ∷ earlier) = last_alike earlier
  last_alike (Freeze n ∷ earlier) = last_alike earlier
  last_alike (Acked n ∷ earlier) = refl
  last_alike (Cancelled n ∷ earlier) = last_alike earlier
  last_alike (Reopened m ∷ earlier) = refl

  freeze_alike : (history : History) (n : ℕ) → at_freeze one history n ≡ at_freeze other history n
  freeze_alike [] n = ap (λ o. at_base o one.memory n) number ∙ ap (λ m. at_base other.number m n) memory
  freeze_alike (Applied seat command reply ∷ earlier) n = freeze_alike earlier n
  freeze_alike (Freeze m ∷ earlier) n =
      ap (λ x. if m == n then Some x else at_freeze one earlier n) (memory_alike earlier)
      ∙ ap (λ x. if m == n then Some (memory_after other earlier) else x) (freeze_alike earlier n)
  freeze_alike (Acked m ∷ earlier) n = freeze_alike earlier n
  freeze_alike (Cancelled m ∷ earlier) n = freeze_alike earlier n
  freeze_alike (Reopened m ∷ earlier) n = freeze_alike earlier n

  above_alike : (history : History) (n : ℕ) → IsAbove one history n → IsAbove other history n
  above_alike [] n above = subst (λ o. IfSome o (λ own. own < n)) number above
  above_alike (Applied seat command reply ∷ earlier) n above = above_alike earlier n above
  above_alike (Freeze m ∷ earlier) n above = (above.0, above_alike earlier n above.1)
  above_alike (Acked m ∷ earlier) n above = (above.0, above_alike earlier n above.1)
  above_alike (Cancelled m ∷ earlier) n above = (above.0, above_alike earlier n above.1)
  above_alike (Reopened m ∷ earlier) n above = (above.0, above_alike earlier n above.1)

  pub legal_alike_in : (history : History) → IsLegal one history → IsLegal other history
  legal_alike_in [] legal = tt
  legal_alike_in (Applied seat command reply ∷ earlier) legal =
      (subst (λ m. IsLegalReply m (is_some (pending earlier)) command reply) (memory_alike earlier) legal.0, legal_alike_in earlier legal.1)
  legal_alike_in (Freeze n ∷ earlier) legal = ((legal.0.0, above_alike earlier n legal.0.1), legal_alike_in earlier legal.1)
  legal_alike_in (Acked n ∷ earlier) legal = (legal.0, legal_alike_in earlier legal.1)
  legal_alike_in (Cancelled n ∷ earlier) legal =
      (elim legal.0 [ inl was ↦ inl was | inr none ↦ inr (none.0, above_alike earlier n none.1) ], legal_alike_in earlier legal.1)
  legal_alike_in (Reopened m ∷ earlier) legal =
      (elim legal.0 [ inl as_last ↦ inl (as_last ∙ last_alike earlier) | inr as_pending ↦ inr as_pending ], legal_alike_in earlier legal.1)

  pub allowed_alike_in : (history : History) (shown : Shown) → IsAllowed one history shown → IsAllowed other history shown
  allowed_alike_in history None (inl none) = inl (sym (last_alike history) ∙ none)
  allowed_alike_in history None (inr never) = absurd never
  allowed_alike_in history (Some pair) (inl is) = inl (sym (last_alike history) ∙ is.0, sym (freeze_alike history pair.0) ∙ is.1)
  allowed_alike_in history (Some pair) (inr is) = inr (is.0, sym (freeze_alike history pair.0) ∙ is.1)

pub legal_alike : (one other : Base) (history : History) → one.number ≡ other.number → one.memory ≡ other.memory → IsLegal one history → IsLegal other history
legal_alike one other history number memory = legal_alike_in one other number memory history

pub allowed_alike : (one other : Base) (history : History) (shown : Shown) → one.number ≡ other.number → one.memory ≡ other.memory
    → IsAllowed one history shown → IsAllowed other history shown
allowed_alike one other history shown number memory = allowed_alike_in one other number memory history shown
