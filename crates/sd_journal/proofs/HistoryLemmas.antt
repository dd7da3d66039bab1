-- The last and the pending checkpoint of a legal journal.
use Rattle.std.proofs.Common.{◌≡◌, ℕ, ◌<◌, ◌==◌, Bool, true, false, cond, [], ◌∷◌, Option, Some, None, IfSome, refl, sym, ◌∙◌, subst, arith, inl, inr}
use Rattle.std.proofs.lemmas.Bool.Decides.{nat_tests}
use Rattle.std.proofs.lemmas.Option.{same_Some}
use Rattle.sd_areas.specs.PlainMemory.{PlainMemory}
use Rattle.sd_journal.specs.declared.entry.Entry.TheVariants.{Applied, Freeze, Acked, Cancelled, Reopened}
use Rattle.sd_journal.specs.History.{Base, History, memory_after, at_base, at_freeze, last, pending, unless_it_is}
use Rattle.sd_journal.specs.Legal.{IsAbove, IsLegal}

pub same : (n : ℕ) → (n == n) ≡ true
same n = grind (arith, nat_tests)

pub apart : (m n : ℕ) → n < m → (m == n) ≡ false
apart m n below = grind (arith, nat_tests)

pub none_is_some : {A : Type 0} {P : Type 0} (a : A) → (let n : Option A = None in n ≡ Some a) → P
none_is_some a e = absurd (cc)

-- what is left pending was pending
pub unless_some : (n : ℕ) (was : Option ℕ) (k : ℕ) → unless_it_is n was ≡ Some k → was ≡ Some k
unless_some n None k e = e
unless_some n (Some m) k e = go (n == m) e
  where
    go : (b : Bool) → cond b None (Some m) ≡ Some k → Some m ≡ Some k
    go true h = none_is_some k h
    go false h = h

-- a memory at the freeze of a number is that of the entries before a freeze of another
pub at_freeze-other : (base : Base) (history : History) (m n : ℕ) → n < m → at_freeze base (Freeze m ∷ history) n ≡ at_freeze base history n
at_freeze-other base history m n below = rw (apart m n below) refl

pub at_freeze-own : (base : Base) (history : History) (n : ℕ) → at_freeze base (Freeze n ∷ history) n ≡ Some (memory_after base history)
at_freeze-own base history n = rw (same n) refl

below_if : (number : Option ℕ) (n k : ℕ) → IfSome number (λ own. own < n) → number ≡ Some k → k < n
below_if number n k above e = grind arith

pub last_below : (base : Base) (history : History) (n k : ℕ) → IsAbove base history n → last base history ≡ Some k → k < n
last_below base [] n k above e = below_if base.number n k above e
last_below base (Applied seat command reply ∷ earlier) n k above e = last_below base earlier n k above e
last_below base (Freeze m ∷ earlier) n k above e = last_below base earlier n k above.1 e
last_below base (Acked m ∷ earlier) n k above e = subst (λ o. o < n) (same_Some m k e) above.0
last_below base (Cancelled m ∷ earlier) n k above e = last_below base earlier n k above.1 e
last_below base (Reopened m ∷ earlier) n k above e = below_if m n k above.0 e

pub pending_below : (base : Base) (history : History) (n k : ℕ) → IsAbove base history n → pending history ≡ Some k → k < n
pending_below base [] n k above e = none_is_some k e
pending_below base (Applied seat command reply ∷ earlier) n k above e = pending_below base earlier n k above e
pending_below base (Freeze m ∷ earlier) n k above e = subst (λ o. o < n) (same_Some m k e) above.0
pending_below base (Acked m ∷ earlier) n k above e = pending_below base earlier n k above.1 (unless_some m (pending earlier) k e)
pending_below base (Cancelled m ∷ earlier) n k above e = pending_below base earlier n k above.1 (unless_some m (pending earlier) k e)
pending_below base (Reopened m ∷ earlier) n k above e = none_is_some k e

pub pending_has : (base : Base) (history : History) (n : ℕ) → pending history ≡ Some n → (memory : PlainMemory) × (at_freeze base history n ≡ Some memory)
pending_has base [] n e = none_is_some n e
pending_has base (Applied seat command reply ∷ earlier) n e = pending_has base earlier n e
pending_has base (Freeze m ∷ earlier) n e =
    (memory_after base earlier, subst (λ k. at_freeze base (Freeze m ∷ earlier) k ≡ Some (memory_after base earlier)) (same_Some m n e) (at_freeze-own base earlier m))
pending_has base (Acked m ∷ earlier) n e = pending_has base earlier n (unless_some m (pending earlier) n e)
pending_has base (Cancelled m ∷ earlier) n e = pending_has base earlier n (unless_some m (pending earlier) n e)
pending_has base (Reopened m ∷ earlier) n e = none_is_some n e

base_has : (number : Option ℕ) (memory : PlainMemory) (n : ℕ) → number ≡ Some n → (found : PlainMemory) × (at_base number memory n ≡ Some found)
base_has None memory n e = none_is_some n e
base_has (Some own) memory n e = (memory, let is : own ≡ n = same_Some own n e in rw (is, same n) refl)

pub last_has : (base : Base) (history : History) (n : ℕ) → IsLegal base history → last base history ≡ Some n → (memory : PlainMemory) × (at_freeze base history n ≡ Some memory)
last_has base [] n legal e = base_has base.number base.memory n e
last_has base (Applied seat command reply ∷ earlier) n legal e = last_has base earlier n legal.1 e
last_has base (Freeze m ∷ earlier) n legal e =
    let found = last_has base earlier n legal.1 e in
    (found.0, at_freeze-other base earlier m n (last_below base earlier m n legal.0.1 e) ∙ found.1)
last_has base (Acked m ∷ earlier) n legal e = pending_has base earlier n (legal.0 ∙ e)
last_has base (Cancelled m ∷ earlier) n legal e = last_has base earlier n legal.1 e
last_has base (Reopened m ∷ earlier) n legal e =
    elim legal.0 [
      | inl as_last ↦ last_has base earlier n legal.1 (sym as_last ∙ e)
      | inr as_pending ↦ pending_has base earlier n (sym as_pending.1 ∙ e)
    ]
