-- What each entry makes of what a journal allows.
use Rattle.std.proofs.Common.{◌≡◌, ◌≢◌, ◌⊎◌, ◌↔◌, ℕ, ◌∷◌, Option, Some, None, refl, sym, ◌∙◌, ap, subst, inl, inr, arith}
use Rattle.sd_areas.specs.PlainMemory.{PlainMemory}
use Rattle.sd_command.specs.declared.command.Command.{Command}
use Rattle.sd_command.specs.declared.reply.Reply.{Reply}
use Rattle.sd_journal.specs.declared.entry.Entry.TheVariants.{Applied, Freeze, Acked, Cancelled, Reopened}
use Rattle.sd_journal.specs.History.{Base, History, memory_after, at_freeze, last, pending, unless_it_is}
use Rattle.sd_journal.specs.Legal.{IsAbove, IsLegal}
use Rattle.sd_journal.specs.Allowed.{Shown, shown_number, IsLastPair, IsPendingPair, IsAllowed}
use Rattle.sd_journal.proofs.HistoryLemmas.{same, none_is_some, at_freeze-other, at_freeze-own, last_below}

pub applied_allows : (base : Base) (history : History) (seat : ℕ) (command : Command) (reply : Reply) (shown : Shown)
    → IsAllowed base (Applied seat command reply ∷ history) shown ↔ IsAllowed base history shown
applied_allows base history seat command reply shown = grind arith

some_is_none : {A : Type 0} {P : Type 0} (a : A) → (let s : Option A = Some a in s ≡ None) → P
some_is_none a e = absurd (cc)

pair_is : (n k : ℕ) (memory other : PlainMemory) → n ≡ k → memory ≡ other → ◌≡◌ {A = Shown} (Some (k, other)) (Some (n, memory))
pair_is n k memory other e f = cc

freeze_leaves : (base : Base) (history : History) (n : ℕ) (shown : Shown) → pending history ≡ None → IsAbove base history n
    → IsAllowed base (Freeze n ∷ history) shown → IsAllowed base history shown ⊎ (shown ≡ Some (n, memory_after base history))
freeze_leaves base history n shown none above given = grind arith

freeze_keeps : (base : Base) (history : History) (n : ℕ) (shown : Shown) → pending history ≡ None → IsAbove base history n
    → IsAllowed base history shown → IsAllowed base (Freeze n ∷ history) shown
freeze_keeps base history n shown none above given = grind (arith, at_freeze-other, last_below, none_is_some)

freeze_adds : (base : Base) (history : History) (n : ℕ) (shown : Shown) → shown ≡ Some (n, memory_after base history)
    → IsAllowed base (Freeze n ∷ history) shown
freeze_adds base history n shown e =
    subst (λ s. IsAllowed base (Freeze n ∷ history) s) (sym e) (inr (refl, at_freeze-own base history n))

pub freeze_allows : (base : Base) (history : History) (n : ℕ) (shown : Shown) → IsLegal base (Freeze n ∷ history)
    → IsAllowed base (Freeze n ∷ history) shown ↔ (IsAllowed base history shown ⊎ (shown ≡ Some (n, memory_after base history)))
freeze_allows base history n shown legal = grind (arith, freeze_leaves, freeze_keeps, freeze_adds)

pub acked_allows : (base : Base) (history : History) (n : ℕ) (shown : Shown) → IsLegal base (Acked n ∷ history)
    → IsAllowed base (Acked n ∷ history) shown ↔ IsPendingPair base history shown
acked_allows base history n shown legal = grind arith

-- nothing is pending after a cancelling
pub none_left : (base : Base) (history : History) (n k : ℕ) {P : Type 0}
    → (pending history ≡ Some n) ⊎ ((pending history ≡ None) × IsAbove base history n) → unless_it_is n (pending history) ≡ Some k → P
none_left base history n k (inl is) e =
    let gone : unless_it_is n (Some n) ≡ None = rw (same n) refl in
    none_is_some k (sym gone ∙ sym (ap (unless_it_is n) is) ∙ e)
none_left base history n k (inr none) e = none_is_some k (sym (ap (unless_it_is n) none.0) ∙ e)

pub cancelled_allows : (base : Base) (history : History) (n : ℕ) (shown : Shown) → IsLegal base (Cancelled n ∷ history)
    → IsAllowed base (Cancelled n ∷ history) shown ↔ IsLastPair base history shown
cancelled_allows base history n shown legal = grind arith

-- what a reopening that found a number was allowed before
found_before : (base : Base) (history : History) (m : Option ℕ) (pair : ℕ × PlainMemory)
    → (m ≡ last base history) ⊎ ((pending history ≢ None) × (m ≡ pending history)) → m ≡ Some pair.0 → at_freeze base history pair.0 ≡ Some pair.1
    → IsAllowed base history (Some pair)
found_before base history m pair given is memory = grind arith

nothing_before : (base : Base) (history : History) (m : Option ℕ)
    → (m ≡ last base history) ⊎ ((pending history ≢ None) × (m ≡ pending history)) → m ≡ None → IsAllowed base history None
nothing_before base history m given is = grind arith

pub reopened_allows : (base : Base) (history : History) (m : Option ℕ) (shown : Shown) → IsLegal base (Reopened m ∷ history)
    → IsAllowed base (Reopened m ∷ history) shown ↔ (IsAllowed base history shown × (shown_number shown ≡ m))
reopened_allows base history m shown legal = grind arith
