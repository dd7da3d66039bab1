-- Where the entries stand that end the pending of a checkpoint, in order of time.
use Rattle.std.proofs.Common.{◌≡◌, ℕ, ◌+◌, ◌<◌, ◌≤◌, ◌⊎◌, List, length, take, get_or, reverse, sym, subst, arith, inl, inr}
use Rattle.sd_journal.specs.declared.entry.Entry.{Entry}
use Rattle.sd_journal.specs.Trimming.{Ends, EndsAt, IsEnded}
use Rattle.sd_journal.proofs.LegalLemmas.{next_entry}

-- no entries up to a place end it
abbrev pub NoneUpTo : ℕ → List Entry → ℕ → Type 0
NoneUpTo n entries place = (count : ℕ) → count ≤ place → IsEnded n (reverse (take count entries)) → ⊥

pub none_at_first : (n : ℕ) (entries : List Entry) → NoneUpTo n entries 0
none_at_first n entries count none ended =
    let e : count ≡ 0 = omega (arith, none) in
    subst (λ k. IsEnded n (reverse (take k entries))) e ended

pub ends_here : (n : ℕ) (entries : List Entry) (place : ℕ) (entry : Entry) → place < length entries → entry ≡ get_or entries place entry
    → Ends n (reverse (take place entries)) entry → EndsAt n entries (place + 1)
ends_here n entries place entry within is ends =
    (omega (arith, within), subst (IsEnded n) (sym (next_entry entries place entry within is)) ends)

at_most : (count place : ℕ) → count ≤ place + 1 → (count ≤ place) ⊎ (count ≡ place + 1)
at_most count place less = grind arith

pub none_more : (n : ℕ) (entries : List Entry) (place : ℕ) (entry : Entry) → place < length entries → entry ≡ get_or entries place entry
    → (Ends n (reverse (take place entries)) entry → ⊥) → NoneUpTo n entries place → NoneUpTo n entries (place + 1)
none_more n entries place entry within is other none count less ended =
    elim (at_most count place less) [
      | inl below ↦ none count below ended
      | inr here ↦
          let at : IsEnded n (reverse (take (place + 1) entries)) = subst (λ k. IsEnded n (reverse (take k entries))) here ended in
          other (subst (IsEnded n) (next_entry entries place entry within is) at)
    ]

pub none_at_all : (n : ℕ) (entries : List Entry) (place : ℕ) → length entries ≤ place → NoneUpTo n entries place
    → (count : ℕ) → EndsAt n entries count → ⊥
none_at_all n entries place all none count ends = none count (omega (arith, all, ends.0)) ends.1
