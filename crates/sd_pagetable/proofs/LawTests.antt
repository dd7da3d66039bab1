-- One event more in a history: whether a page is then dirty, and whether it is open.
use Rattle.std.proofs.Common.{◌≡◌, ℕ, ◌+◌, Bool, true, false, not, cond, ◌||◌, List, [], ◌∷◌, take, refl, sym, ◌∙◌, ap, arith}
use Rattle.std.specs.List.{list_any, prefix_len}
use Rattle.sd_pagetable.specs.Tracking.{MemoryEvent, touches, clears, makes_writable, write_protects, since, is_dirty, is_writable}

taken : (b : Bool) (event : MemoryEvent) (history : List MemoryEvent) (n : ℕ) → take (cond (not b) (1 + n) 0) (event ∷ history) ≡ cond b [] (event ∷ take n history)
taken b event history n = grind arith

since_more : (test : MemoryEvent → Bool) (event : MemoryEvent) (history : List MemoryEvent) → since test (event ∷ history) ≡ cond (test event) [] (event ∷ since test history)
since_more test event history = taken (test event) event history (prefix_len (λ e. not (test e)) history)

any_of : (b : Bool) (test : MemoryEvent → Bool) (event : MemoryEvent) (history : List MemoryEvent) → list_any test (cond b [] (event ∷ history)) ≡ cond b false (test event || list_any test history)
any_of b test event history = grind arith

any_since : (test stop : MemoryEvent → Bool) (event : MemoryEvent) (history : List MemoryEvent) → list_any test (since stop (event ∷ history)) ≡ cond (stop event) false (test event || list_any test (since stop history))
any_since test stop event history = ap (list_any test) (since_more stop event history) ∙ any_of (stop event) test event (since stop history)

dirty_by : (clear touch before any : Bool) → (cond clear false (touch || before) || not (clear || any)) ≡ cond clear false (touch || (before || not any))
dirty_by clear touch before any = grind arith

pub dirty_more : (event : MemoryEvent) (history : List MemoryEvent) (space page : ℕ)
    → is_dirty (event ∷ history) space page ≡ cond (clears space page event) false (touches space page event || is_dirty history space page)
dirty_more event history space page = grind arith

pub writable_more : (event : MemoryEvent) (history : List MemoryEvent) (space page : ℕ)
    → is_writable (event ∷ history) space page ≡ cond (write_protects space page event) false (makes_writable space page event || is_writable history space page)
writable_more event history space page = any_since (makes_writable space page) (write_protects space page) event history

-- a clear write_protects, and what makes_writable touches
clear_write_protects : (event : MemoryEvent) (space page : ℕ) → write_protects space page event ≡ false → clears space page event ≡ false
clear_write_protects event space page e = grind arith

making_writable_touches : (event : MemoryEvent) (space page : ℕ) → makes_writable space page event ≡ true → touches space page event ≡ true
making_writable_touches event space page e = grind arith

writable_dirty : (close clear opens_it touch was_open was_dirty : Bool) → (close ≡ false → clear ≡ false) → (opens_it ≡ true → touch ≡ true) → (was_open ≡ true → was_dirty ≡ true)
    → cond close false (opens_it || was_open) ≡ true → cond clear false (touch || was_dirty) ≡ true
writable_dirty close clear opens_it touch was_open was_dirty h t w e = grind arith

-- what is open is dirty
pub writable_is_dirty : (history : List MemoryEvent) (space page : ℕ) → is_writable history space page ≡ true → is_dirty history space page ≡ true
writable_is_dirty [] space page e = refl
writable_is_dirty (event ∷ history) space page e =
    dirty_more event history space page
    ∙ writable_dirty (write_protects space page event) (clears space page event) (makes_writable space page event) (touches space page event) (is_writable history space page) (is_dirty history space page)
    (clear_write_protects event space page) (making_writable_touches event space page) (writable_is_dirty history space page) (sym (writable_more event history space page) ∙ e)
