-- What a trim leaves of a legal journal: it allows the same, and makes the same memory.
use Rattle.std.proofs.Common.{◌≡◌, ◌≢◌, ◌⊎◌, ◌↔◌, ℕ, ◌<◌, ◌==◌, false, [], ◌∷◌, ◌++◌, Option, Some, None, IfSome, is_some, if◌then◌else◌, refl, sym, ◌∙◌, ap, subst, arith, inl, inr}
use Rattle.std.proofs.lemmas.Bool.Decides.{nat_tests}
use Rattle.std.proofs.lemmas.Option.{same_Some}
use Rattle.sd_areas.specs.PlainMemory.{PlainMemory}
use Rattle.sd_command.specs.declared.refusal.Refusal.TheVariants.{Frozen}
use Rattle.sd_command.specs.declared.reply.Reply.{Reply}
use Rattle.sd_command.specs.declared.reply.Reply.TheVariants.{Refused}
use Rattle.sd_command.specs.Replies.{IsLegalReply, effect}
use Rattle.sd_journal.specs.declared.entry.Entry.{Entry}
use Rattle.sd_journal.specs.declared.entry.Entry.TheVariants.{Applied, Freeze, Acked, Cancelled, Reopened}
use Rattle.sd_journal.specs.History.{Base, History, memory_after, at_base, at_freeze, last, pending, unless_it_is}
use Rattle.sd_journal.specs.Legal.{IsAbove, IsLegal}
use Rattle.sd_journal.specs.Allowed.{Shown, IsAllowed, IsLastPair, IsPendingPair}
use Rattle.sd_journal.specs.Trimming.{Ends, IsEnded, base_after}
use Rattle.sd_journal.proofs.HistoryLemmas.{same, none_is_some, unless_some, at_freeze-other, at_freeze-own}
use Rattle.sd_journal.proofs.AllowedLemmas.{none_left}
use Rattle.sd_journal.proofs.MarkedLemmas.{frozen_leaves}

-- ---- what is folded

none_pending : (n : ℕ) (folded : History) → IsEnded n folded → pending folded ≡ None
none_pending n folded ended = grind arith

last_is : (base : Base) (n : ℕ) (folded : History) → IsEnded n folded → last base folded ≡ Some n
last_is base n folded ended = grind arith

-- ---- numbers

more_than : (number : Option ℕ) (n k : ℕ) → IfSome number (λ own. own < n) → n < k → IfSome number (λ own. own < k)
more_than number n k below less = grind arith

above_more : (base : Base) (history : History) (n k : ℕ) → IsAbove base history n → n < k → IsAbove base history k
above_more base [] n k above less = more_than base.number n k above less
above_more base (Applied seat command reply ∷ earlier) n k above less = above_more base earlier n k above less
above_more base (Freeze m ∷ earlier) n k above less = (omega (arith, above.0, less), above_more base earlier n k above.1 less)
above_more base (Acked m ∷ earlier) n k above less = (omega (arith, above.0, less), above_more base earlier n k above.1 less)
above_more base (Cancelled m ∷ earlier) n k above less = (omega (arith, above.0, less), above_more base earlier n k above.1 less)
above_more base (Reopened m ∷ earlier) n k above less = (more_than m n k above.0 less, above_more base earlier n k above.1 less)

-- a number above a pending one is above all
above_pending : (base : Base) (history : History) (n k : ℕ) → IsLegal base history → pending history ≡ Some n → n < k → IsAbove base history k
above_pending base [] n k legal e less = none_is_some n e
above_pending base (Applied seat command reply ∷ earlier) n k legal e less = above_pending base earlier n k legal.1 e less
above_pending base (Freeze m ∷ earlier) n k legal e less =
    let below : m < k = subst (λ o. o < k) (sym (same_Some m n e)) less in
    (below, above_more base earlier m k legal.0.1 below)
above_pending base (Acked m ∷ earlier) n k legal e less = none_left base earlier m n (inl legal.0) e
above_pending base (Cancelled m ∷ earlier) n k legal e less = none_left base earlier m n legal.0 e
above_pending base (Reopened m ∷ earlier) n k legal e less = none_is_some n e

above_end : (base : Base) (n k : ℕ) (folded : History) → IsEnded n folded → IsAbove base folded k → n < k
above_end base n k folded ended above = grind arith

above_folded : (base : Base) (n k : ℕ) (folded : History) → IsLegal base folded → IsEnded n folded → n < k → IsAbove base folded k
above_folded base n k folded legal ended less = grind (arith, above_pending)

above_on : (base : Base) (kept folded : History) (n k : ℕ) → IsEnded n folded → IsAbove base (kept ++ folded) k → IsAbove (base_after base n folded) kept k
above_on base [] folded n k ended above = above_end base n k folded ended above
above_on base (Applied seat command reply ∷ earlier) folded n k ended above = above_on base earlier folded n k ended above
above_on base (Freeze m ∷ earlier) folded n k ended above = (above.0, above_on base earlier folded n k ended above.1)
above_on base (Acked m ∷ earlier) folded n k ended above = (above.0, above_on base earlier folded n k ended above.1)
above_on base (Cancelled m ∷ earlier) folded n k ended above = (above.0, above_on base earlier folded n k ended above.1)
above_on base (Reopened m ∷ earlier) folded n k ended above = (above.0, above_on base earlier folded n k ended above.1)

above_off : (base : Base) (kept folded : History) (n k : ℕ) → IsLegal base (kept ++ folded) → IsEnded n folded → IsAbove (base_after base n folded) kept k → IsAbove base (kept ++ folded) k
above_off base [] folded n k legal ended above = above_folded base n k folded legal ended above
above_off base (Applied seat command reply ∷ earlier) folded n k legal ended above = above_off base earlier folded n k legal.1 ended above
above_off base (Freeze m ∷ earlier) folded n k legal ended above = (above.0, above_off base earlier folded n k legal.1 ended above.1)
above_off base (Acked m ∷ earlier) folded n k legal ended above = (above.0, above_off base earlier folded n k legal.1 ended above.1)
above_off base (Cancelled m ∷ earlier) folded n k legal ended above = (above.0, above_off base earlier folded n k legal.1 ended above.1)
above_off base (Reopened m ∷ earlier) folded n k legal ended above = (above.0, above_off base earlier folded n k legal.1 ended above.1)

pub above : (base : Base) (kept folded : History) (n k : ℕ) → IsLegal base (kept ++ folded) → IsEnded n folded
    → IsAbove (base_after base n folded) kept k ↔ IsAbove base (kept ++ folded) k
above base kept folded n k legal ended = (above_off base kept folded n k legal ended, above_on base kept folded n k ended)

-- ---- memory, last and pending

pub memory : (base : Base) (kept folded : History) (n : ℕ) → memory_after (base_after base n folded) kept ≡ memory_after base (kept ++ folded)
memory base [] folded n = refl
memory base (Applied seat command reply ∷ earlier) folded n = ap (effect command reply) (memory base earlier folded n)
memory base (Freeze m ∷ earlier) folded n = memory base earlier folded n
memory base (Acked m ∷ earlier) folded n = memory base earlier folded n
memory base (Cancelled m ∷ earlier) folded n = memory base earlier folded n
memory base (Reopened m ∷ earlier) folded n = memory base earlier folded n

pub last_stays : (base : Base) (kept folded : History) (n : ℕ) → IsEnded n folded → last (base_after base n folded) kept ≡ last base (kept ++ folded)
last_stays base [] folded n ended = sym (last_is base n folded ended)
last_stays base (Applied seat command reply ∷ earlier) folded n ended = last_stays base earlier folded n ended
last_stays base (Freeze m ∷ earlier) folded n ended = last_stays base earlier folded n ended
last_stays base (Acked m ∷ earlier) folded n ended = refl
last_stays base (Cancelled m ∷ earlier) folded n ended = last_stays base earlier folded n ended
last_stays base (Reopened m ∷ earlier) folded n ended = refl

pub pending_stays : (kept folded : History) (n : ℕ) → IsEnded n folded → pending kept ≡ pending (kept ++ folded)
pending_stays [] folded n ended = sym (none_pending n folded ended)
pending_stays (Applied seat command reply ∷ earlier) folded n ended = pending_stays earlier folded n ended
pending_stays (Freeze m ∷ earlier) folded n ended = refl
pending_stays (Acked m ∷ earlier) folded n ended = ap (unless_it_is m) (pending_stays earlier folded n ended)
pending_stays (Cancelled m ∷ earlier) folded n ended = ap (unless_it_is m) (pending_stays earlier folded n ended)
pending_stays (Reopened m ∷ earlier) folded n ended = refl

-- ---- it is legal

legal_reply : (memory other : PlainMemory) (was is : Option ℕ) (command : _) (reply : Reply) → other ≡ memory → is ≡ was
    → IsLegalReply memory (is_some was) command reply → IsLegalReply other (is_some is) command reply
legal_reply memory other was is command reply e f legal =
    subst (λ m. IsLegalReply m (is_some is) command reply) (sym e) (subst (λ o. IsLegalReply memory (is_some o) command reply) (sym f) legal)

pub legal : (base : Base) (kept folded : History) (n : ℕ) → IsLegal base (kept ++ folded) → IsEnded n folded → IsLegal (base_after base n folded) kept
legal base [] folded n was ended = tt
legal base (Applied seat command reply ∷ earlier) folded n was ended = (
  legal_reply (memory_after base (earlier ++ folded)) (memory_after (base_after base n folded) earlier) (pending (earlier ++ folded)) (pending earlier) command reply
      (memory base earlier folded n) (pending_stays earlier folded n ended) was.0,
  legal base earlier folded n was.1 ended,
)
legal base (Freeze m ∷ earlier) folded n was ended =
    ((pending_stays earlier folded n ended ∙ was.0.0, above_on base earlier folded n m ended was.0.1), legal base earlier folded n was.1 ended)
legal base (Acked m ∷ earlier) folded n was ended =
    (pending_stays earlier folded n ended ∙ was.0, legal base earlier folded n was.1 ended)
legal base (Cancelled m ∷ earlier) folded n was ended = (
  elim was.0 [
    | inl is ↦ inl (pending_stays earlier folded n ended ∙ is)
    | inr none ↦ inr (pending_stays earlier folded n ended ∙ none.0, above_on base earlier folded n m ended none.1)
  ],
  legal base earlier folded n was.1 ended,
)
legal base (Reopened m ∷ earlier) folded n was ended = (
  elim was.0 [
    | inl as_last ↦ inl (as_last ∙ sym (last_stays base earlier folded n ended))
    | inr as_pending ↦ inr (λ none. as_pending.0 (sym (pending_stays earlier folded n ended) ∙ none), as_pending.1 ∙ sym (pending_stays earlier folded n ended))
  ],
  legal base earlier folded n was.1 ended,
)

-- ---- the memory at the freeze

-- while a checkpoint is pending the memory stays as at its freeze
frozen_memory : (base : Base) (history : History) (n : ℕ) → IsLegal base history → pending history ≡ Some n
    → at_freeze base history n ≡ Some (memory_after base history)
frozen_memory base [] n legal e = none_is_some n e
frozen_memory base (Applied seat command reply ∷ earlier) n legal e =
    let refused : IsLegalReply (memory_after base earlier) (is_some (Some n)) command reply =
    subst (λ o. IsLegalReply (memory_after base earlier) (is_some o) command reply) e legal.0 in
    let is : reply ≡ Refused Frozen = refused in
    frozen_memory base earlier n legal.1 e
    ∙ ap Some (sym (ap (λ r. effect command r (memory_after base earlier)) is ∙ frozen_leaves command (memory_after base earlier)))
frozen_memory base (Freeze m ∷ earlier) n legal e =
    subst (λ k. at_freeze base (Freeze m ∷ earlier) k ≡ Some (memory_after base earlier)) (same_Some m n e) (at_freeze-own base earlier m)
frozen_memory base (Acked m ∷ earlier) n legal e = none_left base earlier m n (inl legal.0) e
frozen_memory base (Cancelled m ∷ earlier) n legal e = none_left base earlier m n legal.0 e
frozen_memory base (Reopened m ∷ earlier) n legal e = none_is_some n e

freeze_folded : (base : Base) (folded : History) (n : ℕ) → IsLegal base folded → IsEnded n folded → at_freeze base folded n ≡ Some (memory_after base folded)
freeze_folded base folded n legal ended = grind (arith, frozen_memory)

-- a number above all is above the folded one
above_kept : (base : Base) (kept : History) (n k : ℕ) → base.number ≡ Some n → IsAbove base kept k → n < k
above_kept base [] n k is above = subst (λ o. IfSome o (λ own. own < k)) is above
above_kept base (Applied seat command reply ∷ earlier) n k is above = above_kept base earlier n k is above
above_kept base (Freeze m ∷ earlier) n k is above = above_kept base earlier n k is above.1
above_kept base (Acked m ∷ earlier) n k is above = above_kept base earlier n k is above.1
above_kept base (Cancelled m ∷ earlier) n k is above = above_kept base earlier n k is above.1
above_kept base (Reopened m ∷ earlier) n k is above = above_kept base earlier n k is above.1

pub freeze : (base : Base) (kept folded : History) (n : ℕ) → IsLegal base (kept ++ folded) → IsEnded n folded
    → at_freeze base (kept ++ folded) n ≡ Some (memory_after base folded)
freeze base [] folded n legal ended = freeze_folded base folded n legal ended
freeze base (Applied seat command reply ∷ earlier) folded n legal ended = freeze base earlier folded n legal.1 ended
freeze base (Freeze m ∷ earlier) folded n legal ended =
    at_freeze-other base (earlier ++ folded) m n (above_kept (base_after base n folded) earlier n m refl (above_on base earlier folded n m ended legal.0.1))
    ∙ freeze base earlier folded n legal.1 ended
freeze base (Acked m ∷ earlier) folded n legal ended = freeze base earlier folded n legal.1 ended
freeze base (Cancelled m ∷ earlier) folded n legal ended = freeze base earlier folded n legal.1 ended
freeze base (Reopened m ∷ earlier) folded n legal ended = freeze base earlier folded n legal.1 ended

-- ---- what it allows

-- a number is the folded one, or above it
abbrev IsFrom : ℕ → ℕ → Type 0
IsFrom n k = (k ≡ n) ⊎ (n < k)

pending_from : (base : Base) (kept : History) (n k : ℕ) → base.number ≡ Some n → IsLegal base kept → pending kept ≡ Some k → n < k
pending_from base [] n k is legal e = none_is_some k e
pending_from base (Applied seat command reply ∷ earlier) n k is legal e = pending_from base earlier n k is legal.1 e
pending_from base (Freeze m ∷ earlier) n k is legal e = subst (λ o. n < o) (same_Some m k e) (above_kept base earlier n m is legal.0.1)
pending_from base (Acked m ∷ earlier) n k is legal e = pending_from base earlier n k is legal.1 (unless_some m (pending earlier) k e)
pending_from base (Cancelled m ∷ earlier) n k is legal e = pending_from base earlier n k is legal.1 (unless_some m (pending earlier) k e)
pending_from base (Reopened m ∷ earlier) n k is legal e = none_is_some k e

last_from : (base : Base) (kept : History) (n k : ℕ) → base.number ≡ Some n → IsLegal base kept → last base kept ≡ Some k → IsFrom n k
last_from base [] n k is legal e = inl (same_Some k n (sym e ∙ is))
last_from base (Applied seat command reply ∷ earlier) n k is legal e = last_from base earlier n k is legal.1 e
last_from base (Freeze m ∷ earlier) n k is legal e = last_from base earlier n k is legal.1 e
last_from base (Acked m ∷ earlier) n k is legal e = inr (pending_from base earlier n k is legal.1 (legal.0 ∙ e))
last_from base (Cancelled m ∷ earlier) n k is legal e = last_from base earlier n k is legal.1 e
last_from base (Reopened m ∷ earlier) n k is legal e =
    elim legal.0 [
      | inl as_last ↦ last_from base earlier n k is legal.1 (sym as_last ∙ e)
      | inr as_pending ↦ inr (pending_from base earlier n k is legal.1 (sym as_pending.1 ∙ e))
    ]

-- no freeze has a number above all
not_same : (a b : ℕ) → a < b → (a == b) ≡ false
not_same a b less = grind (arith, nat_tests)

none_in_base : (number : Option ℕ) (memory : PlainMemory) (k : ℕ) → IfSome number (λ own. own < k) → at_base number memory k ≡ None
none_in_base number memory k above = grind arith

none_frozen : (base : Base) (history : History) (k : ℕ) → IsAbove base history k → at_freeze base history k ≡ None
none_frozen base [] k above = none_in_base base.number base.memory k above
none_frozen base (Applied seat command reply ∷ earlier) k above = none_frozen base earlier k above
none_frozen base (Freeze m ∷ earlier) k above = rw (not_same m k above.0) (none_frozen base earlier k above.1)
none_frozen base (Acked m ∷ earlier) k above = none_frozen base earlier k above.1
none_frozen base (Cancelled m ∷ earlier) k above = none_frozen base earlier k above.1
none_frozen base (Reopened m ∷ earlier) k above = none_frozen base earlier k above.1

base_freeze : (base : Base) (folded : History) (n k : ℕ) → IsLegal base folded → IsEnded n folded → IsFrom n k
    → at_base (Some n) (memory_after base folded) k ≡ at_freeze base folded k
base_freeze base folded n k legal ended given = grind (arith, same, freeze_folded, not_same, none_frozen, above_folded)

freeze_stays : (base : Base) (kept folded : History) (n k : ℕ) → IsLegal base (kept ++ folded) → IsEnded n folded → IsFrom n k
    → at_freeze (base_after base n folded) kept k ≡ at_freeze base (kept ++ folded) k
freeze_stays base [] folded n k legal ended from = base_freeze base folded n k legal ended from
freeze_stays base (Applied seat command reply ∷ earlier) folded n k legal ended from = freeze_stays base earlier folded n k legal.1 ended from
freeze_stays base (Freeze m ∷ earlier) folded n k legal ended from =
    ap (λ x. if m == k then Some x else at_freeze (base_after base n folded) earlier k) (memory base earlier folded n)
    ∙ ap (λ x. if m == k then Some (memory_after base (earlier ++ folded)) else x) (freeze_stays base earlier folded n k legal.1 ended from)
freeze_stays base (Acked m ∷ earlier) folded n k legal ended from = freeze_stays base earlier folded n k legal.1 ended from
freeze_stays base (Cancelled m ∷ earlier) folded n k legal ended from = freeze_stays base earlier folded n k legal.1 ended from
freeze_stays base (Reopened m ∷ earlier) folded n k legal ended from = freeze_stays base earlier folded n k legal.1 ended from

last_off : (base : Base) (kept folded : History) (n : ℕ) (shown : Shown) → IsLegal base (kept ++ folded) → IsEnded n folded
    → IsLastPair (base_after base n folded) kept shown → IsLastPair base (kept ++ folded) shown
last_off base kept folded n shown was ended none = grind (arith, last_stays, last_from, legal, freeze_stays)

last_on : (base : Base) (kept folded : History) (n : ℕ) (shown : Shown) → IsLegal base (kept ++ folded) → IsEnded n folded
    → IsLastPair base (kept ++ folded) shown → IsLastPair (base_after base n folded) kept shown
last_on base kept folded n shown was ended none = grind (arith, last_stays, last_from, legal, freeze_stays)

pub last_pair : (base : Base) (kept folded : History) (n : ℕ) (shown : Shown) → IsLegal base (kept ++ folded) → IsEnded n folded
    → IsLastPair (base_after base n folded) kept shown ↔ IsLastPair base (kept ++ folded) shown
last_pair base kept folded n shown was ended = (last_off base kept folded n shown was ended, last_on base kept folded n shown was ended)

pending_off : (base : Base) (kept folded : History) (n : ℕ) (shown : Shown) → IsLegal base (kept ++ folded) → IsEnded n folded
    → IsPendingPair (base_after base n folded) kept shown → IsPendingPair base (kept ++ folded) shown
pending_off base kept folded n shown was ended never = grind (arith, pending_from, legal, pending_stays, freeze_stays)

pending_on : (base : Base) (kept folded : History) (n : ℕ) (shown : Shown) → IsLegal base (kept ++ folded) → IsEnded n folded
    → IsPendingPair base (kept ++ folded) shown → IsPendingPair (base_after base n folded) kept shown
pending_on base kept folded n shown was ended never = grind (arith, pending_stays, pending_from, legal, freeze_stays)

pub pending_pair : (base : Base) (kept folded : History) (n : ℕ) (shown : Shown) → IsLegal base (kept ++ folded) → IsEnded n folded
    → IsPendingPair (base_after base n folded) kept shown ↔ IsPendingPair base (kept ++ folded) shown
pending_pair base kept folded n shown was ended = (pending_off base kept folded n shown was ended, pending_on base kept folded n shown was ended)

pub allowed : (base : Base) (kept folded : History) (n : ℕ) (shown : Shown) → IsLegal base (kept ++ folded) → IsEnded n folded
    → IsAllowed (base_after base n folded) kept shown ↔ IsAllowed base (kept ++ folded) shown
allowed base kept folded n shown was ended = grind (arith, last_off, pending_off, last_on, pending_on)

-- ---- there is one front

ends_pending : (n : ℕ) (before : History) (entry : Entry) → Ends n before entry → pending before ≡ Some n
ends_pending n before entry ends = grind arith

never_less : {P : Type 0} (n : ℕ) → n < n → P
never_less n less = absurd (omega (arith, less))

-- none stands after another
not_twice : (base : Base) (kept folded : History) (n : ℕ) (entry : Entry) {P : Type 0} → IsLegal base (kept ++ folded) → IsEnded n folded
    → Ends n (kept ++ folded) entry → P
not_twice base kept folded n entry was ended ends =
    let is = pending_stays kept folded n ended ∙ ends_pending n (kept ++ folded) entry ends in
    never_less n (pending_from (base_after base n folded) kept n n refl (legal base kept folded n was ended) is)

abbrev rest : History → History
rest [] = []
rest (entry ∷ earlier) = earlier

pub one : (base : Base) (kept folded other_kept other : History) (n : ℕ) → IsLegal base (kept ++ folded)
    → kept ++ folded ≡ other_kept ++ other → IsEnded n folded → IsEnded n other → folded ≡ other
one base [] folded [] other n was e ended also = e
one base [] folded (entry ∷ more) other n was e ended also =
    not_twice base more other n entry (subst (IsLegal base) e was).1 also (subst (IsEnded n) e ended)
one base (entry ∷ more) folded [] other n was e ended also =
    not_twice base more folded n entry was.1 ended (subst (IsEnded n) (sym e) also)
one base (entry ∷ kept) folded (next ∷ more) other n was e ended also =
    one base kept folded more other n was.1 (ap rest e) ended also

pub some : (base : Base) (history : History) (n : ℕ) → IsLegal base history → last base history ≡ Some n → base.number ≢ Some n
    → (kept : History) × (folded : History) × (history ≡ kept ++ folded) × IsEnded n folded
some base [] n was is other = absurd (other is)
some base (Applied seat command reply ∷ earlier) n was is other =
    let found = some base earlier n was.1 is other in
    (Applied seat command reply ∷ found.0, found.1, ap (λ h. Applied seat command reply ∷ h) found.2, found.3)
some base (Freeze m ∷ earlier) n was is other =
    let found = some base earlier n was.1 is other in
    (Freeze m ∷ found.0, found.1, ap (λ h. Freeze m ∷ h) found.2, found.3)
some base (Acked m ∷ earlier) n was is other = ([], Acked m ∷ earlier, refl, (same_Some m n is, was.0 ∙ is))
some base (Cancelled m ∷ earlier) n was is other =
    let found = some base earlier n was.1 is other in
    (Cancelled m ∷ found.0, found.1, ap (λ h. Cancelled m ∷ h) found.2, found.3)
some base (Reopened m ∷ earlier) n was is other =
    elim was.0 [
      | inl as_last ↦
          let found = some base earlier n was.1 (sym as_last ∙ is) other in
          (Reopened m ∷ found.0, found.1, ap (λ h. Reopened m ∷ h) found.2, found.3)
      | inr as_pending ↦ ([], Reopened m ∷ earlier, refl, (is, sym as_pending.1 ∙ is))
    ]
