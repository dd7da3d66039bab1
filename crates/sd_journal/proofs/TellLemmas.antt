-- What a journal says, entry by entry.
use Rattle.std.proofs.Common.{◌≡◌, ◌≢◌, ◌⊎◌, ◌↔◌, ◌==◌, ℕ, Bool, true, false, if◌then◌else◌, List, [], ◌∷◌, Option, Some, None, refl, sym, ◌∙◌, ap, subst, inl, inr, arith}
use Rattle.std.proofs.lemmas.Option.{same_Some}
use Rattle.std.proofs.lemmas.Bool.Decides.{nat_tests}
use Rattle.sd_areas.specs.PlainMemory.{PlainMemory}
use Rattle.sd_command.specs.Replies.{effect}
use Rattle.sd_journal.specs.declared.entry.Entry.TheVariants.{Applied, Freeze, Acked, Cancelled, Reopened}
use Rattle.sd_journal.specs.History.{Base, History, at_base, at_freeze, last, memory_after, pending, unless_it_is}
use Rattle.sd_journal.specs.Legal.{IsAbove, IsLegal}
use Rattle.sd_journal.specs.Allowed.{IsAllowed, IsLastPair, IsPendingPair, Shown, shown_number}
use Rattle.sd_journal.specs.Tell.{MayShow, Told, after, chosen, first_memory, tell}
use Rattle.sd_journal.specs.RunLaws.{Agrees, IsPendingAs, StartsAs, RunLaws}
use Rattle.sd_journal.proofs.HistoryLemmas.{at_freeze-other, at_freeze-own, last_below, none_is_some, same}

no_some : {A P : Type 0} (a : A) → (let s : Option A = Some a in s ≡ None) → P
no_some a e = absurd (cc)

module _ (base : Base) where
  last_kept : (one other : History) (x : Shown) → last base other ≡ last base one
      → ((n : ℕ) → last base one ≡ Some n → at_freeze base other n ≡ at_freeze base one n) → IsLastPair base one x → IsLastPair base other x
  last_kept one other None same_last same_freeze is = same_last ∙ is
  last_kept one other (Some p) same_last same_freeze is = (same_last ∙ is.0, same_freeze p.0 is.0 ∙ is.1)

  pending_kept : (one other : History) (x : Shown) → pending other ≡ pending one → ((n : ℕ) → at_freeze base other n ≡ at_freeze base one n)
      → IsPendingAs base one x → IsPendingAs base other x
  pending_kept one other None same_pending same_freeze is = same_pending ∙ is
  pending_kept one other (Some p) same_pending same_freeze is = (same_pending ∙ is.0, same_freeze p.0 ∙ is.1)

  -- the last checkpoint has a number, which is that of what is said
  pub last_is : (history : History) (n : ℕ) (x : Shown) → last base history ≡ Some n → IsLastPair base history x
      → (memory : PlainMemory) × (x ≡ Some (n, memory)) × (at_freeze base history n ≡ Some memory)
  last_is history n None number is = none_is_some n (sym is ∙ number)
  last_is history n (Some p) number is =
      let e : p.0 ≡ n = same_Some p.0 n (sym is.0 ∙ number) in
      (p.1, ap (λ k. Some (k, p.1)) e, subst (λ k. at_freeze base history k ≡ Some p.1) e is.1)

  pending_is : (history : History) (n : ℕ) (x : Shown) → pending history ≡ Some n → IsPendingAs base history x
      → (memory : PlainMemory) × (x ≡ Some (n, memory)) × (at_freeze base history n ≡ Some memory)
  pending_is history n None number is = none_is_some n (sym is ∙ number)
  pending_is history n (Some p) number is =
      let e : p.0 ≡ n = same_Some p.0 n (sym is.0 ∙ number) in
      (p.1, ap (λ k. Some (k, p.1)) e, subst (λ k. at_freeze base history k ≡ Some p.1) e is.1)

  chosen_own : (n : ℕ) (memory : PlainMemory) (x : Shown) → chosen n (Some (n, memory)) x ≡ Some (n, memory)
  chosen_own n memory x = rw (same n) refl

  -- an acknowledgement
  acked_last : (history : History) (n : ℕ) (told : Told) → pending history ≡ Some n → IsPendingAs base history told.pending
      → IsLastPair base (Acked n ∷ history) (chosen n told.pending told.last)
  acked_last history n told number is =
      let found = pending_is history n told.pending number is in
      subst (λ x. IsLastPair base (Acked n ∷ history) (chosen n x told.last)) (sym found.1)
      (subst (IsLastPair base (Acked n ∷ history)) (sym (chosen_own n found.0 told.last)) (refl, found.2))

  ended : (history : History) (n : ℕ) → (pending history ≡ Some n) ⊎ (pending history ≡ None) → unless_it_is n (pending history) ≡ None
  ended history n (inl is) = ap (unless_it_is n) is ∙ (let e : unless_it_is n (Some n) ≡ None = rw (same n) refl in e)
  ended history n (inr is) = ap (unless_it_is n) is

  -- a reopening that found a number
  by_last : (history : History) (n : ℕ) (x : Shown) → last base history ≡ Some n → IsLastPair base history x → IsLastPair base (Reopened (Some n) ∷ history) x
  by_last history n x number is =
      let found = last_is history n x number is in
      subst (IsLastPair base (Reopened (Some n) ∷ history)) (sym found.1) (refl, found.2)

  found_last : (history : History) (n : ℕ) (told : Told) → (Some n ≡ last base history) ⊎ ((pending history ≢ None) × (Some n ≡ pending history))
      → IsLastPair base history told.last → IsPendingAs base history told.pending
      → IsLastPair base (Reopened (Some n) ∷ history) (chosen n told.pending told.last)
  found_last history n told (inr given) is waits =
      let found = pending_is history n told.pending (sym given.1) waits in
      subst (λ x. IsLastPair base (Reopened (Some n) ∷ history) (chosen n x told.last)) (sym found.1)
      (subst (IsLastPair base (Reopened (Some n) ∷ history)) (sym (chosen_own n found.0 told.last)) (refl, found.2))
  found_last history n told (inl number) is waits = by told.pending waits
    where
      by : (x : Shown) → IsPendingAs base history x → IsLastPair base (Reopened (Some n) ∷ history) (chosen n x told.last)
      by None w = by_last history n told.last (sym number) is
      by (Some p) w = whether (p.0 == n) refl
        where
          whether : (b : Bool) → (p.0 == n) ≡ b → IsLastPair base (Reopened (Some n) ∷ history) (if p.0 == n then Some p else told.last)
          whether true e =
              let k : p.0 ≡ n = grind (arith, nat_tests) in
              rw e (ap Some (sym k), w.1)
          whether false e = rw e (by_last history n told.last (sym number) is)

  agrees : (first : Shown) (history : History) → StartsAs base first → IsLegal base history → Agrees base history (tell first history)
  agrees None [] starts legal = record { memory = starts.memory; last = starts.number; pending = refl }
  agrees (Some p) [] starts legal = record {
    memory = starts.memory;
    last = (starts.number, subst (λ number. at_base number base.memory p.0 ≡ Some p.1) (sym starts.number) (let e : at_base (Some p.0) base.memory p.0 ≡ Some base.memory = rw (same p.0) refl in e ∙ ap Some starts.memory));
    pending = refl;
  }
  agrees first (Applied seat command reply ∷ history) starts legal =
      let was = agrees first history starts legal.1 in
      let told = tell first history in
      record {
        memory = ap (effect command reply) was.memory;
        last = last_kept history (Applied seat command reply ∷ history) told.last refl (λ n e. refl) was.last;
        pending = pending_kept history (Applied seat command reply ∷ history) told.pending refl (λ n. refl) was.pending;
      }
  agrees first (Freeze m ∷ history) starts legal =
      let was = agrees first history starts legal.1 in
      let told = tell first history in
      record {
        memory = was.memory;
        last = last_kept history (Freeze m ∷ history) told.last refl (λ n e. at_freeze-other base history m n (last_below base history m n legal.0.1 e)) was.last;
        pending = (refl, at_freeze-own base history m ∙ ap Some was.memory);
      }
  agrees first (Acked n ∷ history) starts legal =
      let was = agrees first history starts legal.1 in
      record {
        memory = was.memory;
        last = acked_last history n (tell first history) legal.0 was.pending;
        pending = ended history n (inl legal.0);
      }
  agrees first (Cancelled n ∷ history) starts legal =
      let was = agrees first history starts legal.1 in
      let told = tell first history in
      record {
        memory = was.memory;
        last = last_kept history (Cancelled n ∷ history) told.last refl (λ k e. refl) was.last;
        pending = ended history n (elim legal.0 [
          | inl is ↦ inl is
          | inr none ↦ inr none.0
        ]);
      }
  agrees first (Reopened None ∷ history) starts legal =
      let was = agrees first history starts legal.1 in
      record { memory = was.memory; last = refl; pending = refl }
  agrees first (Reopened (Some n) ∷ history) starts legal =
      let was = agrees first history starts legal.1 in
      record { memory = was.memory; last = found_last history n (tell first history) legal.0 was.last was.pending; pending = refl }

  -- ---- what may be shown

  one_last : (history : History) (x y : Shown) → IsLastPair base history x → IsLastPair base history y → x ≡ y
  one_last history None None one other = refl
  one_last history None (Some p) one other = none_is_some p.0 (sym one ∙ other.0)
  one_last history (Some p) None one other = none_is_some p.0 (sym other ∙ one.0)
  one_last history (Some p) (Some q) one other =
      let found = last_is history p.0 (Some q) one.0 other in
      let m : found.0 ≡ p.1 = same_Some found.0 p.1 (sym found.2 ∙ one.1) in
      sym (found.1 ∙ ap (λ k. Some (p.0, k)) m)

  one_pending : (history : History) (p : ℕ × PlainMemory) (y : Shown) → IsPendingPair base history (Some p) → IsPendingAs base history y → Some p ≡ y
  one_pending history p y one other =
      let found = pending_is history p.0 y one.0 other in
      let m : found.0 ≡ p.1 = same_Some found.0 p.1 (sym found.2 ∙ one.1) in
      sym (found.1 ∙ ap (λ k. Some (p.0, k)) m)

  to_told : (history : History) (told : Told) (shown : Shown) → Agrees base history told → IsAllowed base history shown → MayShow told shown
  to_told history told shown is (inl as_last) = inl (one_last history shown told.last as_last is.last)
  to_told history told None is (inr as_pending) = absurd as_pending
  to_told history told (Some p) is (inr as_pending) =
      let e = one_pending history p told.pending as_pending is.pending in
      inr (λ none. no_some p (e ∙ none), e)

  waits_so : (history : History) (y : Shown) → y ≢ None → IsPendingAs base history y → IsPendingPair base history y
  waits_so history None some is = absurd (some refl)
  waits_so history (Some p) some is = is

  from_told : (history : History) (told : Told) (shown : Shown) → Agrees base history told → MayShow told shown → IsAllowed base history shown
  from_told history told shown is (inl as_last) = inl (subst (IsLastPair base history) (sym as_last) is.last)
  from_told history told shown is (inr waits) =
      inr (subst (IsPendingPair base history) (sym waits.1) (waits_so history told.pending waits.0 is.pending))

pub run_laws : RunLaws
run_laws = record {
  agrees = λ base first history. agrees base first history;
  allowed = λ base first history shown starts legal.
      let is = agrees base first history starts legal in
      (to_told base history (tell first history) shown is, from_told base history (tell first history) shown is);
}
