-- Faults of receipts, one after the other.
use Rattle.std.proofs.Common.{◌≡◌, ◌⊎◌, ◌+◌, ◌<◌, ◌≤◌, ◌++◌, ℕ, List, [], ◌∷◌, length, take, get_or, Option, Some, slice_get, refl, sym, ◌∙◌, ap, subst, arith, inl, inr}
use Rattle.std.proofs.lemmas.Bool.{cases_order}
use Rattle.std.proofs.lemmas.List.{take_more, take_all}
use Rattle.std.proofs.lemmas.Option.{slice_get_within, slice_get_read, same_Some}
use Rattle.sd_journal.specs.declared.close_fault.CloseFault.{CloseFault}
use Rattle.sd_journal.specs.declared.close_fault.CloseFault.TheVariants.{NotThere, Differs, OutOfOrder, Count, Acks}
use Rattle.sd_journal.specs.declared.entry.Entry.{Entry}
use Rattle.sd_journal.specs.declared.receipt.Receipt.{Receipt}
use Rattle.sd_journal.specs.Receipts.{Accounts, AllStand, AreRising, HasCommand, IsFault, IsFaultAfter, IsFaultAt, Stands, command_count}
use Rattle.sd_receipts.specs.Noted.{AreNoted, Rises}
use Rattle.sd_receipts.proofs.GotLemmas.{front_of_front, got_before, got_in_front, got_push, got_taken, none_is_some}

-- what is known of the receipts so far
pub record Checked (first : ℕ) (journal : List Entry) (receipts : List Receipt) (last : List (Option ℕ)) : Type 0 where
  pub stand : AllStand first journal receipts
  pub rising : AreRising receipts
  pub noted : AreNoted receipts last

pub none_checked : (first : ℕ) (journal : List Entry) (last : List (Option ℕ)) → AreNoted [] last → Checked first journal [] last
none_checked first journal last noted = record {
  stand = λ k receipt got. none_is_some receipt got;
  rising = λ j k earlier later below got. none_is_some earlier got;
  noted = noted;
}

module _ (first : ℕ) (journal : List Entry) (receipts : List Receipt) (last new : List (Option ℕ)) (r : Receipt)
    (checked : Checked first journal receipts last) (stands : Stands first journal r) (rises : Rises receipts r) where
  all_stand : AllStand first journal (receipts ++ r ∷ [])
  all_stand k receipt got = grind (arith, got_push)

  are_rising : AreRising (receipts ++ r ∷ [])
  are_rising j k earlier later less got_earlier got_later same = grind (arith, got_push, slice_get_within)

  one_more : AreNoted (receipts ++ r ∷ []) new → Checked first journal (receipts ++ r ∷ []) new
  one_more noted = record { stand = all_stand; rising = are_rising; noted = noted }

-- one more of the receipts
pub checked_more : (first : ℕ) (journal : List Entry) (receipts : List Receipt) (last new : List (Option ℕ)) (i : ℕ) (r : Receipt)
    → i < length receipts → r ≡ get_or receipts i r → Checked first journal (take i receipts) last → Stands first journal r → Rises (take i receipts) r
    → AreNoted (take i receipts ++ r ∷ []) new → Checked first journal (take (i + 1) receipts) new
checked_more first journal receipts last new i r within is checked stands rises noted =
    let more : take (i + 1) receipts ≡ take i receipts ++ (r ∷ []) = take_more receipts i r within ∙ ap (λ x. take i receipts ++ (x ∷ [])) (sym is) in
    subst (λ xs. Checked first journal xs new) (sym more) (one_more first journal (take i receipts) last new r checked stands rises noted)

-- all receipts were checked
pub all_checked : (first : ℕ) (journal : List Entry) (receipts : List Receipt) (last : List (Option ℕ)) (i : ℕ) → length receipts ≤ i
    → Checked first journal (take i receipts) last → AllStand first journal receipts × AreRising receipts
all_checked first journal receipts last i end checked = grind (arith, take_all)

-- the fault of a receipt after those before it is the first of a receipt
pub fault_at : (first : ℕ) (journal : List Entry) (receipts : List Receipt) (i : ℕ) (r : Receipt) (last : List (Option ℕ)) (fault : CloseFault)
    → i < length receipts → r ≡ get_or receipts i r → Checked first journal (take i receipts) last → IsFaultAfter first journal (take i receipts) r fault
    → IsFaultAt first journal receipts fault
fault_at first journal receipts i r last fault within is checked after =
    (i, r, slice_get_read receipts (length receipts) i r refl within is, checked.stand, checked.rising, after)

-- the first of a receipt is the first of all
pub fault_is : (first : ℕ) (journal : List Entry) (receipts : List Receipt) (acks : List ℕ) (fault : CloseFault)
    → IsFaultAt first journal receipts fault → IsFault first journal receipts acks fault
fault_is first journal receipts acks fault at = grind arith

-- receipts that stand and rise have none at fault
pub none_after : (first : ℕ) (journal : List Entry) (receipts : List Receipt) (k : ℕ) (r : Receipt) (fault : CloseFault)
    → AllStand first journal receipts → AreRising receipts → slice_get receipts k ≡ Some r → IsFaultAfter first journal (take k receipts) r fault → ⊥
none_after first journal receipts k r (NotThere n) stand rising got after =
    after.1 (subst (HasCommand first journal) (sym after.0) (r.seat, r.command, r.reply, stand k r got))
none_after first journal receipts k r (Differs n) stand rising got after = after.2 (stand k r got)
none_after first journal receipts k r (OutOfOrder seat) stand rising got after =
    let found = after.2 in
    let before = got_before receipts k found.0 found.1 found.2 in
    let less = rising found.0 k found.1 r before (got_taken receipts k found.0 found.1 found.2) got found.3 in
    omega (arith, less, found.4)
none_after first journal receipts k r _ stand rising got after = after

pub none_at : (first : ℕ) (journal : List Entry) (receipts : List Receipt) (fault : CloseFault)
    → AllStand first journal receipts → AreRising receipts → IsFaultAt first journal receipts fault → ⊥
none_at first journal receipts fault stand rising at =
    none_after first journal receipts at.0 at.1 fault stand rising at.2 at.5

-- a journal with a fault doesn't account
pub fault_apart : (first : ℕ) (journal : List Entry) (receipts : List Receipt) (acks : List ℕ) (fault : CloseFault)
    → IsFault first journal receipts acks fault → Accounts first journal receipts acks → ⊥
fault_apart first journal receipts acks (NotThere n) is accounts = none_at first journal receipts (NotThere n) accounts.stand accounts.rising is
fault_apart first journal receipts acks (Differs n) is accounts = none_at first journal receipts (Differs n) accounts.stand accounts.rising is
fault_apart first journal receipts acks (OutOfOrder seat) is accounts = none_at first journal receipts (OutOfOrder seat) accounts.stand accounts.rising is
fault_apart first journal receipts acks Count is accounts = is.2 accounts.count
fault_apart first journal receipts acks Acks is accounts = is.3 accounts.acked

-- ---- there is at most one

-- a receipt that stands is a command
stands_there : (first : ℕ) (journal : List Entry) (r : Receipt) (n : ℕ) → n ≡ r.number → Stands first journal r → HasCommand first journal n
stands_there first journal r n is stands = subst (HasCommand first journal) (sym is) (r.seat, r.command, r.reply, stands)

one_after : (first : ℕ) (journal : List Entry) (before : List Receipt) (r : Receipt) (fault other : CloseFault)
    → IsFaultAfter first journal before r fault → IsFaultAfter first journal before r other → fault ≡ other
one_after first journal before r (NotThere n) (NotThere m) a b = ap NotThere (a.0 ∙ sym b.0)
one_after first journal before r (NotThere n) (Differs m) a b = absurd (a.1 (subst (HasCommand first journal) (b.0 ∙ sym a.0) b.1))
one_after first journal before r (NotThere n) (OutOfOrder seat) a b = absurd (a.1 (stands_there first journal r n a.0 b.1))
one_after first journal before r (Differs n) (NotThere m) a b = absurd (b.1 (subst (HasCommand first journal) (a.0 ∙ sym b.0) a.1))
one_after first journal before r (Differs n) (Differs m) a b = ap Differs (a.0 ∙ sym b.0)
one_after first journal before r (Differs n) (OutOfOrder seat) a b = absurd (a.2 b.1)
one_after first journal before r (OutOfOrder seat) (NotThere m) a b = absurd (b.1 (stands_there first journal r m b.0 a.1))
one_after first journal before r (OutOfOrder seat) (Differs m) a b = absurd (b.2 a.1)
one_after first journal before r (OutOfOrder seat) (OutOfOrder other) a b = ap OutOfOrder (a.0 ∙ sym b.0)
one_after first journal before r Count other a b = absurd a
one_after first journal before r Acks other a b = absurd a
one_after first journal before r _ _ a b = absurd b

module _ (first : ℕ) (journal : List Entry) (receipts : List Receipt) where
  -- a receipt at fault has none at fault before it
  not_below : (fault other : CloseFault) (a : IsFaultAt first journal receipts fault) (b : IsFaultAt first journal receipts other) → a.0 < b.0 → ⊥
  not_below fault other a b less =
      let front : take a.0 (take b.0 receipts) ≡ take a.0 receipts = front_of_front receipts a.0 b.0 (omega (arith, less)) in
      none_after first journal (take b.0 receipts) a.0 a.1 fault b.3 b.4 (got_in_front receipts b.0 a.0 a.1 less a.2)
      (subst (λ xs. IsFaultAfter first journal xs a.1 fault) (sym front) a.5)

  one_at : (fault other : CloseFault) → IsFaultAt first journal receipts fault → IsFaultAt first journal receipts other → fault ≡ other
  one_at fault other a b = elim (cases_order a.0 b.0) [
    | inl same ↦
        let own : a.1 ≡ b.1 = same_Some a.1 b.1 (sym a.2 ∙ ap (slice_get receipts) same ∙ b.2) in
        one_after first journal (take b.0 receipts) b.1 fault other
        (subst (λ r. IsFaultAfter first journal (take b.0 receipts) r fault) own (subst (λ k. IsFaultAfter first journal (take k receipts) a.1 fault) same a.5)) b.5
    | inr apart ↦ elim apart [
      | inl below ↦ absurd (not_below fault other a b below)
      | inr above ↦ absurd (not_below other fault b a above)
    ]
  ]

  -- the receipts are well
  abbrev AreWell : Type 0
  AreWell = AllStand first journal receipts × AreRising receipts

  -- which fault it is
  abbrev Kind : List ℕ → CloseFault → Type 0
  Kind acks fault = IsFaultAt first journal receipts fault
      ⊎ (((fault ≡ Count) × AreWell × (command_count journal ≡ length receipts → ⊥)) ⊎ ((fault ≡ Acks) × AreWell × (command_count journal ≡ length receipts)))

  kind_of : (acks : List ℕ) (fault : CloseFault) → IsFault first journal receipts acks fault → Kind acks fault
  kind_of acks Count is = inr (inl (refl, (is.0, is.1), is.2))
  kind_of acks Acks is = inr (inr (refl, (is.0, is.1), is.2))
  kind_of acks _ is = inl is

  not_both : (fault : CloseFault) → AreWell → IsFaultAt first journal receipts fault → ⊥
  not_both fault well at = none_at first journal receipts fault well.0 well.1 at

  pub one_fault : (acks : List ℕ) (fault other : CloseFault) → IsFault first journal receipts acks fault → IsFault first journal receipts acks other → fault ≡ other
  one_fault acks fault other a b = elim (kind_of acks fault a) [
    | inl at ↦ elim (kind_of acks other b) [
      | inl too ↦ one_at fault other at too
      | inr rest ↦ elim rest [ inl count ↦ absurd (not_both fault count.1 at) | inr acked ↦ absurd (not_both fault acked.1 at) ]
    ]
    | inr own ↦ elim own [
      | inl count ↦ elim (kind_of acks other b) [
        | inl at ↦ absurd (not_both other count.1 at)
        | inr rest ↦ elim rest [ inl too ↦ count.0 ∙ sym too.0 | inr acked ↦ absurd (count.2 acked.2) ]
      ]
      | inr acked ↦ elim (kind_of acks other b) [
        | inl at ↦ absurd (not_both other acked.1 at)
        | inr rest ↦ elim rest [ inl count ↦ absurd (count.2 acked.2) | inr too ↦ acked.0 ∙ sym too.0 ]
      ]
    ]
  ]
