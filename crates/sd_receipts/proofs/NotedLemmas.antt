-- The last number of each seat, and one receipt more.
use Rattle.std.proofs.Common.{◌≡◌, ◌+◌, ◌<◌, ◌≤◌, ◌++◌, ℕ, zero, suc, List, [], ◌∷◌, length, take, get_or, replicate, Option, Some, None, slice_get, sym, ◌∙◌, ap, subst, arith, inl, inr, length-set}
use Rattle.std.proofs.Math.ListN.{set}
use Rattle.std.proofs.lemmas.Bool.{cases_eq}
use Rattle.std.proofs.lemmas.List.{length-replicate, take_all, take_more}
use Rattle.std.proofs.lemmas.Option.{same_Some}
use Rattle.sd_journal.specs.declared.receipt.Receipt.{Receipt}
use Rattle.sd_receipts.specs.Noted.{AreNoted, Rises}
use Rattle.sd_receipts.proofs.GotLemmas.{got_front, got_last, got_other, got_push, got_set, none_is_some}

-- one more of the receipts before it
pub rises_more : (before : List Receipt) (i : ℕ) (r item : Receipt) → i < length before → item ≡ get_or before i item → Rises (take i before) r
    → (item.seat ≡ r.seat → item.number < r.number) → Rises (take (i + 1) before) r
rises_more before i r item within is rises own = λ k earlier got same.
    let more : take (i + 1) before ≡ take i before ++ (item ∷ []) = take_more before i item within ∙ ap (λ x. take i before ++ (x ∷ [])) (sym is) in
    elim (got_push (take i before) item earlier k (sym (ap (λ (xs : List Receipt). slice_get xs k) more) ∙ got)) [
      | inl was ↦ rises k earlier was same
      | inr end ↦
          let less = own (sym (ap (λ (x : Receipt). x.seat) end.1) ∙ same) in
          let number : earlier.number ≡ item.number = ap (λ (x : Receipt). x.number) end.1 in
          omega (arith, number, less)
    ]

pub rises_all : (before : List Receipt) (i : ℕ) (r : Receipt) → length before ≤ i → Rises (take i before) r → Rises before r
rises_all before i r end rises = subst (λ xs. Rises xs r) (take_all i before end) rises

-- no seat has a number yet
no_number : (n seat number : ℕ) → slice_get (let none : Option ℕ = None in replicate n none) seat ≡ Some (Some number) → ⊥
no_number zero seat number e = none_is_some (Some number) e
no_number (suc n) zero number e = none_is_some number (same_Some None (Some number) e)
no_number (suc n) (suc seat) number e = no_number n seat number e

pub none_noted : (last : List (Option ℕ)) → last ≡ replicate 1000 None → AreNoted [] last
none_noted last fresh = record {
  room = ap length fresh ∙ length-replicate {A = Option ℕ} 1000 None;
  has = λ seat number got. absurd (no_number 1000 seat number (sym (ap (λ (l : List (Option ℕ)). slice_get l seat) fresh) ∙ got));
  most = λ k receipt got. none_is_some receipt got;
}

module _ (receipts : List Receipt) (last : List (Option ℕ)) (r : Receipt) (noted : AreNoted receipts last) where
  -- with the number of a seat below 1,000
  pub noted_more : r.seat < 1000 → Rises receipts r → AreNoted (receipts ++ r ∷ []) (set last r.seat (Some r.number))
  noted_more near rises =
      let own : slice_get (set last r.seat (Some r.number)) r.seat ≡ Some (Some r.number) = got_set last r.seat (Some r.number) (omega (arith, near, noted.room)) in
      record {
        room = length-set last r.seat (Some r.number) ∙ noted.room;
        has = λ seat number got. elim (cases_eq seat r.seat) [
          | inl same ↦
              let is : Some r.number ≡ Some number = same_Some (Some r.number) (Some number) (sym own ∙ ap (slice_get (set last r.seat (Some r.number))) (sym same) ∙ got) in
              (length receipts, r, got_last receipts r, sym same, same_Some r.number number is)
          | inr other ↦
              let was = noted.has seat number (sym (got_other last r.seat seat (Some r.number) other) ∙ got) in
              (was.0, was.1, got_front receipts (r ∷ []) was.0 was.1 was.2, was.3, was.4)
        ];
        most = λ k receipt got small. elim (got_push receipts r receipt k got) [
          | inl was ↦ elim (cases_eq receipt.seat r.seat) [
            | inl same ↦ let less = rises k receipt was same in
                (r.number, ap (slice_get (set last r.seat (Some r.number))) same ∙ own, omega (arith, less))
            | inr other ↦ let most = noted.most k receipt was small in
                (most.0, got_other last r.seat receipt.seat (Some r.number) other ∙ most.1, most.2)
          ]
          | inr is ↦ (
            r.number,
            ap (λ (x : Receipt). slice_get (set last r.seat (Some r.number)) x.seat) is.1 ∙ own,
            let same : receipt.number ≡ r.number = ap (λ (x : Receipt). x.number) is.1 in omega (arith, same),
          )
        ];
      }

  -- without that of another seat
  pub noted_same : (1000 ≤ r.seat) → AreNoted (receipts ++ r ∷ []) last
  noted_same far = grind (arith, got_front, got_push)

  -- a number above the noted one is above all of its seat
  pub rises_above : r.seat < 1000 → ((number : ℕ) → slice_get last r.seat ≡ Some (Some number) → number < r.number) → Rises receipts r
  rises_above near above = grind arith
