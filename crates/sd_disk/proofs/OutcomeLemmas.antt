-- What a call on one slot does to what a crash may leave of all slots, in both directions.
use Rattle.std.proofs.Common.{◌≡◌, ◌≢◌, ⊎_elim, ℕ, ◌<◌, Bool, true, cond, nat_eq, List, [], length, slice_set, refl, sym, ◌∙◌, subst, arith}
use Rattle.std.proofs.lemmas.Bool.{cases_lt, cases_Bool, eq-eqb}
use Rattle.std.proofs.lemmas.Bool.Decides.{eqb_tells}
use Rattle.std.proofs.lemmas.List.{get_or-set_same, get_or-set_other, length-set}
use Rattle.sd_disk.specs.Contents.{file_at, AtSlot}
use Rattle.sd_disk.specs.Outcomes.{Unsynced, Leaves}

-- what is known of a slot changes by a call on one slot
abbrev pub changed_at : ℕ → (ℕ → Unsynced → Unsynced) → (ℕ → Unsynced) → ℕ → Unsynced
changed_at number change known slot = cond (nat_eq number slot) (change slot (known slot)) (known slot)

-- contents that the rules allow, slot by slot
pub record Allowed (count : ℕ) (synced : ℕ → Bool) (known : ℕ → Unsynced) (contents : List (List ℕ)) : Type 0 where
  pub same : length contents ≡ count
  pub each : (slot : ℕ) → slot < length contents → synced slot ≡ true → Leaves (known slot) (file_at contents slot)

pub chosen : {X : Type 0} (P : X → Type 0) (a b : ℕ) (x y : X) → (a ≡ b → P x) → (a ≢ b → P y) → P (cond (nat_eq a b) x y)
chosen P a b x y same other =
    ⊎_elim (λ is. subst (λ t. P (cond t x y)) (sym (is.0)) (same is.1)) (λ is. subst (λ t. P (cond t x y)) (sym (is.0)) (other is.1)) (eqb_tells a b)

unchosen : {X : Type 0} (P : X → Type 0) (a b : ℕ) (x y : X) → a ≢ b → P (cond (nat_eq a b) x y) → P y
unchosen P a b x y apart has =
    ⊎_elim (λ is. absurd (apart is.1)) (λ is. subst (λ t. P (cond t x y)) is.0 has) (eqb_tells a b)

taken : {X : Type 0} (P : X → Type 0) (a b : ℕ) (x y : X) → a ≡ b → P (cond (nat_eq a b) x y) → P x
taken P a b x y is has = subst (λ t. P (cond t x y)) (eq-eqb a b is) has

module _ (count : ℕ) (synced : ℕ → Bool) (known : ℕ → Unsynced) (number : ℕ) (step : List ℕ → List ℕ → Type 0) (change : ℕ → Unsynced → Unsynced) where
  -- an outcome after the call was an outcome before it, and took the step
  pub followed : ((file : List ℕ) → step file file)
      → ((file : List ℕ) → Leaves (change number (known number)) file → (before : List ℕ) × Leaves (known number) before × step before file)
      → (c : List (List ℕ)) → Allowed count synced (changed_at number change known) c → (d : List (List ℕ)) × Allowed count synced known d × AtSlot number step d c
  followed still undone c given =
      ⊎_elim
      (λ within. ⊎_elim
      (λ is_synced.
      let found = undone (file_at c number) (taken (λ u. Leaves u (file_at c number)) number number (change number (known number)) (known number) refl (given.each number within is_synced)) in
      let d : List (List ℕ) = slice_set c number found.0 in
      let size : length d ≡ length c = length-set c number found.0 in (
        d,
        record {
          same = size ∙ given.same;
          each = λ slot near was. ⊎_elim
              (λ is. subst (λ s. Leaves (known s) (file_at d s)) is.1 (subst (Leaves (known number)) (sym (get_or-set_same c number found.0 [] within)) found.1))
              (λ is. subst (Leaves (known slot)) (sym (get_or-set_other c number slot found.0 [] (λ e. is.1 (sym e))))
              (unchosen (λ u. Leaves u (file_at c slot)) number slot (change slot (known slot)) (known slot) is.1 (given.each slot (subst (λ n. slot < n) size near) was)))
              (eqb_tells number slot);
        },
        record {
          count = sym size;
          here = subst (λ file. step file (file_at c number)) (sym (get_or-set_same c number found.0 [] within)) found.2;
          others = λ other apart. sym (get_or-set_other c number other found.0 [] apart);
        },
      ))
      (λ unsynced. as_it_is c given (λ slot near was same. absurd (let e : synced number ≡ true = subst (λ s. synced s ≡ true) (sym same) was in cc)))
      (cases_Bool (synced number)))
      (λ past. as_it_is c given (λ slot near was same. absurd (omega (arith, past, near, same))))
      (cases_lt number (length c))
    where
      as_it_is : (c : List (List ℕ)) → Allowed count synced (changed_at number change known) c
          → ((slot : ℕ) → slot < length c → synced slot ≡ true → number ≢ slot)
          → (d : List (List ℕ)) × Allowed count synced known d × AtSlot number step d c
      as_it_is c given apart = (
        c,
        record {
          same = given.same;
          each = λ slot near was. unchosen (λ u. Leaves u (file_at c slot)) number slot (change slot (known slot)) (known slot) (apart slot near was) (given.each slot near was);
        },
        record { count = refl; here = still (file_at c number); others = λ other away. refl },
      )

  -- an outcome before the call that takes the step is one after it
  pub reached : ((before file : List ℕ) → Leaves (known number) before → step before file → Leaves (change number (known number)) file)
      → (d c : List (List ℕ)) → Allowed count synced known d → AtSlot number step d c → Allowed count synced (changed_at number change known) c
  reached done d c given stepped = record {
    same = stepped.count ∙ given.same;
    each = λ slot near was.
        let old_near : slot < length d = subst (λ n. slot < n) stepped.count near in
        chosen (λ u. Leaves u (file_at c slot)) number slot (change slot (known slot)) (known slot)
        (λ same. subst (λ s. Leaves (change s (known s)) (file_at c s)) same
        (done (file_at d number) (file_at c number) (subst (λ s. Leaves (known s) (file_at d s)) (sym same) (given.each slot old_near was)) stepped.here))
        (λ apart. subst (Leaves (known slot)) (sym (stepped.others slot (λ e. apart (sym e)))) (given.each slot old_near was));
  }
