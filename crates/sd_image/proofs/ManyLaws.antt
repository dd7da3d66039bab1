-- Items one after the other: what is read is spelled so, and what is spelled so is read.
use Rattle.std.proofs.Common.{◌≡◌, ℕ, zero, suc, List, [], ◌∷◌, ◌++◌, length, Result, Ok, refl, ap, subst, ◌∙◌, append_assoc}
use Rattle.std.specs.List.{flat_map}
use Rattle.std.proofs.lemmas.List.Concat.{flat_map-cons}
use Rattle.sd_image.specs.declared.reason.Reason.{Reason}
use Rattle.sd_image.specs.Reading.{◌>>=◌, many}
use Rattle.sd_image.proofs.Steps.{IsBytes, bind_ok, ok_is, Takes, Takes-then}

-- each is good after what came before it
abbrev pub AllFrom : {X S : Type 0} → (S → X → Type 0) → (X → S) → S → List X → Type 0
AllFrom Good after state [] = Unit {0}
AllFrom Good after state (x ∷ xs) = Good state x × AllFrom Good after (after x) xs

pub many_take : {X S : Type 0} (read : S → List ℕ → Result (X × List ℕ) Reason) (after : X → S) (text : X → List ℕ) (Good : S → X → Type 0)
    → ((state : S) (bytes : List ℕ) (x : X × List ℕ) → IsBytes bytes → read state bytes ≡ Ok x → Takes bytes (text x.0) x.1 × Good state x.0)
    → (n : ℕ) (state : S) (bytes : List ℕ) (x : List X × List ℕ) → IsBytes bytes → many read after n state bytes ≡ Ok x
    → Takes bytes (flat_map text x.0) x.1 × (length x.0 ≡ n) × AllFrom Good after state x.0
unfolding many
many_take {X} {S} read after text Good takes zero state bytes x fits e =
    subst (λ (y : List X × List ℕ). Takes bytes (flat_map text y.0) y.1 × (length y.0 ≡ 0) × AllFrom Good after state y.0) (ok_is ([], bytes) x e) (record { parts = refl; rest_fits = fits }, refl, tt)
many_take {X} {S} read after text Good takes (suc n) state bytes x fits e =
    let a = bind_ok (read state bytes) (λ first. many read after n (after first.0) first.1 >>= λ others. Ok (first.0 ∷ others.0, others.1)) x e in
    let b = bind_ok (many read after n (after a.0.0) a.0.1) (λ others. Ok (a.0.0 ∷ others.0, others.1)) x a.2 in
    let first = takes state bytes a.0 fits a.1 in
    let second = many_take read after text Good takes n (after a.0.0) a.0.1 b.0 first.0.rest_fits b.1 in
    let both = Takes-then bytes (text a.0.0) a.0.1 (flat_map text b.0.0) b.0.1 first.0 second.0 in
    let made : List X × List ℕ = (a.0.0 ∷ b.0.0, b.0.1) in
    subst (λ (y : List X × List ℕ). Takes bytes (flat_map text y.0) y.1 × (length y.0 ≡ suc n) × AllFrom Good after state y.0) {x = made} (ok_is made x b.2) (rw flat_map-cons both, ap suc second.1, (first.1, second.2))

pub many_again : {X S : Type 0} (read : S → List ℕ → Result (X × List ℕ) Reason) (after : X → S) (text : X → List ℕ) (Good : S → X → Type 0)
    → ((state : S) (x : X) (rest : List ℕ) → Good state x → read state (text x ++ rest) ≡ Ok (x, rest))
    → (state : S) (xs : List X) (rest : List ℕ) → AllFrom Good after state xs → many read after (length xs) state (flat_map text xs ++ rest) ≡ Ok (xs, rest)
unfolding many
many_again read after text Good again state [] rest good = refl
many_again read after text Good again state (x ∷ xs) rest good =
    let regrouped : flat_map text (x ∷ xs) ++ rest ≡ text x ++ (flat_map text xs ++ rest) = ap (λ (y : List ℕ). y ++ rest) (flat_map-cons text x xs) ∙ append_assoc (text x) (flat_map text xs) rest in
    ap (many read after (suc (length xs)) state) regrouped ∙ rw (again state x (flat_map text xs ++ rest) good.0, many_again read after text Good again (after x) xs rest good.1) refl
