-- The spaces that are left.
use Rattle.std.proofs.Common.{◌≡◌, ◌-◌, ◌<◌, ◌≤◌, ℕ, zero, suc, List, [], ◌∷◌, length, ap, arith, ◌∙◌, refl}
use Rattle.std.proofs.lemmas.Bool.{cond-false, cond-true, le-leb, lt-leb}
use Rattle.sd_show.specs.Items.{place_after_space, spaces_in}

pub spaces_more : (left : ℕ) (bytes : List ℕ) → 0 < left → 16 ≤ length bytes → spaces_in left bytes ≡ bytes ∷ spaces_in (left - 1) (place_after_space bytes)
unfolding spaces_in
spaces_more zero bytes some long = absurd (omega (arith, some))
spaces_more (suc n) bytes some long =
    cond-false _ _ _ (lt-leb (suc (length bytes)) 16 (omega (arith, long)))
    ∙ ap (λ k. bytes ∷ spaces_in k (place_after_space bytes)) (let e : n ≡ suc n - 1 = omega arith in e)

pub no_spaces : (left : ℕ) (bytes : List ℕ) → left ≡ 0 → spaces_in left bytes ≡ []
unfolding spaces_in
no_spaces zero bytes none = refl
no_spaces (suc n) bytes none = absurd (omega (arith, none))

pub short_spaces : (left : ℕ) (bytes : List ℕ) → length bytes < 16 → spaces_in left bytes ≡ []
unfolding spaces_in
short_spaces zero bytes short = refl
short_spaces (suc n) bytes short = cond-true _ _ _ (le-leb (suc (length bytes)) 16 (omega (arith, short)))
