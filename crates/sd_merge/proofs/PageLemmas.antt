-- A page that came back.
use Rattle.std.proofs.Common.{◌≡◌, ◌≢◌, ℕ, Bool, true, false, nat_eq, if◌then◌else◌, List, [], ◌++◌, length, refl, ap, arith}
use Rattle.std.specs.Prelude.{replicate}
use Rattle.std.proofs.lemmas.Bool.Decides.{nat_tests}
use Rattle.sd_merge.specs.Copying.{page_or_zeros}

pub equal : (a b : ℕ) → nat_eq a b ≡ true → a ≡ b
equal a b e = grind (arith, nat_tests)

is_equal : (a b : ℕ) → a ≡ b → nat_eq a b ≡ true
is_equal a b e = grind (arith, nat_tests)

-- as long as a page
pub page_whole : (bytes : List ℕ) → length bytes ≡ 4096 → page_or_zeros bytes ≡ bytes
page_whole bytes e = ap (λ b. if b then bytes else replicate 4096 0) (is_equal (length bytes) 4096 e)

pub page_other : (bytes : List ℕ) → length bytes ≢ 4096 → page_or_zeros bytes ≡ replicate 4096 0
page_other bytes other = by (nat_eq (length bytes) 4096) refl
  where
    by : (b : Bool) → nat_eq (length bytes) 4096 ≡ b → (if b then bytes else replicate 4096 0) ≡ replicate 4096 0
    by true e = absurd (other (equal (length bytes) 4096 e))
    by false e = refl

-- zeros that were filled in for what is no page
pub page_filled : (old new cleared : List ℕ) → new ≡ cleared ++ replicate 4096 0 → cleared ≡ [] → length old ≢ 4096 → page_or_zeros new ≡ page_or_zeros old
page_filled old new cleared e none other = grind arith
