-- Clean pages.
use Rattle.std.proofs.Common.{◌≡◌, ℕ, Bool, false, cond, List, Option, Some, None, IsSome, refl, sym, ◌∙◌, ap, arith}
use Rattle.sd_pagetable.specs.Page.{PageState}
use Rattle.sd_pagetable.specs.PageLaw.{clean_bytes}

pub no_some : {X : Type 0} {o : Option X} (x : X) → o ≡ None → o ≡ Some x → ⊥
no_some x none some = cc

pub one_some : {X : Type 0} {o : Option X} (x y : X) → o ≡ Some x → o ≡ Some y → x ≡ y
one_some x y one two = cc

pub clean_mapped : (o : Option PageState) (bytes : List ℕ) → clean_bytes o ≡ Some bytes → IsSome o
clean_mapped o bytes e = grind arith

-- a page that is clean has no soft-dirty bit, and these bytes
pub clean_is : (o : Option PageState) (page : PageState) (bytes : List ℕ) → o ≡ Some page → clean_bytes o ≡ Some bytes → (page.soft_dirty ≡ false) × (page.bytes ≡ bytes)
clean_is o page bytes there clean = by page.soft_dirty refl
  where
    at_page : clean_bytes (Some page) ≡ Some bytes
    at_page = sym (ap clean_bytes there) ∙ clean

    by : (b : Bool) → page.soft_dirty ≡ b → (page.soft_dirty ≡ false) × (page.bytes ≡ bytes)
    by b d = grind arith

pub clean_there : (o : Option PageState) (page : PageState) (bytes : List ℕ) → o ≡ Some page → page.soft_dirty ≡ false → page.bytes ≡ bytes → clean_bytes o ≡ Some bytes
clean_there o page bytes there d b = ap clean_bytes there ∙ ap (λ x. cond x None (Some page.bytes)) d ∙ ap Some b

pub no_clean : (o : Option PageState) (bytes : List ℕ) → o ≡ None → clean_bytes o ≡ Some bytes → ⊥
no_clean o bytes none clean = no_some bytes (ap clean_bytes none) clean
