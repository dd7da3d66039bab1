-- A clear of a clean page, which changes nothing, and zeros that are compared.
use Rattle.std.proofs.Common.{◌≡◌, ℕ, ◌&&◌, Bool, true, false, nat_eq, List, [], ◌∷◌, length, replicate, Option, Some, None, refl, sym, ◌∙◌, ap, arith}
use Rattle.std.specs.Prelude.{IsSome, unwrap_or}
use Rattle.std.specs.Ordering.{nat_cmp}
use Rattle.std.specs.Cmp.Lexicographic.{pointwise}
use Rattle.std.specs.List.{list_all}
use Rattle.std.specs.FinMap as finmap
use Rattle.std.specs.FinMap.{get-empty}
use Rattle.std.proofs.lemmas.Bool.{both_ways}
use Rattle.sd_pagetable.specs.Nested.{Nested, Table, put_at, value_at}
use Rattle.sd_pagetable.specs.Page.{PageState, cleared_page}
use Rattle.sd_pagetable.specs.Contents.{Contents, IsSound, page_at, put_page}
use Rattle.sd_pagetable.specs.Tracking.{Cleared, Step}
use Rattle.sd_areas.proofs.Memory.{put_again}
use Rattle.sd_rounds.proofs.Clean.{no_some}

-- a space that has a page is there
inside_is : {X : Type 0} (o : Option (Table X)) (page : ℕ) (x : X) → finmap.get (unwrap_or o finmap.empty) page ≡ Some x → o ≡ Some (unwrap_or o finmap.empty)
inside_is None page x e = absurd (no_some x (get-empty nat_cmp page) e)
inside_is (Some table) page x e = refl

put_there : {X : Type 0} (nested : Nested X) (space page : ℕ) (x : X) → value_at nested space page ≡ Some x → put_at nested space page x ≡ nested
unfolding put_at
put_there nested space page x there = grind (arith, put_again, inside_is)

-- a clean page that is write-protected, cleared
cleared_again : (page : PageState) → page.soft_dirty ≡ false → page.writable ≡ false → cleared_page page ≡ page
cleared_again page clean protected =
    ap (λ b. record page { writable = false; soft_dirty = b }) (sym clean) ∙ ap (λ b. record page { writable = b }) (sym protected)

protected : (memory : Contents) (space number : ℕ) (page : PageState) → IsSound memory → page_at memory space number ≡ Some page → page.soft_dirty ≡ false → page.writable ≡ false
protected memory space number page sound there clean = by page.writable refl
  where
    by : (b : Bool) → page.writable ≡ b → b ≡ false
    by true e = absurd (both_ways page.soft_dirty clean (sound.writable space number page there e).soft_dirty)
    by false e = refl

pub clear_of_clean : (memory : Contents) (space number : ℕ) → IsSound memory → IsSome (page_at memory space number)
    → ((page : PageState) → page_at memory space number ≡ Some page → false ≡ page.soft_dirty) → Step memory (Cleared space number) memory
clear_of_clean memory space number sound there bit = by (page_at memory space number) refl there
  where
    by : (o : Option PageState) → page_at memory space number ≡ o → IsSome o → Step memory (Cleared space number) memory
    by None e some = absurd (both_ways false refl some)
    by (Some page) e some =
        let clean : page.soft_dirty ≡ false = sym (bit page e) in
        let same : cleared_page page ≡ page = cleared_again page clean (protected memory space number page sound e clean) in (
          page,
          e,
          sym (ap (put_page memory space number) same
              ∙ ap (λ s. record { pool = memory.pool; spaces = s }) (put_there memory.spaces space number page e)),
        )

-- ---- zeros

-- as many zeros, compared byte by byte
pub as_zeros : (bytes : List ℕ) → pointwise nat_eq bytes (replicate (length bytes) 0) ≡ list_all (λ byte. nat_eq byte 0) bytes
as_zeros [] = refl
as_zeros (byte ∷ rest) = ap (λ zeros. nat_eq byte 0 && zeros) (as_zeros rest)
