-- What differs in where pages lie differs between the memories.
use Rattle.std.proofs.Common.{◌≡◌, ◌≢◌, ◌⊎◌, ℕ, List, Option, Some, None, refl, sym, ◌∙◌, ap, subst, inl, inr}
use Rattle.std.specs.Prelude.{◌↔◌, All}
use Rattle.std.specs.Option.{option_map}
use Rattle.sd_areas.specs.declared.prot.Prot.{Prot}
use Rattle.sd_areas.specs.PlainMemory.{Page, PlainMemory}
use Rattle.sd_image.specs.Laws.{OneStore}
use Rattle.sd_image.specs.Shows.{page_in}
use Rattle.sd_image.specs.Table.{Listed}
use Rattle.sd_restore.specs.declared.placed_run.PlacedRun.{PlacedRun}
use Rattle.sd_restore.specs.At.{ShowsAt}
use Rattle.sd_restore.specs.Placed.{IsLaidOut, IsWithin, placed_memory, placed_pages}
use Rattle.sd_diff.specs.declared.difference.Difference.{Difference}
use Rattle.sd_diff.specs.Difference.{DifferInBytes, IsDifference, IsWritten, held_prot, prot_of}
use Rattle.sd_diff.specs.Held.{Held}
use Rattle.sd_diff.specs.Spaces.{AreDifferences, IsNumbered, RiseInSpaces, held_of}
use Rattle.sd_diff.proofs.HeldLemmas.{page_held, page_numbered, page_of, page_once}
use Rattle.sd_diff.proofs.LaidLemmas.{rising_at, sorted_at}

-- this is what a memory has at each page
pub record IsHeld (contents : List (List ℕ)) (memory : PlainMemory) (held : ℕ → ℕ → Option Held) : Type 0 where
  pub same : (space page : ℕ) → page_in memory space page ≡ option_map (page_of contents) (held space page)
  pub numbered : (space page : ℕ) → (page_in memory space page ≢ None) → IsNumbered 17 space

pub runs_held : OneStore → (contents : List (List ℕ)) (number : ℕ) (memory : PlainMemory) (spaces : List Listed) (runs : List PlacedRun) → ShowsAt contents number memory
    → ShowsAt contents number (placed_memory contents spaces (placed_pages runs)) → IsLaidOut contents spaces (placed_pages runs) (placed_memory contents spaces (placed_pages runs))
    → All IsWithin runs → IsHeld contents memory (held_of runs)
runs_held one_store contents number memory spaces runs shows placed laid within = record {
  same = λ space page.
      page_once one_store contents number memory (placed_memory contents spaces (placed_pages runs)) shows placed space page
      ∙ page_held contents spaces runs space page (rising_at contents space runs within (sorted_at contents spaces (placed_pages runs) space laid));
  numbered = λ space page. page_numbered contents number memory shows space page;
}

prots_are : (contents : List (List ℕ)) (h : Option Held) → prot_of (option_map (page_of contents) h) ≡ held_prot h
prots_are contents None = refl
prots_are contents (Some h) = refl

bytes_are : (contents : List (List ℕ)) (a b : Option Held) → IsWritten contents a b ↔ DifferInBytes (option_map (page_of contents) a) (option_map (page_of contents) b)
bytes_are contents None b = (λ w. w, λ w. w)
bytes_are contents (Some a) None = (λ w. w, λ w. w)
bytes_are contents (Some a) (Some b) = (λ w. w, λ w. w)

some_differ : (a b : Option Page) → DifferInBytes a b → a ≢ None
some_differ None b differ is = differ
some_differ (Some a) b differ is = let e : Some a ≡ None = is in absurd cc

is_none : (o : Option Page) → (o ≡ None) ⊎ (o ≢ None)
is_none None = inl refl
is_none (Some p) = inr (λ is. absurd (let e : Some p ≡ None = is in cc))

module _ (contents : List (List ℕ)) (before after : PlainMemory) (b a : ℕ → ℕ → Option Held) (d : Difference)
    (was : IsHeld contents before b) (is : IsHeld contents after a) (are : AreDifferences contents 17 b a d) where
  old_prot : (space page : ℕ) → held_prot (b space page) ≡ prot_of (page_in before space page)
  old_prot space page = sym (ap prot_of (was.same space page) ∙ prots_are contents (b space page))

  new_prot : (space page : ℕ) → held_prot (a space page) ≡ prot_of (page_in after space page)
  new_prot space page = sym (ap prot_of (is.same space page) ∙ prots_are contents (a space page))

  -- where permissions differ, one of the two has the page
  some_numbered : (space page : ℕ) (old new : Option Prot) → (old ≡ prot_of (page_in before space page)) × (new ≡ prot_of (page_in after space page)) × (old ≢ new) → IsNumbered 17 space
  some_numbered space page old new parts = elim (is_none (page_in before space page)) [
    | inl none ↦ elim (is_none (page_in after space page)) [
      | inl nothing ↦ absurd (parts.2 (parts.0 ∙ ap prot_of none ∙ sym (ap prot_of nothing) ∙ sym parts.1))
      | inr some ↦ is.numbered space page some
    ]
    | inr some ↦ was.numbered space page some
  ]

  pub difference_is : IsDifference before after d
  difference_is = record {
    areas = λ space page old new. (
      λ h. (let both = (are.areas space page old new).0 h in (both.1.old_is ∙ old_prot space page, both.1.new_is ∙ new_prot space page, both.1.differ)),
      λ parts. (are.areas space page old new).1 (
        some_numbered space page old new parts,
        record { old_is = parts.0 ∙ sym (old_prot space page); new_is = parts.1 ∙ sym (new_prot space page); differ = parts.2 },
      ),
    );
    written = λ space page. (
      λ h. (let both = (are.written space page).0 h in
          subst (λ o. DifferInBytes o (page_in after space page)) (sym (was.same space page)) (subst (λ o. DifferInBytes (option_map (page_of contents) (b space page)) o) (sym (is.same space page))
          ((bytes_are contents (b space page) (a space page)).0 both.1))),
      λ differ. (are.written space page).1 (
        was.numbered space page (some_differ (page_in before space page) (page_in after space page) differ),
        (bytes_are contents (b space page) (a space page)).1
            (subst (λ o. DifferInBytes (option_map (page_of contents) (b space page)) o) (is.same space page) (subst (λ o. DifferInBytes o (page_in after space page)) (was.same space page) differ)),
      ),
    );
  }

-- ---- of runs that were placed

pub rise : (contents : List (List ℕ)) (spaces : List Listed) (runs : List PlacedRun) → All IsWithin runs → IsLaidOut contents spaces (placed_pages runs) (placed_memory contents spaces (placed_pages runs)) → RiseInSpaces runs
rise contents spaces runs within laid space = rising_at contents space runs within (sorted_at contents spaces (placed_pages runs) space laid)

pub placed_differ : OneStore → (contents : List (List ℕ)) (old new : ℕ) (before after : PlainMemory) (spaces others : List Listed) (runs next : List PlacedRun) (d : Difference)
    → ShowsAt contents old before → ShowsAt contents new after
    → ShowsAt contents old (placed_memory contents spaces (placed_pages runs)) → ShowsAt contents new (placed_memory contents others (placed_pages next))
    → IsLaidOut contents spaces (placed_pages runs) (placed_memory contents spaces (placed_pages runs)) → IsLaidOut contents others (placed_pages next) (placed_memory contents others (placed_pages next))
    → All IsWithin runs → All IsWithin next → AreDifferences contents 17 (held_of runs) (held_of next) d → IsDifference before after d
placed_differ one_store contents old new before after spaces others runs next d shows_old shows_new placed_old placed_new laid_old laid_new within_old within_new are =
    difference_is contents before after (held_of runs) (held_of next) d
    (runs_held one_store contents old before spaces runs shows_old placed_old laid_old within_old)
    (runs_held one_store contents new after others next shows_new placed_new laid_new within_new) are
