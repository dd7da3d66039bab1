-- The memory of one page.
use Rattle.std.proofs.Common.{◌≡◌, ◌≢◌, ◌+◌, ℕ, Bool, true, false, eqb, ltb, leb, ◌||◌, cond, is_some, List, [], ◌∷◌, Option, Some, None, MatchOption, refl, sym, ◌∙◌, ap, subst, inl, inr, arith}
use Rattle.std.specs.FinMap as finmap
use Rattle.std.specs.FinMap.{get-empty, get-insert}
use Rattle.std.specs.Option.{option_and_then}
use Rattle.std.specs.Ordering.{nat_cmp, eq_by_cmp}
use Rattle.std.specs.Cmp.{unsigned_tied}
use Rattle.std.proofs.lemmas.Bool.{and_from, cases_eq, cond-true, cond-false, eq-eqb, le-leb, lt-ltb, ne_eqb, leb-true, ltb-true, false_from_ne_true, and_parts}
use Rattle.std.proofs.lemmas.Cmp.{nat_cmp_total}
use Rattle.sd_areas.specs.declared.area.Area.{Area}
use Rattle.sd_areas.specs.Areas.{prot_in}
use Rattle.sd_areas.specs.Pages.{is_within}
use Rattle.sd_areas.specs.PlainMemory.{Page, Space}
use Rattle.sd_image.specs.declared.header.Kind.{Kind}
use Rattle.sd_image.specs.declared.run.RunKind.{RunKind}
use Rattle.sd_image.specs.Table.{Listed}
use Rattle.sd_image.specs.Image.{Image}
use Rattle.sd_image.specs.Shows.{Holds, IsMemory, page_in}
use Rattle.sd_image.proofs.Members.{contains_cases, contains_none}
use Rattle.sd_store_laws.specs.Worked.{one_page, one_page_memory, prot}

-- a number that finds a key is it
tied : (q k : ℕ) → q ≡ k → eq_by_cmp nat_cmp q k ≡ true
tied q k e = unsigned_tied q k ∙ eq-eqb q k e

untied : (q k : ℕ) → q ≢ k → eq_by_cmp nat_cmp q k ≡ false
untied q k n = unsigned_tied q k ∙ ne_eqb q k n

abbrev areas : List Area
areas = record { first = 16; count = 1; prot = prot } ∷ []

module _ (bytes : List ℕ) where
  abbrev space_memory : Space
  space_memory = finmap.insert finmap.empty 16 (record { prot = prot; bytes = bytes })

  alive : (k : ℕ) → finmap.contains_key (one_page_memory bytes) k ≡ (eqb 1 k || false)
  alive k =
      let found = get-insert nat_cmp_total (finmap.empty {X = Space} {R = nat_cmp}) 1 space_memory k in
      elim (cases_eq 1 k) [
        | inl e ↦ ap is_some (found ∙ cond-true _ _ _ (tied k 1 (sym e))) ∙ sym (rw (eq-eqb 1 k e) refl)
        | inr other ↦ ap is_some (found ∙ cond-false _ _ _ (untied k 1 (λ e. other (sym e))) ∙ get-empty nat_cmp k) ∙ sym (rw (ne_eqb 1 k other) refl)
      ]

  page_at : (q : ℕ) (test : Bool) → eqb q 16 ≡ test → page_in (one_page_memory bytes) 1 q ≡ cond test (Some (record { prot = prot; bytes = bytes })) None
  page_at q test is =
      let outer = get-insert nat_cmp_total (finmap.empty {X = Space} {R = nat_cmp}) 1 space_memory 1 in
      let inner = get-insert nat_cmp_total (finmap.empty {X = Page} {R = nat_cmp}) 16 (record { prot = prot; bytes = bytes }) q in
      ap (option_and_then (λ (pages : Space). finmap.get pages q)) outer ∙ inner
      ∙ rw (unsigned_tied q 16, is, get-empty {X = Page} nat_cmp q) refl

  IsPage : List Image → Image → ℕ → Option Page → Type 0
  IsPage images i q o = MatchOption o (prot_in areas q ≡ None) (λ found. (prot_in areas q ≡ Some found.prot) × Holds images 1 q found.bytes i)

  page_so : (images : List Image) (i : Image) (q : ℕ) → Holds images 1 16 bytes i → IsPage images i q (page_in (one_page_memory bytes) 1 q)
  unfolding IsPage
  page_so images i q held = elim (cases_eq q 16) [
    | inl e ↦ subst (IsPage images i q) (sym (page_at q true (eq-eqb q 16 e)))
        (let inside : is_within 16 1 q ≡ true = and_from (leb 16 q) (ltb q (16 + 1)) (le-leb 16 q (omega arith)) (lt-ltb q (16 + 1) (omega arith)) in
        (rw inside refl, subst (λ (k : ℕ). Holds images 1 k bytes i) (sym e) held))
    | inr other ↦ subst (IsPage images i q) (sym (page_at q false (ne_eqb q 16 other)))
        (let outside : is_within 16 1 q ≡ false = false_from_ne_true (is_within 16 1 q) (λ t. other (let parts = and_parts (leb 16 q) (ltb q (16 + 1)) t in let low = leb-true 16 q parts.0 in let high = ltb-true q (16 + 1) parts.1 in omega arith)) in
        rw outside refl)
  ]

  -- an image of that page alone stands for its memory
  pub page_memory : (kind : Kind) (serial stands_for parent checkpoint : ℕ) (way : RunKind) (pages : List (List ℕ)) (images : List Image)
      → Holds images 1 16 bytes (one_page kind serial stands_for parent checkpoint way pages)
      → IsMemory images (one_page kind serial stands_for parent checkpoint way pages) (one_page_memory bytes)
  unfolding IsPage
  page_memory kind serial stands_for parent checkpoint way pages images held = record {
    alive = alive;
    pages = λ s among q.
        let i = one_page kind serial stands_for parent checkpoint way pages in
        elim (contains_cases (record { space = 1; areas = areas; runs = record { first = 16; count = 1; kind = way } ∷ [] }) s [] among) [
          | inl e ↦ subst (λ (t : Listed). MatchOption (page_in (one_page_memory bytes) t.space q) (prot_in t.areas q ≡ None)
              (λ found. (prot_in t.areas q ≡ Some found.prot) × Holds images t.space q found.bytes i)) (sym e) (page_so images i q held)
          | inr c ↦ absurd (contains_none s c)
        ];
  }
