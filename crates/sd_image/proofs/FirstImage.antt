-- The first image of a store: a dump of one page is an image, and contents that are its file show that page.
use Rattle.std.proofs.Common.{◌≡◌, ◌≢◌, ◌<◌, ◌≤◌, ◌+◌, ◌^◌, ℕ, Bool, true, false, eqb, ltb, leb, cond, is_some, List, [], ◌∷◌, ◌++◌, length, replicate, Option, Some, None, MatchOption, refl, sym, ◌∙◌, ap, subst, inl, inr, arith, length-append}
use Rattle.std.specs.List.{list_any, IsDistinct}
use Rattle.std.specs.FinMap as finmap
use Rattle.std.specs.FinMap.{get-empty, get-insert}
use Rattle.std.specs.Option.{option_and_then}
use Rattle.std.specs.Ordering.{nat_cmp, eq_by_cmp}
use Rattle.std.specs.Cmp.{unsigned_tied}
use Rattle.std.proofs.lemmas.Bool.{and_from, cases_eq, cond-true, cond-false, eq-eqb, le-leb, lt-ltb, ne_eqb, leb-true, ltb-true, false_from_ne_true, and_parts}
use Rattle.std.proofs.lemmas.Cmp.{nat_cmp_total}
use Rattle.std.proofs.lemmas.List.{append-nil}
use Rattle.sd_areas.specs.declared.prot.Prot.{Prot}
use Rattle.sd_areas.specs.Areas.{prot_in}
use Rattle.sd_areas.specs.Pages.{pages_from, is_within}
use Rattle.sd_areas.specs.PlainMemory.{Page, Space}
use Rattle.sd_image.specs.declared.run.RunKind.TheVariants.{Data}
use Rattle.sd_image.specs.Words.{number_bytes, zero_bytes}
use Rattle.sd_image.specs.Header.{header_front, header_text, IsHeader}
use Rattle.sd_image.specs.Table.{Listed, table_text, IsSpace, IsTable}
use Rattle.sd_image.specs.Image.{Image, IsImage, gate, image_text, is_open}
use Rattle.sd_image.specs.Shows.{Holds, by_data, page_in, IsRestorable, Shows}
use Rattle.sd_image.specs.Laws.{AreBelow, FirstImageIsShown, IsWholeMemory, first_image, first_memory}
use Rattle.sd_image.proofs.ShowsLemmas.{newest_is_shown_lem}
use Rattle.sd_image.proofs.Members.{contains_cases}

-- a number that finds a key is it
tied : (q k : ℕ) → q ≡ k → eq_by_cmp nat_cmp q k ≡ true
tied q k e = unsigned_tied q k ∙ eq-eqb q k e

untied : (q k : ℕ) → q ≢ k → eq_by_cmp nat_cmp q k ≡ false
untied q k n = unsigned_tied q k ∙ ne_eqb q k n

module _ (n space page : ℕ) (prot : Prot) (bytes : List ℕ) where
  abbrev image : Image
  image = first_image n space page prot bytes

  abbrev file : List ℕ
  file = gate ∷ image_text image

  no_digest : replicate 32 0 ≡ zero_bytes 32
  unfolding zero_bytes
  no_digest = refl

  header_length : length (header_text image.header) ≡ 4095
  unfolding header_text header_front number_bytes zero_bytes
  header_length = refl

  table_length : length (table_text image.spaces) ≡ 72
  unfolding table_text number_bytes zero_bytes
  table_length = refl

  file_length : length bytes ≡ 4096 → length file ≡ 8264
  file_length long =
      let whole = length-append (header_text image.header ++ (bytes ++ [])) (table_text image.spaces) in
      let front = length-append (header_text image.header) (bytes ++ []) in
      let page : length (bytes ++ []) ≡ length bytes = ap length (append-nil bytes) in
      omega (arith, whole, front, page, header_length, table_length)

  is_header : 0 < n → n < 2 ^ 64 → length bytes ≡ 4096 → IsHeader image.header (length file)
  is_header some fits long = record {
    words = record { serial = fits; stands_for = fits; parent = omega arith; checkpoint = fits; pages = omega arith; table_len = omega arith; digest = no_digest };
    serial = some;
    numbers = (refl, some);
    checkpoint = some;
    fills = sym (file_length long);
  }

  is_space : 0 < space → space ≤ 16 → page < 2 ^ 35 → IsSpace image.header 0 (record { space = space; areas = record { first = page; count = 1; prot = prot } ∷ []; runs = record { first = page; count = 1; kind = Data } ∷ [] })
  is_space some within inside = grind arith

  is_table : 0 < space → space ≤ 16 → page < 2 ^ 35 → IsTable image.header image.spaces
  is_table some within inside = grind arith

  is_image : 0 < n → n < 2 ^ 64 → 0 < space → space ≤ 16 → page < 2 ^ 35 → length bytes ≡ 4096 → IsImage file image
  is_image some fits alive within inside long = record {
    spelled = refl;
    header = is_header some fits long;
    table = is_table alive within inside;
    stored = refl;
    whole = (long, tt);
    digest = λ two. absurd cc;
  }

  opens : length bytes ≡ 4096 → is_open file ≡ true
  opens long = and_from _ _ (le-leb _ _ (let e = file_length long in omega arith)) refl

  none_below : AreBelow n []
  none_below k d within = absurd (omega arith)

  not_pre_dump : IsRestorable image
  not_pre_dump e = cc

  -- ---- its memory

  abbrev space_memory : Space
  space_memory = finmap.insert finmap.empty page (record { prot = prot; bytes = bytes })

  alive_so : (k : ℕ) → finmap.contains_key (first_memory space page prot bytes) k ≡ list_any (λ (s : Listed). eqb s.space k) image.spaces
  alive_so k =
      let found = get-insert nat_cmp_total (finmap.empty {X = Space} {R = nat_cmp}) space space_memory k in
      elim (cases_eq space k) [
        | inl e ↦ ap is_some (found ∙ cond-true _ _ _ (tied k space (sym e))) ∙ sym (rw (eq-eqb space k e) refl)
        | inr other ↦ ap is_some (found ∙ cond-false _ _ _ (untied k space (λ e. other (sym e))) ∙ get-empty nat_cmp k) ∙ sym (rw (ne_eqb space k other) refl)
      ]

  held : (images : List Image) → Holds images space page bytes image
  unfolding pages_from
  held images = by_data image 0 refl refl

  page_at : (q : ℕ) (test : Bool) → eqb q page ≡ test → page_in (first_memory space page prot bytes) space q ≡ cond test (Some (record { prot = prot; bytes = bytes })) None
  page_at q test is =
      let outer = get-insert nat_cmp_total (finmap.empty {X = Space} {R = nat_cmp}) space space_memory space in
      let inner = get-insert nat_cmp_total (finmap.empty {X = Page} {R = nat_cmp}) page (record { prot = prot; bytes = bytes }) q in
      ap (option_and_then (λ (pages : Space). finmap.get pages q)) (outer ∙ cond-true _ _ _ (tied space space refl)) ∙ inner
      ∙ rw (unsigned_tied q page, is, get-empty {X = Page} nat_cmp q) refl

  page_so : (images : List Image) (q : ℕ) → MatchOption (page_in (first_memory space page prot bytes) space q)
      (prot_in (record { first = page; count = 1; prot = prot } ∷ []) q ≡ None)
      (λ found. (prot_in (record { first = page; count = 1; prot = prot } ∷ []) q ≡ Some found.prot) × Holds images space q found.bytes image)
  page_so images q =
      let Family : Option Page → Type 0 = λ (o : Option Page). MatchOption o
      (prot_in (record { first = page; count = 1; prot = prot } ∷ []) q ≡ None)
      (λ found. (prot_in (record { first = page; count = 1; prot = prot } ∷ []) q ≡ Some found.prot) × Holds images space q found.bytes image) in
      elim (cases_eq q page) [
        | inl e ↦ subst Family (sym (page_at q true (eq-eqb q page e)))
            (let inside : is_within page 1 q ≡ true = and_from (leb page q) (ltb q (page + 1)) (le-leb page q (omega arith)) (lt-ltb q (page + 1) (omega arith)) in
            (rw inside refl, subst (λ (k : ℕ). Holds images space k bytes image) (sym e) (held images)))
        | inr other ↦ subst Family (sym (page_at q false (ne_eqb q page other)))
            (let outside : is_within page 1 q ≡ false = false_from_ne_true (is_within page 1 q) (λ t. other (let parts = and_parts (leb page q) (ltb q (page + 1)) t in let low = leb-true page q parts.0 in let high = ltb-true q (page + 1) parts.1 in omega arith)) in
            rw outside refl)
      ]

  memory_so : IsWholeMemory image (first_memory space page prot bytes)
  memory_so images = record {
    alive = alive_so;
    pages = λ s among q.
        elim (contains_cases (record { space = space; areas = record { first = page; count = 1; prot = prot } ∷ []; runs = record { first = page; count = 1; kind = Data } ∷ [] }) s [] among) [
          | inl e ↦ subst (λ (t : Listed). MatchOption (page_in (first_memory space page prot bytes) t.space q)
              (prot_in t.areas q ≡ None)
              (λ found. (prot_in t.areas q ≡ Some found.prot) × Holds images t.space q found.bytes image)) (sym e) (page_so images q)
          | inr c ↦ absurd (omega (arith, c.1))
        ];
  }

  shown : 0 < n → n < 2 ^ 64 → 0 < space → space ≤ 16 → page < 2 ^ 35 → length bytes ≡ 4096 → Shows (file ∷ []) (Some (n, first_memory space page prot bytes))
  unfolding IsDistinct
  shown some fits alive within inside long =
      newest_is_shown_lem ([] ∷ []) [] 0 file image (first_memory space page prot bytes)
      (record { slots = inl (refl, refl); serials = tt }) none_below refl (omega arith) refl
      (opens long) (is_image some fits alive within inside long) not_pre_dump memory_so

pub first_image_is_shown_lem : FirstImageIsShown
first_image_is_shown_lem = shown
