-- Pages that are compared sector by sector, and the pages of a space.
use Rattle.std.proofs.Common.{◌≡◌, inl, inr, ℕ, ◌+◌, ◌-◌, ◌*◌, ◌<◌, ◌≤◌, List, ◌/◌, ◌^◌, Bool, Option, Some, None, Result, Ok, IfSome, is_some, true, false, length, slice_index_or, sum_by, slice_range, slice_index, unwrap_or, refl, sym, ◌∙◌, ap, subst, arith, get_or-take, get_or-drop}
use Rattle.std.proofs.lemmas.Bool.{cases_lt, eqb-true}
use Rattle.std.proofs.Math.Dec.{eqb}
use borrow.Author.Count.{below_more}
use Rattle.std.specs.FinMap as finmap
use Rattle.std.specs.Option.{option_map}
use Rattle.std.specs.Ordering.{nat_cmp}
use Rattle.sd_areas.specs.Areas.{PageMap}
use Rattle.sd_areas.specs.declared.prot.Prot.{Prot}
use Rattle.sd_elf.specs.Cores.{segment_byte}
use Rattle.sd_elf.specs.Segments.{prot_of_flags}
use Rattle.sd_elf.specs.declared.program_header.ProgramHeader.{ProgramHeader}
use Rattle.sd_areas.specs.PlainMemory.{Space}
use Rattle.sd_import.specs.Imported.{AreBytesOfSegment, HasCore, HasPageOfSegment, HasSegment, segment_page_count}
use Rattle.sd_pagetable.specs.Contents.{Contents, page_at, plain_of, AreWhole}
use Rattle.sd_pagetable.specs.Kept.{prots_of}
use Rattle.sd_pagetable.specs.Nested.{Table, inside}
use Rattle.sd_pagetable.specs.Page.{PageState, plain_page}
use Rattle.sd_pagetable.proofs.MemoryLemmas.{plain_at}
use Rattle.sd_pagetable.proofs.PlainRanges.{plain_inside}
use Rattle.sd_pagetable.proofs.TableLemmas.{get-map_values, len-map_values}

part_at : (xs : List ℕ) (n k : ℕ) → n ≤ k → k < n + 512 → slice_index (slice_range xs n (n + 512)) (k - n) ≡ slice_index xs k
part_at xs n k from to = grind (arith, get_or-take, get_or-drop)

-- a sector of a page that was read
pub same_sector : (o : Option PageState) (start : ℕ) (part bytes : List ℕ) → is_some o ≡ true → IfSome o (λ found. part ≡ slice_range found.bytes start (start + 512))
    → part ≡ bytes → (found : PageState) × (o ≡ Some found) × (slice_range found.bytes start (start + 512) ≡ bytes)
same_sector None start part bytes there read same = absurd (let no : false ≡ true = there in cc)
same_sector (Some found) start part bytes there read same = (found, refl, sym read ∙ same)

-- bytes that are the same up to a sector are so after it, where it is the same
pub sectors_more : (xs ys : List ℕ) (n : ℕ) → slice_range xs n (n + 512) ≡ slice_range ys n (n + 512)
    → ((k : ℕ) → k < n → slice_index xs k ≡ slice_index ys k) → (k : ℕ) → k < n + 512 → slice_index xs k ≡ slice_index ys k
sectors_more xs ys n same before k to = elim (cases_lt k n) [
  | inl below ↦ before k below
  | inr from ↦ sym (part_at xs n k from to) ∙ ap (λ part. slice_index part (k - n)) same ∙ part_at ys n k from to
]

-- the permissions of a page, among those of its space
pub prot_at : (m : Contents) (space page : ℕ) (pages : Table PageState) (found : PageState) → finmap.get m.spaces space ≡ Some pages → page_at m space page ≡ Some found
    → finmap.get (prots_of pages) page ≡ Some found.prot
prot_at m space page pages found alive there =
    let at : finmap.get pages page ≡ Some found = (rw alive at there) in
    get-map_values (λ (p : PageState). p.prot) pages page ∙ ap (option_map (λ (p : PageState). p.prot)) at

-- a space has as many pages as its permissions
pub pages_of_prots : (m : Contents) (space : ℕ) (pages : Table PageState) → finmap.get m.spaces space ≡ Some pages
    → finmap.len (prots_of pages) ≡ finmap.len (inside (plain_of m) space)
pages_of_prots m space pages alive =
    len-map_values (λ (p : PageState). p.prot) pages
    ∙ sym (ap finmap.len (plain_inside m space) ∙ len-map_values plain_page (inside m.spaces space) ∙ ap finmap.len (rw alive))

-- a page is the one that is there
pub same_page : (o : Option PageState) (one other : PageState) → o ≡ Some one → o ≡ Some other → one ≡ other
same_page o one other is too = let both : Some one ≡ Some other = sym is ∙ too in cc

-- how many pages a living space has, by its permissions
pub mapped_some : (m : Contents) (space : ℕ) (prots : PageMap) (count : ℕ) → Some prots ≡ option_map prots_of (finmap.get m.spaces space)
    → count ≡ finmap.len prots → count ≡ finmap.len (inside (plain_of m) space)
mapped_some m space prots count areas counted = by (finmap.get m.spaces space) refl
  where
    by : (o : Option (Table PageState)) → finmap.get m.spaces space ≡ o → count ≡ finmap.len (inside (plain_of m) space)
    by None is = absurd (let no : Some prots ≡ None = areas ∙ ap (option_map prots_of) is in cc)
    by (Some pages) is =
        let same : Some prots ≡ Some (prots_of pages) = areas ∙ ap (option_map prots_of) is in
        let prots_are : prots ≡ prots_of pages = cc in
        counted ∙ ap finmap.len prots_are ∙ pages_of_prots m space pages is

-- one that isn't alive has none
pub mapped_none : (m : Contents) (space : ℕ) → option_map prots_of (finmap.get m.spaces space) ≡ None → 0 ≡ finmap.len (inside (plain_of m) space)
mapped_none m space areas = by (finmap.get m.spaces space) refl
  where
    by : (o : Option (Table PageState)) → finmap.get m.spaces space ≡ o → 0 ≡ finmap.len (inside (plain_of m) space)
    by None is = sym (ap finmap.len (plain_inside m space) ∙ len-map_values plain_page (inside m.spaces space) ∙ ap (λ o. finmap.len (unwrap_or o finmap.empty)) is ∙ finmap.len-empty nat_cmp PageState)
    by (Some pages) is = absurd (let no : None ≡ Some (prots_of pages) = sym areas ∙ ap (option_map prots_of) is in cc)

-- the permissions of a page, by those of its space
pub found_prot : (m : Contents) (space page : ℕ) (prots : PageMap) (prot : Prot) (found : PageState) → Some prots ≡ option_map prots_of (finmap.get m.spaces space)
    → Some prot ≡ finmap.get prots page → page_at m space page ≡ Some found → found.prot ≡ prot
found_prot m space page prots prot found areas permitted there = by (finmap.get m.spaces space) refl
  where
    by : (o : Option (Table PageState)) → finmap.get m.spaces space ≡ o → found.prot ≡ prot
    by None is = absurd (let no : Some prots ≡ None = areas ∙ ap (option_map prots_of) is in cc)
    by (Some pages) is =
        let same : Some prots ≡ Some (prots_of pages) = areas ∙ ap (option_map prots_of) is in
        let prots_are : prots ≡ prots_of pages = cc in
        let both : Some found.prot ≡ Some prot = sym (prot_at m space page pages found is there) ∙ ap (λ (t : PageMap). finmap.get t page) (sym prots_are) ∙ sym permitted in
        cc

pub found_prots : (m : Contents) (space page : ℕ) (prots : PageMap) (o : Option Prot) → Some prots ≡ option_map prots_of (finmap.get m.spaces space)
    → o ≡ finmap.get prots page → IfSome o (λ prot. (found : PageState) → page_at m space page ≡ Some found → found.prot ≡ prot)
found_prots m space page prots None areas permitted = tt
found_prots m space page prots (Some prot) areas permitted = λ found there. found_prot m space page prots prot found areas permitted there

-- ---- a page of a segment

-- the bytes that were read of the file are the page's
read_bytes : (o : Option (List ℕ)) (s : ProgramHeader) (number behind : ℕ) (bytes paged : List ℕ) → behind ≡ 4096 * number → length bytes ≡ 4096
    → ((k : ℕ) → k < 4096 → slice_index paged k ≡ slice_index bytes k)
    → IfSome o (λ held. s.p_offset + s.p_filesz < 2 ^ 64 → (k : ℕ) → k < length bytes → slice_index bytes k ≡ segment_byte held s (behind + k))
    → IfSome o (λ held. AreBytesOfSegment held s number paged)
read_bytes None s number behind bytes paged behind_is long same read = tt
read_bytes (Some held) s number behind bytes paged behind_is long same read =
    λ small k below. same k below ∙ read small k (rw long below) ∙ ap (λ at. segment_byte held s (at + k)) behind_is

-- a page that is mapped with the segment's permissions, and has the bytes that were read of the file
pub page_compared : (E : Type 0) (o : Option (List ℕ)) (m : Contents) (s : ProgramHeader) (space number behind page : ℕ) (bytes : List ℕ) (b : Bool)
    → behind ≡ 4096 * number → page ≡ s.p_vaddr / 4096 + number → AreWhole m → length bytes ≡ 4096
    → ((found : PageState) → page_at m space page ≡ Some found → found.prot ≡ prot_of_flags s.p_flags)
    → (b ≡ true → (found : PageState) × (page_at m space page ≡ Some found) × ((k : ℕ) → k < 4096 → slice_index found.bytes k ≡ slice_index bytes k))
    → IfSome o (λ held. s.p_offset + s.p_filesz < 2 ^ 64 → (k : ℕ) → k < length bytes → slice_index bytes k ≡ segment_byte held s (behind + k))
    → ◌≡◌ {A = Result Bool E} (Ok b) (Ok true) → HasPageOfSegment o (inside (plain_of m) space) s number
page_compared E o m s space number behind page bytes b behind_is page_is whole long permitted compared read is =
    let passes : b ≡ true = cc in
    let told = compared passes in
    record {
      page = plain_page told.0;
      there = ap (finmap.get (inside (plain_of m) space)) (sym page_is) ∙ plain_at m space page ∙ ap (option_map plain_page) told.1;
      is = record {
        prot = permitted told.0 told.1;
        whole = whole space page told.0 told.1;
        bytes = read_bytes o s number behind bytes told.0.bytes behind_is long told.2 read;
      };
    }

-- a page more of a segment
pub pages_more : (E : Type 0) (P : ℕ → Type 0) (n : ℕ) (b : Bool) → b ≡ true → ((k : ℕ) → k < n → P k) → (◌≡◌ {A = Result Bool E} (Ok b) (Ok true) → P n)
    → (k : ℕ) → k < n + 1 → P k
pages_more E P n b passes before this = below_more P n before (this (ap (λ v. let r : Result Bool E = Ok v in r) passes))

-- a segment more of a core
pub segments_more : (E : Type 0) (segments : List ProgramHeader) (P : ProgramHeader → Type 0) (n : ℕ) (s : ProgramHeader) (b : Bool) → b ≡ true
    → ((d : ProgramHeader) → s ≡ slice_index_or segments n d) → ((k : ℕ) (d : ProgramHeader) → k < n → P (slice_index_or segments k d))
    → (◌≡◌ {A = Result Bool E} (Ok b) (Ok true) → P s)
    → (k : ℕ) (d : ProgramHeader) → k < n + 1 → P (slice_index_or segments k d)
segments_more E segments P n s b passes there before this = λ k d below.
    let here : P (slice_index_or segments n d) = subst P (there d) (this (ap (λ v. let r : Result Bool E = Ok v in r) passes)) in
    below_more (λ j. P (slice_index_or segments j d)) n (λ j under. before j d under) here k below

-- all segments are there, and no other page
pub core_there : (E : Type 0) (o : Option (List ℕ)) (segments : List ProgramHeader) (space : Space) (n mapped counted : ℕ)
    → length segments ≤ n → mapped ≡ finmap.len space → counted ≡ sum_by segment_page_count segments
    → ((k : ℕ) (d : ProgramHeader) → k < n → HasSegment o space (slice_index_or segments k d))
    → ◌≡◌ {A = Result Bool E} (Ok (eqb mapped counted)) (Ok true) → HasCore o segments space
core_there E o segments space n mapped counted all mapped_is counted_is there is =
    let same : eqb mapped counted ≡ true = cc in
    record {
      pages = λ k d below. there k d (omega (arith, below, all));
      only = sym mapped_is ∙ eqb-true mapped counted same ∙ counted_is;
    }
