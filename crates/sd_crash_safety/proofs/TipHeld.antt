-- The tip of a store holds each page that it lists.
use Rattle.std.proofs.Common.{◌≡◌, ◌≢◌, ℕ, zero, suc, ◌+◌, ◌<◌, ◌≤◌, Bool, true, false, if◌then◌else◌, nat_le, nat_lt, List, [], ◌∷◌, Option, Some, None, MatchOption, All, Contains, refl, sym, ◌∙◌, subst, inl, inr, arith}
use Rattle.std.specs.List.{flat_map}
use Rattle.std.proofs.lemmas.Bool.{and_from, le-leb, lt-ltb}
use Rattle.std.proofs.lemmas.List.Elements.{All-append, All-contains, All-contains_itself, All-map, All-nil, All-weaker, Contains-append_cases, Contains-append_left, Contains-append_right}
use Rattle.sd_areas.specs.declared.area.Area.{Area}
use Rattle.sd_areas.specs.Areas.{area_pages, prot_in}
use Rattle.sd_areas.specs.Pages.{is_within, pages_from}
use Rattle.sd_areas.specs.PlainMemory.{Page, PlainMemory}
use Rattle.sd_image.specs.declared.header.Header.{Header}
use Rattle.sd_image.specs.declared.header.Kind.{Kind}
use Rattle.sd_image.specs.declared.header.Kind.TheVariants.{PreDump}
use Rattle.sd_image.specs.declared.run.Run.{Run}
use Rattle.sd_image.specs.Image.{Image}
use Rattle.sd_image.specs.Laws.{SerialsDiffer}
use Rattle.sd_image.specs.Shows.{Holds, ImagesShow, IsMemory, IsTip, page_in}
use Rattle.sd_image.specs.Table.{AreSpaces, Covers, IsTable, Listed, run_pages}
use Rattle.sd_journal.specs.Allowed.{Shown}
use Rattle.sd_merge.specs.Merging.{listed_places}
use Rattle.sd_writing.specs.Entries.{entries_listed, run_entries, ImageEntry, Place, place_of_entry}
use Rattle.sd_store_laws.proofs.Choose.{same_pair as same_serial}

-- ---- the pages of areas

from_has : (first count page : ℕ) → Contains (pages_from first count) page → (first ≤ page) × (page < first + count)
unfolding pages_from
from_has first zero page c = absurd (let within = c.1 in omega (arith, within))
from_has first (suc count) page (zero, within, is) = (let same : first ≡ page = is in omega (arith, same), let same : first ≡ page = is in omega (arith, same))
from_has first (suc count) page (suc k, within, is) =
    let rest = from_has (suc first) count page (k, omega (arith, within), is) in
    let low = rest.0 in let high = rest.1 in
    (omega (arith, low), omega (arith, high))

area_has : (first count page : ℕ) → Contains (pages_from first count) page → is_within first count page ≡ true
area_has first count page c =
    let b = from_has first count page c in
    and_from (nat_le first page) (nat_lt page (first + count)) (le-leb first page b.0) (lt-ltb page (first + count) b.1)

-- a page of these areas has permissions
areas_have : (areas : List Area) (page : ℕ) → Contains (flat_map area_pages areas) page → prot_in areas page ≡ None → ⊥
areas_have [] page c none = let within = c.1 in omega (arith, within)
areas_have (area ∷ areas) page c none = by (is_within area.first area.count page) refl (areas_have areas page) none
  where
    by : (b : Bool) → is_within area.first area.count page ≡ b → (Contains (flat_map area_pages areas) page → prot_in areas page ≡ None → ⊥)
        → (if b then Some area.prot else prot_in areas page) ≡ None → ⊥
    by true is later none = let no : Some area.prot ≡ None = none in cc
    by false is later none = elim (Contains-append_cases (area_pages area) (flat_map area_pages areas) page c) [
      | inl here ↦ (let no : false ≡ true = sym is ∙ area_has area.first area.count page here in cc)
      | inr beyond ↦ later beyond none
    ]

-- the pages of the runs of a dump or a merged image are those of its areas
covered : (kind : Kind) (areas : List Area) (runs : List Run) → kind ≢ PreDump → Covers kind areas runs → (page : ℕ) → Contains (flat_map run_pages runs) page → prot_in areas page ≡ None → ⊥
covered kind areas runs other is page c = grind (arith, areas_have)

-- ---- the pages that a table lists

module _ (P : Place → Type 0) where
  abbrev At : ImageEntry → Type 0
  At entry = P entry.place

  runs_are : (space : ℕ) (runs : List Run) → ((page : ℕ) → Contains (flat_map run_pages runs) page → P (space, page)) → All At (flat_map (run_entries space) runs)
  runs_are space [] each = All-nil At
  runs_are space (run ∷ runs) each = All-append At (run_entries space run) (flat_map (run_entries space) runs)
      (All-map At (λ page. record { place = (space, page); kind = run.kind }) (run_pages run)
      (All-weaker (Contains (run_pages run)) (λ page. P (space, page)) (λ page c. each page (Contains-append_left (run_pages run) (flat_map run_pages runs) page c)) (run_pages run) (All-contains_itself (run_pages run))))
      (runs_are space runs (λ page c. each page (Contains-append_right (run_pages run) (flat_map run_pages runs) page c)))

  entries_are : (h : Header) (before : ℕ) (spaces : List Listed) → h.kind ≢ PreDump → AreSpaces h before spaces
      → ((s : Listed) → Contains spaces s → (page : ℕ) → (prot_in s.areas page ≡ None → ⊥) → P (s.space, page)) → All At (entries_listed spaces)
  entries_are h before [] other are each = All-nil At
  entries_are h before (s ∷ spaces) other are each = All-append At (flat_map (run_entries s.space) s.runs) (entries_listed spaces)
      (runs_are s.space s.runs (λ page c. each s (0, omega arith, refl) page (covered h.kind s.areas s.runs other are.0.covers page c)))
      (entries_are h s.space spaces other are.1 (λ t member page has. each t (suc member.0, (let within = member.1 in omega (arith, within)), member.2) page has))

  listed_are : (h : Header) (spaces : List Listed) → h.kind ≢ PreDump → IsTable h spaces
      → ((s : Listed) → Contains spaces s → (page : ℕ) → (prot_in s.areas page ≡ None → ⊥) → P (s.space, page)) → (at : Place) → Contains (listed_places spaces) at → P at
  listed_are h spaces other table each at lists =
      All-contains P (listed_places spaces) at (All-map P place_of_entry (entries_listed spaces) (entries_are h 0 spaces other table.each each)) lists

-- ---- the tip

page_held : (images : List Image) (i : Image) (s : Listed) (page : ℕ) (found : Option Page)
    → MatchOption found (prot_in s.areas page ≡ None) (λ p. (prot_in s.areas page ≡ Some p.prot) × Holds images s.space page p.bytes i)
    → (prot_in s.areas page ≡ None → ⊥) → (bytes : List ℕ) × Holds images s.space page bytes i
page_held images i s page None is has = absurd (has is)
page_held images i s page (Some p) is has = (p.bytes, is.1)

memory_held : (images : List Image) (i : Image) (memory : PlainMemory) → IsMemory images i memory → i.header.kind ≢ PreDump → IsTable i.header i.spaces
    → (at : Place) → Contains (listed_places i.spaces) at → (bytes : List ℕ) × Holds images at.0 at.1 bytes i
memory_held images i memory is restorable table =
    listed_are (λ at. (bytes : List ℕ) × Holds images at.0 at.1 bytes i) i.header i.spaces restorable table
    (λ s member page. page_held images i s page (page_in memory s.space page) (is.pages s member page))

-- where the store shows what it is to show
pub tip_held : (catalog : List Image) (shown : Shown) → SerialsDiffer catalog → ImagesShow catalog shown → (tip : Image) → IsTip catalog tip → IsTable tip.header tip.spaces
    → (at : Place) → Contains (listed_places tip.spaces) at → (bytes : List ℕ) × Holds catalog at.0 at.1 bytes tip
tip_held catalog None serials shows tip is table at lists = absurd (shows tip is.member is.restorable)
tip_held catalog (Some moment) serials shows tip is table at lists =
    let newest = shows.1 in
    let same : shows.0 ≡ tip = serials shows.0 tip newest.member is.member
    (same_serial shows.0 tip (is.greatest shows.0 newest.member newest.restorable) (newest.greatest tip is.member is.restorable)) in
    memory_held catalog tip moment.1 (subst (λ i. IsMemory catalog i moment.1) same shows.3) is.restorable table at lists
