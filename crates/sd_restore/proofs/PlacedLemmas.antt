-- The pages that were placed so far, and the first whose chain breaks.
use Rattle.std.proofs.Common.{◌≡◌, ◌<◌, ◌+◌, ℕ, List, [], ◌∷◌, ◌++◌, map, Some, Contains, refl, sym, ◌∙◌, ap, subst, append_assoc}
use Rattle.std.specs.Prelude.{All, get_or}
use Rattle.std.proofs.lemmas.List.{map-append}
use Rattle.std.proofs.lemmas.List.Elements.{All-push, All-contains, Contains-get_or}
use Rattle.sd_areas.specs.declared.area.Area.{Area}
use Rattle.sd_areas.specs.Pages.{pages_from}
use Rattle.sd_image.specs.declared.reason.Reason.{Reason}
use Rattle.sd_image.specs.declared.reason.Reason.TheVariants.{Chain}
use Rattle.sd_image.proofs.Members.{from_map}
use Rattle.sd_chain.specs.declared.found.Found.{Found}
use Rattle.sd_chain.specs.Catalog.{Opened, Places, images, place_of}
use Rattle.sd_chain.specs.Ways.{LiesAt, by_data, by_zero, by_parent, LiesBySerial, BreaksBySerial}
use Rattle.sd_restore.specs.declared.fault.Fault.{Fault}
use Rattle.sd_restore.specs.Faulty.{FaultNames}
use Rattle.sd_restore.specs.Mapped.{Mapped, mapped_with, area_mapped}
use Rattle.sd_restore.specs.Placed.{PlacedPage, mapped_of, IsPlaced, ArePlaced, IsInSlots, IsUnheld, MeetsBreak}
use Rattle.sd_restore.proofs.MappedLemmas.{no_pages, mapped_more, mapped_split}
use Rattle.sd_restore.proofs.ScanLemmas.{names_more}

pub one_placed : (places : Places) (serial : ℕ) (done : List Mapped) (pages : List PlacedPage) (p : PlacedPage) → ArePlaced places serial done pages → IsPlaced places serial p
    → ArePlaced places serial (done ++ mapped_of p ∷ []) (pages ++ p ∷ [])
one_placed places serial done pages p was is = record {
  are = map-append mapped_of pages (p ∷ []) ∙ ap (λ ms. ms ++ mapped_of p ∷ []) was.are;
  each = All-push (IsPlaced places serial) pages p was.each is;
}

-- the first k pages of an area, and more
pub area_begins : (places : Places) (serial space : ℕ) (area : Area) (done : List Mapped) (pages : List PlacedPage) → ArePlaced places serial done pages
    → ArePlaced places serial (done ++ mapped_with space area (pages_from area.first 0)) pages
area_begins places serial space area done pages was =
    subst (λ ms. ArePlaced places serial ms pages) (sym (ap (λ ns. done ++ mapped_with space area ns) (no_pages area.first) ∙ append-nil done)) was
  where
    append-nil : (xs : List Mapped) → xs ++ [] ≡ xs
    append-nil [] = refl
    append-nil (x ∷ xs) = ap (λ ys. x ∷ ys) (append-nil xs)

pub area_more : (places : Places) (serial space : ℕ) (area : Area) (k : ℕ) (done : List Mapped) (pages : List PlacedPage) (p : PlacedPage)
    → ArePlaced places serial (done ++ mapped_with space area (pages_from area.first k)) pages → IsPlaced places serial p
    → mapped_of p ≡ record { space = space; page = area.first + k; prot = area.prot }
    → ArePlaced places serial (done ++ mapped_with space area (pages_from area.first (k + 1))) (pages ++ p ∷ [])
area_more places serial space area k done pages p was placed is =
    subst (λ ms. ArePlaced places serial ms (pages ++ p ∷ []))
    (append_assoc done (mapped_with space area (pages_from area.first k)) (mapped_of p ∷ [])
    ∙ ap (λ m. done ++ (mapped_with space area (pages_from area.first k) ++ m ∷ [])) is ∙ ap (λ ms. done ++ ms) (sym (mapped_more space area k)))
    (one_placed places serial _ pages p was placed)

-- each of those is held
held_of : (places : Places) (serial : ℕ) (done : List Mapped) (pages : List PlacedPage) → ArePlaced places serial done pages
    → All (λ (m : Mapped). (there : Found) × LiesBySerial places serial (m.space, m.page) there) done
held_of places serial done pages was k d less =
    let c : Contains (map mapped_of pages) (get_or done k d) = subst (λ ms. Contains ms (get_or done k d)) (sym was.are) (Contains-get_or done k d less) in
    let p = from_map mapped_of pages (get_or done k d) c in
    let placed = All-contains (IsPlaced places serial) pages p.0 was.each p.1 in
    subst (λ (m : Mapped). (there : Found) × LiesBySerial places serial (m.space, m.page) there) (sym p.2) (p.0.there, placed.lies)

pub area_breaks : (places : Places) (serial space : ℕ) (area : Area) (k page : ℕ) (done : List Mapped) (pages : List PlacedPage) (slot : ℕ) (reason : Reason) → k < area.count
    → ArePlaced places serial (done ++ mapped_with space area (pages_from area.first k)) pages → page ≡ area.first + k
    → (reason ≡ Chain) × BreaksBySerial places serial (space, page) slot × IsUnheld places serial (space, page) → MeetsBreak places serial (done ++ area_mapped space area) slot reason
area_breaks places serial space area k page done pages slot reason less was is broken =
    let split = mapped_split space area k less in
    record {
      first = record {
        why = broken.0;
        before = done ++ mapped_with space area (pages_from area.first k);
        page = record { space = space; page = area.first + k; prot = area.prot };
        after = split.0;
        are = ap (λ ms. done ++ ms) split.1 ∙ sym (append_assoc done (mapped_with space area (pages_from area.first k)) _);
        held = held_of places serial _ pages was;
        breaks = subst (λ n. BreaksBySerial places serial (space, n) slot) is broken.1;
      };
      unheld = subst (λ n. IsUnheld places serial (space, n)) is broken.2;
    }

-- it is the first also of more pages
breaks_before : (places : Places) (serial : ℕ) (pages more : List Mapped) (slot : ℕ) (reason : Reason) → MeetsBreak places serial pages slot reason
    → MeetsBreak places serial (pages ++ more) slot reason
breaks_before places serial pages more slot reason met = record {
  first = record {
    why = met.first.why;
    before = met.first.before;
    page = met.first.page;
    after = met.first.after ++ more;
    are = ap (λ ms. ms ++ more) met.first.are ∙ append_assoc met.first.before (met.first.page ∷ met.first.after) more;
    held = met.first.held;
    breaks = met.first.breaks;
  };
  unheld = met.unheld;
}

-- where the parts before it and a part have it, the whole has it
pub part_breaks : (places : Places) (serial : ℕ) (done before part rest whole : List Mapped) (fault : Fault) → whole ≡ (before ++ part) ++ rest
    → FaultNames (MeetsBreak places serial ((done ++ before) ++ part)) fault → FaultNames (MeetsBreak places serial (done ++ whole)) fault
part_breaks places serial done before part rest whole fault split = names_more _ _ fault (λ slot reason met.
    subst (λ ms. MeetsBreak places serial ms slot reason)
    (append_assoc (done ++ before) part rest ∙ append_assoc done before (part ++ rest) ∙ ap (λ ms. done ++ ms) (sym (append_assoc before part rest) ∙ sym split))
    (breaks_before places serial ((done ++ before) ++ part) rest slot reason met))

-- what lies somewhere is in a slot of an image
in_slot : (count : ℕ) (places : Places) (page : ℕ × ℕ) (there : Found) (i : Opened) → All (λ (j : Opened). j.slot < count) (images places) → Contains (images places) i
    → LiesAt places page there i → IsInSlots count there
in_slot count places page there i slots c (by_data _ place has is) = subst (IsInSlots count) (sym is) (All-contains (λ (j : Opened). j.slot < count) (images places) i slots c)
in_slot count places page there i slots c (by_zero _ has is) = subst (IsInSlots count) (sym is) tt
in_slot count places page there i slots c (by_parent _ parent has named lies) = in_slot count places page there parent slots named.member lies

pub placed_in_slots : (count : ℕ) (places : Places) (serial : ℕ) (mapped : List Mapped) (pages : List PlacedPage)
    → All (λ (j : Opened). j.slot < count) (images places) → ((i : Opened) → place_of places serial ≡ Some (Some i) → Contains (images places) i)
    → ArePlaced places serial mapped pages → All (λ (p : PlacedPage). IsInSlots count p.there) pages
placed_in_slots count places serial mapped pages slots member was k d less =
    let placed = was.each k d less in
    in_slot count places ((get_or pages k d).space, (get_or pages k d).page) (get_or pages k d).there placed.lies.0 slots (member placed.lies.0 placed.lies.1) placed.lies.2
