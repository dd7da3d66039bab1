-- Pages that were placed in runs.
use Rattle.std.proofs.Common.{◌≡◌, ◌<◌, ◌+◌, ℕ, zero, suc, IsTrue, List, [], ◌∷◌, ◌++◌, map, length, Contains, refl, sym, ◌∙◌, ap, subst, arith, append_assoc, append-nil}
use Rattle.std.specs.Prelude.{All, get_or}
use Rattle.std.specs.FinMap as finmap
use Rattle.std.proofs.lemmas.Grind.{flat_map-append}
use Rattle.std.proofs.lemmas.List.{length-append, map-append}
use Rattle.std.proofs.lemmas.List.Elements.{All-contains, All-contains_itself}
use Rattle.sd_areas.specs.declared.area.Area.{Area}
use Rattle.sd_areas.specs.Pages.{pages_from}
use Rattle.sd_areas.specs.PlainMemory.{PlainMemory}
use Rattle.sd_areas.specs.Memory.{put_page}
use Rattle.sd_image.proofs.Members.{contains_map, into_parts}
use Rattle.sd_chain.specs.declared.found.Found.{Found}
use Rattle.sd_chain.specs.declared.found.Found.TheVariants as found
use Rattle.sd_chain.specs.Catalog.{Places}
use Rattle.sd_chain.specs.Chains.{found_on}
use Rattle.sd_restore.specs.declared.placed_run.PlacedRun.{PlacedRun}
use Rattle.sd_restore.specs.Mapped.{Mapped, mapped_with}
use Rattle.sd_restore.specs.Placed.{PlacedPage, ArePlaced, IsFoundAt, IsInSlots, IsWithin, placed_page, page_of_run, pages_in, placed_pages, with_pages}
use Rattle.sd_restore.proofs.MappedLemmas.{contains-pages_from, grown, no_pages}
use Rattle.sd_restore.proofs.MemoryLemmas.{AreAlive, pages_more}
use Rattle.sd_restore.proofs.PlacedLemmas.{area_more}

-- ---- the pages of runs

-- the first pages of a run
abbrev pub first_pages : PlacedRun → ℕ → List PlacedPage
first_pages r k = map (page_of_run r) (pages_from 0 k)

pub none_first : (r : PlacedRun) → first_pages r 0 ≡ []
none_first r = ap (map (page_of_run r)) (no_pages 0)

pub one_more : (r : PlacedRun) (k : ℕ) → first_pages r (suc k) ≡ first_pages r k ++ page_of_run r k ∷ []
one_more r k = grind (arith, grown, map-append)

pub length-first : (r : PlacedRun) (k : ℕ) → length (first_pages r k) ≡ k
length-first r zero = ap length (none_first r)
length-first r (suc k) =
    ap length (one_more r k) ∙ length-append (first_pages r k) (page_of_run r k ∷ []) ∙ ap (λ n. n + 1) (length-first r k) ∙ (let e : k + 1 ≡ suc k = omega arith in e)

pub run_more : (runs : List PlacedRun) (r : PlacedRun) → placed_pages (runs ++ r ∷ []) ≡ placed_pages runs ++ pages_in r
run_more runs r = flat_map-append pages_in runs (r ∷ []) ∙ ap (λ ps. placed_pages runs ++ ps) (append-nil (pages_in r))

-- the first page of a run is one of its pages
first_among : (runs : List PlacedRun) (r : PlacedRun) → 0 < r.count → Contains runs r → Contains (placed_pages runs) (page_of_run r 0)
first_among runs r some c =
    into_parts pages_in runs r (page_of_run r 0) c
    (contains_map (page_of_run r) (pages_from 0 r.count) 0 (subst (Contains (pages_from 0 r.count)) (let e : 0 + 0 ≡ 0 = omega arith in e) (contains-pages_from 0 r.count 0 some)))

-- ---- they were placed

pub pages_placed : (places : Places) (serial space : ℕ) (area : Area) (k n : ℕ) (done : List Mapped) (pages : List PlacedPage) (r : PlacedRun)
    → ArePlaced places serial (done ++ mapped_with space area (pages_from area.first k)) pages
    → r.space ≡ space → r.first ≡ area.first + k → r.prot ≡ area.prot
    → ((j : ℕ) → j < n → IsFoundAt places serial (r.space, r.first + j) (found_on r.there j))
    → ArePlaced places serial (done ++ mapped_with space area (pages_from area.first (k + n))) (pages ++ first_pages r n)
pages_placed places serial space area k zero done pages r was at_space at_page at_prot found =
    subst (λ m. ArePlaced places serial (done ++ mapped_with space area (pages_from area.first m)) (pages ++ first_pages r 0)) (let e : k ≡ k + 0 = omega arith in e)
    (subst (ArePlaced places serial (done ++ mapped_with space area (pages_from area.first k))) (sym (ap (λ ps. pages ++ ps) (none_first r) ∙ append-nil pages)) was)
pages_placed places serial space area k (suc n) done pages r was at_space at_page at_prot found =
    let before = pages_placed places serial space area k n done pages r was at_space at_page at_prot (λ j less. found j (omega (arith, less))) in
    let is : record { space = r.space; page = r.first + n; prot = r.prot } ≡ record { space = space; page = area.first + (k + n); prot = area.prot } =
    ap (λ s. record { space = s; page = r.first + n; prot = r.prot }) at_space
    ∙ ap (λ p. record { space = space; page = p; prot = r.prot }) (let e : r.first + n ≡ area.first + (k + n) = omega (arith, at_page) in e)
    ∙ ap (λ q. record { space = space; page = area.first + (k + n); prot = q }) at_prot in
    let more = area_more places serial space area (k + n) done (pages ++ first_pages r n) (page_of_run r n) before (found n (omega arith)) is in
    subst (λ m. ArePlaced places serial (done ++ mapped_with space area (pages_from area.first m)) (pages ++ first_pages r (suc n))) (let e : k + n + 1 ≡ k + suc n = omega arith in e)
    (subst (ArePlaced places serial (done ++ mapped_with space area (pages_from area.first (k + n + 1))))
    (append_assoc pages (first_pages r n) (page_of_run r n ∷ []) ∙ ap (λ ps. pages ++ ps) (sym (one_more r n))) more)

-- ---- what is so of all pages is so of the runs

slots_of_first : (count : ℕ) (there : Found) → IsInSlots count (found_on there 0) → IsInSlots count there
slots_of_first count there h = grind arith

pub runs_in_slots : (count : ℕ) (runs : List PlacedRun) → All IsWithin runs → All (λ (p : PlacedPage). IsInSlots count p.there) (placed_pages runs) → All (λ (r : PlacedRun). IsInSlots count r.there) runs
runs_in_slots count runs within slots k d less =
    let r = get_or runs k d in
    slots_of_first count r.there
    (All-contains (λ (p : PlacedPage). IsInSlots count p.there) (placed_pages runs) (page_of_run r 0) slots (first_among runs r (within k d less).some (All-contains_itself runs k d less)))

pub runs_alive : (memory : PlainMemory) (runs : List PlacedRun) → All IsWithin runs → AreAlive memory (placed_pages runs) → All (λ (r : PlacedRun). IsTrue (finmap.contains_key memory r.space)) runs
runs_alive memory runs within alive k d less =
    let r = get_or runs k d in
    All-contains (λ (p : PlacedPage). IsTrue (finmap.contains_key memory p.space)) (placed_pages runs) (page_of_run r 0) alive (first_among runs r (within k d less).some (All-contains_itself runs k d less))

-- ---- their bytes are put

pub with_more : (contents : List (List ℕ)) (memory : PlainMemory) (r : PlacedRun) (k : ℕ)
    → with_pages contents memory (first_pages r (k + 1)) ≡ put_page (with_pages contents memory (first_pages r k)) r.space (r.first + k) (placed_page contents (page_of_run r k))
with_more contents memory r k =
    ap (λ n. with_pages contents memory (first_pages r n)) (let e : k + 1 ≡ suc k = omega arith in e)
    ∙ ap (with_pages contents memory) (one_more r k) ∙ pages_more contents memory (first_pages r k) (page_of_run r k)

pub with_both : (contents : List (List ℕ)) (memory : PlainMemory) (xs ys : List PlacedPage) → with_pages contents memory (xs ++ ys) ≡ with_pages contents (with_pages contents memory xs) ys
with_both contents memory [] ys = refl
with_both contents memory (p ∷ xs) ys = with_both contents (put_page memory p.space p.page (placed_page contents p)) xs ys
