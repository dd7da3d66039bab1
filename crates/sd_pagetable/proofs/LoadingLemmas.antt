-- A memory that is being loaded, and the areas beside it.
use Rattle.std.proofs.Common.{◌≡◌, ℕ, ◌+◌, ◌≤◌, Bool, true, false, cond, nat_eq, nat_lt, ◌||◌, is_some, List, [], ◌∷◌, map, length, Option, Some, None, unwrap_or, refl, sym, ◌∙◌, ap, subst, inl, inr, arith, zero, suc, filter}
use Rattle.std.proofs.lemmas.Bool.{cases_Bool, cond-true, eq-eqb, le-ltb, ltb-false, both_ways}
use Rattle.std.specs.List.{list_any, range_with_len}
use Rattle.std.specs.Option.{option_map, option_or}
use Rattle.std.specs.Ordering.{nat_cmp, eq_by_cmp}
use Rattle.std.specs.Cmp.{nat_cmp_total}
use Rattle.std.specs.BTreeMap.{BTreeMap, get}
use Rattle.std.specs.FinMap as finmap
use Rattle.std.specs.FinMap.{find, get-empty, get-entries, get-from_entries}
use Rattle.sd_areas.specs.declared.snapshot.Snapshot.{Snapshot}
use Rattle.sd_areas.specs.Areas.{PageMap}
use Rattle.sd_areas.specs.Memory.{memory_of}
use Rattle.sd_areas.specs.PlainMemory as plain
use Rattle.sd_areas.specs.PlainMemory.{PlainMemory}
use Rattle.sd_pagetable.specs.declared.access_error.AccessError.{AccessError}
use Rattle.sd_pagetable.specs.declared.access_error.AccessError.TheVariants.{Refused}
use Rattle.sd_pagetable.specs.declared.memory_refusal.MemoryRefusal.TheVariants.{NoFrame, Enomem}
use Rattle.sd_pagetable.specs.Nested.{Table, Nested, map_values, inside, value_at, is_alive, total, total_within}
use Rattle.sd_pagetable.specs.Page.{PageState, plain_page}
use Rattle.sd_pagetable.specs.Contents.{Contents, page_at, plain_of, members, share_of, classes, page_count}
use Rattle.sd_pagetable.specs.RefusalOrder.{prots_in}
use Rattle.sd_pagetable.specs.Loaded.{frames_for, nonzero_pages, is_over_in_space, is_over_limits, snapshot_refusal, IsBegunMemory, IsLoaded}
use Rattle.sd_pagetable.proofs.NestedLemmas.{inside-insert, alive-insert}
use Rattle.sd_pagetable.proofs.TableLemmas.{same_table, same_test, get_put, get_tree, get-map_values, map_values-empty, map_values-insert, tied}
use Rattle.sd_pagetable.proofs.TotalLemmas.{total_within-empty}
use Rattle.sd_pagetable.proofs.SpaceLemmas.{added_at, added_total}
use Rattle.sd_pagetable.proofs.ViewLemmas.{alone_in, is_alone_in}
use Rattle.sd_pagetable.proofs.MemoryLemmas.{plain_alive}
use Rattle.sd_pagetable.proofs.PlainRanges.{plain_many, composed}
use Rattle.sd_pagetable.specs.Kept.{HasAreas, prots_of}
use Rattle.sd_pagetable.proofs.ForkCalls.{len_total}
use Rattle.sd_pagetable.proofs.FilledLemmas.{Rises, IsApart, rest_rises, apart_empty, apart_head, apart_next, filled, filled_all, find_seen, head_within, get-filled}
use Rattle.sd_pagetable.proofs.SnapshotLemmas.{Pages, space_in, seen_space, memory_entries, memory_filled, inserted_twice}

none_left : (a b : Bool) → (a || b) ≡ false → a ≡ false
none_left a b h = grind arith

none_right : (a b : Bool) → (a || b) ≡ false → b ≡ false
none_right a b h = grind arith

-- ---- one space more
-- a space without pages changes nothing that was loaded
module _ (cur new : Contents) (space : ℕ) (dead : is_alive cur.spaces space ≡ false) (added : new ≡ record { pool = cur.pool; spaces = finmap.insert cur.spaces space finmap.empty }) where
  pub added_seen : plain_of new ≡ finmap.insert (plain_of cur) space finmap.empty
  unfolding plain_of
  added_seen = ap plain_of added ∙ map_values-insert (map_values plain_page) cur.spaces space finmap.empty ∙ ap (finmap.insert (plain_of cur) space) (map_values-empty plain_page)

  added_page : (q r : ℕ) → page_at new q r ≡ page_at cur q r
  added_page q r = ap (λ (c : Contents). page_at c q r) added ∙ added_at cur.spaces space dead q r

  added_members : (k : ℕ) → members new k ≡ members cur k
  added_members k = ap (λ (c : Contents). members c k) added ∙ added_total cur.spaces space dead (share_of k)

  plain_dead : is_alive (plain_of cur) space ≡ false
  plain_dead = plain_alive cur space ∙ dead

  pub added_weight : (w : plain.Page → ℕ) → total_within w (plain_of new) ≡ total_within w (plain_of cur)
  added_weight w = ap (total_within w) added_seen ∙ added_total (plain_of cur) space plain_dead w

  added_classes : classes new ≡ classes cur
  added_classes = ap classes added ∙ (λ i. filter (λ k. nat_lt 0 (added_total cur.spaces space dead (share_of k) i)) (range_with_len 0 cur.pool))

  pub added_begun : IsBegunMemory cur → IsBegunMemory new
  added_begun begun = record {
    begins = λ q r x h. begun.begins q r x (sym (added_page q r) ∙ h);
    zeros = λ q r x h z. begun.zeros q r x (sym (added_page q r) ∙ h) z;
    alone = λ q r x h z. (let a = alone_in cur x (begun.alone q r x (sym (added_page q r) ∙ h) z) in is_alone_in new x a.0 a.1 (added_members a.0 ∙ a.2));
    used = ap length added_classes ∙ begun.used ∙ sym (added_weight frames_for);
  }

  pub added_alive : is_alive new.spaces space ≡ true
  added_alive = ap (λ (c : Contents). is_alive c.spaces space) added ∙ alive-insert cur.spaces space finmap.empty space ∙ ap (λ b. b || is_alive cur.spaces space) (eq-eqb space space refl)

  pub added_bare : inside new.spaces space ≡ finmap.empty
  added_bare = ap (λ (c : Contents). inside c.spaces space) added ∙ inside-insert cur.spaces space finmap.empty space ∙ cond-true _ _ _ (eq-eqb space space refl)

-- the spaces before the rest are loaded
pub record IsLoading (frames : ℕ) (saved : PlainMemory) (cur : Contents) (rest : List (ℕ × Pages)) : Type 0 where
  pub pool : cur.pool ≡ frames
  pub begun : IsBegunMemory cur
  pub fills : filled space_in (plain_of cur) rest ≡ saved
  pub apart : IsApart (plain_of cur) rest
  pub rises : Rises rest

nothing_begun : (m : Contents) → m.spaces ≡ finmap.empty → IsBegunMemory m
unfolding plain_of
nothing_begun m bare = record {
  begins = λ q r x h. absurd (hole q r x h);
  zeros = λ q r x h z. absurd (hole q r x h);
  alone = λ q r x h z. absurd (hole q r x h);
  used =
      let a : length (classes m) ≡ 0 = none_kept (λ k. nat_lt 0 (members m k)) 0 m.pool (λ k. le-ltb 0 _ (let e = ap (total_within (share_of k)) bare ∙ total_within-empty (share_of k) in omega (arith, e))) in
      let b : nonzero_pages (plain_of m) ≡ 0 = ap (λ (t : Nested PageState). nonzero_pages (map_values (map_values plain_page) t)) bare ∙ ap nonzero_pages (map_values-empty (map_values plain_page)) ∙ total_within-empty frames_for in
      omega (arith, a, b);
}
  where
    hole : (q r : ℕ) (x : PageState) → page_at m q r ≡ Some x → ⊥
    hole q r x h = (let f : ◌≡◌ {A = Option PageState} None (Some x) = sym (ap (λ (t : Nested PageState). value_at t q r) bare ∙ nowhere q r) ∙ h in cc)
      where
        nowhere : (q r : ℕ) → value_at {X = PageState} finmap.empty q r ≡ None
        nowhere q r = ap (λ (o : Option (Table PageState)). finmap.get (unwrap_or o finmap.empty) r) (get-empty nat_cmp q) ∙ get-empty nat_cmp r

    none_kept : (p : ℕ → Bool) (a n : ℕ) → ((k : ℕ) → p k ≡ false) → length (filter p (range_with_len a n)) ≡ 0
    none_kept p a zero h = refl
    none_kept p a (suc n) h = ap (λ b. length (cond b (a ∷ filter p (range_with_len (a + 1) n)) (filter p (range_with_len (a + 1) n)))) (h a) ∙ none_kept p (a + 1) n h

pub loading_none : (m : Contents) (snapshot : Snapshot) (rest : List (ℕ × Pages)) → rest ≡ snapshot.spaces.entries → Rises snapshot.spaces.entries → m.spaces ≡ finmap.empty → IsLoading m.pool (memory_of snapshot) m rest
unfolding plain_of
loading_none m snapshot rest e rises bare =
    let none : plain_of m ≡ finmap.empty = ap (map_values (map_values plain_page)) bare ∙ map_values-empty (map_values plain_page) in
    subst (λ (r : List (ℕ × Pages)). IsLoading m.pool (memory_of snapshot) m r) (sym e) (record {
      pool = refl;
      begun = nothing_begun m bare;
      fills = ap (λ (t : PlainMemory). filled space_in t snapshot.spaces.entries) none ∙ memory_filled snapshot rises;
      apart = subst (λ (t : PlainMemory). IsApart t snapshot.spaces.entries) (sym none) (apart_empty snapshot.spaces.entries);
      rises = rises;
    })

-- what is refused to none of the entries
allowed : (over : ℕ × plain.Space → Bool) (es : List (ℕ × plain.Space)) (space : ℕ) (t : plain.Space) → list_any over es ≡ false → find nat_cmp space es ≡ Some t → over (space, t) ≡ false
allowed over [] space t h f = absurd (let g : ◌≡◌ {A = Option plain.Space} None (Some t) = f in cc)
allowed over (e ∷ es) space t h f = elim (cases_Bool (eq_by_cmp nat_cmp space e.0)) [
  | inl here ↦ (let g : ◌≡◌ {A = Option plain.Space} (Some e.1) (Some t) = sym (ap (λ b. cond b (Some e.1) (find nat_cmp space es)) here) ∙ f in
      let same : e.1 ≡ t = cc in
      ap over (λ i. (tied space e.0 here i, sym same i)) ∙ none_left _ _ h)
  | inr there ↦ allowed over es space t (none_right _ _ h) (sym (ap (λ b. cond b (Some e.1) (find nat_cmp space es)) there) ∙ f)
]

due_parts : (pool : ℕ) (memory : PlainMemory) → snapshot_refusal pool memory ≡ None → (nat_lt pool (nonzero_pages memory) ≡ false) × (is_over_limits memory ≡ false)
due_parts pool memory h = by_tests (nat_lt pool (nonzero_pages memory)) (is_over_limits memory) h
  where
    by_tests : (a b : Bool) → ◌≡◌ {A = Option AccessError} (cond a (Some (Refused NoFrame)) (cond b (Some (Refused Enomem)) None)) None → (a ≡ false) × (b ≡ false)
    by_tests true b e = absurd (let f : ◌≡◌ {A = Option AccessError} (Some (Refused NoFrame)) None = e in cc)
    by_tests false true e = absurd (let f : ◌≡◌ {A = Option AccessError} (Some (Refused Enomem)) None = e in cc)
    by_tests false false e = (refl, refl)

module _ (pool : ℕ) (saved : PlainMemory) (cur : Contents) (rest later : List (ℕ × Pages)) (space : ℕ) (pages : Pages) (h : IsLoading pool saved cur rest) (e : rest ≡ (space, pages) ∷ later) (due : snapshot_refusal pool saved ≡ None) where
  next_apart : IsApart (plain_of cur) ((space, pages) ∷ later)
  next_apart = subst (λ (es : List (ℕ × Pages)). IsApart (plain_of cur) es) e h.apart

  next_rises : Rises ((space, pages) ∷ later)
  next_rises = subst (λ (es : List (ℕ × Pages)). Rises es) e h.rises

  next_fills : filled space_in (plain_of cur) ((space, pages) ∷ later) ≡ saved
  next_fills = ap (filled space_in (plain_of cur)) (sym e) ∙ h.fills

  pub loading_fresh : is_alive cur.spaces space ≡ false
  loading_fresh = sym (plain_alive cur space) ∙ ap is_some (apart_head (plain_of cur) (space, pages) later next_apart)

  found : finmap.get saved space ≡ Some (space_in pages)
  found = ap (λ (m : PlainMemory). finmap.get m space) (sym next_fills) ∙ get-filled space_in (plain_of cur) ((space, pages) ∷ later) next_rises space
      ∙ ap (λ b. option_or (option_map space_in (cond b (Some pages) (find nat_cmp space later))) (finmap.get (plain_of cur) space)) (same_test space space ∙ eq-eqb space space refl)

  within_limits : is_over_in_space (space, space_in pages) ≡ false
  within_limits = allowed is_over_in_space (finmap.entries saved) space (space_in pages) (none_left _ _ (due_parts pool saved due).1) (sym (get-entries saved space) ∙ found)

  pub loading_least : 1 ≤ space
  loading_least = (let n : space ≡ 0 → ⊥ = λ z. both_ways _ (none_left _ _ (none_left _ _ within_limits)) (eq-eqb space 0 z) in omega (arith, n))

  pub loading_greatest : space ≤ 16
  loading_greatest = ltb-false 16 space (none_right _ _ (none_left _ _ within_limits))

  share : (w : plain.Page → ℕ) → total_within w (plain_of cur) + total w (space_in pages) ≤ total_within w saved
  unfolding total_within
  share w =
      let a = head_within space_in (total w) (plain_of cur) (space, pages) later next_rises next_apart in
      let b : total (total w) (filled space_in (plain_of cur) ((space, pages) ∷ later)) ≡ total (total w) saved = ap (total (total w)) next_fills in
      omega (arith, a, b)

  module _ (bare : Contents) (added : bare ≡ record { pool = cur.pool; spaces = finmap.insert cur.spaces space finmap.empty }) where
    pub loading_few : page_count bare.spaces + finmap.len (space_in pages) ≤ 65536
    loading_few =
        let a = share (λ _. 1) in
        let b = len_total (space_in pages) in
        let c = plain_many bare in
        let d = added_weight cur bare space loading_fresh added (λ _. 1) in
        let l : page_count saved ≤ 65536 = ltb-false 65536 (page_count saved) (none_right _ _ (due_parts pool saved due).1) in
        omega (arith, a, b, c, d, l)

    pub loading_room : nonzero_pages (plain_of bare) + total frames_for (space_in pages) ≤ bare.pool
    loading_room =
        let a = share frames_for in
        let d = added_weight cur bare space loading_fresh added frames_for in
        let p : bare.pool ≡ pool = ap (λ (c : Contents). c.pool) added ∙ h.pool in
        let l : nonzero_pages saved ≤ pool = ltb-false pool (nonzero_pages saved) (due_parts pool saved due).0 in
        omega (arith, a, d, p, l)

    pub loading_next : (new : Contents) → IsBegunMemory new → new.pool ≡ bare.pool → plain_of new ≡ finmap.insert (plain_of bare) space (space_in pages) → IsLoading pool saved new later
    loading_next new begun same seen =
        let table : plain_of new ≡ finmap.insert (plain_of cur) space (space_in pages) = seen ∙ ap (λ (m : PlainMemory). finmap.insert m space (space_in pages)) (added_seen cur bare space loading_fresh added) ∙ inserted_twice (plain_of cur) space finmap.empty (space_in pages) in
        record {
          pool = same ∙ ap (λ (c : Contents). c.pool) added ∙ h.pool;
          begun = begun;
          fills = ap (λ (t : PlainMemory). filled space_in t later) table ∙ next_fills;
          apart = subst (λ (t : PlainMemory). IsApart t later) (sym table) (apart_next space_in (plain_of cur) (space, pages) later next_rises next_apart);
          rises = rest_rises (space, pages) later next_rises;
        }

pub loading_all : (pool : ℕ) (saved : PlainMemory) (cur : Contents) (rest : List (ℕ × Pages)) → IsLoading pool saved cur rest → rest ≡ [] → IsLoaded pool saved cur
loading_all pool saved cur rest h e = grind arith

-- ---- the areas of the spaces
abbrev pub areas_seen : Pages → PageMap
areas_seen pages = prots_in (space_in pages)

-- the areas of the spaces before the rest, none of them over the limits
pub record IsGathered (all rest : List (ℕ × Pages)) (areas : BTreeMap ℕ PageMap) : Type 0 where
  pub fills : filled areas_seen (finmap.from_entries {R = nat_cmp} areas.entries) rest ≡ finmap.from_entries (map (λ (e : ℕ × Pages). (e.0, areas_seen e.1)) all)
  pub within : list_any is_over_in_space (map seen_space rest) ≡ list_any is_over_in_space (map seen_space all)

pub gathered_none : (all rest : List (ℕ × Pages)) (areas : BTreeMap ℕ PageMap) → rest ≡ all → Rises all → areas.entries ≡ [] → IsGathered all rest areas
gathered_none all rest areas e rises none = grind (arith, filled, filled_all)

pub gathered_next : (all rest later : List (ℕ × Pages)) (areas new : BTreeMap ℕ PageMap) (space : ℕ) (pages : Pages) (own : PageMap) → IsGathered all rest areas → rest ≡ (space, pages) ∷ later → own ≡ areas_seen pages → is_over_in_space (space, space_in pages) ≡ false
    → ((q : ℕ) → get nat_cmp new q ≡ cond (nat_eq q space) (Some own) (get nat_cmp areas q)) → IsGathered all later new
gathered_next all rest later areas new space pages own h e is below put = grind (arith, filled, same_table, get_tree, get_put, seen_space)

pub gathered_over : (snapshot : Snapshot) (rest later : List (ℕ × Pages)) (areas : BTreeMap ℕ PageMap) (space : ℕ) (pages : Pages) → IsGathered snapshot.spaces.entries rest areas → Rises snapshot.spaces.entries → rest ≡ (space, pages) ∷ later
    → is_over_in_space (space, space_in pages) ≡ true → list_any is_over_in_space (finmap.entries (memory_of snapshot)) ≡ true
gathered_over snapshot rest later areas space pages h rises e past = ap (list_any is_over_in_space) (memory_entries snapshot rises) ∙ sym h.within
    ∙ ap (λ (es : List (ℕ × Pages)). list_any is_over_in_space (map seen_space es)) e ∙ ap (λ b. b || list_any is_over_in_space (map seen_space later)) past

pub gathered_within : (snapshot : Snapshot) (rest : List (ℕ × Pages)) (areas : BTreeMap ℕ PageMap) → IsGathered snapshot.spaces.entries rest areas → Rises snapshot.spaces.entries → rest ≡ [] → list_any is_over_in_space (finmap.entries (memory_of snapshot)) ≡ false
gathered_within snapshot rest areas h rises e = ap (list_any is_over_in_space) (memory_entries snapshot rises) ∙ sym h.within ∙ ap (λ (es : List (ℕ × Pages)). list_any is_over_in_space (map seen_space es)) e

pub gathered_all : (snapshot : Snapshot) (rest : List (ℕ × Pages)) (areas : BTreeMap ℕ PageMap) → IsGathered snapshot.spaces.entries rest areas → rest ≡ [] → (space : ℕ) → get nat_cmp areas space ≡ option_map prots_in (finmap.get (memory_of snapshot) space)
unfolding memory_of
gathered_all snapshot rest areas h e space = sym (get_tree areas.entries space) ∙ ap (λ (t : Table PageMap). finmap.get t space) (ap (filled areas_seen (finmap.from_entries {R = nat_cmp} areas.entries)) (sym e) ∙ h.fills)
    ∙ get-from_entries nat_cmp_total _ space ∙ find_seen areas_seen snapshot.spaces.entries space ∙ twice (find nat_cmp space snapshot.spaces.entries)
    ∙ ap (option_map prots_in) (sym (get-from_entries nat_cmp_total _ space ∙ find_seen space_in snapshot.spaces.entries space))
  where
    twice : (o : Option Pages) → option_map areas_seen o ≡ option_map prots_in (option_map space_in o)
    twice None = refl
    twice (Some p) = refl

-- the areas of a snapshot's spaces are those of the memory that it begins
pub loaded_areas : (areas : BTreeMap ℕ PageMap) (saved : PlainMemory) (m : Contents) → ((space : ℕ) → get nat_cmp areas space ≡ option_map prots_in (finmap.get saved space)) → plain_of m ≡ saved → HasAreas areas m
unfolding plain_of
loaded_areas areas saved m h seen space = h space ∙ ap (λ (t : PlainMemory). option_map prots_in (finmap.get t space)) (sym seen) ∙ ap (option_map prots_in) (get-map_values (map_values plain_page) m.spaces space) ∙ twice (finmap.get m.spaces space)
  where
    twice : (o : Option (Table PageState)) → option_map prots_in (option_map (map_values plain_page) o) ≡ option_map prots_of o
    twice None = refl
    twice (Some t) = ap Some (composed plain_page (λ (page : plain.Page). page.prot) (λ (page : PageState). page.prot) (λ _. refl) t)
