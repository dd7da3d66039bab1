-- Snapshots as plain memory, space by space and page by page.
use Rattle.std.proofs.Common.{◌≡◌, ◌⊎◌, ℕ, ◌+◌, ◌-◌, ◌<◌, ◌≤◌, Bool, true, false, cond, nat_eq, nat_lt, is_some, List, [], ◌∷◌, map, length, Option, Some, None, unwrap_or, refl, sym, ◌∙◌, ap, subst, inl, inr, arith, T}
use Rattle.std.specs.Prelude.{Result, Ok, Err}
use Rattle.std.proofs.lemmas.Bool.{cond-true, eq-eqb, ne_eqb, lt-ltb, le-ltb}
use Rattle.std.specs.Option.{option_map}
use Rattle.std.specs.Ordering.{nat_cmp}
use Rattle.std.specs.Cmp.{nat_cmp_total}
use Rattle.std.specs.BTreeMap.{BTreeMap}
use Rattle.std.specs.FinMap as finmap
use Rattle.std.specs.FinMap.{find, is_sorted, get-from_entries, get-from_sorted, entries-from_sorted}
use Rattle.sd_tables.proofs.TableLemmas.{same_again}
use Rattle.sd_pagetable.proofs.RunKept.{absorbed}
use Rattle.sd_areas.specs.declared.errno.AreaError.{AreaError}
use Rattle.sd_areas.specs.declared.errno.AreaError.TheVariants.{Refused as AreaRefused, OutOfMemory as AreaOutOfMemory}
use Rattle.sd_areas.specs.declared.errno.Errno.TheVariants.{Einval as AreaEinval, Enomem as AreaEnomem}
use Rattle.sd_areas.specs.declared.snapshot.Snapshot.{Snapshot}
use Rattle.sd_areas.specs.declared.snapshot_page.SnapshotPage.{SnapshotPage}
use Rattle.sd_areas.specs.Areas.{PageMap, areas_of}
use Rattle.sd_areas.specs.Calls as area_calls
use Rattle.sd_areas.specs.Calls.{within_areas}
use Rattle.sd_areas.specs.Memory.{page_of_snapshot, space_of, memory_of}
use Rattle.sd_areas.specs.Memory as areas_memory
use Rattle.sd_areas.specs.PlainMemory as plain
use Rattle.sd_areas.specs.PlainMemory.{PlainMemory}
use Rattle.sd_pagetable.specs.declared.access_error.AccessError.TheVariants.{Refused}
use Rattle.sd_pagetable.specs.declared.memory_refusal.MemoryRefusal.TheVariants.{Enomem}
use Rattle.sd_pagetable.specs.declared.memory_error.MemoryError.TheVariants.{Denied as DeniedError, OutOfMemory}
use Rattle.sd_pagetable.specs.Nested.{Table, Nested, map_values, inside, value_at, is_alive, put_at, total, total_within}
use Rattle.sd_pagetable.specs.Page.{PageState, plain_page}
use Rattle.sd_pagetable.specs.Contents.{Contents, page_at, plain_of, is_full, page_count}
use Rattle.sd_pagetable.specs.AreaErrors.{error_of}
use Rattle.sd_pagetable.specs.RefusalOrder.{prots_in}
use Rattle.sd_pagetable.specs.Loaded.{is_zero_page, frames_for, nonzero_pages, loaded_page, Loads, IsBegunMemory}
use Rattle.sd_pagetable.proofs.NestedLemmas.{inside-insert, alive-put_same}
use Rattle.sd_pagetable.proofs.TableLemmas.{same_table, get_put, get-map_values, map_values-empty, keys_sorted, sorted_changed}
use Rattle.sd_pagetable.proofs.TotalLemmas.{total-empty, total_within-insert}
use Rattle.sd_pagetable.proofs.MemoryLemmas.{plain_put, plain_at, plain_alive}
use Rattle.sd_pagetable.proofs.PlainRanges.{plain_many, plain_inside}
use Rattle.sd_pagetable.proofs.ForkCalls.{len_total}
use Rattle.sd_pagetable.proofs.FilledLemmas.{Rises, IsApart, rest_rises, apart_empty, apart_head, apart_next, filled, filled_all, find_seen, weigh, total_seen, head_within}
use Rattle.sd_pagetable.proofs.LoadedLemmas.{begun_next}

abbrev pub Pages : Type 0
Pages = BTreeMap ℕ SnapshotPage

abbrev pub space_in : Pages → plain.Space
space_in pages = space_of pages.entries

abbrev pub seen_space : ℕ × Pages → ℕ × plain.Space
seen_space e = (e.0, space_in e.1)

-- ---- the entries of a table that is made of entries whose keys rise
module _ {X Y : Type 0} (f : X → Y) where
  pub entries_seen : (es : List (ℕ × X)) → Rises es → finmap.entries (finmap.from_entries {R = nat_cmp} (map (λ (e : ℕ × X). (e.0, f e.1)) es)) ≡ map (λ (e : ℕ × X). (e.0, f e.1)) es
  entries_seen es h =
      let fs = map (λ (e : ℕ × X). (e.0, f e.1)) es in
      let sorted : T (is_sorted nat_cmp fs) = subst T (sym (sorted_changed (λ _ x. f x) es ∙ keys_sorted es h)) tt in
      ap finmap.entries (same_table (finmap.from_entries fs) (finmap.from_sorted fs) (λ q. get-from_entries nat_cmp_total fs q ∙ sym (get-from_sorted nat_cmp fs q sorted)))
      ∙ entries-from_sorted nat_cmp fs sorted

pub memory_entries : (snapshot : Snapshot) → Rises snapshot.spaces.entries → finmap.entries (memory_of snapshot) ≡ map seen_space snapshot.spaces.entries
unfolding memory_of
memory_entries snapshot h = entries_seen space_in snapshot.spaces.entries h

pub memory_filled : (snapshot : Snapshot) → Rises snapshot.spaces.entries → filled space_in finmap.empty snapshot.spaces.entries ≡ memory_of snapshot
unfolding memory_of
memory_filled snapshot h = filled_all space_in snapshot.spaces.entries h

pub space_filled : (es : List (ℕ × SnapshotPage)) → Rises es → filled page_of_snapshot finmap.empty es ≡ space_of es
unfolding space_of
space_filled es h = filled_all page_of_snapshot es h

-- ---- totals
pub space_weight : (w : plain.Page → ℕ) (es : List (ℕ × SnapshotPage)) → Rises es → total w (space_of es) ≡ weigh page_of_snapshot w es
unfolding space_of
space_weight w es h = total_seen page_of_snapshot w es h

pub memory_weight : (w : plain.Page → ℕ) (snapshot : Snapshot) → Rises snapshot.spaces.entries → total_within w (memory_of snapshot) ≡ weigh space_in (total w) snapshot.spaces.entries
unfolding memory_of total_within
memory_weight w snapshot h = total_seen space_in (total w) snapshot.spaces.entries h

each_one : (b : Bool) → cond {A = ℕ} b 0 1 ≤ 1
each_one b = grind arith

pub few_frames : (es : List (ℕ × SnapshotPage)) → weigh page_of_snapshot frames_for es ≤ length es
few_frames [] = omega arith
few_frames (e ∷ es) = omega (arith, few_frames es, each_one (is_zero_page e.1.bytes.value))

pub weigh_ones : (es : List (ℕ × SnapshotPage)) → weigh page_of_snapshot (λ _. 1) es ≡ length es
weigh_ones [] = refl
weigh_ones (e ∷ es) = (let a = weigh_ones es in omega (arith, a))

-- ---- areas
pub same_prots : (es : List (ℕ × SnapshotPage)) → areas_memory.snapshot_prots es ≡ prots_in (space_of es)
unfolding areas_memory.snapshot_prots space_of
same_prots es = same_table _ _ (λ q. get-from_entries nat_cmp_total _ q ∙ find_seen (λ (x : SnapshotPage). x.prot) es q
    ∙ twice (find nat_cmp q es) ∙ ap (option_map (λ (page : plain.Page). page.prot)) (sym (get-from_entries nat_cmp_total _ q ∙ find_seen page_of_snapshot es q))
    ∙ sym (get-map_values (λ (page : plain.Page). page.prot) (finmap.from_entries (map (λ (e : ℕ × SnapshotPage). (e.0, page_of_snapshot e.1)) es)) q))
  where
    twice : (o : Option SnapshotPage) → option_map (λ (x : SnapshotPage). x.prot) o ≡ option_map (λ (page : plain.Page). page.prot) (option_map page_of_snapshot o)
    twice None = refl
    twice (Some x) = refl

pub within_ok : (pages map : PageMap) → within_areas pages ≡ Ok map → (map ≡ pages) × (nat_lt 1024 (length (areas_of pages)) ≡ false)
unfolding within_areas
within_ok pages map h = by_test (nat_lt 1024 (length (areas_of pages))) refl h
  where
    by_test : (b : Bool) → nat_lt 1024 (length (areas_of pages)) ≡ b → ◌≡◌ {A = Result PageMap _} (cond b (Err AreaEnomem) (Ok pages)) (Ok map) → (map ≡ pages) × (nat_lt 1024 (length (areas_of pages)) ≡ false)
    by_test true e g = absurd (let f : ◌≡◌ {A = Result PageMap _} (Err AreaEnomem) (Ok map) = g in cc)
    by_test false e g = (let f : pages ≡ map = cc in sym f, e)

pub within_err : (pages : PageMap) (e : AreaError) → area_calls.RefusesInOrder (within_areas pages) e → (error_of e ≡ OutOfMemory) ⊎ ((error_of e ≡ DeniedError (Refused Enomem)) × (nat_lt 1024 (length (areas_of pages)) ≡ true))
unfolding within_areas
within_err pages AreaOutOfMemory h = inl refl
within_err pages (AreaRefused AreaEnomem) h = by_test (nat_lt 1024 (length (areas_of pages))) refl h
  where
    by_test : (b : Bool) → nat_lt 1024 (length (areas_of pages)) ≡ b → ◌≡◌ {A = Result PageMap _} (cond b (Err AreaEnomem) (Ok pages)) (Err AreaEnomem) → (error_of (AreaRefused AreaEnomem) ≡ OutOfMemory) ⊎ ((error_of (AreaRefused AreaEnomem) ≡ DeniedError (Refused Enomem)) × (nat_lt 1024 (length (areas_of pages)) ≡ true))
    by_test true e g = inr (refl, e)
    by_test false e g = absurd (let f : ◌≡◌ {A = Result PageMap _} (Ok pages) (Err AreaEnomem) = g in cc)
within_err pages (AreaRefused AreaEinval) h = absurd (by_test (nat_lt 1024 (length (areas_of pages))) h)
  where
    by_test : (b : Bool) → ◌≡◌ {A = Result PageMap _} (cond b (Err AreaEnomem) (Ok pages)) (Err AreaEinval) → ⊥
    by_test true g = cc
    by_test false g = cc

-- ---- a space that is being loaded
put_in : {X : Type 0} (m : Nested X) (s p : ℕ) (x : X) → inside (put_at m s p x) s ≡ finmap.insert (inside m s) p x
unfolding put_at
put_in m s p x = inside-insert m s (finmap.insert (inside m s) p x) s ∙ cond-true _ _ _ (eq-eqb s s refl)

pub inserted_twice : {X : Type 0} (m : Table X) (s : ℕ) (t u : X) → finmap.insert (finmap.insert m s t) s u ≡ finmap.insert m s u
inserted_twice m s t u = same_table _ _ (λ q. get_put (finmap.insert m s t) s u q ∙ ap (cond (nat_eq q s) (Some u)) (get_put m s t q) ∙ absorbed (nat_eq q s) (Some u) (Some t) (finmap.get m q) ∙ sym (get_put m s u q))

put_inside : {X : Type 0} (m n : Nested X) (s p : ℕ) (x : X) → m ≡ finmap.insert n s (inside m s) → put_at m s p x ≡ finmap.insert n s (finmap.insert (inside m s) p x)
unfolding put_at
put_inside m n s p x e = ap (λ (k : Nested _). finmap.insert k s (finmap.insert (inside m s) p x)) e ∙ inserted_twice n s (inside m s) (finmap.insert (inside m s) p x)

no_page : (m : Contents) (s p : ℕ) → value_at (plain_of m) s p ≡ None → page_at m s p ≡ None
no_page m s p h = none_of (page_at m s p) (sym (plain_at m s p) ∙ h)
  where
    none_of : (o : Option PageState) → option_map plain_page o ≡ None → o ≡ None
    none_of None e = refl
    none_of (Some x) e = absurd (let f : ◌≡◌ {A = Option plain.Page} (Some (plain_page x)) None = e in cc)

-- the pages of a space before the rest are loaded
pub record IsFilling (old cur : Contents) (space : ℕ) (all rest : List (ℕ × SnapshotPage)) : Type 0 where
  pub alive : is_alive cur.spaces space ≡ true
  pub pool : cur.pool ≡ old.pool
  pub begun : IsBegunMemory cur
  pub others : plain_of cur ≡ finmap.insert (plain_of old) space (inside (plain_of cur) space)
  pub fills : filled page_of_snapshot (inside (plain_of cur) space) rest ≡ space_of all
  pub apart : IsApart (inside (plain_of cur) space) rest
  pub rises : Rises rest

pub filling_none : (old : Contents) (space : ℕ) (es : List (ℕ × SnapshotPage)) (rest : List (ℕ × SnapshotPage)) → rest ≡ es → Rises es → IsBegunMemory old → is_alive old.spaces space ≡ true → inside old.spaces space ≡ finmap.empty → IsFilling old old space es rest
filling_none old space es rest e rises begun alive bare =
    let none : inside (plain_of old) space ≡ finmap.empty = plain_inside old space ∙ ap (map_values plain_page) bare ∙ map_values-empty plain_page in
    subst (λ (r : List (ℕ × SnapshotPage)). IsFilling old old space es r) (sym e) (record {
      alive = alive;
      pool = refl;
      begun = begun;
      others = sym (same_again (plain_of old) space (inside (plain_of old) space) (got (finmap.get (plain_of old) space) (plain_alive old space ∙ alive)));
      fills = ap (λ (t : plain.Space). filled page_of_snapshot t es) none ∙ space_filled es rises;
      apart = subst (λ (t : plain.Space). IsApart t es) (sym none) (apart_empty es);
      rises = rises;
    })
  where
    got : (o : Option plain.Space) → is_some o ≡ true → o ≡ Some (unwrap_or o finmap.empty)
    got None h = absurd (let f : false ≡ true = h in cc)
    got (Some t) h = refl

module _ (old cur : Contents) (space : ℕ) (all rest left : List (ℕ × SnapshotPage)) (page : ℕ) (found : SnapshotPage) (h : IsFilling old cur space all rest) (e : rest ≡ (page, found) ∷ left) where
  here_apart : IsApart (inside (plain_of cur) space) ((page, found) ∷ left)
  here_apart = subst (λ (es : List (ℕ × SnapshotPage)). IsApart (inside (plain_of cur) space) es) e h.apart

  here_rises : Rises ((page, found) ∷ left)
  here_rises = subst (λ (es : List (ℕ × SnapshotPage)). Rises es) e h.rises

  pub filling_hole : page_at cur space page ≡ None
  filling_hole = no_page cur space page (apart_head (inside (plain_of cur) space) (page, found) left here_apart)

  -- a page's part of what its space weighs
  part : (w : plain.Page → ℕ) → total w (inside (plain_of cur) space) + w (page_of_snapshot found) ≤ total w (space_of all)
  part w =
      let a = head_within page_of_snapshot w (inside (plain_of cur) space) (page, found) left here_rises here_apart in
      let b : total w (filled page_of_snapshot (inside (plain_of cur) space) ((page, found) ∷ left)) ≡ total w (space_of all) = ap (λ (es : List (ℕ × SnapshotPage)). total w (filled page_of_snapshot (inside (plain_of cur) space) es)) (sym e) ∙ ap (total w) h.fills in
      omega (arith, a, b)

  whole : (w : plain.Page → ℕ) → inside (plain_of old) space ≡ finmap.empty → total_within w (plain_of cur) ≡ total_within w (plain_of old) + total w (inside (plain_of cur) space)
  whole w bare = grind (arith, total_within-insert, total-empty)

  within : (w : plain.Page → ℕ) (n : ℕ) → inside (plain_of old) space ≡ finmap.empty → total_within w (plain_of old) + total w (space_of all) ≤ n → total_within w (plain_of cur) + w (page_of_snapshot found) ≤ n
  within w n bare l = (let a = part w in let b = whole w bare in omega (arith, a, b, l))

  pub filling_few : inside (plain_of old) space ≡ finmap.empty → page_count old.spaces + finmap.len (space_of all) ≤ 65536 → page_count cur.spaces < 65536
  filling_few bare l =
      let a = plain_many old in
      let b = plain_many cur in
      let c = len_total (space_of all) in
      let d = within (λ _. 1) 65536 bare (omega (arith, a, c, l)) in
      omega (arith, b, d)

  pub filling_room : inside (plain_of old) space ≡ finmap.empty → nonzero_pages (plain_of old) + total frames_for (space_of all) ≤ old.pool → is_zero_page found.bytes.value ≡ false → is_full cur ≡ false
  filling_room bare l some =
      let a = within frames_for old.pool bare l in
      let b : frames_for (page_of_snapshot found) ≡ 1 = ap (λ b. cond {A = ℕ} b 0 1) some in
      let c = h.begun.used in
      let d = h.pool in
      ne_eqb _ _ (λ i. absurd (omega (arith, a, b, c, d, i)))

  pub filling_next : (new : Contents) → Loads cur space page (page_of_snapshot found) new → IsFilling old new space all left
  filling_next new loads =
      let p : plain.Page = page_of_snapshot found in
      let seen : plain_of new ≡ put_at (plain_of cur) space page p = ap plain_of loads.2 ∙ plain_put cur space page (loaded_page p loads.0) in
      let table : inside (plain_of new) space ≡ finmap.insert (inside (plain_of cur) space) page p = ap (λ (m : PlainMemory). inside m space) seen ∙ put_in (plain_of cur) space page p in
      record {
        alive = ap (λ (c : Contents). is_alive c.spaces space) loads.2 ∙ alive-put_same cur.spaces space page (loaded_page p loads.0) space h.alive ∙ h.alive;
        pool = ap (λ (c : Contents). c.pool) loads.2 ∙ h.pool;
        begun = begun_next cur space page p h.begun filling_hole new loads;
        others = seen ∙ put_inside (plain_of cur) (plain_of old) space page p h.others ∙ ap (finmap.insert (plain_of old) space) (sym table);
        fills = ap (λ (t : plain.Space). filled page_of_snapshot t left) table ∙ ap (filled page_of_snapshot (inside (plain_of cur) space)) (sym e) ∙ h.fills;
        apart = subst (λ (t : plain.Space). IsApart t left) (sym table) (apart_next page_of_snapshot (inside (plain_of cur) space) (page, found) left here_rises here_apart);
        rises = rest_rises (page, found) left here_rises;
      }

pub filling_all : (old cur : Contents) (space : ℕ) (all rest : List (ℕ × SnapshotPage)) → IsFilling old cur space all rest → rest ≡ [] → plain_of cur ≡ finmap.insert (plain_of old) space (space_of all)
filling_all old cur space all rest h e = h.others ∙ ap (finmap.insert (plain_of old) space) (ap (filled page_of_snapshot (inside (plain_of cur) space)) (sym e) ∙ h.fills)

-- ---- how many pages are left for the spaces that come
pub ones : (es : List (ℕ × SnapshotPage)) → Rises es → length es ≡ total (λ _. 1) (space_of es)
ones es h = sym (space_weight (λ _. 1) es h ∙ weigh_ones es)

module _ (w : plain.Page → ℕ) (snapshot : Snapshot) (left limit : ℕ) (rest : List (ℕ × Pages)) (tally : left + weigh space_in (total w) snapshot.spaces.entries ≡ limit + weigh space_in (total w) rest) where
  pub tally_past : (later : List (ℕ × Pages)) (e : ℕ × Pages) (n : ℕ) → Rises snapshot.spaces.entries → rest ≡ e ∷ later → n ≡ total w (space_in e.1) → left < n → true ≡ nat_lt limit (total_within w (memory_of snapshot))
  tally_past later e n rises is weight past = grind (arith, weigh, memory_weight, lt-ltb)

  pub tally_next : (later : List (ℕ × Pages)) (e : ℕ × Pages) (n : ℕ) → rest ≡ e ∷ later → n ≡ total w (space_in e.1) → n ≤ left → left - n + weigh space_in (total w) snapshot.spaces.entries ≡ limit + weigh space_in (total w) later
  tally_next later e n is weight fits = (let a = ap (weigh space_in (total w)) is in omega (arith, tally, a, weight, fits))

  pub tally_all : Rises snapshot.spaces.entries → rest ≡ [] → false ≡ nat_lt limit (total_within w (memory_of snapshot))
  tally_all rises is = grind (arith, weigh, memory_weight, le-ltb)
