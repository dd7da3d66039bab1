-- A run of pages that changed, over the frames: what is kept, and the contents afterwards.
use Rattle.std.proofs.Common.{◌≡◌, ℕ, zero, suc, ◌+◌, ◌-◌, ◌<◌, ◌≤◌, Bool, true, false, cond, not, nat_eq, ◌||◌, is_some, IsSome, Option, Some, None, refl, sym, ◌∙◌, ap, subst, inl, inr, arith, ◌^◌}
use Rattle.std.proofs.lemmas.Bool.{cases_lt}
use Rattle.std.proofs.lemmas.Bool.Decides.{nat_tests}
use Rattle.std.specs.Option.{option_map, option_or}
use Rattle.std.specs.FinMap as finmap
use Rattle.sd_tables.proofs.TableLemmas.{same_again}
use Rattle.sd_pagetable.proofs.MemoryLemmas.{same_key}
use Rattle.sd_areas.specs.Pages.{is_within}
use Rattle.sd_tables.specs.declared.entry.Entry.{Entry}
use Rattle.sd_tables.specs.declared.run_change.RunChange.{RunChange}
use Rattle.sd_tables.specs.declared.run_change.RunChange.TheVariants.{Renew, Protect}
use Rattle.sd_pagetable.specs.Nested.{Table, Nested, map_values, inside, value_at, is_alive, put_at, change_within, fill_within}
use Rattle.sd_pagetable.specs.Page.{PageState, changed_page}
use Rattle.sd_pagetable.specs.Contents.{Contents, page_at}
use Rattle.sd_frames.specs.Frames.{Pool}
use Rattle.sd_pagetable.specs.Owning.{ReleasesFrame}
use Rattle.sd_tables.specs.Runs.{takes, changed_entry, ChangesRun, FillsRun}
use Rattle.sd_pagetable.specs.Tracking.{with_space}
use Rattle.sd_pagetable.specs.View.{page_of_entry, contents_of, IsKept}
use Rattle.sd_pagetable.proofs.KeptLemmas.{kept_write_protected, kept_added}
use Rattle.sd_pagetable.proofs.NestedLemmas.{inside-insert, inside-map, alive-insert}
use Rattle.sd_pagetable.proofs.ReleaseLemmas.{kept_renewed}
use Rattle.sd_pagetable.proofs.TableLemmas.{same_table, get_put, get-map_values, get-change_within, map_values-insert, none_within, inside_is, some_of, get-fill_within}
use Rattle.sd_pagetable.proofs.ViewLemmas.{same_contents, page_at-view}

pub absorbed : {Y : Type 0} (b : Bool) (x y z : Y) → cond b x (cond b y z) ≡ cond b x z
absorbed b x y z = grind arith

module _ {X : Type 0} where
  itself : (o : Option X) → option_map (λ x. x) o ≡ o
  itself o = grind arith

  -- ---- a space's table is another
  pub insert_twice : (m : Nested X) (s : ℕ) (t u : Table X) → finmap.insert (finmap.insert m s t) s u ≡ finmap.insert m s u
  insert_twice m s t u = same_table _ _ (λ q. get_put (finmap.insert m s t) s u q ∙ ap (cond (nat_eq q s) (Some u)) (get_put m s t q)
      ∙ absorbed (nat_eq q s) (Some u) (Some t) (finmap.get m q) ∙ sym (get_put m s u q))

  pub insert_itself : (m : Nested X) (s : ℕ) → is_alive m s ≡ true → finmap.insert m s (inside m s) ≡ m
  insert_itself m s alive = grind (arith, some_of, inside_is, same_again)

  pub inside_put : (m : Nested X) (s : ℕ) (t : Table X) → inside (finmap.insert m s t) s ≡ t
  inside_put m s t = inside-insert m s t s ∙ ap (λ b. cond b t (inside m s)) (same_key s)

  put_in_run : (m : Nested X) (s p : ℕ) (t : Table X) (x : X) → put_at (finmap.insert m s t) s p x ≡ finmap.insert m s (finmap.insert t p x)
  unfolding put_at
  put_in_run m s p t x = ap (λ u. finmap.insert (finmap.insert m s t) s (finmap.insert u p x)) (inside_put m s t) ∙ insert_twice m s t (finmap.insert t p x)

  -- ---- the pages of a run, one more
  module _ (f : X → X) (t : Table X) (first : ℕ) where
    change_first : change_within f t first 0 ≡ t
    change_first = same_table _ _ (λ q. get-change_within f t first 0 q ∙ ap (λ b. option_map (λ x. cond b (f x) x) (finmap.get t q)) (none_within first q) ∙ itself (finmap.get t q))

    one_more : (count q : ℕ) → is_within first (suc count) q ≡ (nat_eq q (first + count) || is_within first count q)
    one_more count q = grind (arith, nat_tests)

    apart : (count q : ℕ) → nat_eq q (first + count) ≡ true → is_within first count q ≡ false
    apart count q here = grind (arith, nat_tests)

    key_of : (count q : ℕ) → nat_eq q (first + count) ≡ true → q ≡ first + count
    key_of count q here = grind (arith, nat_tests)

    change_by : (o : Option X) (here before : Bool) (y : X) → (here ≡ true → before ≡ false) → (here ≡ true → o ≡ Some y)
        → cond here (Some (f y)) (option_map (λ x. cond before (f x) x) o) ≡ option_map (λ x. cond (here || before) (f x) x) o
    change_by o here before y alone is = grind arith

    change_next : (count : ℕ) (y : X) → finmap.get t (first + count) ≡ Some y → finmap.insert (change_within f t first count) (first + count) (f y) ≡ change_within f t first (suc count)
    change_next count y there = grind (arith, same_table, get_put, get-change_within)

    past : (count : ℕ) → is_within first count (first + count) ≡ false
    past count = grind (arith, nat_tests)

    change_past : (count : ℕ) → finmap.get (change_within f t first count) (first + count) ≡ finmap.get t (first + count)
    change_past count = get-change_within f t first count (first + count) ∙ ap (λ b. option_map (λ x. cond b (f x) x) (finmap.get t (first + count))) (past count) ∙ itself (finmap.get t (first + count))

-- ---- what is kept
frameless : (o : Option ℕ) → not (is_some o) ≡ true → o ≡ None
frameless o e = grind arith

nothing_released : (pool : Pool) (frame : Option ℕ) → frame ≡ None → ReleasesFrame pool pool frame
nothing_released pool frame none = grind arith

kept_step : (change : RunChange) (pool : Pool) (tables : Nested Entry) (n s p : ℕ) (e : Entry) → IsKept pool tables n → value_at tables s p ≡ Some e → takes change e ≡ true
    → IsKept pool (put_at tables s p (changed_entry change e)) n
kept_step (Renew prot) pool tables n s p e kept h own =
    kept_renewed pool pool tables n s p e kept h (nothing_released pool e.frame (frameless e.frame own)) (changed_entry (Renew prot) e) refl refl
kept_step (Protect prot) pool tables n s p e kept h own = kept_write_protected pool tables n s p (changed_entry (Protect prot) e) e kept h refl refl

-- each page of a run has an entry that keeps its frame
abbrev pub AreTaken : RunChange → Nested Entry → ℕ → ℕ → ℕ → Type 0
AreTaken change tables s first to = (page : ℕ) → first ≤ page → page < to → (e : Entry) × (value_at tables s page ≡ Some e) × (takes change e ≡ true)

abbrev run_in : RunChange → Nested Entry → ℕ → ℕ → ℕ → Table Entry
run_in change tables s first count = change_within (changed_entry change) (inside tables s) first count

kept_count : (change : RunChange) (pool : Pool) (tables : Nested Entry) (n s first : ℕ) → IsKept pool tables n → is_alive tables s ≡ true → (count : ℕ) → AreTaken change tables s first (first + count)
    → IsKept pool (finmap.insert tables s (run_in change tables s first count)) n
kept_count change pool tables n s first kept alive zero taken =
    subst (λ (t : Nested Entry). IsKept pool t n) (sym (ap (finmap.insert tables s) (change_first (changed_entry change) (inside tables s) first) ∙ insert_itself tables s alive)) kept
kept_count change pool tables n s first kept alive (suc count) taken =
    let t = taken (first + count) (omega arith) (omega arith) in
    let before = finmap.insert tables s (run_in change tables s first count) in
    let was = kept_count change pool tables n s first kept alive count (λ page l m. taken page l (omega arith)) in
    let there : value_at before s (first + count) ≡ Some t.0 = ap (λ u. finmap.get u (first + count)) (inside_put tables s (run_in change tables s first count))
    ∙ change_past (changed_entry change) (inside tables s) first count ∙ t.1 in
    subst (λ (u : Nested Entry). IsKept pool u n)
    (put_in_run tables s (first + count) (run_in change tables s first count) (changed_entry change t.0) ∙ ap (finmap.insert tables s) (change_next (changed_entry change) (inside tables s) first count t.0 t.1))
    (kept_step change pool before n s (first + count) t.0 was there t.2)

-- ---- the contents
module _ (F : Entry → PageState) (f : Entry → Entry) (g : PageState → PageState) (is : (e : Entry) → F (f e) ≡ g (F e)) (t : Table Entry) (first count : ℕ) where
  seen_by : (w : Bool) (o : Option Entry) → option_map F (option_map (λ e. cond w (f e) e) o) ≡ option_map (λ x. cond w (g x) x) (option_map F o)
  seen_by w o = grind arith

  seen_run : map_values F (change_within f t first count) ≡ change_within g (map_values F t) first count
  seen_run = same_table _ _ (λ q. get-map_values F (change_within f t first count) q ∙ ap (option_map F) (get-change_within f t first count q) ∙ seen_by (is_within first count q) (finmap.get t q)
      ∙ ap (option_map (λ x. cond (is_within first count q) (g x) x)) (sym (get-map_values F t q)) ∙ sym (get-change_within g (map_values F t) first count q))

page_seen : (change : RunChange) (pool : Pool) (e : Entry) → page_of_entry pool (changed_entry change e) ≡ changed_page change (page_of_entry pool e)
page_seen change pool e = grind arith

view_count : (change : RunChange) (pool : Pool) (tables : Nested Entry) (s first count : ℕ) → contents_of pool (finmap.insert tables s (run_in change tables s first count))
    ≡ with_space (contents_of pool tables) s (change_within (changed_page change) (inside (contents_of pool tables).spaces s) first count)
view_count change pool tables s first count = same_contents _ _ refl (map_values-insert (map_values (page_of_entry pool)) tables s (run_in change tables s first count)
    ∙ ap (finmap.insert (map_values (map_values (page_of_entry pool)) tables) s)
    (seen_run (page_of_entry pool) (changed_entry change) (changed_page change) (page_seen change pool) (inside tables s) first count
    ∙ ap (λ t. change_within (changed_page change) t first count) (sym (inside-map (page_of_entry pool) tables s))))

-- the pages of a run were there
pub changed_there : (change : RunChange) (a b : ℕ → Option Entry) (from to page : ℕ) → ChangesRun change a b from to → from ≤ page → page < to → IsSome (a page)
changed_there change a b from to page run l m = (let t = run.taken page l m in ap is_some t.1)

-- a page with an entry
pub page_there : (pool : Pool) (tables : Nested Entry) (m : Contents) (s page : ℕ) → contents_of pool tables ≡ m → IsSome (value_at tables s page) → IsSome (page_at m s page)
page_there pool tables m s page v there = ap (λ (n : Contents). is_some (page_at n s page)) (sym v) ∙ ap is_some (page_at-view pool tables s page) ∙ seen (value_at tables s page) ∙ there
  where
    seen : (o : Option Entry) → is_some (option_map (page_of_entry pool) o) ≡ is_some o
    seen None = refl
    seen (Some e) = refl

-- ---- a run that changed
module _ (change : RunChange) (pool : Pool) (old new : Nested Entry) (n s first to : ℕ) (le : first ≤ to) (alive : is_alive old s ≡ true)
    (run : ChangesRun change (value_at old s) (value_at new s) first to) (others : new ≡ finmap.insert old s (inside new s)) where
  outside : (q : ℕ) → (w : Bool) → is_within first (to - first) q ≡ w → w ≡ false → value_at new s q ≡ value_at old s q
      → finmap.get (inside new s) q ≡ finmap.get (run_in change old s first (to - first)) q
  outside q w is f same = same ∙ sym (get-change_within (changed_entry change) (inside old s) first (to - first) q
      ∙ ap (λ b. option_map (λ e. cond b (changed_entry change e) e) (value_at old s q)) (is ∙ f) ∙ itself (value_at old s q))

  inside_run : (q : ℕ) → is_within first (to - first) q ≡ true → (e : Entry) → value_at old s q ≡ Some e → value_at new s q ≡ Some (changed_entry change e)
      → finmap.get (inside new s) q ≡ finmap.get (run_in change old s first (to - first)) q
  inside_run q is e was now = now ∙ sym (get-change_within (changed_entry change) (inside old s) first (to - first) q
      ∙ ap (λ b. option_map (λ x. cond b (changed_entry change x) x) (value_at old s q)) is ∙ ap (option_map (changed_entry change)) was)

  before_run : (q : ℕ) → q < first → is_within first (to - first) q ≡ false
  before_run q l = grind (arith, nat_tests)

  past_run : (q : ℕ) → to ≤ q → is_within first (to - first) q ≡ false
  past_run q l = grind (arith, nat_tests)

  in_run : (q : ℕ) → first ≤ q → q < to → is_within first (to - first) q ≡ true
  in_run q l m = grind (arith, nat_tests)

  table_is : inside new s ≡ run_in change old s first (to - first)
  table_is = same_table _ _ (λ q. elim (cases_lt q first) [
    | inl below ↦ outside q (is_within first (to - first) q) refl (before_run q below) (run.others q (inl below))
    | inr reached ↦ elim (cases_lt q to) [
      | inl within ↦ (let t = run.taken q reached within in inside_run q (in_run q reached within) t.0 t.1 t.3)
      | inr over ↦ outside q (is_within first (to - first) q) refl (past_run q over) (run.others q (inr over))
    ]
  ])

  tables_are : new ≡ finmap.insert old s (run_in change old s first (to - first))
  tables_are = others ∙ ap (finmap.insert old s) table_is

  pub kept_run : IsKept pool old n → IsKept pool new n
  kept_run kept =
      let ends : first + (to - first) ≡ to = omega arith in
      subst (λ (t : Nested Entry). IsKept pool t n) (sym tables_are)
      (kept_count change pool old n s first kept alive (to - first) (λ page l m. (let t = run.taken page l (omega arith) in (t.0, t.1, t.2))))

  pub view_run : (m : Contents) → contents_of pool old ≡ m → contents_of pool new ≡ with_space m s (change_within (changed_page change) (inside m.spaces s) first (to - first))
  view_run m v = ap (contents_of pool) tables_are ∙ view_count change pool old s first (to - first)
      ∙ ap (λ (c : Contents). with_space c s (change_within (changed_page change) (inside c.spaces s) first (to - first))) v

-- ---- holes that are filled
module _ {X : Type 0} (t : Table X) (first : ℕ) (x : X) where
  or_none : (o : Option X) → option_or o None ≡ o
  or_none o = grind arith

  fill_first : fill_within t first 0 x ≡ t
  fill_first = same_table _ _ (λ q. get-fill_within t first 0 x q ∙ ap (λ b. option_or (finmap.get t q) (cond b (Some x) None)) (none_within first q) ∙ or_none (finmap.get t q))

  one_filled : (count q : ℕ) → is_within first (suc count) q ≡ (nat_eq q (first + count) || is_within first count q)
  one_filled count q = grind (arith, nat_tests)

  is_key : (count q : ℕ) → nat_eq q (first + count) ≡ true → q ≡ first + count
  is_key count q here = grind (arith, nat_tests)

  fill_by : (o : Option X) (here before : Bool) → (here ≡ true → o ≡ None) → cond here (Some x) (option_or o (cond before (Some x) None)) ≡ option_or o (cond (here || before) (Some x) None)
  fill_by o here before none = grind arith

  fill_next : (count : ℕ) → finmap.get t (first + count) ≡ None → finmap.insert (fill_within t first count x) (first + count) x ≡ fill_within t first (suc count) x
  fill_next count none = grind (arith, same_table, get_put, get-fill_within)

  beyond : (count : ℕ) → is_within first count (first + count) ≡ false
  beyond count = grind (arith, nat_tests)

  fill_past : (count : ℕ) → finmap.get (fill_within t first count x) (first + count) ≡ finmap.get t (first + count)
  fill_past count = get-fill_within t first count x (first + count) ∙ ap (λ b. option_or (finmap.get t (first + count)) (cond b (Some x) None)) (beyond count) ∙ or_none (finmap.get t (first + count))

-- a table whose holes were filled
module _ (entry : Entry) (old new : Table Entry) (first to : ℕ) (le : first ≤ to) (run : FillsRun entry (finmap.get old) (finmap.get new) first to) where
  left_out : (q : ℕ) → is_within first (to - first) q ≡ false → finmap.get new q ≡ finmap.get old q → finmap.get new q ≡ finmap.get (fill_within old first (to - first) entry) q
  left_out q is same = same ∙ sym (get-fill_within old first (to - first) entry q ∙ ap (λ b. option_or (finmap.get old q) (cond b (Some entry) None)) is ∙ or_none old first entry (finmap.get old q))

  put_there : (q : ℕ) → is_within first (to - first) q ≡ true → finmap.get old q ≡ None → finmap.get new q ≡ Some entry → finmap.get new q ≡ finmap.get (fill_within old first (to - first) entry) q
  put_there q is none now = now ∙ sym (get-fill_within old first (to - first) entry q ∙ ap (λ b. option_or (finmap.get old q) (cond b (Some entry) None)) is ∙ ap (λ o. option_or o (Some entry)) none)

  under : (q : ℕ) → q < first → is_within first (to - first) q ≡ false
  under q l = grind (arith, nat_tests)

  over : (q : ℕ) → to ≤ q → is_within first (to - first) q ≡ false
  over q l = grind (arith, nat_tests)

  inner : (q : ℕ) → first ≤ q → q < to → is_within first (to - first) q ≡ true
  inner q l m = grind (arith, nat_tests)

  pub filled_table : new ≡ fill_within old first (to - first) entry
  filled_table = same_table _ _ (λ q. elim (cases_lt q first) [
    | inl below ↦ left_out q (under q below) (run.others q (inl below))
    | inr reached ↦ elim (cases_lt q to) [
      | inl within ↦ put_there q (inner q reached within) (run.holes q reached within) (run.filled q reached within)
      | inr past ↦ left_out q (over q past) (run.others q (inr past))
    ]
  ])

-- ---- what filling keeps
kept_holes : (pool : Pool) (tables : Nested Entry) (n s first : ℕ) (e : Entry) → IsKept pool tables n → is_alive tables s ≡ true → e.frame ≡ None → e.writable ≡ false
    → (count : ℕ) → first + count ≤ 2 ^ 35 → n + count ≤ 65536 → ((page : ℕ) → first ≤ page → page < first + count → value_at tables s page ≡ None)
    → IsKept pool (finmap.insert tables s (fill_within (inside tables s) first count e)) (n + count)
kept_holes pool tables n s first e kept alive none closed zero number few holes =
    let same : tables ≡ finmap.insert tables s (fill_within (inside tables s) first 0 e) = sym (ap (finmap.insert tables s) (fill_first (inside tables s) first e) ∙ insert_itself tables s alive) in
    let no_more : n ≡ n + 0 = omega arith in
    subst (λ (t : Nested Entry). IsKept pool t (n + 0)) same (subst (λ k. IsKept pool tables k) no_more kept)
kept_holes pool tables n s first e kept alive none closed (suc count) number few holes =
    let hole = holes (first + count) (omega arith) (omega arith) in
    let before = finmap.insert tables s (fill_within (inside tables s) first count e) in
    let was = kept_holes pool tables n s first e kept alive none closed count (omega arith) (omega arith) (λ page l m. holes page l (omega arith)) in
    let still : value_at before s (first + count) ≡ None = ap (λ u. finmap.get u (first + count)) (inside_put tables s (fill_within (inside tables s) first count e)) ∙ fill_past (inside tables s) first e count ∙ hole in
    let living : is_alive before s ≡ true = alive-insert tables s (fill_within (inside tables s) first count e) s ∙ ap (λ b. b || is_alive tables s) (same_key s) in
    let next = kept_added pool before (n + count) s (first + count) e was living (page_at-view pool before s (first + count) ∙ ap (option_map (page_of_entry pool)) still) (omega arith) (omega arith) none closed in
    let sum : n + count + 1 ≡ n + suc count = omega arith in
    subst (λ k. IsKept pool (finmap.insert tables s (fill_within (inside tables s) first (suc count) e)) k) sum
    (subst (λ (u : Nested Entry). IsKept pool u (n + count + 1)) (put_in_run tables s (first + count) (fill_within (inside tables s) first count e) e ∙ ap (finmap.insert tables s) (fill_next (inside tables s) first e count hole)) next)

module _ (F : Entry → PageState) (t : Table Entry) (first count : ℕ) (e : Entry) where
  seen_or : (w : Bool) (o : Option Entry) → option_map F (option_or o (cond w (Some e) None)) ≡ option_or (option_map F o) (cond w (Some (F e)) None)
  seen_or w o = grind arith

  seen_fill : map_values F (fill_within t first count e) ≡ fill_within (map_values F t) first count (F e)
  seen_fill = same_table _ _ (λ q. get-map_values F (fill_within t first count e) q ∙ ap (option_map F) (get-fill_within t first count e q) ∙ seen_or (is_within first count q) (finmap.get t q)
      ∙ ap (λ o. option_or o (cond (is_within first count q) (Some (F e)) None)) (sym (get-map_values F t q)) ∙ sym (get-fill_within (map_values F t) first count (F e) q))

module _ (entry : Entry) (pool : Pool) (old new : Nested Entry) (n s first to : ℕ) (le : first ≤ to) (alive : is_alive old s ≡ true)
    (run : FillsRun entry (value_at old s) (value_at new s) first to) (others : new ≡ finmap.insert old s (inside new s)) where
  filled_are : new ≡ finmap.insert old s (fill_within (inside old s) first (to - first) entry)
  filled_are = others ∙ ap (finmap.insert old s) (filled_table entry (inside old s) (inside new s) first to le run)

  pub kept_filled : IsKept pool old n → to ≤ 2 ^ 35 → n + (to - first) ≤ 65536 → entry.frame ≡ None → entry.writable ≡ false → IsKept pool new (n + (to - first))
  kept_filled kept number few none closed =
      let ends : first + (to - first) ≡ to = omega arith in
      subst (λ (t : Nested Entry). IsKept pool t (n + (to - first))) (sym filled_are)
      (kept_holes pool old n s first entry kept alive none closed (to - first) (omega arith) few (λ page l m. run.holes page l (omega arith)))

  pub view_filled : (m : Contents) (x : PageState) → contents_of pool old ≡ m → page_of_entry pool entry ≡ x → contents_of pool new ≡ with_space m s (fill_within (inside m.spaces s) first (to - first) x)
  view_filled m x v is = ap (contents_of pool) filled_are
      ∙ same_contents (contents_of pool (finmap.insert old s (fill_within (inside old s) first (to - first) entry))) (with_space (contents_of pool old) s (fill_within (inside (contents_of pool old).spaces s) first (to - first) (page_of_entry pool entry))) refl
      (map_values-insert (map_values (page_of_entry pool)) old s (fill_within (inside old s) first (to - first) entry)
      ∙ ap (finmap.insert (map_values (map_values (page_of_entry pool)) old) s)
      (seen_fill (page_of_entry pool) (inside old s) first (to - first) entry ∙ ap (λ t. fill_within t first (to - first) (page_of_entry pool entry)) (sym (inside-map (page_of_entry pool) old s))))
      ∙ ap (λ y. with_space (contents_of pool old) s (fill_within (inside (contents_of pool old).spaces s) first (to - first) y)) is
      ∙ ap (λ (c : Contents). with_space c s (fill_within (inside c.spaces s) first (to - first) x)) v

-- a hole has no entry
pub hole_there : (pool : Pool) (tables : Nested Entry) (m : Contents) (s page : ℕ) → contents_of pool tables ≡ m → page_at m s page ≡ None → value_at tables s page ≡ None
hole_there pool tables m s page v none = unseen (value_at tables s page) (sym (page_at-view pool tables s page) ∙ ap (λ (n : Contents). page_at n s page) v ∙ none)
  where
    unseen : (o : Option Entry) → option_map (page_of_entry pool) o ≡ None → o ≡ None
    unseen None e = refl
    unseen (Some y) e = cc
