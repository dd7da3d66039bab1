-- Pages seen through changes.
use Rattle.std.proofs.Common.{◌≡◌, ℕ, ◌+◌, ◌-◌, ◌<◌, Bool, true, false, cond, nat_eq, is_some, List, [], ◌∷◌, Option, Some, None, IsSome, refl, sym, ◌∙◌, ap, subst, arith}
use Rattle.std.specs.Option.{option_map}
use Rattle.std.specs.Prelude.{MatchOption}
use Rattle.std.specs.Ordering.{nat_cmp}
use Rattle.std.specs.FinMap as finmap
use Rattle.std.specs.Map.{lookup}
use Rattle.std.specs.BTreeMap.{is_at}
use Rattle.std.specs.BTreeMap.Range.{range_contains, entries_between}
use Rattle.std.specs.declared.ops.Bound.{Bound}
use Rattle.std.specs.declared.ops.Bound.TheVariants.{Included, Unbounded}
use Rattle.std.proofs.lemmas.Bool.Decides.{nat_tests}
use Rattle.sd_areas.specs.declared.snapshot_page.SnapshotPage.{SnapshotPage}
use Rattle.sd_areas.specs.Memory.{space_of, page_of_snapshot}
use Rattle.sd_areas.specs.Pages.{is_within}
use Rattle.sd_areas.specs.PlainMemory.{Page, Space}
use Rattle.sd_pagetable.specs.Nested.{remove_within}
use Rattle.sd_fold.specs.Overlay.{PageChanges, changes_of, with_page, pages_over, or_else, IsFilled}
use Rattle.sd_fold.proofs.Tables.{same_table, get_put, get_removed, same_key, same_of, get_seen, seen_put, seen_removed, get_space, get-remove_within, not_none}

-- a change as it is seen
abbrev pub change_of : Option SnapshotPage → Option Page
change_of change = option_map page_of_snapshot change

-- a page under what became of it
abbrev pub under : Option (Option Page) → Option Page → Option Page
under None page = page
under (Some change) page = change

pub get_with : (pages : Space) (k : ℕ) (v : Option Page) (q : ℕ) → finmap.get (with_page pages k v) q ≡ cond (nat_eq q k) v (finmap.get pages q)
get_with pages k None q = get_removed pages k q
get_with pages k (Some found) q = get_put pages k found q

pub get_changes : (es : PageChanges) (q : ℕ) → finmap.get (changes_of es) q ≡ option_map change_of (lookup (is_at (nat_cmp q)) es)
unfolding changes_of
get_changes es q = get_seen change_of es q

pub changes_put : (old new : PageChanges) (k : ℕ) (v : Option SnapshotPage)
    → ((q : ℕ) → lookup (is_at (nat_cmp q)) new ≡ cond (is_at (nat_cmp k) q) (Some v) (lookup (is_at (nat_cmp q)) old))
    → changes_of new ≡ finmap.insert (changes_of old) k (change_of v)
unfolding changes_of
changes_put old new k v is = seen_put change_of old new k v is

pub changes_removed : (old new : PageChanges) (k : ℕ)
    → ((q : ℕ) → lookup (is_at (nat_cmp q)) new ≡ cond (is_at (nat_cmp k) q) None (lookup (is_at (nat_cmp q)) old))
    → changes_of new ≡ finmap.remove (changes_of old) k
unfolding changes_of
changes_removed old new k is = seen_removed change_of old new k is

first_under : (b : Bool) (v : Option SnapshotPage) (o : Option (Option SnapshotPage)) (p : Option Page)
    → cond b (change_of v) (under (option_map change_of o) p) ≡ under (option_map change_of (cond b (Some v) o)) p
first_under true v o p = refl
first_under false v o p = refl

pub get_through : (es : PageChanges) (pages : Space) (q : ℕ) → finmap.get (pages_over es pages) q ≡ under (option_map change_of (lookup (is_at (nat_cmp q)) es)) (finmap.get pages q)
get_through [] pages q = refl
get_through (e ∷ es) pages q = get_with (pages_over es pages) e.0 (change_of e.1) q
    ∙ ap (cond (nat_eq q e.0) (change_of e.1)) (get_through es pages q)
    ∙ first_under (nat_eq q e.0) e.1 (lookup (is_at (nat_cmp q)) es) (finmap.get pages q)
    ∙ ap (λ b. under (option_map change_of (cond b (Some e.1) (lookup (is_at (nat_cmp q)) es))) (finmap.get pages q)) (sym (same_key q e.0))

pub get_over : (es : PageChanges) (pages : Space) (q : ℕ) → finmap.get (pages_over es pages) q ≡ under (finmap.get (changes_of es) q) (finmap.get pages q)
get_over es pages q = get_through es pages q ∙ ap (λ o. under o (finmap.get pages q)) (sym (get_changes es q))

under_cond : (b : Bool) (v : Option Page) (o : Option (Option Page)) (p : Option Page) → under (cond b (Some v) o) p ≡ cond b v (under o p)
under_cond true v o p = refl
under_cond false v o p = refl

-- a change that was put, seen through
pub over_put : (old new : PageChanges) (k : ℕ) (v : Option Page) (pages : Space) → changes_of new ≡ finmap.insert (changes_of old) k v
    → pages_over new pages ≡ with_page (pages_over old pages) k v
over_put old new k v pages put = same_table _ _ (λ q. get_over new pages q
    ∙ ap (λ m. under (finmap.get m q) (finmap.get pages q)) put
    ∙ ap (λ o. under o (finmap.get pages q)) (get_put (changes_of old) k v q)
    ∙ under_cond (nat_eq q k) v (finmap.get (changes_of old) q) (finmap.get pages q)
    ∙ ap (cond (nat_eq q k) v) (sym (get_over old pages q)) ∙ sym (get_with (pages_over old pages) k v q))

-- what stands at a page that was touched, and at one that wasn't
pub touched : (es : PageChanges) (pages : Space) (k : ℕ) (found : Option SnapshotPage) → Some found ≡ lookup (is_at (nat_cmp k)) es
    → change_of found ≡ finmap.get (pages_over es pages) k
touched es pages k found e = sym (get_through es pages k ∙ ap (λ o. under (option_map change_of o) (finmap.get pages k)) (sym e))

pub untouched : (es : PageChanges) (pages : Space) (k : ℕ) → None ≡ lookup (is_at (nat_cmp k)) es → finmap.get pages k ≡ finmap.get (pages_over es pages) k
untouched es pages k e = sym (get_through es pages k ∙ ap (λ o. under (option_map change_of o) (finmap.get pages k)) (sym e))

pub removed_fewer : (es : PageChanges) (k : ℕ) (r : Option (Option SnapshotPage)) (new old : ℕ) → r ≡ lookup (is_at (nat_cmp k)) es
    → new + cond (is_some r) 1 0 ≡ old → IsSome (finmap.get (changes_of es) k) → new < old
removed_fewer es k None new old e len some =
    absurd (not_none _ (get_changes es k ∙ ap (option_map change_of) (sym e)) some)
removed_fewer es k (Some x) new old e len some = omega (arith, len)

-- ---- pages that are filled in, one after the other

abbrev pub Pages : Type 0
Pages = List (ℕ × SnapshotPage)

-- what was filled in and what is left to fill are together all
abbrev pub Filling : (SnapshotPage → Option Page) → Pages → Pages → PageChanges → PageChanges → Type 0
Filling fill all rest old now = (q : ℕ) → or_else (finmap.get (changes_of now) q) (option_map fill (lookup (is_at (nat_cmp q)) rest))
    ≡ or_else (finmap.get (changes_of old) q) (option_map fill (lookup (is_at (nat_cmp q)) all))

stands : {X : Type 0} (b : Bool) (o : Option X) (fill : SnapshotPage → X) (x : SnapshotPage) (l : Option SnapshotPage) → (b ≡ true → IsSome o)
    → or_else o (option_map fill l) ≡ or_else o (option_map fill (cond b (Some x) l))
stands true None fill x l is = absurd (let f : false ≡ true = is refl in cc)
stands _ _ fill x l is = refl

pub filling_skips : (fill : SnapshotPage → Option Page) (all rest left : Pages) (old now : PageChanges) (k : ℕ) (x : SnapshotPage) → Filling fill all rest old now
    → rest ≡ (k, x) ∷ left → IsSome (lookup (is_at (nat_cmp k)) now) → Filling fill all left old now
filling_skips fill all rest left old now k x filling e some q =
    stands (is_at (nat_cmp q) k) (finmap.get (changes_of now) q) fill x (lookup (is_at (nat_cmp q)) left) there
    ∙ sym (ap (λ (es : Pages). or_else (finmap.get (changes_of now) q) (option_map fill (lookup (is_at (nat_cmp q)) es))) e) ∙ filling q
  where
    is_some_map : (o : Option (Option SnapshotPage)) → IsSome o → IsSome (option_map change_of o)
    is_some_map (Some o) h = refl
    is_some_map None h = absurd (let f : false ≡ true = h in cc)

    there : is_at (nat_cmp q) k ≡ true → IsSome (finmap.get (changes_of now) q)
    there same =
        let at : q ≡ k = same_of q k (sym (same_key q k) ∙ same) in
        subst (λ n. IsSome (finmap.get (changes_of now) n)) (sym at) (subst IsSome (sym (get_changes now k)) (is_some_map (lookup (is_at (nat_cmp k)) now) some))

gets : {X : Type 0} (b : Bool) (o : Option X) (fill : SnapshotPage → X) (x : SnapshotPage) (l : Option SnapshotPage) → (b ≡ true → o ≡ None)
    → or_else (cond b (Some (fill x)) o) (option_map fill l) ≡ or_else o (option_map fill (cond b (Some x) l))
gets false o fill x l none = refl
gets true o fill x l none = ap (λ o. or_else o (Some (fill x))) (sym (none refl))

pub filling_goes : (fill : SnapshotPage → Option Page) (all rest left : Pages) (old now new : PageChanges) (k : ℕ) (x : SnapshotPage) → Filling fill all rest old now
    → rest ≡ (k, x) ∷ left → lookup (is_at (nat_cmp k)) now ≡ None → changes_of new ≡ finmap.insert (changes_of now) k (fill x) → Filling fill all left old new
filling_goes fill all rest left old now new k x filling e none put q =
    ap (λ m. or_else (finmap.get m q) (option_map fill (lookup (is_at (nat_cmp q)) left))) put
    ∙ ap (λ o. or_else o (option_map fill (lookup (is_at (nat_cmp q)) left))) (get_put (changes_of now) k (fill x) q ∙ ap (λ b. cond b (Some (fill x)) (finmap.get (changes_of now) q)) (sym (same_key q k)))
    ∙ gets (is_at (nat_cmp q) k) (finmap.get (changes_of now) q) fill x (lookup (is_at (nat_cmp q)) left) missing
    ∙ sym (ap (λ (es : Pages). or_else (finmap.get (changes_of now) q) (option_map fill (lookup (is_at (nat_cmp q)) es))) e) ∙ filling q
  where
    missing : is_at (nat_cmp q) k ≡ true → finmap.get (changes_of now) q ≡ None
    missing same =
        let at : q ≡ k = same_of q k (sym (same_key q k) ∙ same) in
        ap (finmap.get (changes_of now)) at ∙ get_changes now k ∙ ap (option_map change_of) none

-- ---- a run that is unmapped

abbrev hide : SnapshotPage → Option Page
hide page = None

abbrev keep : SnapshotPage → Option Page
keep page = Some (page_of_snapshot page)

no_entry : (b : Bool) → ◌≡◌ {A = Option SnapshotPage} None (cond b None None)
no_entry true = refl
no_entry false = refl

kept_or_not : (q : ℕ) (a : Bool) (e : ℕ × SnapshotPage) (es : Pages)
    → lookup (is_at (nat_cmp q)) (cond a (e ∷ es) es) ≡ cond a (cond (is_at (nat_cmp q) e.0) (Some e.1) (lookup (is_at (nat_cmp q)) es)) (lookup (is_at (nat_cmp q)) es)
kept_or_not q true e es = refl
kept_or_not q false e es = refl

between_step : (a b t : Bool) (x : SnapshotPage) (l f : Option SnapshotPage) → f ≡ cond t l None → (b ≡ true → a ≡ t)
    → cond a (cond b (Some x) f) f ≡ cond t (cond b (Some x) l) None
between_step true false t x l f e same = e
between_step false false t x l f e same = e
between_step a true true x l f e same = ap (λ a. cond a (Some x) f) (same refl)
between_step a true false x l f e same = ap (λ a. cond a (Some x) f) (same refl) ∙ e

lookup_between : (lo hi : Bound ℕ) (es : Pages) (q : ℕ) → lookup (is_at (nat_cmp q)) (entries_between nat_cmp lo hi es)
    ≡ cond (range_contains nat_cmp lo hi q) (lookup (is_at (nat_cmp q)) es) None
lookup_between lo hi [] q = no_entry (range_contains nat_cmp lo hi q)
lookup_between lo hi (e ∷ es) q = kept_or_not q (range_contains nat_cmp lo hi e.0) e (entries_between nat_cmp lo hi es)
    ∙ between_step (range_contains nat_cmp lo hi e.0) (is_at (nat_cmp q) e.0) (range_contains nat_cmp lo hi q) e.1 (lookup (is_at (nat_cmp q)) es)
    (lookup (is_at (nat_cmp q)) (entries_between nat_cmp lo hi es)) (lookup_between lo hi es q)
    (λ same. ap (range_contains nat_cmp lo hi) (sym (same_of q e.0 (sym (same_key q e.0) ∙ same))))

in_bounds : (first last end q : ℕ) → last ≡ end - 1 → first < end → range_contains nat_cmp (Included first) (Included last) q ≡ is_within first (end - first) q
in_bounds first last end q e less = grind (arith, nat_tests)

hidden_by : (b : Bool) (o : Option (Option Page)) (l : Option SnapshotPage)
    → under (or_else (cond b None o) (option_map hide (cond b l None))) (option_map page_of_snapshot l) ≡ cond b None (under o (option_map page_of_snapshot l))
hidden_by true o None = refl
hidden_by false None l = refl
hidden_by _ _ _ = refl

pub unmapped : (old mid new : PageChanges) (es range : Pages) (first last end : ℕ) → last ≡ end - 1 → first < end
    → changes_of mid ≡ remove_within (changes_of old) first (end - first)
    → range ≡ entries_between nat_cmp (Included first) (Included last) es
    → IsFilled (λ _. None) range mid new
    → pages_over new (space_of es) ≡ remove_within (pages_over old (space_of es)) first (end - first)
unmapped old mid new es range first last end e less forgot is filled = same_table _ _ (λ q.
    get_over new (space_of es) q
    ∙ ap (λ o. under o (finmap.get (space_of es) q)) (filled q)
    ∙ ap (λ o. under (or_else o (option_map hide (lookup (is_at (nat_cmp q)) range))) (finmap.get (space_of es) q))
    (ap (λ m. finmap.get m q) forgot ∙ get-remove_within (changes_of old) first (end - first) q)
    ∙ ap (λ l. under (or_else (cond (is_within first (end - first) q) None (finmap.get (changes_of old) q)) (option_map hide l)) (finmap.get (space_of es) q))
    (ap (lookup (is_at (nat_cmp q))) is ∙ lookup_between (Included first) (Included last) es q ∙ ap (λ b. cond b (lookup (is_at (nat_cmp q)) es) None) (in_bounds first last end q e less))
    ∙ ap (under (or_else (cond (is_within first (end - first) q) None (finmap.get (changes_of old) q)) (option_map hide (cond (is_within first (end - first) q) (lookup (is_at (nat_cmp q)) es) None)))) (get_space es q)
    ∙ hidden_by (is_within first (end - first) q) (finmap.get (changes_of old) q) (lookup (is_at (nat_cmp q)) es)
    ∙ ap (cond (is_within first (end - first) q) None) (ap (under (finmap.get (changes_of old) q)) (sym (get_space es q)) ∙ sym (get_over old (space_of es) q))
    ∙ sym (get-remove_within (pages_over old (space_of es)) first (end - first) q))

-- ---- a child

child_by : (o : Option (Option Page)) (l m : Option SnapshotPage)
    → under (or_else (or_else o (option_map keep l)) (option_map hide m)) (option_map page_of_snapshot m)
    ≡ under o (option_map page_of_snapshot l)
child_by (Some x) l m = refl
child_by None (Some x) m = refl
child_by None None None = refl
child_by None None (Some x) = refl

pub child_made : (parent copy filled child : PageChanges) (es fs range : Pages) → changes_of copy ≡ changes_of parent
    → IsFilled (λ page. Some (page_of_snapshot page)) es copy filled → range ≡ entries_between nat_cmp Unbounded Unbounded fs
    → IsFilled (λ _. None) range filled child → pages_over child (space_of fs) ≡ pages_over parent (space_of es)
child_made parent copy filled child es fs range same fills is hides = same_table _ _ (λ q.
    get_over child (space_of fs) q
    ∙ ap (λ o. under o (finmap.get (space_of fs) q)) (hides q)
    ∙ ap (λ o. under (or_else o (option_map hide (lookup (is_at (nat_cmp q)) range))) (finmap.get (space_of fs) q)) (fills q)
    ∙ ap (λ t. under (or_else (or_else (finmap.get t q) (option_map keep (lookup (is_at (nat_cmp q)) es))) (option_map hide (lookup (is_at (nat_cmp q)) range))) (finmap.get (space_of fs) q)) same
    ∙ ap (λ l. under (or_else (or_else (finmap.get (changes_of parent) q) (option_map keep (lookup (is_at (nat_cmp q)) es))) (option_map hide l)) (finmap.get (space_of fs) q))
    (ap (lookup (is_at (nat_cmp q))) is ∙ lookup_between Unbounded Unbounded fs q)
    ∙ ap (under (or_else (or_else (finmap.get (changes_of parent) q) (option_map keep (lookup (is_at (nat_cmp q)) es))) (option_map hide (lookup (is_at (nat_cmp q)) fs)))) (get_space fs q)
    ∙ child_by (finmap.get (changes_of parent) q) (lookup (is_at (nat_cmp q)) es) (lookup (is_at (nat_cmp q)) fs)
    ∙ ap (under (finmap.get (changes_of parent) q)) (sym (get_space es q)) ∙ sym (get_over parent (space_of es) q))

pub not_mapped : (es : PageChanges) (fs : Pages) (q : ℕ) → lookup (is_at (nat_cmp q)) es ≡ None → lookup (is_at (nat_cmp q)) fs ≡ None
    → finmap.get (pages_over es (space_of fs)) q ≡ None
not_mapped es fs q e f = get_through es (space_of fs) q ∙ ap (λ o. under (option_map change_of o) (finmap.get (space_of fs) q)) e ∙ get_space fs q ∙ ap (option_map page_of_snapshot) f

pub page_by : (es : PageChanges) (fs : Pages) (q : ℕ) (o : Option ℕ) → lookup (is_at (nat_cmp q)) es ≡ None → MatchOption o (lookup (is_at (nat_cmp q)) fs ≡ None) (λ page. page ≡ q)
    → MatchOption o (finmap.get (pages_over es (space_of fs)) q ≡ None) (λ page. page ≡ q)
page_by es fs q None e f = not_mapped es fs q e f
page_by es fs q (Some page) e f = f

-- a page that the changes don't touch, changed below them
pub over_apart : (left : PageChanges) (pages : Space) (k : ℕ) (v : Option Page) → lookup (is_at (nat_cmp k)) left ≡ None
    → pages_over left (with_page pages k v) ≡ with_page (pages_over left pages) k v
over_apart left pages k v none = same_table _ _ (λ q. get_through left (with_page pages k v) q
    ∙ ap (under (option_map change_of (lookup (is_at (nat_cmp q)) left))) (get_with pages k v q)
    ∙ by q (nat_eq q k) refl ∙ ap (cond (nat_eq q k) v) (sym (get_through left pages q)) ∙ sym (get_with (pages_over left pages) k v q))
  where
    by : (q : ℕ) (b : Bool) → nat_eq q k ≡ b → under (option_map change_of (lookup (is_at (nat_cmp q)) left)) (cond (nat_eq q k) v (finmap.get pages q))
        ≡ cond (nat_eq q k) v (under (option_map change_of (lookup (is_at (nat_cmp q)) left)) (finmap.get pages q))
    by q false apart = ap (λ b. under (option_map change_of (lookup (is_at (nat_cmp q)) left)) (cond b v (finmap.get pages q))) apart
        ∙ sym (ap (λ b. cond b v (under (option_map change_of (lookup (is_at (nat_cmp q)) left)) (finmap.get pages q))) apart)
    by q true same = ap (λ b. under (option_map change_of (lookup (is_at (nat_cmp q)) left)) (cond b v (finmap.get pages q))) same
        ∙ ap (λ o. under (option_map change_of o) v) (ap (λ n. lookup (is_at (nat_cmp n)) left) (same_of q k same) ∙ none)
        ∙ sym (ap (λ b. cond b v (under (option_map change_of (lookup (is_at (nat_cmp q)) left)) (finmap.get pages q))) same)
