-- Entries that are kept as runs, with one page more.
use Rattle.std.proofs.Common.{◌≡◌, ◌≢◌, ◌⊎◌, ℕ, zero, suc, ◌+◌, ◌-◌, ◌<◌, ◌≤◌, Bool, true, false, ◌==◌, nat_eq, eq-eqb, List, [], ◌∷◌, ◌++◌, length, map, get_or, set, Some, None, Result, Ok, Err, OnOk, refl, sym, ◌∙◌, ap, subst, inl, inr, arith}
use Rattle.std.specs.List.{flat_map, slice_get, AllByRecursion}
use Rattle.std.specs.Option.{option_map_or}
use Rattle.std.proofs.lemmas.Bool.{both_ways, eqb-true}
use Rattle.std.proofs.lemmas.List.{map-append, flat_map_more, append_assoc, length-append}
use Rattle.sd_image.specs.declared.run.Run.{Run}
use Rattle.sd_image.specs.declared.run.RunKind.{RunKind}
use Rattle.sd_image.specs.declared.table.SpaceTable.{SpaceTable}
use Rattle.sd_image.specs.Runs.{PageWay, AreRunsOf, IsSourced, end_of, run_ways}
use Rattle.sd_image.specs.Table.{AreRuns, Listed, listing_of, run_pages}
use Rattle.sd_writing.specs.Entries.{Place, ImageEntry, entries_listed, run_entries}
use Rattle.sd_writing.specs.Tables.{IsTableFrom, AreTables, EndsBefore, EndBefore, IsPushed, SpaceIsBegun, listed}

-- ---- a table more

abbrev pub next_least : ℕ → List Listed → ℕ
next_least least [] = least
next_least least (t ∷ tables) = next_least (t.space + 1) tables

tables_front : (parent least : ℕ) (tables : List Listed) (t : Listed) → AreTables parent least (tables ++ t ∷ []) → AreTables parent least tables
tables_front parent least [] t are = tt
tables_front parent least (s ∷ tables) t are = (are.0, tables_front parent (s.space + 1) tables t are.1)

tables_last : (parent least : ℕ) (tables : List Listed) (t : Listed) → AreTables parent least (tables ++ t ∷ []) → IsTableFrom parent (next_least least tables) t
tables_last parent least [] t are = are.0
tables_last parent least (s ∷ tables) t are = tables_last parent (s.space + 1) tables t are.1

tables_put : (parent least : ℕ) (tables : List Listed) (t : Listed) → AreTables parent least tables → IsTableFrom parent (next_least least tables) t
    → AreTables parent least (tables ++ t ∷ [])
tables_put parent least [] t are is = (is, tt)
tables_put parent least (s ∷ tables) t are is = (are.0, tables_put parent (s.space + 1) tables t are.1 is)

all_front : {X : Type 0} (P : X → Type 0) (xs : List X) (x : X) → AllByRecursion P (xs ++ x ∷ []) → AllByRecursion P xs
all_front P [] x all = tt
all_front P (y ∷ xs) x all = (all.0, all_front P xs x all.1)

pub all_last : {X : Type 0} (P : X → Type 0) (xs : List X) (x : X) → AllByRecursion P (xs ++ x ∷ []) → P x
all_last P [] x all = all.0
all_last P (y ∷ xs) x all = all_last P xs x all.1

pub all_put : {X : Type 0} (P : X → Type 0) (xs : List X) (x : X) → AllByRecursion P xs → P x → AllByRecursion P (xs ++ x ∷ [])
all_put P [] x all is = (is, tt)
all_put P (y ∷ xs) x all is = (all.0, all_put P xs x all.1 is)

-- a place further on
abbrev pub IsFurther : Place → Place → Type 0
IsFurther a b = (a.0 < b.0) ⊎ ((a.0 ≡ b.0) × (a.1 ≤ b.1))

ends_further : (a b : Place) (t : Listed) → IsFurther a b → EndsBefore a t → EndsBefore b t
ends_further a b t given also = grind arith

pub end_further : (a b : Place) (tables : List Listed) → IsFurther a b → EndBefore a tables → EndBefore b tables
end_further a b [] further ends = tt
end_further a b (t ∷ tables) further ends = (ends_further a b t further ends.0, end_further a b tables further ends.1)

pub one_further : (at : Place) → IsFurther at (at.0, at.1 + 1)
one_further at = inr (refl, omega arith)

-- ---- entries

abbrev pub entry_of : ℕ → PageWay → ImageEntry
entry_of space way = record { place = (space, way.0); kind = way.1 }

run_entries_are : (space : ℕ) (kind : RunKind) (pages : List ℕ)
    → map (λ page. record { place = (space, page); kind = kind }) pages ≡ map (entry_of space) (map (λ page. (page, kind)) pages)
run_entries_are space kind [] = refl
run_entries_are space kind (page ∷ pages) = ap (λ (l : List ImageEntry). (record { place = (space, page); kind = kind }) ∷ l) (run_entries_are space kind pages)

-- the entries of a space, by the pages of its runs
entries_are : (space : ℕ) (runs : List Run) → flat_map (run_entries space) runs ≡ map (entry_of space) (flat_map run_ways runs)
entries_are space [] = refl
entries_are space (run ∷ runs) =
    ap (λ (l : List ImageEntry). l ++ flat_map (run_entries space) runs) (run_entries_are space run.kind (run_pages run))
    ∙ ap (λ (l : List ImageEntry). map (entry_of space) (run_ways run) ++ l) (entries_are space runs)
    ∙ sym (map-append (entry_of space) (run_ways run) (flat_map run_ways runs))

abbrev pub table_entries : Listed → List ImageEntry
table_entries t = flat_map (run_entries t.space) t.runs

entries_put : (tables : List Listed) (t : Listed) → entries_listed (tables ++ t ∷ []) ≡ entries_listed tables ++ table_entries t
entries_put tables t = sym (flat_map_more table_entries [] tables t)

-- one page more of a space
pub runs_entries : (space page : ℕ) (kind : RunKind) (old new : List Run) → flat_map run_ways new ≡ flat_map run_ways old ++ (page, kind) ∷ []
    → flat_map (run_entries space) new ≡ flat_map (run_entries space) old ++ (record { place = (space, page); kind = kind }) ∷ []
runs_entries space page kind old new e = grind (arith, entries_are, map-append)

no_push : {X : Type 0} (xs : List X) (x : X) → [] ≡ xs ++ x ∷ [] → ⊥
no_push xs x e = absurd (let f : 0 ≡ length xs + 1 = ap length e ∙ length-append xs (x ∷ []) in omega arith)

listed_put : (tables : List SpaceTable) (t : SpaceTable) → listed (tables ++ t ∷ []) ≡ listed tables ++ listing_of t ∷ []
listed_put tables t = map-append listing_of tables (t ∷ [])

-- ---- a page put after the entries

-- the last space has one page more
pub longer_table : (parent least : ℕ) (front : List SpaceTable) (last new : SpaceTable) (at : Place) (kind : RunKind)
    → AreTables parent least (listed (front ++ last ∷ [])) → EndBefore at (listed (front ++ last ∷ [])) → last.space ≡ at.0
    → new.space ≡ last.space → new.areas.items ≡ last.areas.items
    → AreRunsOf parent (flat_map run_ways last.runs.items ++ (at.1, kind) ∷ []) new.runs.items → end_of new.runs.items ≡ at.1 + 1
    → IsPushed parent least (listed (front ++ last ∷ [])) (listed (front ++ new ∷ [])) at kind
longer_table parent least front last new at kind are ends here same_space same_areas runs end = record {
  entries = ap entries_listed (listed_put front new) ∙ entries_put (listed front) (listing_of new)
      ∙ ap (λ (l : List ImageEntry). entries_listed (listed front) ++ l) more
      ∙ sym (append_assoc (entries_listed (listed front)) (table_entries (listing_of last)) _)
      ∙ ap (λ (l : List ImageEntry). l ++ (record { place = at; kind = kind }) ∷ []) (sym (ap entries_listed (listed_put front last) ∙ entries_put (listed front) (listing_of last)));
  tables = subst (AreTables parent least) (sym (listed_put front new)) (tables_put parent least (listed front) (listing_of new) (tables_front parent least (listed front) (listing_of last) old)
      (record {
        from = subst (λ n. next_least least (listed front) ≤ n) (sym same_space) was.from;
        no_areas = same_areas ∙ was.no_areas;
        runs = runs.maximal;
        some = λ none. no_push (flat_map run_ways last.runs.items) (at.1, kind) (sym (ap (flat_map run_ways) none) ∙ runs.list);
      }));
  ends = subst (EndBefore (at.0, at.1 + 1)) (sym (listed_put front new))
      (all_put (EndsBefore (at.0, at.1 + 1)) (listed front) (listing_of new)
      (end_further at (at.0, at.1 + 1) (listed front) (one_further at) (all_front (EndsBefore at) (listed front) (listing_of last) (subst (EndBefore at) (listed_put front last) ends)))
      (inr (same_space ∙ here, (let f : end_of new.runs.items ≡ at.1 + 1 = end in omega arith))));
}
  where
    old : AreTables parent least (listed front ++ listing_of last ∷ [])
    old = subst (AreTables parent least) (listed_put front last) are

    was : IsTableFrom parent (next_least least (listed front)) (listing_of last)
    was = tables_last parent least (listed front) (listing_of last) old

    more : table_entries (listing_of new) ≡ table_entries (listing_of last) ++ (record { place = at; kind = kind }) ∷ []
    more = grind (arith, runs_entries)

-- another space begins
more_tables : (parent least : ℕ) (old new : List SpaceTable) (at : Place) (kind : RunKind) → AreTables parent least (listed old) → EndBefore at (listed old)
    → next_least least (listed old) ≤ at.0 → IsSourced parent kind → SpaceIsBegun old new at kind → IsPushed parent least (listed old) (listed new) at kind
more_tables parent least old new at kind are ends above sourced begun = record {
  entries = ap entries_listed now ∙ entries_put (listed old) (listing_of begun.table)
      ∙ ap (λ (l : List ImageEntry). entries_listed (listed old) ++ l) (entries_are begun.table.space begun.table.runs.items
      ∙ ap (map (entry_of begun.table.space)) runs.list ∙ ap (λ n. (record { place = (n, at.1); kind = kind }) ∷ []) begun.space);
  tables = subst (AreTables parent least) (sym now) (tables_put parent least (listed old) (listing_of begun.table) are (record {
    from = subst (λ n. next_least least (listed old) ≤ n) (sym begun.space) above;
    no_areas = begun.areas;
    runs = runs.maximal;
    some = λ none. no_push [] (at.1, kind) (sym (ap (flat_map run_ways) none) ∙ runs.list);
  }));
  ends = subst (EndBefore (at.0, at.1 + 1)) (sym now) (all_put (EndsBefore (at.0, at.1 + 1)) (listed old) (listing_of begun.table)
      (end_further at (at.0, at.1 + 1) (listed old) (one_further at) ends) (inr (begun.space, (let f : end_of begun.table.runs.items ≡ at.1 + 1 = begun.end in omega arith))));
}
  where
    runs : AreRunsOf parent ((at.1, kind) ∷ []) begun.table.runs.items
    runs = begun.runs parent sourced

    now : listed new ≡ listed old ++ listing_of begun.table ∷ []
    now = ap listed begun.after ∙ listed_put old begun.table

least_put : (least : ℕ) (tables : List Listed) (t : Listed) → next_least least (tables ++ t ∷ []) ≡ t.space + 1
least_put least [] t = refl
least_put least (s ∷ tables) t = least_put (s.space + 1) tables t

next_table : (parent least : ℕ) (front : List SpaceTable) (last : SpaceTable) (new : List SpaceTable) (at : Place) (kind : RunKind)
    → AreTables parent least (listed (front ++ last ∷ [])) → EndBefore at (listed (front ++ last ∷ [])) → last.space ≢ at.0
    → IsSourced parent kind → SpaceIsBegun (front ++ last ∷ []) new at kind → IsPushed parent least (listed (front ++ last ∷ [])) (listed new) at kind
next_table parent least front last new at kind are ends apart sourced begun =
    more_tables parent least (front ++ last ∷ []) new at kind are ends
    (subst (λ n. n ≤ at.0) (sym (ap (next_least least) (listed_put front last) ∙ least_put least (listed front) (listing_of last)))
    (below (all_last (EndsBefore at) (listed front) (listing_of last) (subst (EndBefore at) (listed_put front last) ends))))
    sourced begun
  where
    below : EndsBefore at (listing_of last) → last.space + 1 ≤ at.0
    below (inl less) = (let l : last.space < at.0 = less in omega arith)
    below (inr here) = absurd (apart here.0)

-- the last space ends before a place in it
pub last_ends : (front : List SpaceTable) (last : SpaceTable) (at : Place) → EndBefore at (listed (front ++ last ∷ [])) → last.space ≡ at.0 → end_of last.runs.items ≤ at.1
last_ends front last at ends here = by (all_last (EndsBefore at) (listed front) (listing_of last) (subst (EndBefore at) (listed_put front last) ends))
  where
    by : EndsBefore at (listing_of last) → end_of last.runs.items ≤ at.1
    by (inl less) = absurd (omega arith)
    by (inr there) = there.1

pub on_ok_both : {T E : Type 0} (P Q : Type 0) (r : Result T E) → OnOk r P → OnOk r Q → OnOk r (P × Q)
on_ok_both P Q (Ok x) p q = (p, q)
on_ok_both P Q (Err e) p q = tt

-- the runs of the last space
pub last_runs : (parent least : ℕ) (front : List SpaceTable) (last : SpaceTable) → AreTables parent least (listed (front ++ last ∷ [])) → AreRuns parent None last.runs.items
last_runs parent least front last are = (tables_last parent least (listed front) (listing_of last) (subst (AreTables parent least) (listed_put front last) are)).runs

-- the same spaces, with the same runs in the last
pub same_listed : (front : List SpaceTable) (last new : SpaceTable) → new.space ≡ last.space → new.areas.items ≡ last.areas.items → new.runs.items ≡ last.runs.items
    → listed (front ++ new ∷ []) ≡ listed (front ++ last ∷ [])
same_listed front last new space areas runs = listed_put front new ∙ ap (λ (t : Listed). listed front ++ t ∷ []) same ∙ sym (listed_put front last)
  where
    same : listing_of new ≡ listing_of last
    same = ap (λ n. record { space = n; areas = new.areas.items; runs = new.runs.items }) space
        ∙ ap (λ a. record { space = last.space; areas = a; runs = new.runs.items }) areas
        ∙ ap (λ r. record { space = last.space; areas = last.areas.items; runs = r }) runs

-- ---- the last table, by its place

-- what is before the last of a list, and the list with another last
record EndsAt {X : Type 0} (xs : List X) (place : ℕ) (d : X) : Type 0 where
  front : List X
  is : xs ≡ front ++ get_or xs place d ∷ []
  put : (x : X) → set xs place x ≡ front ++ x ∷ []
  got : slice_get xs place ≡ Some (get_or xs place d)

at_end : {X : Type 0} (xs : List X) (place : ℕ) (d : X) → length xs ≡ suc place → EndsAt xs place d
at_end (x ∷ []) zero d long = record { front = []; is = refl; put = λ _. refl; got = refl }
at_end (x ∷ y ∷ xs) (suc place) d long =
    let more : EndsAt (y ∷ xs) place d = at_end (y ∷ xs) place d (omega arith) in
    record {
      front = x ∷ more.front;
      is = ap (λ l. x ∷ l) more.is;
      put = λ z. ap (λ l. x ∷ l) (more.put z);
      got = more.got;
    }
at_end _ _ d long = absurd (omega arith)

-- the last of some tables is of a space
abbrev pub end_in : List SpaceTable → ℕ → Bool
end_in tables space = option_map_or (λ (last : SpaceTable). last.space == space) (slice_get tables (length tables - 1)) false

-- the last table is of the space, and stands at this place
pub record IsLast (tables : List SpaceTable) (space place : ℕ) (last : SpaceTable) : Type 0 where
  pub front : List SpaceTable
  pub is : tables ≡ front ++ last ∷ []
  pub here : last.space ≡ space
  pub put : (t : SpaceTable) → set tables place t ≡ front ++ t ∷ []

in_last : (t : SpaceTable) (tables : List SpaceTable) (space : ℕ) (last : SpaceTable)
    → end_in (t ∷ tables) space ≡ (get_or (t ∷ tables) (length tables) last).space == space
in_last t tables space last =
    let place : length (t ∷ tables) - 1 ≡ length tables = omega arith in
    ap (λ n. option_map_or (λ (l : SpaceTable). l.space == space) (slice_get (t ∷ tables) n) false) place
    ∙ ap (λ o. option_map_or (λ (l : SpaceTable). l.space == space) o false) (at_end (t ∷ tables) (length tables) last refl).got

pub last_is : (tables : List SpaceTable) (space place : ℕ) (last : SpaceTable) → place ≡ length tables - 1 → end_in tables space ≡ true
    → last ≡ get_or tables place last → IsLast tables space place last
last_is [] space place last at there read = absurd (both_ways false refl there)
last_is (t ∷ tables) space place last at there read =
    let same : place ≡ length tables = omega arith in
    let end : EndsAt (t ∷ tables) (length tables) last = at_end (t ∷ tables) (length tables) last refl in
    let now : last ≡ get_or (t ∷ tables) (length tables) last = read ∙ ap (λ n. get_or (t ∷ tables) n last) same in
    record {
      front = end.front;
      is = end.is ∙ ap (λ l. end.front ++ l ∷ []) (sym now);
      here = ap (λ (l : SpaceTable). l.space) now ∙ eqb-true (get_or (t ∷ tables) (length tables) last).space space (sym (in_last t tables space last) ∙ there);
      put = λ x. ap (λ n. set (t ∷ tables) n x) same ∙ end.put x;
    }

-- a space that isn't the last begins
pub begun_table : (parent least : ℕ) (old new : List SpaceTable) (at : Place) (kind : RunKind) → AreTables parent least (listed old) → EndBefore at (listed old)
    → end_in old at.0 ≡ false → least ≤ at.0 → IsSourced parent kind → SpaceIsBegun old new at kind → IsPushed parent least (listed old) (listed new) at kind
begun_table parent least [] new at kind are ends other above sourced begun = more_tables parent least [] new at kind tt tt above sourced begun
begun_table parent least (t ∷ tables) new at kind are ends other above sourced begun =
    let last : SpaceTable = get_or (t ∷ tables) (length tables) t in
    let end : EndsAt (t ∷ tables) (length tables) t = at_end (t ∷ tables) (length tables) t refl in
    subst (λ (l : List SpaceTable). IsPushed parent least (listed l) (listed new) at kind) (sym end.is)
    (next_table parent least end.front last new at kind
    (subst (λ (l : List SpaceTable). AreTables parent least (listed l)) end.is are)
    (subst (λ (l : List SpaceTable). EndBefore at (listed l)) end.is ends)
    (λ same. both_ways (nat_eq last.space at.0) (sym (in_last t tables at.0 t) ∙ other) (eq-eqb last.space at.0 same))
    sourced
    (subst (λ (l : List SpaceTable). SpaceIsBegun l new at kind) end.is begun))
