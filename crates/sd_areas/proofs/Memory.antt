-- Snapshots as plain memory.
use Rattle.std.proofs.Common.{◌≡◌, ℕ, Bool, true, cond, List, [], ◌∷◌, map, Option, Some, None, refl, ap, sym, ◌∙◌, inl, inr, arith}
use Rattle.std.specs.Prelude.{Result, Ok, Err, OnErr, unwrap_or, IsSome, is_some, IsTrue}
use Rattle.std.specs.Option.{option_map}
use Rattle.std.specs.Ordering.{nat_cmp, eq_by_cmp}
use Rattle.std.specs.Cmp.{nat_cmp_total}
use Rattle.std.proofs.lemmas.Cmp.{eq_by_cmp_equiv}
use Rattle.std.proofs.lemmas.Bool.{cases_eq, both_ways, cases_Bool, cond-true, cond-false}
use Rattle.std.specs.FinMap as finmap
use Rattle.std.specs.FinMap.{find, same_map, get-insert, get-from_entries, nat_cmp-IsAntisymmetric}
use Rattle.std.specs.BTreeMap.{BTreeMap, is_at}
use Rattle.std.specs.Map.{lookup}
use Rattle.sd_areas.specs.declared.snapshot_page.SnapshotPage.{SnapshotPage}
use Rattle.sd_areas.specs.declared.snapshot.Snapshot.{Snapshot}
use Rattle.sd_areas.specs.PlainMemory.{Space, PlainMemory}
use Rattle.sd_areas.specs.Memory.{memory_of, space_of, page_of_snapshot, put_page}
use Rattle.sd_areas.proofs.PagesOf.{tied, untied}

pub empty_memory : (es : List (ℕ × BTreeMap ℕ SnapshotPage)) → es ≡ [] → ◌≡◌ {A = PlainMemory} (finmap.from_entries (map (λ e. (e.0, space_of e.1.entries)) es)) finmap.empty
empty_memory es e = ap (λ l. finmap.from_entries {R = nat_cmp} (map (λ e. (e.0, space_of e.1.entries)) l)) e

module _ {X Y : Type 0} (f : X → Y) where
  -- the map of entries whose values are seen through f
  abbrev pub seen : List (ℕ × X) → finmap.FinMap nat_cmp Y
  seen es = finmap.from_entries (map (λ e. (e.0, f e.1)) es)

  mapped_cond : (b : Bool) (x : X) (o : Option X) → cond b (Some (f x)) (option_map f o) ≡ option_map f (cond b (Some x) o)
  mapped_cond b x o = grind arith

  find_lookup : (es : List (ℕ × X)) (q : ℕ) → find nat_cmp q (map (λ e. (e.0, f e.1)) es) ≡ option_map f (lookup (is_at (nat_cmp q)) es)
  find_lookup [] q = refl
  find_lookup (e ∷ es) q = ap (cond (eq_by_cmp nat_cmp q e.0) (Some (f e.1))) (find_lookup es q) ∙ mapped_cond (eq_by_cmp nat_cmp q e.0) e.1 (lookup (is_at (nat_cmp q)) es)

  pub get_seen : (es : List (ℕ × X)) (q : ℕ) → finmap.get (seen es) q ≡ option_map f (lookup (is_at (nat_cmp q)) es)
  get_seen es q = get-from_entries nat_cmp_total _ q ∙ find_lookup es q

  -- an entry that was put, seen as one that was put
  pub seen_put : (old new : List (ℕ × X)) (k : ℕ) (v : X) → ((q : ℕ) → lookup (is_at (nat_cmp q)) new ≡ cond (is_at (nat_cmp k) q) (Some v) (lookup (is_at (nat_cmp q)) old)) → seen new ≡ finmap.insert (seen old) k (f v)
  seen_put old new k v is = same_map nat_cmp_total nat_cmp-IsAntisymmetric _ _ (λ q.
      get_seen new q ∙ ap (option_map f) (is q)
      ∙ sym (mapped_cond (is_at (nat_cmp k) q) v (lookup (is_at (nat_cmp q)) old))
      ∙ ap (λ b. cond b (Some (f v)) (option_map f (lookup (is_at (nat_cmp q)) old))) ((eq_by_cmp_equiv nat_cmp_total).symm k q)
      ∙ ap (cond (eq_by_cmp nat_cmp q k) (Some (f v))) (sym (get_seen old q))
      ∙ sym (get-insert nat_cmp_total (seen old) k (f v) q))

tie : (q k : ℕ) → eq_by_cmp nat_cmp q k ≡ true → q ≡ k
tie q k t = elim (cases_eq q k) [ inl e ↦ e | inr n ↦ absurd (both_ways _ (untied q k n) t) ]

-- what is there, put again
pub put_again : {Y : Type 0} (m : finmap.FinMap nat_cmp Y) (k : ℕ) (v : Y) → finmap.get m k ≡ Some v → finmap.insert m k v ≡ m
put_again {Y} m k v e = same_map nat_cmp_total nat_cmp-IsAntisymmetric _ _ (λ q.
    get-insert nat_cmp_total m k v q ∙ (elim (cases_Bool (eq_by_cmp nat_cmp q k)) [
      | inl t ↦ (
          let same : q ≡ k = tie q k t in
          cond-true _ _ _ t ∙ sym e ∙ ap (finmap.get m) (sym same))
      | inr f ↦ cond-false _ _ _ f
    ]))

pub on_err : {A E : Type 0} (r : Result A E) (P : Type 0) → P → OnErr r P
on_err (Ok x) P p = tt
on_err (Err e) P p = p

-- ---- a snapshot's calls
pub space_added : (old new : Snapshot) (k : ℕ) (v : BTreeMap ℕ SnapshotPage) → v.entries ≡ [] →
    ((q : ℕ) → lookup (is_at (nat_cmp q)) new.spaces.entries ≡ cond (is_at (nat_cmp k) q) (Some v) (lookup (is_at (nat_cmp q)) old.spaces.entries)) →
    memory_of new ≡ finmap.insert (memory_of old) k finmap.empty
unfolding memory_of space_of
space_added old new k v none is =
    seen_put (λ (m : BTreeMap ℕ SnapshotPage). space_of m.entries) old.spaces.entries new.spaces.entries k v is
    ∙ ap (λ s. finmap.insert (memory_of old) k s) (ap space_of none)

pub same_memory : (old new : Snapshot) → new.spaces.entries ≡ old.spaces.entries → memory_of new ≡ memory_of old
unfolding memory_of
same_memory old new e = ap (λ (es : List (ℕ × BTreeMap ℕ SnapshotPage)). seen (λ (m : BTreeMap ℕ SnapshotPage). space_of m.entries) es) e

-- the space that a look-up found
found_space : (old : Snapshot) (k : ℕ) (was : BTreeMap ℕ SnapshotPage) → Some was ≡ lookup (is_at (nat_cmp k)) old.spaces.entries → finmap.get (memory_of old) k ≡ Some (space_of was.entries)
unfolding memory_of
found_space old k was e = get_seen (λ (m : BTreeMap ℕ SnapshotPage). space_of m.entries) old.spaces.entries k ∙ ap (option_map (λ (m : BTreeMap ℕ SnapshotPage). space_of m.entries)) (sym e)

page_put_in : (was now : BTreeMap ℕ SnapshotPage) (page : ℕ) (v : SnapshotPage) →
    ((q : ℕ) → lookup (is_at (nat_cmp q)) now.entries ≡ cond (is_at (nat_cmp page) q) (Some v) (lookup (is_at (nat_cmp q)) was.entries)) →
    space_of now.entries ≡ finmap.insert (space_of was.entries) page (page_of_snapshot v)
unfolding space_of
page_put_in was now page v is = seen_put page_of_snapshot was.entries now.entries page v is

space_written : (old new : Snapshot) (k : ℕ) (now : BTreeMap ℕ SnapshotPage) →
    ((q : ℕ) → lookup (is_at (nat_cmp q)) new.spaces.entries ≡ cond (is_at (nat_cmp k) q) (Some now) (lookup (is_at (nat_cmp q)) old.spaces.entries)) →
    memory_of new ≡ finmap.insert (memory_of old) k (space_of now.entries)
unfolding memory_of
space_written old new k now is = seen_put (λ (m : BTreeMap ℕ SnapshotPage). space_of m.entries) old.spaces.entries new.spaces.entries k now is

pub page_put : (old new : Snapshot) (k page : ℕ) (was now : BTreeMap ℕ SnapshotPage) (v : SnapshotPage) → Some was ≡ lookup (is_at (nat_cmp k)) old.spaces.entries →
    ((q : ℕ) → lookup (is_at (nat_cmp q)) new.spaces.entries ≡ cond (is_at (nat_cmp k) q) (Some now) (lookup (is_at (nat_cmp q)) old.spaces.entries)) →
    ((q : ℕ) → lookup (is_at (nat_cmp q)) now.entries ≡ cond (is_at (nat_cmp page) q) (Some v) (lookup (is_at (nat_cmp q)) was.entries)) →
    memory_of new ≡ put_page (memory_of old) k page (page_of_snapshot v)
page_put old new k page was now v found outer inner =
    space_written old new k now outer
    ∙ ap (finmap.insert (memory_of old) k) (page_put_in was now page v inner)
    ∙ ap (λ o. finmap.insert (memory_of old) k (finmap.insert (unwrap_or o finmap.empty) page (page_of_snapshot v))) (sym (found_space old k was found))

pub page_kept : (old new : Snapshot) (k : ℕ) (was now : BTreeMap ℕ SnapshotPage) → Some was ≡ lookup (is_at (nat_cmp k)) old.spaces.entries →
    ((q : ℕ) → lookup (is_at (nat_cmp q)) new.spaces.entries ≡ cond (is_at (nat_cmp k) q) (Some now) (lookup (is_at (nat_cmp q)) old.spaces.entries)) →
    now.entries ≡ was.entries → memory_of new ≡ memory_of old
page_kept old new k was now found outer e =
    space_written old new k now outer
    ∙ put_again (memory_of old) k (space_of now.entries) (found_space old k was found ∙ ap (λ es. Some (space_of es)) (sym e))

pub no_space : (old : Snapshot) (k : ℕ) → None ≡ lookup (is_at (nat_cmp k)) old.spaces.entries → IsTrue (finmap.contains_key (memory_of old) k) → ⊥
unfolding memory_of
no_space old k e h =
    let none = get_seen (λ (m : BTreeMap ℕ SnapshotPage). space_of m.entries) old.spaces.entries k ∙ ap (option_map (λ (m : BTreeMap ℕ SnapshotPage). space_of m.entries)) (sym e) in
    both_ways _ (ap is_some none) h

pub is_there : (o : Option (BTreeMap ℕ SnapshotPage)) (v : BTreeMap ℕ SnapshotPage) → Some v ≡ o → IsSome o
is_there o v e = ap is_some (sym e)

pub memory_shows : (snapshot : Snapshot) (space page : ℕ) →
    (finmap.get (memory_of snapshot) space ≡ option_map (λ pages. space_of pages.entries) (lookup (is_at (nat_cmp space)) snapshot.spaces.entries))
    × ((pages : BTreeMap ℕ SnapshotPage) → finmap.get (space_of pages.entries) page ≡ option_map page_of_snapshot (lookup (is_at (nat_cmp page)) pages.entries))
unfolding memory_of space_of
memory_shows snapshot space page = (
  get_seen (λ (m : BTreeMap ℕ SnapshotPage). space_of m.entries) snapshot.spaces.entries space,
  λ pages. get_seen page_of_snapshot pages.entries page,
)

-- a space that was put is there
pub space_there : (memory new : PlainMemory) (k : ℕ) (space : Space) → new ≡ finmap.insert memory k space → IsTrue (finmap.contains_key new k)
space_there memory new k space e = ap is_some (ap (λ m. finmap.get m k) e ∙ get-insert nat_cmp_total memory k space k ∙ cond-true _ _ _ (tied k k refl))
