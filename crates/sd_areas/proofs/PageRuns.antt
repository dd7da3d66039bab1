-- The areas of a snapshot's space, page by page.
use Rattle.std.proofs.Common.{◌≡◌, ℕ, ◌+◌, ◌<◌, ◌≤◌, Bool, true, cond, List, [], ◌∷◌, map, Option, Some, None, ap, sym, subst, ◌∙◌, arith}
use Rattle.std.specs.Prelude.{if◌then◌else◌}
use Rattle.std.specs.declared.cmp.Ordering.TheVariants.{Less}
use Rattle.std.specs.Ordering.{nat_cmp, eq_by_cmp}
use Rattle.std.specs.Cmp.{nat_cmp_total}
use Rattle.std.specs.Map.{keys_of}
use Rattle.std.specs.List.Sorted.{IsStrictlySortedBy}
use Rattle.std.proofs.lemmas.Bool.Decides.{nat_tests}
use Rattle.std.specs.FinMap.{find, get-from_entries}
use Rattle.sd_areas.specs.declared.area.Area.{Area}
use Rattle.sd_areas.specs.declared.prot.Prot.{Prot}
use Rattle.sd_areas.specs.declared.snapshot_page.SnapshotPage.{SnapshotPage}
use Rattle.sd_areas.specs.Pages.{is_within}
use Rattle.sd_areas.specs.Areas.{prot_in, AreMaximal, AreAreasOf}
use Rattle.sd_areas.specs.Runs.{end_of_all}
use Rattle.sd_areas.specs.Memory.{snapshot_prots}
use Rattle.sd_areas.proofs.Maximal.{none_stands_after}
use Rattle.sd_areas.proofs.Entries.{one_page}

abbrev pub FirstFrom : ℕ → List (ℕ × SnapshotPage) → Type 0
FirstFrom end [] = Unit {0}
FirstFrom end (e ∷ es) = end ≤ e.0

or_else : Option Prot → Option Prot → Option Prot
or_else None o = o
or_else (Some p) o = Some p

prot_entries : List (ℕ × SnapshotPage) → List (ℕ × Prot)
prot_entries es = map (λ e. (e.0, e.1.prot)) es

-- the areas of the pages before the rest
pub record IsBuilt (all rest : List (ℕ × SnapshotPage)) (areas : List Area) : Type 0 where
  maximal : AreMaximal None areas
  behind : FirstFrom (end_of_all areas) rest
  rises : IsStrictlySortedBy nat_cmp (keys_of rest)
  same : (q : ℕ) → find nat_cmp q (prot_entries all) ≡ or_else (prot_in areas q) (find nat_cmp q (prot_entries rest))

first_from_zero : (es : List (ℕ × SnapshotPage)) → FirstFrom 0 es
first_from_zero es = grind arith

pub built_none : (all rest : List (ℕ × SnapshotPage)) (areas : List Area) → rest ≡ all → areas ≡ [] → IsStrictlySortedBy nat_cmp (keys_of all) → IsBuilt all rest areas
unfolding or_else
built_none all rest areas e f sorted = grind arith

less_than : (a b : ℕ) → nat_cmp a b ≡ Less → a < b
less_than a b e = grind (arith, nat_tests)

next_from : (e : ℕ × SnapshotPage) (es : List (ℕ × SnapshotPage)) → IsStrictlySortedBy nat_cmp (keys_of (e ∷ es)) → FirstFrom (e.0 + 1) es
unfolding IsStrictlySortedBy
next_from e es h = grind arith

rest_rises : (e : ℕ × SnapshotPage) (es : List (ℕ × SnapshotPage)) → IsStrictlySortedBy nat_cmp (keys_of (e ∷ es)) → IsStrictlySortedBy nat_cmp (keys_of es)
unfolding IsStrictlySortedBy
rest_rises e es h = h.1

moved : (b : Bool) (was rest : Option Prot) (p : Prot) → (b ≡ true → was ≡ None) → or_else was (cond b (Some p) rest) ≡ or_else (cond b (Some p) was) rest
unfolding or_else
moved b was rest p h = grind arith

tie_le : (q page : ℕ) → eq_by_cmp nat_cmp q page ≡ true → page ≤ q
tie_le q page t = grind (arith, nat_tests)

pub built_next : (all rest left : List (ℕ × SnapshotPage)) (areas new : List Area) (page : ℕ) (found : SnapshotPage) → IsBuilt all rest areas → rest ≡ (page, found) ∷ left →
    AreMaximal None new → end_of_all new ≡ page + 1 → ((q : ℕ) → prot_in new q ≡ (if is_within page 1 q then Some found.prot else prot_in areas q)) → IsBuilt all left new
unfolding prot_entries
built_next all rest left areas new page found h e m ends same =
    let rises = subst (λ (es : List (ℕ × SnapshotPage)). IsStrictlySortedBy nat_cmp (keys_of es)) e h.rises in
    let behind : end_of_all areas ≤ page = subst (FirstFrom (end_of_all areas)) e h.behind in
    record {
      maximal = m;
      behind = rw ends (next_from (page, found) left rises);
      rises = rest_rises (page, found) left rises;
      same = λ q.
          h.same q ∙ ap (λ es. or_else (prot_in areas q) (find nat_cmp q (prot_entries es))) e
          ∙ moved (eq_by_cmp nat_cmp q page) (prot_in areas q) (find nat_cmp q (prot_entries left)) found.prot (λ t. none_stands_after None areas q h.maximal (omega (arith, tie_le q page t)))
          ∙ ap (λ b. or_else (cond b (Some found.prot) (prot_in areas q)) (find nat_cmp q (prot_entries left))) (sym (one_page page q))
          ∙ ap (λ o. or_else o (find nat_cmp q (prot_entries left))) (sym (same q));
    }

pub built_maximal : (all rest : List (ℕ × SnapshotPage)) (areas : List Area) → IsBuilt all rest areas → AreMaximal None areas
built_maximal all rest areas h = h.maximal

pub built_after : (all rest left : List (ℕ × SnapshotPage)) (areas : List Area) (page : ℕ) (found : SnapshotPage) → IsBuilt all rest areas → rest ≡ (page, found) ∷ left → end_of_all areas ≤ page
built_after all rest left areas page found h e = subst (FirstFrom (end_of_all areas)) e h.behind

nothing_else : (o : Option Prot) → or_else o None ≡ o
unfolding or_else
nothing_else o = grind arith

pub built_all : (all rest : List (ℕ × SnapshotPage)) (areas : List Area) → IsBuilt all rest areas → rest ≡ [] → AreAreasOf (snapshot_prots all) areas
unfolding snapshot_prots prot_entries
built_all all rest areas h e = record {
  maximal = h.maximal;
  same = λ q. sym (get-from_entries nat_cmp_total _ q ∙ h.same q ∙ ap (λ es. or_else (prot_in areas q) (find nat_cmp q (prot_entries es))) e ∙ nothing_else (prot_in areas q));
}
