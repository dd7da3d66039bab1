-- Which pages a pass takes, by its visits.
use Rattle.std.proofs.Common.{◌≡◌, ℕ, Bool, true, false, not, cond, ◌||◌, List, [], ◌∷◌, ◌++◌, map, Contains, Option, Some, None, refl, sym, ◌∙◌, ap, subst, inl, inr, arith}
use Rattle.std.specs.Prelude.{filter}
use Rattle.std.proofs.lemmas.List.{map-append, append-nil}
use Rattle.std.proofs.lemmas.List.Elements.{filter-append, Contains-append_left, Contains-push, Contains-push_cases}
use Rattle.sd_image.specs.declared.run.RunKind.TheVariants.{Data, Parent, Zero}
use Rattle.sd_pagetable.specs.Contents.{Contents}
use Rattle.sd_pagetable.specs.Order.{IsNextPage}
use Rattle.sd_writing.specs.Entries.{Place, ImageEntry, pages_by}
use Rattle.sd_rounds.specs.Pass.{Taking, Pass, has_passed, opened, visited, begun_to_take, left_to_parent, copied_more, dropped, with_entry}
use Rattle.sd_rounds.specs.Visits.{Visit, visited_page, is_taken, taken_pages, left_pages, IsPassOf, PassVisits, AreStillMapped, VisitLaws}
use Rattle.sd_rounds.proofs.Clean.{no_some, one_some}
use Rattle.sd_rounds.proofs.Lists.{put_after}
use Rattle.sd_writing.proofs.EntryLemmas.{pages_append}
use Rattle.sd_rounds.proofs.Orders.{passed_next, passed_all}

abbrev with_visit : List Visit → Place → Bool → List Visit
with_visit visits at soft_dirty = visits ++ (record { place = at; soft_dirty = soft_dirty }) ∷ []

taken_more : (takes_all : Bool) (visits : List Visit) (at : Place) (soft_dirty : Bool)
    → taken_pages takes_all (with_visit visits at soft_dirty) ≡ taken_pages takes_all visits ++ cond (takes_all || soft_dirty) (at ∷ []) []
taken_more takes_all visits at soft_dirty =
    ap (map visited_page) (filter-append (is_taken takes_all) visits _)
    ∙ map-append visited_page (filter (is_taken takes_all) visits) _
    ∙ ap (λ l. taken_pages takes_all visits ++ l) (by (takes_all || soft_dirty))
  where
    by : (b : Bool) → map visited_page (cond b ((record { place = at; soft_dirty = soft_dirty }) ∷ []) []) ≡ cond b (at ∷ []) []
    by true = refl
    by false = refl

left_more : (takes_all : Bool) (visits : List Visit) (at : Place) (soft_dirty : Bool)
    → left_pages takes_all (with_visit visits at soft_dirty) ≡ left_pages takes_all visits ++ cond (takes_all || soft_dirty) [] (at ∷ [])
left_more takes_all visits at soft_dirty =
    ap (map visited_page) (filter-append (λ visit. not (is_taken takes_all visit)) visits _)
    ∙ map-append visited_page (filter (λ visit. not (is_taken takes_all visit)) visits) _
    ∙ ap (λ l. left_pages takes_all visits ++ l) (by (takes_all || soft_dirty))
  where
    by : (b : Bool) → map visited_page (cond (not b) ((record { place = at; soft_dirty = soft_dirty }) ∷ []) []) ≡ cond b [] (at ∷ [])
    by true = refl
    by false = refl

-- the pages of a kind, with an entry of another kind more
still_data : (entries : List ImageEntry) (at : Place) → pages_by Data (put_after entries at Parent) ≡ pages_by Data entries
still_data entries at = pages_append Data entries _ ∙ append-nil (pages_by Data entries)

still_zero : (entries : List ImageEntry) (at : Place) → pages_by Zero (put_after entries at Parent) ≡ pages_by Zero entries
still_zero entries at = pages_append Zero entries _ ∙ append-nil (pages_by Zero entries)

opens : (takes_all : Bool) → IsPassOf [] (opened takes_all)
opens takes_all = grind arith

visits : (visits : List Visit) (pass : Pass) (at : Place) (soft_dirty : Bool) → pass.taking ≡ None → IsPassOf visits pass
    → IsPassOf (with_visit visits at soft_dirty) (visited pass at soft_dirty)
visits before pass at soft_dirty none is = by (pass.takes_all || soft_dirty) refl
  where
    after : List Visit
    after = with_visit before at soft_dirty

    still_taken : (q : Place) → Contains (taken_pages pass.takes_all before) q → Contains (taken_pages pass.takes_all after) q
    still_taken q c = subst (λ l. Contains l q) (sym (taken_more pass.takes_all before at soft_dirty)) (Contains-append_left (taken_pages pass.takes_all before) _ q c)

    now_taken : (pass.takes_all || soft_dirty) ≡ true → taken_pages pass.takes_all after ≡ taken_pages pass.takes_all before ++ at ∷ []
    now_taken e = taken_more pass.takes_all before at soft_dirty ∙ ap (λ b. taken_pages pass.takes_all before ++ cond b (at ∷ []) []) e

    began : Taking
    began = record { place = at; copied = [] }

    by : (b : Bool) → (pass.takes_all || soft_dirty) ≡ b → IsPassOf after (cond b (begun_to_take pass at) (left_to_parent pass at))
    by true e = record {
      parents = is.parents ∙ sym (left_more pass.takes_all before at soft_dirty
          ∙ ap (λ b. left_pages pass.takes_all before ++ cond b [] (at ∷ [])) e ∙ append-nil (left_pages pass.takes_all before));
      stored = λ q c. still_taken q (is.stored q c);
      zero = λ q c. still_taken q (is.zero q c);
      taking = λ taking t. subst (λ (x : Taking). Contains (taken_pages pass.takes_all after) x.place) (one_some began taking refl t)
          (subst (λ l. Contains l at) (sym (now_taken e)) (Contains-push (taken_pages pass.takes_all before) at));
    }
    by false e = record {
      parents = pages_append Parent pass.entries _ ∙ ap (λ l. l ++ at ∷ []) is.parents
          ∙ sym (left_more pass.takes_all before at soft_dirty ∙ ap (λ b. left_pages pass.takes_all before ++ cond b [] (at ∷ [])) e);
      stored = λ q c. still_taken q (is.stored q (subst (λ l. Contains l q) (still_data pass.entries at) c));
      zero = λ q c. still_taken q (is.zero q (subst (λ l. Contains l q) (still_zero pass.entries at) c));
      taking = λ taking t. absurd (no_some taking refl t);
    }

copies : (visits : List Visit) (pass : Pass) (taking : Taking) (more : List ℕ) → pass.taking ≡ Some taking → IsPassOf visits pass → IsPassOf visits (copied_more pass taking more)
copies visits pass taking more was is = grind arith

drops : (visits : List Visit) (pass : Pass) → IsPassOf visits pass → IsPassOf visits (dropped pass)
drops visits pass is = grind arith

-- one page more is among some pages
one_more : (pages old : List Place) (at : Place) → Contains pages at → ((q : Place) → Contains old q → Contains pages q)
    → (q : Place) → Contains (old ++ at ∷ []) q → Contains pages q
one_more pages old at here was q c = elim (Contains-push_cases old at q c) [
  | inl before ↦ was q before
  | inr e ↦ subst (λ (p : Place). Contains pages p) e here
]

enters_data : (visits : List Visit) (pass : Pass) (taking : Taking) → pass.taking ≡ Some taking → IsPassOf visits pass → IsPassOf visits (with_entry pass taking.place Data)
enters_data visits pass taking was is = record {
  parents = pages_append Parent pass.entries _ ∙ append-nil (pages_by Parent pass.entries) ∙ is.parents;
  stored = λ q c. one_more (taken_pages pass.takes_all visits) (pages_by Data pass.entries) taking.place (is.taking taking was) is.stored q
      (subst (λ l. Contains l q) (pages_append Data pass.entries _) c);
  zero = λ q c. is.zero q (subst (λ l. Contains l q) (pages_append Zero pass.entries _ ∙ append-nil (pages_by Zero pass.entries)) c);
  taking = λ other t. absurd (no_some other refl t);
}

enters_zero : (visits : List Visit) (pass : Pass) (taking : Taking) → pass.taking ≡ Some taking → IsPassOf visits pass → IsPassOf visits (with_entry pass taking.place Zero)
enters_zero visits pass taking was is = record {
  parents = pages_append Parent pass.entries _ ∙ append-nil (pages_by Parent pass.entries) ∙ is.parents;
  stored = λ q c. is.stored q (subst (λ l. Contains l q) (pages_append Data pass.entries _ ∙ append-nil (pages_by Data pass.entries)) c);
  zero = λ q c. one_more (taken_pages pass.takes_all visits) (pages_by Zero pass.entries) taking.place (is.taking taking was) is.zero q
      (subst (λ l. Contains l q) (pages_append Zero pass.entries _) c);
  taking = λ other t. absurd (no_some other refl t);
}

-- ---- every page that is there all the time is visited

visited_more : (visits : List Visit) (at : Place) (soft_dirty : Bool) → map visited_page (with_visit visits at soft_dirty) ≡ map visited_page visits ++ at ∷ []
visited_more visits at soft_dirty = map-append visited_page visits _

pub cursor : (pass : Pass) (at : Place) (soft_dirty : Bool) → (visited pass at soft_dirty).after ≡ Some at
cursor pass at soft_dirty = by (pass.takes_all || soft_dirty)
  where
    by : (b : Bool) → (cond b (begun_to_take pass at) (left_to_parent pass at)).after ≡ Some at
    by true = refl
    by false = refl

visits_mapped : (still : Place → Bool) (visits : List Visit) (pass : Pass) (memory : Contents) (at : Place) (soft_dirty : Bool) → AreStillMapped still memory
    → IsNextPage memory.spaces pass.after (Some at) → PassVisits still visits pass → PassVisits still (with_visit visits at soft_dirty) (visited pass at soft_dirty)
visits_mapped still visits pass memory at soft_dirty mapped next was = λ q is passed.
    subst (λ l. Contains l q) (sym (visited_more visits at soft_dirty))
    (elim (passed_next memory.spaces pass.after at q next (mapped q is) (subst (λ (a : Option Place). has_passed a q ≡ true) (cursor pass at soft_dirty) passed)) [
      | inl e ↦ subst (λ (p : Place). Contains (map visited_page visits ++ at ∷ []) p) e (Contains-push (map visited_page visits) at)
      | inr before ↦ Contains-append_left (map visited_page visits) (at ∷ []) q (was q is before)
    ])

swept : (still : Place → Bool) (visits : List Visit) (pass : Pass) (memory : Contents) → AreStillMapped still memory → IsNextPage memory.spaces pass.after None
    → PassVisits still visits pass → (at : Place) → still at ≡ true → Contains (map visited_page visits) at
swept still visits pass memory mapped next was at is = was at is (passed_all memory.spaces pass.after at next (mapped at is))

pub visit_laws : VisitLaws
visit_laws = record {
  opens = opens;
  visits = visits;
  copies = copies;
  drops = drops;
  enters_data = enters_data;
  enters_zero = enters_zero;
  visits_mapped = visits_mapped;
  swept = swept;
}
