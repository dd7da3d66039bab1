-- Which pages a pass takes, by its visits.
use Rattle.std.specs.Prelude.{◌≡◌, ℕ, Bool, true, not, ◌||◌, List, [], ◌∷◌, ◌++◌, map, filter, Contains, Some, None}
use Rattle.std.specs.Prelude.{IsSome}
use Rattle.sd_image.specs.declared.run.RunKind.TheVariants.{Data, Parent, Zero}
use Rattle.sd_pagetable.specs.Contents.{Contents, page_at}
use Rattle.sd_pagetable.specs.Order.{IsNextPage}
use Rattle.sd_writing.specs.Entries.{Place, pages_by}
use Rattle.sd_rounds.specs.Pass.{Taking, Pass, has_passed, opened, visited, copied_more, dropped}
use Rattle.sd_rounds.specs.Pass.{with_entry}

-- a test and clear, and whether the page was soft-dirty
pub record Visit : Type 0 where
  pub place : Place
  pub soft_dirty : Bool

abbrev pub visited_page : Visit → Place
visited_page visit = visit.place

abbrev pub is_taken : Bool → Visit → Bool
is_taken takes_all visit = takes_all || visit.soft_dirty

abbrev pub taken_pages : Bool → List Visit → List Place
taken_pages takes_all visits = map visited_page (filter (is_taken takes_all) visits)

abbrev pub left_pages : Bool → List Visit → List Place
left_pages takes_all visits = map visited_page (filter (λ visit. not (is_taken takes_all visit)) visits)

-- Exactly the clean pages are left to the parent, and all others are among those that were soft-dirty (or where all are
-- taken).
pub record IsPassOf (visits : List Visit) (pass : Pass) : Type 0 where
  pub parents : pages_by Parent pass.entries ≡ left_pages pass.takes_all visits
  pub stored : (at : Place) → Contains (pages_by Data pass.entries) at → Contains (taken_pages pass.takes_all visits) at
  pub zero : (at : Place) → Contains (pages_by Zero pass.entries) at → Contains (taken_pages pass.takes_all visits) at
  pub taking : (taking : Taking) → pass.taking ≡ Some taking → Contains (taken_pages pass.takes_all visits) taking.place

-- Every page that was mapped all the time since the pass began is visited, as soon as the cursor passed it. `still`
-- gives these.
abbrev pub PassVisits : (Place → Bool) → List Visit → Pass → Type 0
PassVisits still visits pass =
    (at : Place) → still at ≡ true → has_passed pass.after at ≡ true → Contains (map visited_page visits) at

-- they are mapped
abbrev pub AreStillMapped : (Place → Bool) → Contents → Type 0
AreStillMapped still memory = (at : Place) → still at ≡ true → IsSome (page_at memory at.0 at.1)

pub record VisitLaws : Type 0 where
  pub opens : (takes_all : Bool) → IsPassOf [] (opened takes_all)
  pub visits : (visits : List Visit) (pass : Pass) (at : Place) (soft_dirty : Bool) → pass.taking ≡ None
      → IsPassOf visits pass
      → IsPassOf (visits ++ (record { place = at; soft_dirty = soft_dirty }) ∷ []) (visited pass at soft_dirty)
  pub copies : (visits : List Visit) (pass : Pass) (taking : Taking) (more : List ℕ) → pass.taking ≡ Some taking
      → IsPassOf visits pass → IsPassOf visits (copied_more pass taking more)
  pub drops : (visits : List Visit) (pass : Pass) → IsPassOf visits pass → IsPassOf visits (dropped pass)
  pub enters_data : (visits : List Visit) (pass : Pass) (taking : Taking) → pass.taking ≡ Some taking
      → IsPassOf visits pass → IsPassOf visits (with_entry pass taking.place Data)
  pub enters_zero : (visits : List Visit) (pass : Pass) (taking : Taking) → pass.taking ≡ Some taking
      → IsPassOf visits pass → IsPassOf visits (with_entry pass taking.place Zero)
  pub visits_mapped : (still : Place → Bool) (visits : List Visit) (pass : Pass) (memory : Contents) (at : Place)
      (soft_dirty : Bool) → AreStillMapped still memory
      → IsNextPage memory.spaces pass.after (Some at) → PassVisits still visits pass
      → PassVisits still (visits ++ (record { place = at; soft_dirty = soft_dirty }) ∷ []) (visited pass at soft_dirty)
  pub swept : (still : Place → Bool) (visits : List Visit) (pass : Pass) (memory : Contents)
      → AreStillMapped still memory
      → IsNextPage memory.spaces pass.after None
      → PassVisits still visits pass → (at : Place) → still at ≡ true → Contains (map visited_page visits) at
