-- Which pages an image visits, and which it leaves to its parent.
use Rattle.std.specs.Prelude.{◌≡◌, ◌⊎◌, ℕ, Bool, true, List, [], ◌∷◌, ◌++◌, map, Contains}
use Rattle.sd_image.specs.declared.run.RunKind.TheVariants.{Data, Parent, Zero}
use Rattle.sd_image.specs.Shows.{pages_of}
use Rattle.sd_gate.specs.Requests.{Asked, Made}
use Rattle.sd_pagetable.specs.Contents.{Contents}
use Rattle.sd_rounds.specs.declared.image_order.ImageOrder.{ImageOrder}
use Rattle.sd_writing.specs.declared.written.Written.TheVariants.{More}
use Rattle.sd_rounds.specs.declared.image_step.ImageStep.{ImageStep}
use Rattle.sd_rounds.specs.declared.image_step.ImageStep.TheVariants.{Call, PageCall, TableCall, Frozen, Visited}
use Rattle.sd_rounds.specs.declared.image_step.ImageStep.TheVariants.{Copied}
use Rattle.sd_writing.specs.declared.new_image.NewImage.{NewImage}
use Rattle.sd_rounds.specs.Files.{FilesImage}
use Rattle.sd_rounds.specs.Making.{HandsIn, Making, Opens, Steps, begun_image}
use Rattle.sd_writing.specs.Files.{Pages}
use Rattle.sd_writing.specs.Entries.{Place}
use Rattle.sd_rounds.specs.Visits.{AreStillMapped, IsPassOf, PassVisits, Visit, left_pages, taken_pages, visited_page}

-- the visits of an image with those of a step
abbrev pub visits_after : ImageStep → List Visit → List Visit
visits_after (Call request) visits = visits
visits_after (PageCall lane request) visits = visits
visits_after (TableCall request) visits = visits
visits_after Frozen visits = visits
visits_after (Visited visit) visits =
    visits ++ (record { place = (visit.space, visit.page); soft_dirty = visit.soft_dirty }) ∷ []
visits_after (Copied copied) visits = visits

-- By its visits so far: exactly the clean pages are left to the parent, the others are taken, and each page that was
-- mapped all the time is visited once the cursor passed it.
pub record IsVisited (still : Place → Bool) (visits : List Visit) (image : Making) : Type 0 where
  pub pass : IsPassOf visits image.pass
  pub swept : PassVisits still visits image.pass

pub record ImageVisitLaws : Type 0 where
  pub begins : (still : Place → Bool) (order : ImageOrder) → IsVisited still [] (begun_image order)
  pub steps : (still : Place → Bool) (ticket : ℕ) (visits : List Visit) (old new : Making) (before after : Contents)
      (step : ImageStep) → Steps ticket old before step new after
      → AreStillMapped still before → IsVisited still visits old → IsVisited still (visits_after step visits) new
  pub hands : (still : Place → Bool) (visits : List Visit) (old new : Making) (made : Made) → HandsIn old made More new
      → IsVisited still visits old → IsVisited still visits new
  -- each page that is mapped from the image's start to its table is visited
  pub all : (still : Place → Bool) (ticket : ℕ) (visits : List Visit) (old new : Making) (before after : Contents)
      (request : Asked) → Steps ticket old before (TableCall request) new after
      → AreStillMapped still before → IsVisited still visits old → (at : Place) → still at ≡ true
      → Contains (map visited_page visits) at
  -- exactly the visited pages that were clean are in the table as the parent's; of an image without a parent none is
  pub parents : (still : Place → Bool) (pages : Pages) (visits : List Visit) (old : Making) (made : Made)
      (opened : NewImage) → Opens old made opened
      → FilesImage pages old → IsVisited still visits old
      → pages_of Parent opened.table ≡ left_pages old.pass.takes_all visits
  -- the others in its table are among those that were soft-dirty at their visit, or among all of an image without a
  -- parent
  pub taken : (still : Place → Bool) (pages : Pages) (visits : List Visit) (old : Making) (made : Made)
      (opened : NewImage) → Opens old made opened
      → FilesImage pages old → IsVisited still visits old → (at : Place)
      → Contains (pages_of Data opened.table) at ⊎ Contains (pages_of Zero opened.table) at
      → Contains (taken_pages old.pass.takes_all visits) at
