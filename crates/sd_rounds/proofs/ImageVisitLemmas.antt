-- Which pages an image visits, and which it leaves to its parent.
use Rattle.std.proofs.Common.{◌≡◌, ◌⊎◌, inl, inr, ℕ, Bool, true, List, [], ◌∷◌, ◌++◌, map, Contains, None, refl, sym, ◌∙◌, ap, subst, arith}
use Rattle.sd_image.specs.declared.run.RunKind.TheVariants.{Data, Parent, Zero}
use Rattle.sd_image.specs.Shows.{pages_of}
use Rattle.sd_gate.specs.Requests.{Asked, Made}
use Rattle.sd_pagetable.specs.Contents.{Contents}
use Rattle.sd_rounds.specs.declared.copied.Copied as copied
use Rattle.sd_rounds.specs.declared.copied.Copied.TheVariants.{More as MoreSectors, Zero as ZeroPage, Gone}
use Rattle.sd_rounds.specs.declared.image_order.ImageOrder.{ImageOrder}
use Rattle.sd_writing.specs.declared.written.Written.TheVariants.{More}
use Rattle.sd_rounds.specs.declared.image_step.ImageStep.{ImageStep}
use Rattle.sd_rounds.specs.declared.image_step.ImageStep.TheVariants.{PageCall, TableCall, Visited, Copied}
use Rattle.sd_writing.specs.declared.new_image.NewImage.{NewImage}
use Rattle.sd_rounds.specs.declared.stage.Stage.{Stage}
use Rattle.sd_rounds.specs.declared.visit.Visit as visit
use Rattle.sd_rounds.specs.Files.{FilesImage, IsFiled, IsFiledIn}
use Rattle.sd_rounds.specs.ImageVisits.{ImageVisitLaws, IsVisited, visits_after}
use Rattle.sd_rounds.specs.Making.{HandsIn, Making, Opens, Steps, begun_image}
use Rattle.sd_writing.specs.Files.{Pages}
use Rattle.sd_rounds.specs.Pass.{Pass, visited}
use Rattle.sd_writing.specs.Entries.{Place}
use Rattle.sd_rounds.specs.Rounds.{Copies, TakesPage, Tests}
use Rattle.sd_rounds.specs.Visits.{AreStillMapped, IsPassOf, PassVisits, Visit, VisitLaws, left_pages, taken_pages, visited_page}

-- a pass with its visits
pub record Was (still : Place → Bool) (visits : List Visit) (pass : Pass) : Type 0 where
  pub is : IsPassOf visits pass
  pub swept : PassVisits still visits pass

visited_as : (still : Place → Bool) (visits : List Visit) (image : Making) (pass : Pass) → image.pass ≡ pass → Was still visits pass → IsVisited still visits image
visited_as still visits image pass e was = grind arith

same_pass : (still : Place → Bool) (visits : List Visit) (old new : Making) → new.pass ≡ old.pass → IsVisited still visits old → IsVisited still visits new
same_pass still visits old new e was = visited_as still visits new old.pass e (record { is = was.pass; swept = was.swept })

begins : VisitLaws → (still : Place → Bool) (order : ImageOrder) → IsVisited still [] (begun_image order)
begins laws still order = grind arith

pub copies : VisitLaws → (still : Place → Bool) (visits : List Visit) (old new : Pass) (memory : Contents) (c : copied.Copied) → Copies old memory c new
    → IsPassOf visits old → PassVisits still visits old → Was still visits new
copies laws still visits old new memory MoreSectors m is swept =
    subst (λ (p : Pass). Was still visits p) (sym m.is) (record { is = laws.copies visits old m.taking _ m.next.is is; swept = swept })
copies laws still visits old new memory ZeroPage z is swept =
    subst (λ (p : Pass). Was still visits p) (sym z.is) (record { is = laws.enters_zero visits old z.taking z.next.is is; swept = swept })
copies laws still visits old new memory Gone g is swept =
    subst (λ (p : Pass). Was still visits p) (sym g.is) (record { is = laws.drops visits old is; swept = swept })

pub takes : VisitLaws → (still : Place → Bool) (visits : List Visit) (old new : Pass) (bytes : List ℕ) → TakesPage old bytes new
    → IsPassOf visits old → PassVisits still visits old → Was still visits new
takes laws still visits old new bytes t is swept =
    subst (λ (p : Pass). Was still visits p) (sym t.is) (record { is = laws.enters_data visits old t.taking t.was is; swept = swept })

pub tests : VisitLaws → (still : Place → Bool) (visits : List Visit) (old new : Pass) (before after : Contents) (visit : visit.Visit) → Tests old before visit new after
    → old.taking ≡ None → AreStillMapped still before → IsPassOf visits old → PassVisits still visits old
    → Was still (visits ++ (record { place = (visit.space, visit.page); soft_dirty = visit.soft_dirty }) ∷ []) new
tests laws still visits old new before after visit t free mapped is swept =
    subst (λ (p : Pass). Was still (visits ++ (record { place = (visit.space, visit.page); soft_dirty = visit.soft_dirty }) ∷ []) p)
    (ap (visited old (visit.space, visit.page)) t.bit ∙ sym t.is) (record {
      is = laws.visits visits old (visit.space, visit.page) visit.soft_dirty free is;
      swept = laws.visits_mapped still visits old before (visit.space, visit.page) visit.soft_dirty mapped t.next swept;
    })

steps : VisitLaws → (still : Place → Bool) (ticket : ℕ) (visits : List Visit) (old new : Making) (before after : Contents) (step : ImageStep) → Steps ticket old before step new after
    → AreStillMapped still before → IsVisited still visits old → IsVisited still (visits_after step visits) new
steps laws still ticket visits old new before after (PageCall lane request) s mapped was =
    visited_as still visits new new.pass refl (takes laws still visits old.pass new.pass request.bytes s.0.taken was.pass was.swept)
steps laws still ticket visits old new before after (Visited visit) s mapped was =
    visited_as still _ new new.pass refl (tests laws still visits old.pass new.pass before after visit s.tests s.free mapped was.pass was.swept)
steps laws still ticket visits old new before after (Copied c) s mapped was =
    visited_as still visits new new.pass refl (copies laws still visits old.pass new.pass before c s.0.copies was.pass was.swept)
steps laws still ticket visits old new before after _ s mapped was = same_pass still visits old new (ap (λ (m : Making). m.pass) s.0.is) was

hands : (still : Place → Bool) (visits : List Visit) (old new : Making) (made : Made) → HandsIn old made More new
    → IsVisited still visits old → IsVisited still visits new
hands still visits old new made given was = grind arith

all : VisitLaws → (still : Place → Bool) (ticket : ℕ) (visits : List Visit) (old new : Making) (before after : Contents) (request : Asked) → Steps ticket old before (TableCall request) new after
    → AreStillMapped still before → IsVisited still visits old → (at : Place) → still at ≡ true → Contains (map visited_page visits) at
all laws still ticket visits old new before after request s mapped was at here = laws.swept still visits old.pass before mapped s.0.over was.swept at here

parents : (still : Place → Bool) (pages : Pages) (visits : List Visit) (old : Making) (made : Made) (opened : NewImage) → Opens old made opened
    → FilesImage pages old → IsVisited still visits old → pages_of Parent opened.table ≡ left_pages old.pass.takes_all visits
parents still pages visits old made opened o files was =
    (subst (λ (s : Stage). IsFiledIn s old.order old.pass pages) o.was files).lists Parent ∙ was.pass.parents

taken : (still : Place → Bool) (pages : Pages) (visits : List Visit) (old : Making) (made : Made) (opened : NewImage) → Opens old made opened
    → FilesImage pages old → IsVisited still visits old → (at : Place) → Contains (pages_of Data opened.table) at ⊎ Contains (pages_of Zero opened.table) at
    → Contains (taken_pages old.pass.takes_all visits) at
taken still pages visits old made opened o files was at c = elim c [
  | inl d ↦ was.pass.stored at (subst (λ (l : List Place). Contains l at) (is.lists Data) d)
  | inr z ↦ was.pass.zero at (subst (λ (l : List Place). Contains l at) (is.lists Zero) z)
]
  where
    is : IsFiled old.order old.pass pages opened.header opened.table
    is = subst (λ (s : Stage). IsFiledIn s old.order old.pass pages) o.was files

pub image_visit_laws : VisitLaws → ImageVisitLaws
image_visit_laws laws = record {
  begins = begins laws;
  steps = steps laws;
  hands = hands;
  all = all laws;
  parents = parents;
  taken = taken;
}
