-- Which pages an image takes, whatever its file holds.
use Rattle.std.proofs.Common.{◌≡◌, ◌↔◌, ℕ, ◌*◌, ◌<◌, Bool, true, false, cond, nat_eq, ◌||◌, List, [], ◌∷◌, ◌++◌, length, Contains, Some, None, refl, sym, ◌∙◌, ap, subst, arith}
use Rattle.std.proofs.lemmas.Bool.{both_ways}
use Rattle.std.proofs.lemmas.List.{take_all}
use Rattle.sd_image.specs.declared.header.Kind.{Kind}
use Rattle.sd_image.specs.declared.header.Kind.TheVariants.{Dump, Merged, PreDump}
use Rattle.sd_image.specs.declared.run.RunKind.{RunKind}
use Rattle.sd_image.specs.declared.run.RunKind.TheVariants.{Data, Parent, Zero}
use Rattle.sd_image.specs.Shows.{pages_of}
use Rattle.sd_gate.specs.Plans.{Planned, plan_after}
use Rattle.sd_gate.specs.Requests.{Asked, Made}
use Rattle.sd_gate.specs.Sequences.{Calls}
use Rattle.sd_pagetable.specs.Contents.{Contents, page_at, plain_of}
use Rattle.sd_pagetable.specs.Law.{PlainLaw}
use Rattle.sd_pagetable.specs.Page.{PageState}
use Rattle.sd_rounds.specs.declared.copied.Copied as copied
use Rattle.sd_rounds.specs.declared.copied.Copied.TheVariants.{More as MoreSectors, Zero as ZeroPage, Gone}
use Rattle.sd_rounds.specs.declared.visit.Visit as visit
use Rattle.sd_rounds.specs.declared.image_order.ImageOrder.{ImageOrder}
use Rattle.sd_writing.specs.declared.written.Written.TheVariants.{More}
use Rattle.sd_rounds.specs.declared.image_step.ImageStep.{ImageStep}
use Rattle.sd_rounds.specs.declared.image_step.ImageStep.TheVariants.{Call, PageCall, TableCall, Frozen, Visited, Copied}
use Rattle.sd_writing.specs.declared.new_image.NewImage.{NewImage}
use Rattle.sd_rounds.specs.declared.stage.Stage.{Stage}
use Rattle.sd_rounds.specs.declared.stage.Stage.TheVariants.{Pass as PassStage, Close}
use Rattle.sd_rounds.specs.Dump.{DumpLaws, IsDumping, WasToBeTaken, right_kind, kind_of_bytes}
use Rattle.sd_rounds.specs.ImageVisits.{visits_after}
use Rattle.sd_rounds.specs.LittleWork.{HasWays, IsFrontOf, IsTaking, ListsIn, LittleLaws, TakesAsItMust, TakesAsItMustIn, TakesVisited, TookVisited}
use Rattle.sd_writing.specs.Entries.{Lists, ImageEntry, Place, pages_by}
use Rattle.sd_rounds.specs.Making.{HandsIn, HasTable, Making, Opens, PlanGoesOn, Steps, WritesTable, begun_image, closing_outcomes, is_past_freeze, stage_after, stage_when_done, with_plan}
use Rattle.sd_rounds.specs.Pass.{Pass, Taking, begun_to_take, copied_more, left_to_parent, opened, sector_of, taken_as_zero, with_entry}
use Rattle.sd_rounds.specs.Rises.{IsRising, RisesLaws, kind_at}
use Rattle.sd_rounds.specs.Rounds.{Copies, IsNextSector, TakesPage, Tests}
use Rattle.sd_rounds.specs.Steps.{StepLaws}
use Rattle.sd_rounds.specs.Visits.{AreStillMapped, IsPassOf, PassVisits, Visit, VisitLaws}
use Rattle.sd_rounds.proofs.Clean.{no_some, one_some}
use Rattle.sd_rounds.proofs.DumpLemmas.{ends_ways, enters_same, zeros_are_zero}
use Rattle.sd_rounds.proofs.FileLemmas.{are_the_pages}
use Rattle.sd_rounds.proofs.ImageVisitLemmas.{copies, takes, tests}
use Rattle.sd_rounds.proofs.KeepsLemmas.{long_zeros}
use Rattle.sd_rounds.proofs.Lists.{front_more}
use Rattle.sd_rounds.proofs.MakingLemmas.{none_closing}
use Rattle.sd_rounds.proofs.StepLemmas.{is_data}
use Rattle.sd_rounds.proofs.WayLemmas.{way}

-- ---- the page that is being taken

-- nothing was copied yet
none_copied : (page : PageState) → IsFrontOf page []
none_copied page = record { front = refl; full = λ long. absurd (omega (arith, long)) }

-- no page is being taken
none_taking : (cut : Contents) (pass : Pass) (memory : Contents) → pass.taking ≡ None → IsDumping cut pass memory → IsTaking cut pass memory
none_taking cut pass memory none dumping = record { dumping = dumping; copied = λ taking page is there. absurd (no_some taking none is) }

more_front : (page : PageState) (copied bytes : List ℕ) (sector : ℕ) → bytes ≡ page.bytes → length bytes ≡ 4096 → sector < 8 → length copied ≡ 512 * sector
    → IsFrontOf page copied → IsFrontOf page (copied ++ sector_of bytes sector)
more_front page copied bytes sector same whole within at_sector was = grind (arith, front_more, take_all)

-- the page at the freeze has the bytes of the one that is copied
same_page : PlainLaw → (cut memory : Contents) → plain_of memory ≡ plain_of cut → (at : Place) (page now : PageState) → page_at cut at.0 at.1 ≡ Some page
    → page_at memory at.0 at.1 ≡ Some now → now.bytes ≡ page.bytes
same_page law cut memory same at page now there is = grind arith

taking_more : PlainLaw → DumpLaws → (cut : Contents) (pass : Pass) (memory : Contents) (taking : Taking) (page : PageState) (sector : ℕ)
    → IsNextSector pass memory taking page sector → IsTaking cut pass memory → IsTaking cut (copied_more pass taking (sector_of page.bytes sector)) memory
taking_more law dumps cut pass memory taking page sector next was = record {
  dumping = dumps.copies cut pass memory taking (sector_of page.bytes sector) next.is was.dumping;
  copied = λ other found is there.
      let e = one_some more other refl is in
      let at_cut : page_at cut taking.place.0 taking.place.1 ≡ Some found = subst (λ (t : Taking). page_at cut t.place.0 t.place.1 ≡ Some found) (sym e) there in
      subst (λ (t : Taking). IsFrontOf found t.copied) e
      (more_front found taking.copied page.bytes sector (same_page law cut memory was.dumping.plain taking.place found page at_cut next.there)
      next.whole next.within next.at_sector (was.copied taking found next.is at_cut));
}
  where
    more : Taking
    more = record { place = taking.place; copied = taking.copied ++ sector_of page.bytes sector }

-- ---- the dump

pass_taking : (stage : Stage) (cut : Contents) (pass : Pass) (memory : Contents) → stage ≡ PassStage → TakesAsItMustIn stage cut pass memory → IsTaking cut pass memory
pass_taking stage cut pass memory e is = subst (λ (s : Stage). TakesAsItMustIn s cut pass memory) e is

visit_taking : StepLaws → (cut : Contents) (old new : Pass) (before after : Contents) (visit : visit.Visit) → Tests old before visit new after → old.taking ≡ None → IsRising old
    → IsTaking cut old before → IsTaking cut new after
visit_taking laws cut old new before after visit t free rising was = record {
  dumping = laws.visit_dumps cut old new before after visit t free rising was.dumping;
  copied = subst (λ (p : Pass). (taking : Taking) (page : PageState) → p.taking ≡ Some taking → page_at cut taking.place.0 taking.place.1 ≡ Some page → IsFrontOf page taking.copied)
      (sym t.is) (by (old.takes_all || t.page.soft_dirty));
}
  where
    at : Place
    at = (visit.space, visit.page)

    by : (b : Bool) → (taking : Taking) (page : PageState) → (cond b (begun_to_take old at) (left_to_parent old at)).taking ≡ Some taking
        → page_at cut taking.place.0 taking.place.1 ≡ Some page → IsFrontOf page taking.copied
    by b taking page is there = grind arith

copy_taking : PlainLaw → RisesLaws → DumpLaws → (cut : Contents) (old new : Pass) (memory : Contents) (c : copied.Copied) → Copies old memory c new → IsRising old
    → IsTaking cut old memory → IsTaking cut new memory
copy_taking law rises dumps cut old new memory MoreSectors m rising was =
    subst (λ (p : Pass). IsTaking cut p memory) (sym m.is) (taking_more law dumps cut old memory m.taking m.page m.sector m.next was)
copy_taking law rises dumps cut old new memory ZeroPage z rising was =
    subst (λ (p : Pass). IsTaking cut p memory) (sym z.is) (none_taking cut (taken_as_zero old z.taking) memory refl
    (subst (λ kind. IsDumping cut (with_entry old z.taking.place kind) memory) (ap kind_of_bytes z.zeroed ∙ zeros_are_zero)
    (enters_same cut now memory more refl (rises.copies old z.taking (sector_of z.page.bytes 7) z.next.is rising) whole.dumping page
    ((whole.copied more page.page refl page.there).full (ap (λ (b : List ℕ). length b) z.zeroed ∙ long_zeros)))))
  where
    more : Taking
    more = record { place = z.taking.place; copied = z.taking.copied ++ sector_of z.page.bytes 7 }

    now : Pass
    now = copied_more old z.taking (sector_of z.page.bytes 7)

    whole : IsTaking cut now memory
    whole = taking_more law dumps cut old memory z.taking z.page 7 z.next was

    page : WasToBeTaken cut now more
    page = whole.dumping.taken more refl
copy_taking law rises dumps cut old new memory Gone g rising was = absurd (dumps.never_drops cut old memory g.taking g.was was.dumping g.gone)

take_taking : (cut : Contents) (old new : Pass) (memory : Contents) (bytes : List ℕ) → TakesPage old bytes new → IsRising old
    → IsTaking cut old memory → IsTaking cut new memory
take_taking cut old new memory bytes t rising was =
    let page = was.dumping.taken t.taking t.was in
    let long : length t.taking.copied ≡ 4096 = ap (λ (b : List ℕ). length b) (sym t.same) ∙ t.whole in
    subst (λ (p : Pass). IsTaking cut p memory) (sym t.is) (none_taking cut (with_entry old t.taking.place Data) memory refl
    (subst (λ kind. IsDumping cut (with_entry old t.taking.place kind) memory) (ap kind_of_bytes (sym t.same) ∙ is_data bytes t.whole t.some)
    (enters_same cut old memory t.taking t.was rising was.dumping page ((was.copied t.taking page.page t.was page.there).full long))))

freezes : DumpLaws → (ticket : ℕ) (old new : Making) (before after : Contents) → Steps ticket old before Frozen new after → TakesAsItMust before new after
freezes laws ticket old new before after s = grind arith

asked_due : (stage : Stage) (plan : Planned) (cut : Contents) (pass : Pass) (memory : Contents) → TakesAsItMustIn stage cut pass memory → TakesAsItMustIn (with_plan stage plan) cut pass memory
asked_due stage plan cut pass memory is = grind arith

-- the table that is written has the entries
table_lists : PlainLaw → (cut : Contents) (old new : Making) (memory : Contents) (request : Asked) (w : WritesTable old memory request new)
    → plain_of memory ≡ plain_of cut → HasWays cut old.pass → Lists old.pass.entries w.tables
table_lists law cut old new memory request w same ways = by old.order.kind w.table
  where
    by : (kind : Kind) → HasTable kind memory old.pass.entries w.header w.tables → Lists old.pass.entries w.tables
    by PreDump table = table.lists
    by Dump table = (table (are_the_pages law cut memory old.pass ways same)).table.lists
    by Merged table = (table (are_the_pages law cut memory old.pass ways same)).table.lists

steps : PlainLaw → RisesLaws → DumpLaws → StepLaws → (ticket : ℕ) (cut : Contents) (old new : Making) (before after : Contents) (step : ImageStep) → Steps ticket old before step new after
    → is_past_freeze old.stage ≡ true → IsRising old.pass → TakesAsItMust cut old before → TakesAsItMust cut new after
steps law rises dumps laws ticket cut old new before after (Call request) s past rising was =
    subst (λ memory. TakesAsItMust cut new memory) (sym s.2)
    (subst (λ (m : Making). TakesAsItMust cut m before) (sym s.0.is) (asked_due old.stage s.0.next cut old.pass before was))
steps law rises dumps laws ticket cut old new before after (PageCall lane request) s past rising was =
    subst (λ memory. TakesAsItMust cut new memory) (sym s.2)
    (subst (λ (g : Stage). TakesAsItMustIn g cut new.pass before) (sym s.0.still)
    (take_taking cut old.pass new.pass before request.bytes s.0.taken rising (pass_taking old.stage cut old.pass before s.0.stage was)))
steps law rises dumps laws ticket cut old new before after (TableCall request) s past rising was =
    subst (λ memory. TakesAsItMust cut new memory) (sym s.2)
    (subst (λ (m : Making). TakesAsItMust cut m before) (sym s.0.is) (ways, table_lists law cut old new before request s.0 is.dumping.plain ways))
  where
    is : IsTaking cut old.pass before
    is = pass_taking old.stage cut old.pass before s.0.stage was

    ways : HasWays cut old.pass
    ways = ends_ways cut old.pass before s.0.free rising s.0.over is.dumping
steps law rises dumps laws ticket cut old new before after Frozen s past rising was =
    absurd (both_ways (is_past_freeze old.stage) (ap is_past_freeze s.0.stage) past)
steps law rises dumps laws ticket cut old new before after (Visited visit) s past rising was =
    subst (λ (m : Making). TakesAsItMust cut m after) (sym s.passes.1)
    (subst (λ (g : Stage). TakesAsItMustIn g cut new.pass after) (sym s.passes.0)
    (visit_taking laws cut old.pass new.pass before after visit s.tests s.free rising (pass_taking old.stage cut old.pass before s.passes.0 was)))
steps law rises dumps laws ticket cut old new before after (Copied c) s past rising was =
    subst (λ memory. TakesAsItMust cut new memory) (sym s.1)
    (subst (λ (m : Making). TakesAsItMust cut m before) (sym s.0.passes.1)
    (subst (λ (g : Stage). TakesAsItMustIn g cut new.pass before) (sym s.0.passes.0)
    (copy_taking law rises dumps cut old.pass new.pass before c s.0.copies rising (pass_taking old.stage cut old.pass before s.0.passes.0 was))))

behind_due : (kind : Kind) (stage : Stage) (cut : Contents) (pass : Pass) (memory : Contents) → closing_outcomes stage ≡ 0 → is_past_freeze stage ≡ true
    → TakesAsItMustIn stage cut pass memory → TakesAsItMustIn (stage_when_done kind stage) cut pass memory
behind_due kind stage cut pass memory none past is = grind arith

image_goes_on : (cut : Contents) (old new : Making) (memory : Contents) (made : Made) → PlanGoesOn old made new
    → is_past_freeze old.stage ≡ true → TakesAsItMust cut old memory → TakesAsItMust cut new memory
image_goes_on cut old new memory made h past was =
    subst (λ (m : Making). TakesAsItMust cut m memory) (sym h.is) (by (plan_after h.plan made).calls (none_closing old.stage (plan_after h.plan made).calls h.closes))
  where
    by : (calls : Calls) → (calls ≡ [] → closing_outcomes old.stage ≡ 0) → TakesAsItMustIn (stage_after old.order.kind old.stage (plan_after h.plan made) calls) cut old.pass memory
    by [] none = behind_due old.order.kind old.stage cut old.pass memory (none refl) past was
    by (call ∷ calls) none = asked_due old.stage (plan_after h.plan made) cut old.pass memory was

hands : (cut : Contents) (old new : Making) (memory : Contents) (made : Made) → HandsIn old made More new
    → is_past_freeze old.stage ≡ true → TakesAsItMust cut old memory → TakesAsItMust cut new memory
hands cut old new memory made given past was = grind arith

opens : (cut : Contents) (old : Making) (made : Made) (opened : NewImage) (memory : Contents) → Opens old made opened → IsRising old.pass
    → TakesAsItMust cut old memory → (kind : RunKind) (at : Place) → Contains (pages_of kind opened.table) at ↔ right_kind old.pass.takes_all (page_at cut at.0 at.1) ≡ Some kind
opens cut old made opened memory o rising was kind at = (
  λ c. sym (is.0 at) ∙ listed.0 (subst (λ (l : List Place). Contains l at) (is.1 kind) c),
  λ e. subst (λ (l : List Place). Contains l at) (sym (is.1 kind)) (listed.1 (is.0 at ∙ e)),
)
  where
    is : TakesAsItMustIn (Close o.plan opened.header opened.table) cut old.pass memory
    is = subst (λ (s : Stage). TakesAsItMustIn s cut old.pass memory) o.was was

    listed : Contains (pages_by kind old.pass.entries) at ↔ kind_at old.pass.entries at ≡ Some kind
    listed = way kind old.pass.entries at rising.rises

-- ---- a pre-dump

begins : VisitLaws → (order : ImageOrder) → TakesVisited [] (begun_image order)
begins laws order = record { pass = laws.opens (nat_eq order.parent 0); lists = tt }

asked_lists : (stage : Stage) (plan : Planned) (entries : List ImageEntry) → ListsIn stage entries → ListsIn (with_plan stage plan) entries
asked_lists stage plan entries is = grind arith

behind_lists : (kind : Kind) (stage : Stage) (entries : List ImageEntry) → ListsIn (stage_when_done kind stage) entries
behind_lists kind stage entries = grind arith

-- every page, for the laws that ask which were mapped all the time: none
abbrev never : Place → Bool
never at = false

at_pass : (visits : List Visit) (image : Making) (stage : Stage) → image.stage ≡ stage → ListsIn stage image.pass.entries → IsPassOf visits image.pass → TakesVisited visits image
at_pass visits image stage is lists pass = record { pass = pass; lists = subst (λ (s : Stage). ListsIn s image.pass.entries) (sym is) lists }

none_swept : (visits : List Visit) (pass : Pass) → PassVisits never visits pass
none_swept visits pass at here passed = absurd (both_ways false refl here)

none_mapped : (memory : Contents) → AreStillMapped never memory
none_mapped memory at here = absurd (both_ways false refl here)

visits_step : VisitLaws → (ticket : ℕ) (visits : List Visit) (old new : Making) (before after : Contents) (step : ImageStep) → Steps ticket old before step new after
    → old.order.kind ≡ PreDump → TakesVisited visits old → TakesVisited (visits_after step visits) new
visits_step laws ticket visits old new before after (Call request) s kind was = subst (λ (m : Making). TakesVisited visits m) (sym s.0.is) (record {
  pass = was.pass;
  lists = asked_lists old.stage s.0.next old.pass.entries was.lists;
})
visits_step laws ticket visits old new before after (PageCall lane request) s kind was =
    at_pass visits new PassStage s.0.still tt
    (takes laws never visits old.pass new.pass request.bytes s.0.taken was.pass (none_swept visits old.pass)).is
visits_step laws ticket visits old new before after (TableCall request) s kind was = subst (λ (m : Making). TakesVisited visits m) (sym s.0.is) (record {
  pass = was.pass;
  lists = (subst (λ k. HasTable k before old.pass.entries s.0.header s.0.tables) kind s.0.table).lists;
})
visits_step laws ticket visits old new before after Frozen s kind was = subst (λ (m : Making). TakesVisited visits m) (sym s.0.is) (record { pass = was.pass; lists = tt })
visits_step laws ticket visits old new before after (Visited visit) s kind was =
    at_pass _ new PassStage (ap (λ (m : Making). m.stage) s.passes.1 ∙ s.passes.0) tt
    (tests laws never visits old.pass new.pass before after visit s.tests s.free (none_mapped before)
    was.pass (none_swept visits old.pass)).is
visits_step laws ticket visits old new before after (Copied c) s kind was =
    at_pass visits new PassStage (ap (λ (m : Making). m.stage) s.0.passes.1 ∙ s.0.passes.0) tt
    (copies laws never visits old.pass new.pass before c s.0.copies was.pass (none_swept visits old.pass)).is

visits_go_on : (visits : List Visit) (old new : Making) (made : Made) → PlanGoesOn old made new → TakesVisited visits old → TakesVisited visits new
visits_go_on visits old new made h was = subst (λ (m : Making). TakesVisited visits m) (sym h.is) (record { pass = was.pass; lists = by (plan_after h.plan made).calls })
  where
    by : (calls : Calls) → ListsIn (stage_after old.order.kind old.stage (plan_after h.plan made) calls) old.pass.entries
    by [] = behind_lists old.order.kind old.stage old.pass.entries
    by (call ∷ calls) = asked_lists old.stage (plan_after h.plan made) old.pass.entries was.lists

goes_on : (visits : List Visit) (old new : Making) (made : Made) → HandsIn old made More new → TakesVisited visits old → TakesVisited visits new
goes_on visits old new made given was = grind arith

took : (visits : List Visit) (old : Making) (made : Made) (opened : NewImage) → Opens old made opened → TakesVisited visits old
    → TookVisited old.pass.takes_all visits opened.table
took visits old made opened o was = record {
  parents = lists Parent ∙ was.pass.parents;
  stored = λ at c. was.pass.stored at (subst (λ (l : List Place). Contains l at) (lists Data) c);
  zero = λ at c. was.pass.zero at (subst (λ (l : List Place). Contains l at) (lists Zero) c);
}
  where
    lists : Lists old.pass.entries opened.table
    lists = subst (λ (s : Stage). ListsIn s old.pass.entries) o.was was.lists

pub little_laws : PlainLaw → RisesLaws → DumpLaws → StepLaws → VisitLaws → LittleLaws
little_laws plain rises dumps laws visits = record {
  freezes = freezes dumps;
  steps = steps plain rises dumps laws;
  hands = hands;
  opens = opens;
  begins = begins visits;
  visits = visits_step visits;
  goes_on = goes_on;
  took = took;
}
