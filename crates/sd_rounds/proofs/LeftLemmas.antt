-- Each step and each outcome leaves fewer before a checkpoint.
use Rattle.std.proofs.Common.{◌≡◌, ◌≢◌, ◌⊎◌, ◌↔◌, ℕ, ◌+◌, ◌-◌, ◌*◌, ◌/◌, ◌<◌, ◌≤◌, Bool, true, false, if◌then◌else◌, ◌||◌, nat_le, List, length, Option, Some, None, slice_set, refl, sym, ◌∙◌, ap, subst, inl, inr, arith}
use Rattle.std.proofs.lemmas.Bool.{both_ways}
use Rattle.std.proofs.lemmas.Bool.Decides.{nat_tests}
use Rattle.std.proofs.lemmas.List.{length-append, length-take-le, length-drop}
use Rattle.sd_areas.specs.PlainMemory.{PlainMemory}
use Rattle.sd_image.specs.declared.header.Kind.{Kind}
use Rattle.sd_gate.specs.declared.slot_state.SlotState.{SlotState}
use Rattle.sd_gate.specs.Plans.{Planned, plan_after}
use Rattle.sd_gate.specs.Requests.{Made}
use Rattle.sd_gate.specs.Sequences.{Calls}
use Rattle.sd_pagetable.specs.Contents.{Contents, plain_of}
use Rattle.sd_pagetable.specs.Law.{PlainLaw}
use Rattle.sd_rounds.specs.declared.copied.Copied as copied
use Rattle.sd_rounds.specs.declared.image_step.ImageStep.{ImageStep}
use Rattle.sd_rounds.specs.declared.image_step.ImageStep.TheVariants.{Call, PageCall, TableCall, Frozen, Visited, Copied}
use Rattle.sd_writing.specs.declared.new_image.NewImage.{NewImage}
use Rattle.sd_rounds.specs.declared.progress.Progress.{Progress}
use Rattle.sd_rounds.specs.declared.progress.Progress.TheVariants.{Strange, Failed as HasFailed, More as GoesOnWith, PreDump as PreDumpOpen, Dump as DumpOpen}
use Rattle.sd_rounds.specs.declared.stage.Stage.{Stage}
use Rattle.sd_rounds.specs.declared.stage.Stage.TheVariants.{Format, Freeze, Pass as PassStage, Close}
use Rattle.sd_rounds.specs.declared.visit.Visit.{Visit}
use Rattle.sd_rounds.specs.Dumper.{Dumping, Hands, HandsTo, IsHanded, Running, Works, WorksOn, ends, image_from, is_strange}
use Rattle.sd_gate.specs.PlanUse.{plan_left}
use Rattle.sd_rounds.specs.Left.{LeftLaws, image_left, left_of, making_left, next_left, pages_ahead, pass_left, running_left, stage_left, taking_left}
use Rattle.sd_rounds.specs.Making.{IsWritten, Making, Opens, PlanGoesOn, Steps, closing_outcomes, is_passing, plan_of, stage_after, stage_when_done, with_plan}
use Rattle.sd_rounds.specs.Pass.{Pass, begun_to_take, left_to_parent, opened, sector_of, visited}
use Rattle.sd_rounds.specs.Rounds.{Copies, Tests}
use Rattle.sd_rounds.specs.Writes.{writes_out}
use Rattle.sd_gate.proofs.UseLemmas.{gives_fewer, settled_fewer}
use Rattle.sd_rounds.proofs.AheadLemmas.{next_ahead}
use Rattle.sd_rounds.proofs.WriteLemmas.{put_count, take_count}

-- ---- a step of an image

asked_fewer : (stage : Stage) (old new : Planned) (pass : ℕ) → plan_of stage ≡ Some old → plan_left new + 1 ≡ plan_left old → stage_left (with_plan stage new) pass < stage_left stage pass
asked_fewer stage old new pass is fewer = grind arith

-- in the pass
in_pass : (image : Making) (memory : PlainMemory) → image.stage ≡ PassStage → image_left image memory ≡ pass_left image.pass memory + writes_out image.writes + 10
in_pass image memory e = ap (λ (s : Stage). stage_left s (pass_left image.pass memory + writes_out image.writes)) e

visit_fewer : PlainLaw → (old new : Pass) (before after : Contents) (visit : Visit) → Tests old before visit new after → old.taking ≡ None
    → pass_left new (plain_of after) < pass_left old (plain_of before)
visit_fewer law old new before after visit t free =
    let ahead : pages_ahead old.after (plain_of before) ≡ pages_ahead (Some (visit.space, visit.page)) (plain_of before) + 1 = next_ahead law before old.after (visit.space, visit.page) t.next in
    let none : taking_left old.taking ≡ 0 = ap taking_left free in
    let same : pass_left new (plain_of after) ≡ pass_left (visited old (visit.space, visit.page) t.page.soft_dirty) (plain_of before) =
    ap (λ (p : Pass). pass_left p (plain_of after)) t.is ∙ ap (λ m. pass_left (visited old (visit.space, visit.page) t.page.soft_dirty) m) t.plain in
    let few : pass_left (visited old (visit.space, visit.page) t.page.soft_dirty) (plain_of before) ≤ 11 * pages_ahead (Some (visit.space, visit.page)) (plain_of before) + 10 = by (old.takes_all || t.page.soft_dirty) in
    omega arith
  where
    by : (b : Bool) → pass_left (if b then begun_to_take old (visit.space, visit.page) else left_to_parent old (visit.space, visit.page)) (plain_of before)
        ≤ 11 * pages_ahead (Some (visit.space, visit.page)) (plain_of before) + 10
    by true = omega arith
    by false = omega arith

sector_long : (bytes : List ℕ) (sector : ℕ) → length bytes ≡ 4096 → sector < 8 → length (sector_of bytes sector) ≡ 512
sector_long bytes sector whole within = grind (arith, length-take-le, length-drop)

sectors : (n k : ℕ) → n ≡ 512 * k → n / 512 ≡ k
sectors n k e = omega arith

taken_fewer : (old new : Pass) (memory : Contents) → old.after ≡ new.after → taking_left new.taking < taking_left old.taking → pass_left new (plain_of memory) < pass_left old (plain_of memory)
taken_fewer old new memory e l = (let same : pages_ahead old.after (plain_of memory) ≡ pages_ahead new.after (plain_of memory) = ap (λ o. pages_ahead o (plain_of memory)) e in omega arith)

copy_fewer : (old new : Pass) (memory : Contents) (c : copied.Copied) → Copies old memory c new → pass_left new (plain_of memory) < pass_left old (plain_of memory)
copy_fewer old new memory c m = grind (arith, taken_fewer, sectors, length-append, sector_long)

-- the memory keeps its pages through a step
step_plain : (ticket : ℕ) (old new : Making) (before after : Contents) (step : ImageStep) → Steps ticket old before step new after → plain_of after ≡ plain_of before
step_plain ticket old new before after step s = grind arith

step_fewer : PlainLaw → (ticket : ℕ) (old new : Making) (before after : Contents) (step : ImageStep) → Steps ticket old before step new after
    → image_left new (plain_of before) < image_left old (plain_of before)
step_fewer law ticket old new before after (Call request) s =
    subst (λ (m : Making). image_left m (plain_of before) < image_left old (plain_of before)) (sym s.0.is)
    (asked_fewer old.stage s.0.plan s.0.next (pass_left old.pass (plain_of before) + writes_out old.writes) s.0.was (gives_fewer s.0.plan s.0.next request s.0.gives))
step_fewer law ticket old new before after (PageCall lane request) s =
    let w = s.0 in
    let was : image_left old (plain_of before) ≡ pass_left old.pass (plain_of before) + writes_out old.writes + 10 = in_pass old (plain_of before) w.stage in
    let is : image_left new (plain_of before) ≡ pass_left new.pass (plain_of before) + writes_out new.writes + 10 = in_pass new (plain_of before) w.still in
    let out : writes_out new.writes ≡ writes_out old.writes + 1 = ap writes_out w.writes ∙ put_count old.writes lane request.id w.free in
    let took : taking_left old.pass.taking ≡ taking_left (Some w.taken.taking) = ap taking_left w.taken.was in
    let none : taking_left new.pass.taking ≡ 0 = ap (λ (p : Pass). taking_left p.taking) w.taken.is in
    let same : pages_ahead new.pass.after (plain_of before) ≡ pages_ahead old.pass.after (plain_of before) = ap (λ (p : Pass). pages_ahead p.after (plain_of before)) w.taken.is in
    omega arith
step_fewer law ticket old new before after (TableCall request) s =
    let w = s.0 in
    let was : image_left old (plain_of before) ≡ pass_left old.pass (plain_of before) + writes_out old.writes + 10 = in_pass old (plain_of before) w.stage in
    let is : image_left new (plain_of before) ≡ plan_left w.next = ap (λ (m : Making). image_left m (plain_of before)) w.is in
    let ten : plan_left w.next + 1 ≡ 10 = gives_fewer _ w.next request w.gives in
    omega arith
step_fewer law ticket old new before after Frozen s =
    let was : image_left old (plain_of before) ≡ 1 + (pass_left old.pass (plain_of before) + writes_out old.writes) + 10 =
    ap (λ (g : Stage). stage_left g (pass_left old.pass (plain_of before) + writes_out old.writes)) s.0.stage in
    let is : image_left new (plain_of before) ≡ pass_left old.pass (plain_of before) + writes_out old.writes + 10 = ap (λ (m : Making). image_left m (plain_of before)) s.0.is in
    omega arith
step_fewer law ticket old new before after (Visited visit) s =
    let was : image_left old (plain_of before) ≡ pass_left old.pass (plain_of before) + writes_out old.writes + 10 = in_pass old (plain_of before) s.passes.0 in
    let is : image_left new (plain_of before) ≡ pass_left new.pass (plain_of before) + writes_out new.writes + 10 =
    in_pass new (plain_of before) (ap (λ (m : Making). m.stage) s.passes.1 ∙ s.passes.0) in
    let out : writes_out new.writes ≡ writes_out old.writes = ap (λ (m : Making). writes_out m.writes) s.passes.1 in
    let fewer : pass_left new.pass (plain_of after) < pass_left old.pass (plain_of before) = visit_fewer law old.pass new.pass before after visit s.tests s.free in
    let same : pass_left new.pass (plain_of after) ≡ pass_left new.pass (plain_of before) = ap (λ m. pass_left new.pass m) s.tests.plain in
    omega arith
step_fewer law ticket old new before after (Copied c) s =
    let was : image_left old (plain_of before) ≡ pass_left old.pass (plain_of before) + writes_out old.writes + 10 = in_pass old (plain_of before) s.0.passes.0 in
    let is : image_left new (plain_of before) ≡ pass_left new.pass (plain_of before) + writes_out new.writes + 10 =
    in_pass new (plain_of before) (ap (λ (m : Making). m.stage) s.0.passes.1 ∙ s.0.passes.0) in
    let out : writes_out new.writes ≡ writes_out old.writes = ap (λ (m : Making). writes_out m.writes) s.0.passes.1 in
    let fewer : pass_left new.pass (plain_of before) < pass_left old.pass (plain_of before) = copy_fewer old.pass new.pass before c s.0.copies in
    omega arith

-- ---- a step of a checkpoint

from_left : (running : Running) (serial : ℕ) (state : SlotState) (memory : PlainMemory) (image : Option Making) → image_left (image_from running serial state image) memory ≤ making_left image memory
from_left running serial state memory image = grind arith

works_fewer : PlainLaw → (serial : ℕ) (state : SlotState) (ticket : ℕ) (old new : Running) (before after : Contents) (step : ImageStep) → WorksOn serial state ticket old before step new after
    → running_left new (plain_of after) < running_left old (plain_of before)
works_fewer law serial state ticket old new before after step w =
    let same : running_left new (plain_of after) ≡ running_left (record old { image = Some w.image }) (plain_of before) =
    ap (λ (r : Running). running_left r (plain_of after)) w.is
    ∙ ap (λ m. running_left (record old { image = Some w.image }) m) (step_plain ticket _ w.image before after step w.steps) in
    let fewer = step_fewer law ticket (image_from old serial state old.image) w.image before after step w.steps in
    let most = from_left old serial state (plain_of before) old.image in
    let less : image_left w.image (plain_of before) < making_left old.image (plain_of before) = omega (arith, fewer, most) in
    plus _ _ ((length old.pre_dumps - old.opened) * next_left (plain_of before)) _ less same
  where
    plus : (a b later n : ℕ) → a < b → n ≡ a + later + 1 → n < b + later + 1
    plus a b later n l e = omega arith

-- ---- an outcome

goes_on_fewer : (old new : Making) (made : Made) (memory : PlainMemory) → PlanGoesOn old made new → image_left new memory < image_left old memory
goes_on_fewer old new made memory g =
    subst (λ (m : Making). image_left m memory < image_left old memory) (sym g.is)
    (by (plan_after g.plan made).calls refl)
  where
    fewer : plan_left (plan_after g.plan made) + 1 ≡ plan_left g.plan
    fewer = settled_fewer g.plan made g.awaited.out g.one

    ended : (kind : Kind) (stage : Stage) → plan_of stage ≡ Some g.plan → (closing_outcomes stage ≢ 0 → ⊥) → stage_left (stage_when_done kind stage) (pass_left old.pass memory + writes_out old.writes) < stage_left stage (pass_left old.pass memory + writes_out old.writes)
    ended kind stage is closes = grind arith

    by : (calls : Calls) → (plan_after g.plan made).calls ≡ calls
        → image_left (record old { stage = stage_after old.order.kind old.stage (plan_after g.plan made) calls }) memory < image_left old memory
    by calls e = grind arith

written_fewer : (old new : Making) (made : Made) (memory : PlainMemory) → is_passing old.stage ≡ true → IsWritten old made new → image_left new memory < image_left old memory
written_fewer old new made memory passing w =
    subst (λ (m : Making). image_left m memory < image_left old memory) (sym w.is) (by old.stage passing)
  where
    by : (stage : Stage) → is_passing stage ≡ true
        → stage_left stage (pass_left old.pass memory + writes_out (slice_set old.writes w.lane None)) < stage_left stage (pass_left old.pass memory + writes_out old.writes)
    by (Format plan) is = absurd (both_ways false refl is)
    by Freeze is = absurd (both_ways false refl is)
    by PassStage is = omega (arith, take_count old.writes w.lane made.request.id w.out)
    by (Close plan header tables) is = absurd (both_ways false refl is)

more_fewer : (old new : Making) (made : Made) (memory : PlainMemory) → PlanGoesOn old made new ⊎ IsWritten old made new → image_left new memory < image_left old memory
more_fewer old new made memory (inl g) = goes_on_fewer old new made memory g
more_fewer old new made memory (inr w) = written_fewer old new made memory w.passing w

opens_some : (old : Making) (made : Made) (memory : PlainMemory) (image : NewImage) → Opens old made image → 0 < image_left old memory
opens_some old made memory image o = grind arith

some_left : (running : Running) (memory : PlainMemory) → 0 < running_left running memory
some_left running memory = plus (making_left running.image memory) ((length running.pre_dumps - running.opened) * next_left memory)
  where
    plus : (a b : ℕ) → 0 < a + b + 1
    plus a b = omega arith

hands_fewer : (old new : Running) (made : Made) (progress : Progress) (memory : PlainMemory) → HandsTo old made progress new → is_strange progress ≡ false
    → left_of (if ends progress then None else Some new) memory < running_left old memory
hands_fewer old new made Strange memory h strange = absurd (both_ways true strange refl)
hands_fewer old new made HasFailed memory h strange = some_left old memory
hands_fewer old new made GoesOnWith memory h strange =
    let less : image_left h.next memory < image_left h.image memory = more_fewer h.image h.next made memory h.hands in
    let was : making_left old.image memory ≡ image_left h.image memory = ap (λ o. making_left o memory) h.was in
    plus _ _ _ ((length old.pre_dumps - old.opened) * next_left memory) _ less was (ap (λ (r : Running). running_left r memory) h.is)
  where
    plus : (a b c later n : ℕ) → a < b → c ≡ b → n ≡ a + later + 1 → n < c + later + 1
    plus a b c later n l e f = omega arith
hands_fewer old new made (PreDumpOpen opened) memory h strange =
    let was : making_left old.image memory ≡ image_left h.0.image memory = ap (λ o. making_left o memory) h.0.was in
    let some : 0 < image_left h.0.image memory = opens_some h.0.image made memory opened h.0.hands in
    next (making_left old.image memory) (length old.pre_dumps) old.opened (next_left memory) _ (omega (arith, was, some)) (more old.opened (length old.pre_dumps) h.1)
    (ap (λ (r : Running). running_left r memory) h.2)
  where
    more : (a b : ℕ) → nat_le b a ≡ false → a + 1 ≤ b
    more a b e = grind (arith, nat_tests)

    next : (image length opened share n : ℕ) → 0 < image → opened + 1 ≤ length → n ≡ share + (length - (opened + 1)) * share + 1 → n < image + (length - opened) * share + 1
    next image length opened share n some l e = grind arith
hands_fewer old new made (DumpOpen opened) memory h strange = some_left old memory

-- ---- the laws

idle : (running : Option Running) (memory : PlainMemory) → left_of running memory ≡ 0 ↔ running ≡ None
idle running memory = grind arith

works : PlainLaw → (serial : ℕ) (state : SlotState) (ticket : ℕ) (old : Dumping) (before : Contents) (step : ImageStep) (new : Dumping) (after : Contents)
    → Works serial state ticket old before step new after → left_of new.running (plain_of after) < left_of old.running (plain_of before)
works law serial state ticket old before step new after w =
    subst (λ (d : Dumping). left_of d.running (plain_of after) < left_of old.running (plain_of before)) (sym w.is)
    (subst (λ (o : Option Running). running_left w.next (plain_of after) < left_of o (plain_of before)) (sym w.was)
    (works_fewer law serial state ticket w.running w.next before after step w.works))

handed : (old : Dumping) (made : Made) (progress : Progress) (new : Dumping) (memory : PlainMemory) → IsHanded old made progress new → is_strange progress ≡ false
    → left_of new.running memory < left_of old.running memory
handed old made progress new memory h strange = grind (arith, hands_fewer)

hands : (old : Dumping) (made : Made) (progress : Progress) (new : Dumping) (memory : PlainMemory) → Hands old made progress new → is_strange progress ≡ false
    → left_of new.running memory < left_of old.running memory
hands old made progress new memory h strange = grind (arith, both_ways, handed)

pub left_laws : PlainLaw → LeftLaws
left_laws law = record {
  idle = idle;
  works = works law;
  hands = hands;
}
