-- What holds of every checkpoint that runs, from step to step.
use Rattle.std.proofs.Common.{◌≡◌, ◌⊎◌, ℕ, ◌+◌, ◌≤◌, Bool, true, false, nat_eq, nat_le, ◌&&◌, if◌then◌else◌, [], ◌∷◌, length, Option, Some, None, refl, sym, ◌∙◌, ap, subst, inl, inr, arith}
use Rattle.std.specs.Prelude.{Result, Ok, Err, IfOk, OnErr}
use Rattle.std.specs.Option.{option_map}
use Rattle.std.proofs.lemmas.Bool.{both_ways, and_parts}
use Rattle.std.proofs.lemmas.Bool.Decides.{nat_tests}
use Rattle.sd_image.specs.declared.header.Kind.{Kind}
use Rattle.sd_image.specs.declared.header.Kind.TheVariants.{Dump, Merged, PreDump}
use Rattle.sd_image.specs.Words.{kind_number}
use Rattle.sd_gate.specs.declared.slot_state.SlotState.{SlotState}
use Rattle.sd_gate.specs.Plans.{Gives, Planned, plan_after}
use Rattle.sd_gate.specs.Requests.{Asked, Made}
use Rattle.sd_gate.specs.Sequences.{Calls}
use Rattle.sd_pagetable.specs.Contents.{Contents}
use Rattle.sd_rounds.specs.declared.checkpoint.Checkpoint.{Checkpoint}
use Rattle.sd_rounds.specs.declared.image_order.ImageOrder.{ImageOrder}
use Rattle.sd_rounds.specs.declared.image_step.ImageStep.{ImageStep}
use Rattle.sd_rounds.specs.declared.image_step.ImageStep.TheVariants.{Call, PageCall, TableCall, Frozen, Visited, Copied}
use Rattle.sd_rounds.specs.declared.progress.Progress.{Progress}
use Rattle.sd_rounds.specs.declared.progress.Progress.TheVariants.{Strange, More as GoesOnWith, PreDump as PreDumpOpen}
use Rattle.sd_rounds.specs.declared.stage.Stage.{Stage}
use Rattle.std.specs.declared.alloc.AllocError.{AllocError}
use Rattle.std.proofs.Math.Bool.{and-false}
use Rattle.sd_rounds.specs.declared.stage.Stage.TheVariants.{Format, Freeze, Pass as PassStage, Close}
use Rattle.sd_rounds.specs.Dumper.{AreRunning, AreCounted, Dumping, Hands, HandsTo, IsHanded, IsCounted, IsItsImage, IsRunning, Running, WorksOn, outcomes_since_freeze, ends, freezes, image_from, is_frozen_image, is_strange, order_of, running_of}
use Rattle.sd_gate.specs.PlanUse.{outcomes_of}
use Rattle.sd_rounds.specs.Making.{IsWritten, Making, PlanGoesOn, Steps, closing_outcomes, is_frozen_dump, is_past_freeze, outcomes_left, plan_of, stage_after, stage_when_done, with_plan}
use Rattle.sd_writing.specs.Entries.{data_pages}
use Rattle.sd_rounds.specs.PlanSteps.{is_freeze_next, is_to_freeze}
use Rattle.sd_rounds.specs.Writes.{writes_out}
use Rattle.sd_rounds.proofs.MakingLemmas.{copy_counts, take_counts, visit_counts}
use Rattle.sd_rounds.proofs.WriteLemmas.{none_count, put_count, take_count}

-- ---- a step

from_counts : (since : ℕ) (running : Running) (serial : ℕ) (state : SlotState) → IsRunning since running → is_frozen_dump (image_from running serial state running.image) ≡ true
    → IsCounted since (image_from running serial state running.image)
from_counts since running serial state is = by running.image is.counts
  where
    by : (image : Option Making) → AreCounted since image → is_frozen_dump (image_from running serial state image) ≡ true → IsCounted since (image_from running serial state image)
    by None counts frozen = absurd (both_ways false refl (sym (and-false (nat_eq (kind_number (order_of running serial state).kind) 2)) ∙ frozen))
    by (Some image) counts frozen = counts frozen

from_own : (running : Running) (serial : ℕ) (state : SlotState) (image : Option Making) → IsItsImage running image
    → (image_from running serial state image).order ≡ order_of running (image_from running serial state image).order.serial (image_from running serial state image).order.state
from_own running serial state image own = grind arith

-- a plan that gives out a call has as many outcomes left
gives_same : (old new : Planned) (request : Asked) → Gives old new request → outcomes_of new ≡ outcomes_of old
gives_same old new request g = grind arith

pub past_with : (stage : Stage) (plan : Planned) → is_past_freeze (with_plan stage plan) ≡ is_past_freeze stage
past_with stage plan = grind arith

closing_with : (stage : Stage) (plan : Planned) → closing_outcomes (with_plan stage plan) ≡ closing_outcomes stage
closing_with stage plan = grind arith

left_of : (stage : Stage) (plan : Planned) → plan_of stage ≡ Some plan → outcomes_left stage ≡ outcomes_of plan
left_of stage plan e = grind arith

left_with : (stage : Stage) (old plan : Planned) → plan_of stage ≡ Some old → outcomes_left (with_plan stage plan) ≡ outcomes_of plan
left_with stage old plan e = grind arith

-- in the pass the counts are even
pass_count : (since : ℕ) (image : Making) → image.stage ≡ PassStage → IsCounted since image → since + writes_out image.writes ≡ data_pages image.pass.entries
pass_count since image stage is = grind arith

frozen_pass : (image : Making) (order : ImageOrder) (stage : Stage) → image.stage ≡ PassStage → image.order ≡ order → is_past_freeze stage ≡ true
    → ((nat_eq (kind_number order.kind) 2) && is_past_freeze stage) ≡ true → is_frozen_dump image ≡ true
frozen_pass image order stage is same past frozen = grind arith

-- what a step leaves of the order and the counts
pub record Leaves (since : ℕ) (old : Making) (step : ImageStep) (new : Making) : Type 0 where
  pub order : new.order ≡ old.order
  pub counts : is_frozen_dump new ≡ true → IsCounted (if freezes step then 0 else since) new

step_leaves : (since ticket : ℕ) (old new : Making) (before after : Contents) (step : ImageStep) → Steps ticket old before step new after
    → (is_frozen_dump old ≡ true → IsCounted since old) → Leaves since old step new
step_leaves since ticket old new before after (Call request) s was = record {
  order = ap (λ (m : Making). m.order) s.0.is;
  counts = λ frozen. subst (λ (m : Making). IsCounted since m) (sym s.0.is) (record {
    count =
        let w = was (sym (ap (λ b. nat_eq (kind_number old.order.kind) 2 && b) (past_with old.stage s.0.next)) ∙ ap is_frozen_dump (sym s.0.is) ∙ frozen) in
        let all : since + outcomes_left old.stage + writes_out old.writes ≡ data_pages old.pass.entries + closing_outcomes old.stage = w.count in
        let left : outcomes_left old.stage ≡ outcomes_of s.0.plan = left_of old.stage s.0.plan s.0.was in
        let now : outcomes_left (with_plan old.stage s.0.next) ≡ outcomes_of s.0.next = left_with old.stage s.0.plan s.0.next s.0.was in
        let same : outcomes_of s.0.next ≡ outcomes_of s.0.plan = gives_same s.0.plan s.0.next request s.0.gives in
        let close : closing_outcomes (with_plan old.stage s.0.next) ≡ closing_outcomes old.stage = closing_with old.stage s.0.next in
        omega arith;
  });
}
step_leaves since ticket old new before after (PageCall lane request) s was = record {
  order = s.0.order;
  counts = λ frozen. record {
    count =
        let w = was (frozen_pass old new.order new.stage s.0.stage (sym s.0.order) (ap is_past_freeze s.0.still) frozen) in
        let all : since + writes_out old.writes ≡ data_pages old.pass.entries = pass_count since old s.0.stage w in
        let left : outcomes_left new.stage ≡ 0 = ap outcomes_left s.0.still in
        let none : closing_outcomes new.stage ≡ 0 = ap closing_outcomes s.0.still in
        let out : writes_out new.writes ≡ writes_out old.writes + 1 = ap writes_out s.0.writes ∙ put_count old.writes lane request.id s.0.free in
        let more : data_pages new.pass.entries ≡ data_pages old.pass.entries + 1 = take_counts old.pass request.bytes new.pass s.0.taken in
        omega arith;
  };
}
step_leaves since ticket old new before after (TableCall request) s was = record {
  order = ap (λ (m : Making). m.order) s.0.is;
  counts = λ frozen. subst (λ (m : Making). IsCounted since m) (sym s.0.is) (record {
    count =
        let w = was (frozen_pass old old.order (Close s.0.next s.0.header s.0.tables) s.0.stage refl refl (ap is_frozen_dump (sym s.0.is) ∙ frozen)) in
        let all : since + writes_out old.writes ≡ data_pages old.pass.entries = pass_count since old s.0.stage w in
        let five : outcomes_of s.0.next ≡ 5 = gives_same _ s.0.next request s.0.gives in
        omega arith;
  });
}
step_leaves since ticket old new before after Frozen s was = record {
  order = ap (λ (m : Making). m.order) s.0.is;
  counts = λ frozen. subst (λ (m : Making). IsCounted 0 m) (sym s.0.is) (record {
    count =
        let none : writes_out old.writes ≡ 0 = none_count old.writes s.0.rests in
        let fresh : data_pages old.pass.entries ≡ 0 = ap (λ (p : _). data_pages p.entries) s.0.fresh in
        omega arith;
  });
}
step_leaves since ticket old new before after (Visited visit) s was = record {
  order = ap (λ (m : Making). m.order) s.passes.1;
  counts = λ frozen. record {
    count =
        let stage : new.stage ≡ PassStage = ap (λ (m : Making). m.stage) s.passes.1 ∙ s.passes.0 in
        let w = was (frozen_pass old new.order new.stage s.passes.0 (sym (ap (λ (m : Making). m.order) s.passes.1)) (ap is_past_freeze stage) frozen) in
        let all : since + writes_out old.writes ≡ data_pages old.pass.entries = pass_count since old s.passes.0 w in
        let out : writes_out new.writes ≡ writes_out old.writes = ap (λ (m : Making). writes_out m.writes) s.passes.1 in
        let left : outcomes_left new.stage ≡ 0 = ap outcomes_left stage in
        let none : closing_outcomes new.stage ≡ 0 = ap closing_outcomes stage in
        let same : data_pages new.pass.entries ≡ data_pages old.pass.entries = visit_counts old.pass before visit new.pass after s.tests in
        omega arith;
  };
}
step_leaves since ticket old new before after (Copied c) s was = record {
  order = ap (λ (m : Making). m.order) s.0.passes.1;
  counts = λ frozen. record {
    count =
        let stage : new.stage ≡ PassStage = ap (λ (m : Making). m.stage) s.0.passes.1 ∙ s.0.passes.0 in
        let w = was (frozen_pass old new.order new.stage s.0.passes.0 (sym (ap (λ (m : Making). m.order) s.0.passes.1)) (ap is_past_freeze stage) frozen) in
        let all : since + writes_out old.writes ≡ data_pages old.pass.entries = pass_count since old s.0.passes.0 w in
        let out : writes_out new.writes ≡ writes_out old.writes = ap (λ (m : Making). writes_out m.writes) s.0.passes.1 in
        let left : outcomes_left new.stage ≡ 0 = ap outcomes_left stage in
        let none : closing_outcomes new.stage ≡ 0 = ap closing_outcomes stage in
        let same : data_pages new.pass.entries ≡ data_pages old.pass.entries = copy_counts old.pass before c new.pass s.0.copies in
        omega arith;
  };
}

pub works_running : (since serial : ℕ) (state : SlotState) (ticket : ℕ) (old new : Running) (before after : Contents) (step : ImageStep) → IsRunning since old
    → WorksOn serial state ticket old before step new after → IsRunning (if freezes step then 0 else since) new
works_running since serial state ticket old new before after step is works =
    let leaves = step_leaves since ticket (image_from old serial state old.image) works.image before after step works.steps (from_counts since old serial state is) in
    subst (λ (r : Running). IsRunning (if freezes step then 0 else since) r) (sym works.is) (record {
      few = is.few;
      own = leaves.order ∙ from_own old serial state old.image is.own ∙ ap (λ (o : ImageOrder). order_of old o.serial o.state) (sym leaves.order);
      counts = leaves.counts;
    })

-- ---- an outcome

-- a dump is frozen after its format
hands_leaves : (since : ℕ) (old new : Making) (made : Made) → PlanGoesOn old made new → (is_frozen_dump old ≡ true → IsCounted since old)
    → is_frozen_dump new ≡ true → IsCounted (if is_frozen_dump old then since + 1 else since) new
hands_leaves since old new made g was frozen =
    subst (λ (m : Making). IsCounted (if is_frozen_dump old then since + 1 else since) m) (sym g.is)
    (by old.stage refl (plan_after g.plan made).calls refl (ap is_frozen_dump (sym g.is) ∙ frozen))
  where
    never : (b : Bool) → (b && false) ≡ true → ⊥
    never true e = both_ways false refl e
    never false e = both_ways false refl e

    one : outcomes_of (plan_after g.plan made) + 1 ≡ outcomes_of g.plan
    one = g.one

    counted_more : (stage : Stage) → old.stage ≡ stage → is_past_freeze stage ≡ true → nat_eq (kind_number old.order.kind) 2 ≡ true
        → (since + outcomes_left stage + writes_out old.writes ≡ data_pages old.pass.entries + closing_outcomes stage) × (◌≡◌ {A = ℕ} (if is_frozen_dump old then since + 1 else since) (since + 1))
    counted_more stage e past kind = grind arith

    by : (stage : Stage) → old.stage ≡ stage → (calls : Calls) → (plan_after g.plan made).calls ≡ calls
        → is_frozen_dump (record old { stage = stage_after old.order.kind old.stage (plan_after g.plan made) (plan_after g.plan made).calls }) ≡ true
        → IsCounted (if is_frozen_dump old then since + 1 else since) (record old { stage = stage_after old.order.kind old.stage (plan_after g.plan made) (plan_after g.plan made).calls })
    by stage e calls f frozen =
        subst (λ (s : Stage). IsCounted (if is_frozen_dump old then since + 1 else since) (record old { stage = stage_after old.order.kind s (plan_after g.plan made) (plan_after g.plan made).calls })) (sym e)
        (subst (λ (c : Calls). IsCounted (if is_frozen_dump old then since + 1 else since) (record old { stage = stage_after old.order.kind stage (plan_after g.plan made) c })) (sym f)
        (cases stage e calls f
        (sym (ap (λ (s : Stage). is_frozen_dump (record old { stage = stage_after old.order.kind s (plan_after g.plan made) (plan_after g.plan made).calls })) e
        ∙ ap (λ (c : Calls). is_frozen_dump (record old { stage = stage_after old.order.kind stage (plan_after g.plan made) c })) f) ∙ frozen)))
      where
        cases : (stage : Stage) → old.stage ≡ stage → (calls : Calls) → (plan_after g.plan made).calls ≡ calls
            → is_frozen_dump (record old { stage = stage_after old.order.kind stage (plan_after g.plan made) calls }) ≡ true
            → IsCounted (if is_frozen_dump old then since + 1 else since) (record old { stage = stage_after old.order.kind stage (plan_after g.plan made) calls })
        cases (Format plan) e [] f frozen = absurd (behind old.order.kind frozen)
          where
            behind : (kind : Kind) → (nat_eq (kind_number kind) 2 && is_past_freeze (stage_when_done kind (Format plan))) ≡ true → ⊥
            behind Dump e = both_ways false refl e
            behind PreDump e = both_ways false refl e
            behind Merged e = both_ways false refl e
        cases (Format plan) e (call ∷ calls) f frozen = absurd (never (nat_eq (kind_number old.order.kind) 2) frozen)
        cases Freeze e calls f frozen = absurd (let n : None ≡ Some g.plan = ap plan_of (sym e) ∙ g.awaited.was in cc)
        cases PassStage e calls f frozen = absurd (let n : None ≡ Some g.plan = ap plan_of (sym e) ∙ g.awaited.was in cc)
        cases (Close plan header tables) e [] f frozen = absurd (g.closes (λ z. (let y : closing_outcomes old.stage ≡ 5 = ap closing_outcomes e in omega (arith, z, y))) f)
        cases (Close plan header tables) e (call ∷ calls) f frozen =
            let w = counted_more (Close plan header tables) e refl (and_parts (nat_eq (kind_number old.order.kind) 2) true frozen).0 in
            let left : outcomes_of plan ≡ outcomes_of g.plan = left_of (Close plan header tables) g.plan (ap plan_of (sym e) ∙ g.awaited.was) in
            let all : since + outcomes_of plan + writes_out old.writes ≡ data_pages old.pass.entries + 5 = w.0 in
            let now : (if is_frozen_dump old then since + 1 else since) ≡ since + 1 = w.1 in
            record { count = omega arith }

-- the write of a data page is counted too
written_leaves : (since : ℕ) (old new : Making) (made : Made) → IsWritten old made new → (is_frozen_dump old ≡ true → IsCounted since old)
    → is_frozen_dump new ≡ true → IsCounted (if is_frozen_dump old then since + 1 else since) new
written_leaves since old new made w was frozen = grind (arith, take_count)

more_leaves : (since : ℕ) (old new : Making) (made : Made) → PlanGoesOn old made new ⊎ IsWritten old made new → (is_frozen_dump old ≡ true → IsCounted since old)
    → is_frozen_dump new ≡ true → IsCounted (if is_frozen_dump old then since + 1 else since) new
more_leaves since old new made (inl g) was frozen = hands_leaves since old new made g was frozen
more_leaves since old new made (inr w) was frozen = written_leaves since old new made w was frozen

more_order : (old new : Making) (made : Made) → PlanGoesOn old made new ⊎ IsWritten old made new → new.order ≡ old.order
more_order old new made given = grind arith

image_counts : (since : ℕ) (running : Running) (image : Making) → running.image ≡ Some image → IsRunning since running → is_frozen_dump image ≡ true → IsCounted since image
image_counts since running image e is = subst (AreCounted since) e is.counts

image_own : (since : ℕ) (running : Running) (image : Making) → running.image ≡ Some image → IsRunning since running → image.order ≡ order_of running image.order.serial image.order.state
image_own since running image e is = subst (IsItsImage running) e is.own

counted_is : (since : ℕ) (running : Running) (image : Making) → running.image ≡ Some image → outcomes_since_freeze running since ≡ (if is_frozen_dump image then since + 1 else since)
counted_is since running image e = ap (λ (o : Option Making). if is_frozen_image o then since + 1 else since) e

-- a checkpoint that goes on
pub hands_running : (since : ℕ) (old new : Running) (made : Made) (progress : Progress) → IsRunning since old → HandsTo old made progress new
    → is_strange progress ≡ false → ends progress ≡ false → IsRunning (outcomes_since_freeze old since) new
hands_running since old new made Strange is hands strange ended = absurd (both_ways true strange refl)
hands_running since old new made GoesOnWith is hands strange ended =
    let same : hands.next.order ≡ hands.image.order = more_order hands.image hands.next made hands.hands in
    subst (λ (r : Running). IsRunning (outcomes_since_freeze old since) r) (sym hands.is) (record {
      few = is.few;
      own = same ∙ image_own since old hands.image hands.was is ∙ ap (λ (o : ImageOrder). order_of old o.serial o.state) (sym same);
      counts = λ frozen. subst (λ n. IsCounted n hands.next) (sym (counted_is since old hands.image hands.was))
          (more_leaves since hands.image hands.next made hands.hands (image_counts since old hands.image hands.was is) frozen);
    })
hands_running since old new made (PreDumpOpen opened) is hands strange ended =
    subst (λ (r : Running). IsRunning (outcomes_since_freeze old since) r) (sym hands.2) (record {
      few = more old.opened (length old.pre_dumps) hands.1;
      own = tt;
      counts = tt;
    })
  where
    more : (a b : ℕ) → nat_le b a ≡ false → a + 1 ≤ b
    more a b e = grind (arith, nat_tests)
hands_running since old new made _ is hands strange ended = absurd (both_ways true ended refl)

-- an outcome that was awaited
pub handed : (old new : Dumping) (made : Made) (progress : Progress) → is_strange progress ≡ false → IsHanded old made progress new → Hands old made progress new
handed old new made progress strange is = grind arith

-- a step freezes the memory exactly where the image is after its format
freezes_is : (ticket : ℕ) (old new : Making) (before after : Contents) (step : ImageStep) → Steps ticket old before step new after → freezes step ≡ is_freeze_next old.stage
freezes_is ticket old new before after (Call request) s = sym (has_plan old.stage s.0.plan s.0.was)
  where
    has_plan : (stage : Stage) (plan : Planned) → plan_of stage ≡ Some plan → is_freeze_next stage ≡ false
    has_plan (Format p) plan e = refl
    has_plan Freeze plan e = absurd (let f : None ≡ Some plan = e in cc)
    has_plan PassStage plan e = refl
    has_plan (Close p header tables) plan e = refl
freezes_is ticket old new before after (Visited visit) s = sym (ap is_freeze_next s.passes.0)
freezes_is ticket old new before after (Copied c) s = sym (ap is_freeze_next s.0.passes.0)
freezes_is ticket old new before after _ s = sym (ap is_freeze_next s.0.stage)

from_freeze : (running : Running) (serial : ℕ) (state : SlotState) (image : Option Making) → is_freeze_next (image_from running serial state image).stage ≡ is_to_freeze image
from_freeze running serial state image = grind arith

-- before its freeze a memory isn't frozen, so nothing is counted
freeze_counts : (image : Option Making) → is_to_freeze image ≡ true → AreCounted 0 image
freeze_counts None e = absurd (both_ways false refl e)
freeze_counts (Some image) e =
    λ frozen. absurd (both_ways (is_past_freeze image.stage) (not_past image.stage e) (and_parts (nat_eq (kind_number image.order.kind) 2) (is_past_freeze image.stage) frozen).1)
  where
    not_past : (stage : Stage) → is_freeze_next stage ≡ true → is_past_freeze stage ≡ false
    not_past (Format plan) e = refl
    not_past Freeze e = refl
    not_past PassStage e = absurd (both_ways false refl e)
    not_past (Close plan header tables) e = absurd (both_ways false refl e)

-- a step, or none where it was refused
pub worked : (since now serial : ℕ) (state : SlotState) (ticket : ℕ) (old : Option Checkpoint) (checkpoint : Checkpoint) (new : Running) (before after : Contents) (result : Result ImageStep AllocError)
    → AreRunning since (option_map running_of old) → old ≡ Some checkpoint → now ≡ (if is_to_freeze (running_of checkpoint).image then 0 else since)
    → IfOk result (λ step. WorksOn serial state ticket (running_of checkpoint) before step new after)
    → OnErr result (new ≡ running_of checkpoint) → IsRunning now new
worked since now serial state ticket old checkpoint new before after (Ok step) are is reset works err =
    let own = running_of checkpoint in
    let was : IsRunning since own = subst (λ (o : Option Checkpoint). AreRunning since (option_map running_of o)) is are in
    subst (λ n. IsRunning n new)
    (ap (λ b. if b then 0 else since) (freezes_is ticket (image_from own serial state own.image) works.image before after step works.steps ∙ from_freeze own serial state own.image) ∙ sym reset)
    (works_running since serial state ticket own new before after step was works)
worked since now serial state ticket old checkpoint new before after (Err e) are is reset works err =
    subst (λ (r : Running). IsRunning now r) (sym err) (subst (λ n. IsRunning n (running_of checkpoint)) (sym reset) (by (is_to_freeze (running_of checkpoint).image) refl))
  where
    was : IsRunning since (running_of checkpoint)
    was = subst (λ (o : Option Checkpoint). AreRunning since (option_map running_of o)) is are

    by : (b : Bool) → is_to_freeze (running_of checkpoint).image ≡ b → IsRunning (if b then 0 else since) (running_of checkpoint)
    by b e = grind arith

pub same_dumping : (a b : Option Running) (m n : ℕ) → a ≡ b → m ≡ n → ◌≡◌ {A = Dumping} (record { running = a; since_freeze = m }) (record { running = b; since_freeze = n })
same_dumping a b m n e f = ap (λ o. record { running = o; since_freeze = m }) e ∙ ap (λ k. record { running = b; since_freeze = k }) f

pub counted_one : (running : Running) (since old : ℕ) → is_frozen_image running.image ≡ true → since ≡ old → since + 1 ≡ outcomes_since_freeze running old
counted_one running since old frozen same = ap (λ n. n + 1) same ∙ sym (ap (λ b. if b then old + 1 else old) frozen)

pub ended : (next : Running) (b : Bool) → b ≡ true → ◌≡◌ {A = Option Running} None (if b then None else Some next)
ended next b e = sym (ap (λ b. if b then None else Some next) e)

pub goes_on : (next : Running) (b : Bool) → b ≡ false → ◌≡◌ {A = Option Running} (Some next) (if b then None else Some next)
goes_on next b e = sym (ap (λ b. if b then None else Some next) e)
