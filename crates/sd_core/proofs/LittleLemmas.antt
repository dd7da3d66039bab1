-- Which pages an image has, by the marked journal.
use Rattle.std.proofs.Common.{◌≡◌, ◌⊎◌, ℕ, ◌==◌, ◌||◌, Bool, true, false, if◌then◌else◌, [], ◌∷◌, ◌++◌, Option, Some, None, IfSome, IsSome, is_some, not, refl, sym, ◌∙◌, ap, subst, inr, inl, arith}
use Rattle.std.specs.List.{list_any}
use Rattle.std.specs.Option.{option_map}
use Rattle.std.proofs.lemmas.Bool.{both_ways, eq-eqb, or_parts, and_parts}
use Rattle.std.proofs.lemmas.Option.{same_Some}
use Rattle.sd_areas.specs.PlainMemory as plain
use Rattle.sd_gate.specs.Requests.{Asked, Made}
use Rattle.sd_gate.specs.Plans.{Planned}
use Rattle.sd_gate.specs.Sequences.{Calls}
use Rattle.sd_image.specs.declared.header.Kind.{Kind}
use Rattle.sd_image.specs.declared.header.Kind.TheVariants.{Dump, Merged, PreDump}
use Rattle.sd_image.specs.declared.run.RunKind.TheVariants.{Parent}
use Rattle.sd_image.specs.Words.{kind_number}
use Rattle.sd_command.specs.declared.command.Command.{Command}
use Rattle.sd_command.specs.declared.reply.Reply.{Reply}
use Rattle.sd_journal.specs.declared.entry.Entry.TheVariants.{Acked, Applied, Cancelled, Freeze, Reopened}
use Rattle.sd_journal.specs.declared.mark.Mark.TheVariants.{Start, Table, Visit}
use Rattle.sd_journal.specs.History.{Base, at_freeze, memory_after}
use Rattle.sd_journal.specs.Marked.{IsTracked, Marked, Noted, Told, entries_of, must_dump, is_of, memory_at}
use Rattle.sd_journal.specs.TrackedLaws.{MustDumpLaws, before_freeze}
use Rattle.sd_pagetable.specs.Contents.{Contents, page_at}
use Rattle.sd_pagetable.specs.Law.{PlainLaw}
use Rattle.sd_pagetable.specs.Nested.{value_at}
use Rattle.sd_pagetable.specs.Page.{PageState, plain_page}
use Rattle.sd_rounds.specs.declared.image_order.ImageOrder.{ImageOrder}
use Rattle.sd_rounds.specs.declared.image_step.ImageStep.{ImageStep}
use Rattle.sd_rounds.specs.declared.image_step.ImageStep.TheVariants.{Call, PageCall, TableCall, Frozen, Visited, Copied}
use Rattle.sd_rounds.specs.declared.stage.Stage.{Stage}
use Rattle.sd_rounds.specs.declared.stage.Stage.TheVariants.{Format, Freeze as FreezeStage, Pass as PassStage}
use Rattle.sd_rounds.specs.declared.visit.Visit.{Visit as PageVisit}
use Rattle.sd_rounds.specs.Dump.{right_kind, kind_of_bytes}
use Rattle.sd_rounds.specs.Dumper.{Running, is_frozen_image}
use Rattle.sd_rounds.specs.ImageVisits.{visits_after}
use Rattle.sd_rounds.specs.LittleWork.{IsTaking, LittleLaws, TakesAsItMust, TakesAsItMustIn, TakesVisited}
use Rattle.sd_rounds.specs.Making.{IsWritten, Making, PlanGoesOn, Steps, Visits, begun_image, is_frozen_dump, is_past_freeze, stage_after, stage_when_done, with_plan}
use Rattle.sd_writing.specs.Entries.{Place}
use Rattle.sd_rounds.specs.Rises.{IsRising}
use Rattle.sd_core.specs.LittleWork.{HasLittle, IsFrozenFor, TakesLittle, visits_of, right_way}
use Rattle.sd_core.specs.Answering.{IsAnswered}
use Rattle.sd_core.specs.Sound.{IsCore, Parts}
use Rattle.sd_core.specs.Visited.{IsClean, is_closing}
use Rattle.sd_core.proofs.WorkLemmas.{at_work}

-- ---- the visits of an image

-- none under a serial that no mark has
pub no_visits : (base : Base) (items : Marked) (serial : ℕ) → list_any (is_of serial) items ≡ false → visits_of base items serial ≡ []
no_visits base [] serial none = refl
no_visits base (Told entry ∷ items) serial none = no_visits base items serial none
no_visits base (Noted (Start s) ∷ items) serial none = no_visits base items serial (or_parts (s == serial) (list_any (is_of serial) items) none).1
no_visits base (Noted (Visit s space page) ∷ items) serial none =
    let both = or_parts (s == serial) (list_any (is_of serial) items) none in
    ap (λ b. if b then visits_of base items serial ++ (record { place = (space, page); soft_dirty = must_dump base items space page }) ∷ [] else visits_of base items serial) both.0
    ∙ no_visits base items serial both.1
no_visits base (Noted (Table s) ∷ items) serial none = no_visits base items serial (or_parts (s == serial) (list_any (is_of serial) items) none).1

-- a visit finds whether the page must be dumped
pub visit_more : MustDumpLaws → (base : Base) (items : Marked) (before after : Contents) (image next : Making) (visit : PageVisit) (serial : ℕ) → IsTracked base items before
    → Visits image before visit next after
    → visits_of base (Noted (Visit serial visit.space visit.page) ∷ items) serial ≡ visits_after (Visited visit) (visits_of base items serial)
visit_more laws base items before after image next visit serial tracked v = grind arith

-- ---- a step of the image in the making

same_order : (ticket : ℕ) (image next : Making) (before after : Contents) (step : ImageStep) → Steps ticket image before step next after → next.order ≡ image.order
same_order ticket image next before after step s = grind arith

past_freeze : (image : Making) → is_frozen_dump image ≡ true → is_past_freeze image.stage ≡ true
past_freeze image is = (and_parts (kind_number image.order.kind == 2) (is_past_freeze image.stage) is).1

not_closing : {P : Type 0} (stage : Stage) → stage ≡ PassStage → is_closing stage ≡ true → P
not_closing stage is closing = absurd (let no : false ≡ true = sym (ap is_closing is) ∙ closing in cc)

same_closing : (stage : Stage) (plan : Planned) → is_closing (with_plan stage plan) ≡ is_closing stage
same_closing stage plan = grind arith

-- once its table is written each page was visited, and nothing was touched since
closed_step : (base : Base) (items : Marked) (number ticket : ℕ) (image next : Making) (before after : Contents) (step : ImageStep) → Steps ticket image before step next after
    → IsFrozenFor base items before number image → (is_closing image.stage ≡ true → IsClean before) → is_closing next.stage ≡ true → IsClean after
closed_step base items number ticket image next before after (Call request) s dump was closing =
    subst IsClean (sym s.2) (was (sym (ap (λ (m : Making). is_closing m.stage) s.0.is ∙ same_closing image.stage s.0.next) ∙ closing))
closed_step base items number ticket image next before after (PageCall lane request) s dump was closing = not_closing next.stage s.0.still closing
closed_step base items number ticket image next before after (TableCall request) s dump was closing = subst IsClean (sym s.2) (λ space number page there.
    let taking : IsTaking dump.cut image.pass before = subst (λ stage. TakesAsItMustIn stage dump.cut image.pass before) s.0.stage dump.takes in
    taking.dumping.passed (space, number) page (ap not (s.0.over space number (subst IsSome (sym there) refl))) there)
closed_step base items number ticket image next before after Frozen s dump was closing = not_closing next.stage (ap (λ (m : Making). m.stage) s.0.is) closing
closed_step base items number ticket image next before after (Visited visit) s dump was closing = not_closing next.stage (ap (λ (m : Making). m.stage) s.passes.1 ∙ s.passes.0) closing
closed_step base items number ticket image next before after (Copied copied) s dump was closing = not_closing next.stage (ap (λ (m : Making). m.stage) s.0.passes.1 ∙ s.0.passes.0) closing

pub step_little : LittleLaws → (base : Base) (items now : Marked) (before after : Contents) (number ticket : ℕ) (image next : Making) (step : ImageStep)
    → Steps ticket image before step next after → IsRising image.pass → is_frozen_dump next ≡ is_frozen_dump image
    → visits_of base now image.order.serial ≡ visits_after step (visits_of base items image.order.serial) → before_freeze now number ≡ before_freeze items number
    → TakesLittle base items before number image → TakesLittle base now after number next
step_little laws base items now before after number ticket image next step s rising still seen since was = record {
  round = λ kind. subst (λ all. TakesVisited all next) (sym seen ∙ ap (λ (o : ImageOrder). visits_of base now o.serial) (sym order))
      (laws.visits ticket (visits_of base items image.order.serial) image next before after step s (ap (λ (o : ImageOrder). o.kind) (sym order) ∙ kind)
      (was.round (ap (λ (o : ImageOrder). o.kind) (sym order) ∙ kind)));
  dump = λ is.
      let d = was.dump (sym still ∙ is) in
      record {
        frozen = d.frozen;
        before = since ∙ d.before;
        cut = d.cut;
        tracked = d.tracked;
        takes = laws.steps ticket d.cut image next before after step s (past_freeze image (sym still ∙ is)) rising d.takes;
      };
  closed = λ is closing. closed_step base items number ticket image next before after step s (was.dump (sym still ∙ is)) (was.closed (sym still ∙ is)) closing;
}
  where
    order : next.order ≡ image.order
    order = same_order ticket image next before after step s

-- the memory is frozen for it
pub freeze_little : LittleLaws → (base : Base) (items : Marked) (before after : Contents) (number ticket : ℕ) (image next : Making)
    → Steps ticket image before Frozen next after → image.order.kind ≡ Dump → IsTracked base items before
    → TakesLittle base (Told (Freeze number) ∷ items) after number next
freeze_little laws base items before after number ticket image next s kind tracked = record {
  round = λ is. absurd (not_both (sym (ap (λ (o : ImageOrder). o.kind) (same_order ticket image next before after Frozen s) ∙ kind) ∙ is));
  dump = λ is. record {
    frozen = items;
    before = ap (λ b. if b then Some items else before_freeze items number) (eq-eqb number number refl);
    cut = before;
    tracked = tracked;
    takes = laws.freezes ticket image next before after s;
  };
  closed = λ is closing. not_closing next.stage (ap (λ (m : Making). m.stage) s.0.is) closing;
}
  where
    not_both : Dump ≡ PreDump → ⊥
    not_both e = cc

-- an image that begins, with its first call
pub begun_little : LittleLaws → (base : Base) (items : Marked) (before after : Contents) (number ticket : ℕ) (order : ImageOrder) (next : Making) (request : Asked)
    → Steps ticket (begun_image order) before (Call request) next after → list_any (is_of order.serial) items ≡ false → is_frozen_dump next ≡ false
    → TakesLittle base (Noted (Start order.serial) ∷ items) after number next
begun_little laws base items before after number ticket order next request s fresh not_yet = record {
  round = λ kind. subst (λ all. TakesVisited all next) (sym (no_visits base items order.serial fresh) ∙ ap (λ (o : ImageOrder). visits_of base items o.serial) (sym same))
      (laws.visits ticket [] (begun_image order) next before after (Call request) s (ap (λ (o : ImageOrder). o.kind) (sym same) ∙ kind) (laws.begins order));
  dump = λ is. absurd (both_ways (is_frozen_dump next) not_yet is);
  closed = λ is closing. absurd (both_ways (is_frozen_dump next) not_yet is);
}
  where
    same : next.order ≡ order
    same = same_order ticket (begun_image order) next before after (Call request) s

behind_closing : {P : Type 0} (kind : Kind) (stage : Stage) → is_closing (stage_when_done kind stage) ≡ true → P
behind_closing Dump (Format plan) closing = absurd (let no : false ≡ true = closing in cc)
behind_closing PreDump (Format plan) closing = absurd (let no : false ≡ true = closing in cc)
behind_closing Merged (Format plan) closing = absurd (let no : false ≡ true = closing in cc)
behind_closing kind FreezeStage closing = absurd (let no : false ≡ true = closing in cc)
behind_closing _ _ closing = absurd (let no : false ≡ true = closing in cc)

after_closing : (kind : Kind) (stage : Stage) (plan : Planned) (calls : Calls) → is_closing (stage_after kind stage plan calls) ≡ true → is_closing stage ≡ true
after_closing kind stage plan calls closing = grind arith

still_closing : (image next : Making) (made : Made) → PlanGoesOn image made next ⊎ IsWritten image made next → is_closing next.stage ≡ true → is_closing image.stage ≡ true
still_closing image next made given closing = grind arith

-- an outcome with which it goes on
pub more_little : LittleLaws → (base : Base) (items : Marked) (memory : Contents) (number : ℕ) (image next : Making) (made : Made)
    → PlanGoesOn image made next ⊎ IsWritten image made next → is_frozen_dump next ≡ is_frozen_dump image → TakesLittle base items memory number image → TakesLittle base items memory number next
more_little laws base items memory number image next made g still was = record {
  round = λ kind. subst (λ (o : ImageOrder). TakesVisited (visits_of base items o.serial) next) (sym order)
      (laws.goes_on (visits_of base items image.order.serial) image next made g (was.round (ap (λ (o : ImageOrder). o.kind) (sym order) ∙ kind)));
  dump = λ is.
      let d = was.dump (sym still ∙ is) in
      record {
        frozen = d.frozen;
        before = d.before;
        cut = d.cut;
        tracked = d.tracked;
        takes = laws.hands d.cut image next memory made g (past_freeze image (sym still ∙ is)) d.takes;
      };
  closed = λ is closing. was.closed (sym still ∙ is) (still_closing image next made g closing);
}
  where
    order : next.order ≡ image.order
    order = elim g [ inl goes ↦ ap (λ (m : Making). m.order) goes.is | inr written ↦ ap (λ (m : Making). m.order) written.is ]

-- ---- a command was journaled

applied_image : (base : Base) (items : Marked) (old new : Contents) (number : ℕ) (image : Making) (seat : ℕ) (command : Command) (reply : Reply)
    → (is_frozen_dump image ≡ true → new ≡ old) → TakesLittle base items old number image → TakesLittle base (Told (Applied seat command reply) ∷ items) new number image
applied_image base items old new number image seat command reply same was = record {
  round = λ kind. was.round kind;
  dump = λ is.
      let d = was.dump is in
      record { frozen = d.frozen; before = d.before; cut = d.cut; tracked = d.tracked; takes = subst (λ m. TakesAsItMust d.cut image m) (sym (same is)) d.takes };
  closed = λ is closing. subst IsClean (sym (same is)) (was.closed is closing);
}

applied_of : (base : Base) (items : Marked) (old new : Contents) (number : ℕ) (image : Option Making) (seat : ℕ) (command : Command) (reply : Reply)
    → ((making : Making) → image ≡ Some making → is_frozen_dump making ≡ true → new ≡ old) → IfSome image (TakesLittle base items old number)
    → IfSome image (TakesLittle base (Told (Applied seat command reply) ∷ items) new number)
applied_of base items old new number None seat command reply same was = tt
applied_of base items old new number (Some image) seat command reply same was = applied_image base items old new number image seat command reply (same image refl) was

pub applied_little : (base : Base) (items : Marked) (old new : Contents) (running : Option Running) (seat : ℕ) (command : Command) (reply : Reply)
    → ((r : Running) (making : Making) → running ≡ Some r → r.image ≡ Some making → is_frozen_dump making ≡ true → new ≡ old) → IfSome running (HasLittle base items old)
    → IfSome running (HasLittle base (Told (Applied seat command reply) ∷ items) new)
applied_little base items old new None seat command reply same was = tt
applied_little base items old new (Some running) seat command reply same was =
    applied_of base items old new running.number running.image seat command reply (λ making. same running making refl) was

-- a command that comes while the memory is frozen changes nothing
pub still_while_frozen : (core : Parts) (new : Contents) (command : Command) (reply : Reply) → IsCore core → IsAnswered (is_some core.frozen) command reply core.memory new
    → (running : Running) (making : Making) → core.dumper.running ≡ Some running → running.image ≡ Some making → is_frozen_dump making ≡ true → new ≡ core.memory
still_while_frozen core new command reply sound answered running making was is frozen = (subst (λ f. IsAnswered (is_some f) command reply core.memory new) pends answered).1
  where
    pends : core.frozen ≡ Some running.number
    pends = (at_work core running sound was).pends ∙ ap (λ i. if is_frozen_image i then Some running.number else None) is
        ∙ ap (λ b. if b then Some running.number else None) frozen

-- ---- the image that is open

-- the way in which a page must be dumped at the freeze, by the marked journal
pub due_is_way : PlainLaw → MustDumpLaws → (base : Base) (frozen : Marked) (cut : Contents) → IsTracked base frozen cut → (whole : Bool) (at : Place)
    → right_kind whole (page_at cut at.0 at.1) ≡ right_way whole base frozen at
due_is_way law dues base frozen cut tracked whole at =
    by (page_at cut at.0 at.1) refl
    ∙ ap (option_map (λ (page : plain.Page). if whole || must_dump base frozen at.0 at.1 then kind_of_bytes page.bytes else Parent))
    (sym (law.pages cut at.0 at.1) ∙ ap (λ m. value_at m at.0 at.1) tracked.memory)
  where
    by : (o : Option PageState) → page_at cut at.0 at.1 ≡ o
        → right_kind whole o ≡ option_map (λ (page : plain.Page). if whole || must_dump base frozen at.0 at.1 then kind_of_bytes page.bytes else Parent) (option_map plain_page o)
    by None there = refl
    by (Some page) there = ap (λ b. Some (if whole || b then kind_of_bytes page.bytes else Parent)) (dues.bit base frozen cut at.0 at.1 page tracked there)

-- what stood before a freeze makes the memory at it
pub freeze_memory : (base : Base) (items frozen : Marked) (n : ℕ) → before_freeze items n ≡ Some frozen → at_freeze base (entries_of items) n ≡ Some (memory_at base frozen)
freeze_memory base [] frozen n is = absurd (let no : None ≡ Some frozen = is in cc)
freeze_memory base (Noted mark ∷ items) frozen n is = freeze_memory base items frozen n is
freeze_memory base (Told (Applied seat command reply) ∷ items) frozen n is = freeze_memory base items frozen n is
freeze_memory base (Told (Freeze m) ∷ items) frozen n is = by (m == n) is (freeze_memory base items frozen n)
  where
    by : (b : Bool) → (if b then Some items else before_freeze items n) ≡ Some frozen
        → (before_freeze items n ≡ Some frozen → at_freeze base (entries_of items) n ≡ Some (memory_at base frozen))
        → (if b then Some (memory_after base (entries_of items)) else at_freeze base (entries_of items) n) ≡ Some (memory_at base frozen)
    by true e rest = ap (λ all. Some (memory_at base all)) (same_Some items frozen e)
    by false e rest = rest e
freeze_memory base (Told (Acked m) ∷ items) frozen n is = freeze_memory base items frozen n is
freeze_memory base (Told (Cancelled m) ∷ items) frozen n is = freeze_memory base items frozen n is
freeze_memory base (Told (Reopened m) ∷ items) frozen n is = freeze_memory base items frozen n is

-- of the image that is being made
pub little_of : (base : Base) (items : Marked) (memory : Contents) (all : Option Running) (running : Running) (image : Making) → IfSome all (HasLittle base items memory)
    → all ≡ Some running → running.image ≡ Some image → TakesLittle base items memory running.number image
little_of base items memory all running image was is making =
    subst (λ i. IfSome i (TakesLittle base items memory running.number)) making (subst (λ r. IfSome r (HasLittle base items memory)) is was)
