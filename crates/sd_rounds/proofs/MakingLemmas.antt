-- What the steps of an image keep.
use Rattle.std.proofs.Common.{◌≡◌, ◌≢◌, ℕ, ◌+◌, Bool, true, false, nat_eq, ◌||◌, if◌then◌else◌, List, [], ◌∷◌, ◌++◌, length, Option, Some, refl, sym, ◌∙◌, ap, subst, arith}
use Rattle.std.specs.List.{AllByRecursion, concat}
use Rattle.std.proofs.lemmas.List.Folds.{concat-append}
use Rattle.std.proofs.lemmas.Bool.{both_ways}
use Rattle.std.proofs.lemmas.List.{append-nil, length-append}
use Rattle.sd_image.specs.declared.header.Kind.{Kind}
use Rattle.sd_image.specs.declared.run.RunKind.{RunKind}
use Rattle.sd_image.specs.declared.digester.Digester.{Digester}
use Rattle.sd_image.specs.Digests.{HasFed}
use Rattle.sd_image.specs.declared.run.RunKind.TheVariants.{Data, Parent}
use Rattle.sd_gate.specs.declared.request_id.RequestId.{RequestId}
use Rattle.sd_gate.specs.Plans.{Planned, plan_after}
use Rattle.sd_gate.specs.Requests.{Made}
use Rattle.sd_gate.specs.Sequences.{Calls}
use Rattle.sd_pagetable.specs.Contents.{Contents, IsSound}
use Rattle.sd_pagetable.specs.Tracking.{MemoryEvent, Step}
use Rattle.sd_rounds.specs.declared.copied.Copied as copied
use Rattle.sd_rounds.specs.declared.visit.Visit as visit
use Rattle.sd_rounds.specs.declared.image_order.ImageOrder.{ImageOrder}
use Rattle.sd_writing.specs.declared.written.Written.TheVariants.{More}
use Rattle.sd_rounds.specs.declared.image_step.ImageStep.{ImageStep}
use Rattle.sd_rounds.specs.declared.image_step.ImageStep.TheVariants.{Call, PageCall, TableCall, Frozen, Visited, Copied}
use Rattle.sd_rounds.specs.declared.stage.Stage.{Stage}
use Rattle.sd_rounds.specs.declared.stage.Stage.TheVariants.{Format, Freeze, Pass as PassStage, Close}
use Rattle.sd_rounds.specs.Dump.{DumpLaws, IsDumping}
use Rattle.sd_rounds.specs.Keeps.{Chain, ChainWithin, IsCall, Keeps, KeepsLaws, Rests}
use Rattle.sd_writing.specs.Files.{listed_pages, Pages}
use Rattle.sd_rounds.specs.Making.{HandsIn, Making, PlanGoesOn, Steps, WritesTable, begun_image, closing_outcomes, is_past_freeze, stage_after, stage_when_done, with_plan}
use Rattle.sd_rounds.specs.MakingLaws.{DumpsImage, IsDumpedIn, IsKeptIn, KeepsImage, MakingLaws, pages_after}
use Rattle.sd_rounds.specs.Pass.{Pass, begun_to_take, left_to_parent, opened, with_entry}
use Rattle.sd_writing.specs.Entries.{Place, data_pages, pages_by}
use Rattle.sd_rounds.specs.Rises.{IsRising}
use Rattle.sd_rounds.specs.Rounds.{Copies, Tests, TakesPage}
use Rattle.sd_rounds.specs.Steps.{StepLaws}
use Rattle.sd_rounds.proofs.KeepsLemmas.{gives_agrees}
use Rattle.sd_writing.proofs.EntryLemmas.{pages_append}
use Rattle.sd_writing.proofs.TableLemmas.{all_put}

-- ---- how many data pages there are

other_kind : (pass : Pass) (kind : RunKind) → kind ≢ Data → (at : Place) → data_pages (with_entry pass at kind).entries ≡ data_pages pass.entries
other_kind pass kind other at = grind (arith, pages_append, length-append)

one_more : (pass : Pass) (at : Place) → data_pages (with_entry pass at Data).entries ≡ data_pages pass.entries + 1
one_more pass at = ap length (pages_append Data pass.entries _) ∙ length-append (pages_by Data pass.entries) (at ∷ [])

pub visit_counts : (old : Pass) (before : Contents) (visit : visit.Visit) (new : Pass) (after : Contents) → Tests old before visit new after → data_pages new.entries ≡ data_pages old.entries
visit_counts old before visit new after t = ap (λ (p : Pass). data_pages p.entries) t.is ∙ by (old.takes_all || t.page.soft_dirty)
  where
    by : (b : Bool) → data_pages (if b then begun_to_take old (visit.space, visit.page) else left_to_parent old (visit.space, visit.page)).entries ≡ data_pages old.entries
    by true = refl
    by false = other_kind (record old { after = Some (visit.space, visit.page) }) Parent (λ e. cc) (visit.space, visit.page)

pub copy_counts : (old : Pass) (memory : Contents) (c : copied.Copied) (new : Pass) → Copies old memory c new → data_pages new.entries ≡ data_pages old.entries
copy_counts old memory c new m = grind (arith, other_kind)

pub take_counts : (old : Pass) (bytes : List ℕ) (new : Pass) → TakesPage old bytes new → data_pages new.entries ≡ data_pages old.entries + 1
take_counts old bytes new t = ap (λ (p : Pass). data_pages p.entries) t.is ∙ one_more old t.taking.place

-- ---- what is kept

asked_keeps : (stage : Stage) (plan : Planned) (pages : Pages) (chain : Chain) (pass : Pass) (memory : Contents) → IsKeptIn stage pages chain pass memory → IsKeptIn (with_plan stage plan) pages chain pass memory
asked_keeps stage plan pages chain pass memory kept = grind arith

pub asked_dumps : (stage : Stage) (plan : Planned) (cut : Contents) (pages : Pages) (chain : Chain) (pass : Pass) (memory : Contents) → IsDumpedIn stage cut pages chain pass memory
    → IsDumpedIn (with_plan stage plan) cut pages chain pass memory
asked_dumps stage plan cut pages chain pass memory dumped = grind arith

-- in the pass
pass_kept : (stage : Stage) (pages : Pages) (chain : Chain) (pass : Pass) (memory : Contents) → stage ≡ PassStage → IsKeptIn stage pages chain pass memory → Keeps (listed_pages pages) chain pass memory
pass_kept stage pages chain pass memory e kept = subst (λ (s : Stage). IsKeptIn s pages chain pass memory) e kept

pass_dumped : (stage : Stage) (cut : Contents) (pages : Pages) (chain : Chain) (pass : Pass) (memory : Contents) → stage ≡ PassStage → IsDumpedIn stage cut pages chain pass memory → IsDumping cut pass memory
pass_dumped stage cut pages chain pass memory e dumped = subst (λ (s : Stage). IsDumpedIn s cut pages chain pass memory) e dumped

-- the bytes of one page more
concat_snoc : (pages : Pages) (page : List ℕ) → concat (pages ++ page ∷ []) ≡ concat pages ++ page
concat_snoc pages page = concat-append pages (page ∷ []) ∙ ap (λ (xs : List ℕ). concat pages ++ xs) (append-nil page)

begins : KeepsLaws → (order : ImageOrder) (chain : Chain) (memory : Contents) → (order.parent ≢ 0 → Rests chain memory) → KeepsImage [] chain (begun_image order) memory
begins laws order chain memory rests = record {
  count = refl;
  whole = tt;
  digested = refl;
  kept = by (nat_eq order.parent 0) refl;
}
  where
    apart : (a : ℕ) → nat_eq a 0 ≡ false → a ≢ 0
    apart a e is = both_ways (nat_eq a 0) e (ap (λ n. nat_eq n 0) is)

    by : (b : Bool) → nat_eq order.parent 0 ≡ b → Keeps (listed_pages []) chain (opened b) memory
    by true e = laws.opens_whole (listed_pages []) chain memory
    by false e = laws.opens (listed_pages []) chain memory (rests (apart order.parent e))

-- the same image, in another stage
moved : (pages more : Pages) (chain : Chain) (new : Making) (stage : Stage) (pass : Pass) (order : ImageOrder) (writes : List (Option RequestId)) (digester : Digester) (memory : Contents)
    → new ≡ record { order = order; pass = pass; stage = stage; writes = writes; digester = digester } → length more ≡ data_pages pass.entries → AllByRecursion (λ page. length page ≡ 4096) more
    → HasFed digester (concat more) → IsKeptIn stage more chain pass memory → KeepsImage more chain new memory
moved pages more chain new stage pass order writes digester memory is count whole digested kept =
    subst (λ (m : Making). KeepsImage more chain m memory) (sym is) (record { count = count; whole = whole; digested = digested; kept = kept })

steps : KeepsLaws → StepLaws → (ticket : ℕ) (pages : Pages) (chain : Chain) (old new : Making) (before after : Contents) (step : ImageStep) → Steps ticket old before step new after
    → KeepsImage pages chain old before → KeepsImage (pages_after step pages) chain new after
steps keeps laws ticket pages chain old new before after (Call request) s was =
    subst (λ memory. KeepsImage pages chain new memory) (sym s.2)
    (moved pages pages chain new (with_plan old.stage s.0.next) old.pass old.order old.writes old.digester before s.0.is was.count was.whole was.digested
    (asked_keeps old.stage s.0.next pages chain old.pass before was.kept))
steps keeps laws ticket pages chain old new before after (PageCall lane request) s was =
    subst (λ memory. KeepsImage (pages ++ request.bytes ∷ []) chain new memory) (sym s.2) (record {
      count = length-append pages (request.bytes ∷ []) ∙ ap (λ n. n + 1) was.count ∙ sym (take_counts old.pass request.bytes new.pass s.0.taken);
      whole = all_put (λ page. length page ≡ 4096) pages request.bytes was.whole s.0.taken.whole;
      digested = subst (HasFed new.digester) (sym (concat_snoc pages request.bytes)) (s.0.digester (concat pages) was.digested);
      kept = subst (λ (g : Stage). IsKeptIn g (pages ++ request.bytes ∷ []) chain new.pass before) (sym s.0.still)
          (laws.take_keeps pages chain old.pass new.pass before request.bytes s.0.taken was.count (pass_kept old.stage pages chain old.pass before s.0.stage was.kept));
    })
steps keeps laws ticket pages chain old new before after (TableCall request) s was =
    subst (λ memory. KeepsImage pages chain new memory) (sym s.2) (by s.0)
  where
    by : WritesTable old before request new → KeepsImage pages chain new before
    by w = moved pages pages chain new (Close w.next w.header w.tables) old.pass old.order old.writes old.digester before w.is was.count was.whole was.digested
        (keeps.ends (listed_pages pages) chain old.pass before w.free w.over (pass_kept old.stage pages chain old.pass before w.stage was.kept))
steps keeps laws ticket pages chain old new before after Frozen s was =
    subst (λ memory. KeepsImage pages chain new memory) (sym s.1)
    (moved pages pages chain new PassStage old.pass old.order old.writes old.digester before s.0.is was.count was.whole was.digested
    (subst (λ (s : Stage). IsKeptIn s pages chain old.pass before) s.0.stage was.kept))
steps keeps laws ticket pages chain old new before after (Visited visit) s was =
    moved pages pages chain new old.stage new.pass old.order old.writes old.digester after s.passes.1 (was.count ∙ sym (visit_counts old.pass before visit new.pass after s.tests)) was.whole was.digested
    (subst (λ (g : Stage). IsKeptIn g pages chain new.pass after) (sym s.passes.0)
    (laws.visit_keeps (listed_pages pages) chain old.pass new.pass before after visit s.tests s.free (pass_kept old.stage pages chain old.pass before s.passes.0 was.kept)))
steps keeps laws ticket pages chain old new before after (Copied c) s was =
    subst (λ memory. KeepsImage pages chain new memory) (sym s.1)
    (moved pages pages chain new old.stage new.pass old.order old.writes old.digester before s.0.passes.1 (was.count ∙ sym (copy_counts old.pass before c new.pass s.0.copies)) was.whole was.digested
    (subst (λ (g : Stage). IsKeptIn g pages chain new.pass before) (sym s.0.passes.0)
    (laws.copy_keeps (listed_pages pages) chain old.pass new.pass before c s.0.copies (pass_kept old.stage pages chain old.pass before s.0.passes.0 was.kept))))

-- after a plan whose calls are done
behind_keeps : (kind : Kind) (stage : Stage) (pages : Pages) (chain : Chain) (pass : Pass) (memory : Contents) → closing_outcomes stage ≡ 0 → IsKeptIn stage pages chain pass memory
    → IsKeptIn (stage_when_done kind stage) pages chain pass memory
behind_keeps kind stage pages chain pass memory none kept = grind arith

pub none_closing : (stage : Stage) (calls : Calls) → (closing_outcomes stage ≢ 0 → calls ≢ []) → calls ≡ [] → closing_outcomes stage ≡ 0
none_closing stage calls closes none = grind arith

goes_on : (pages : Pages) (chain : Chain) (old new : Making) (memory : Contents) (made : Made) → PlanGoesOn old made new
    → KeepsImage pages chain old memory → KeepsImage pages chain new memory
goes_on pages chain old new memory made h was =
    moved pages pages chain new (stage_after old.order.kind old.stage (plan_after h.plan made) (plan_after h.plan made).calls) old.pass old.order old.writes old.digester memory h.is was.count was.whole was.digested
    (by (plan_after h.plan made).calls (none_closing old.stage (plan_after h.plan made).calls h.closes))
  where
    by : (calls : Calls) → (calls ≡ [] → closing_outcomes old.stage ≡ 0) → IsKeptIn (stage_after old.order.kind old.stage (plan_after h.plan made) calls) pages chain old.pass memory
    by [] none = behind_keeps old.order.kind old.stage pages chain old.pass memory (none refl) was.kept
    by (call ∷ calls) none = asked_keeps old.stage (plan_after h.plan made) pages chain old.pass memory was.kept

hands : (pages : Pages) (chain : Chain) (old new : Making) (memory : Contents) (made : Made) → HandsIn old made More new
    → KeepsImage pages chain old memory → KeepsImage pages chain new memory
hands pages chain old new memory made given was = grind arith

calls : KeepsLaws → (pages : Pages) (one other : Chain) (making : Making) (old new : Contents) (event : MemoryEvent) → IsSound old → Step old event new → IsCall event → ChainWithin one other
    → KeepsImage pages one making old → KeepsImage pages other making new
calls laws pages one other making old new event sound step call within was = record {
  count = was.count;
  whole = was.whole;
  digested = was.digested;
  kept = by making.stage was.kept;
}
  where
    passes : Keeps (listed_pages pages) one making.pass old → Keeps (listed_pages pages) other making.pass new
    passes kept = laws.agrees (listed_pages pages) (listed_pages pages) one other making.pass new (λ place few. refl) within
        (laws.calls (listed_pages pages) one making.pass old new event sound step call kept)

    by : (stage : Stage) → IsKeptIn stage pages one making.pass old → IsKeptIn stage pages other making.pass new
    by (Close plan header tables) kept =
        laws.still_gave (listed_pages pages) (listed_pages pages) one other making.pass.entries old new event sound step call (λ place few. refl) within kept
    by _ kept = passes kept

agrees : KeepsLaws → (pages : Pages) (one other : Chain) (making : Making) (memory : Contents) → ChainWithin one other
    → KeepsImage pages one making memory → KeepsImage pages other making memory
agrees laws pages one other making memory within was = record {
  count = was.count;
  whole = was.whole;
  digested = was.digested;
  kept = by making.stage was.kept;
}
  where
    passes : Keeps (listed_pages pages) one making.pass memory → Keeps (listed_pages pages) other making.pass memory
    passes kept = laws.agrees (listed_pages pages) (listed_pages pages) one other making.pass memory (λ place few. refl) within kept

    by : (stage : Stage) → IsKeptIn stage pages one making.pass memory → IsKeptIn stage pages other making.pass memory
    by (Close plan header tables) kept = λ space number bytes clean.
        gives_agrees (listed_pages pages) (listed_pages pages) one other making.pass.entries (space, number) bytes (λ place few. refl) within (kept space number bytes clean)
    by _ kept = passes kept

agrees_dump : (cut : Contents) (pages : Pages) (one other : Chain) (making : Making) (memory : Contents) → ChainWithin one other
    → DumpsImage cut pages one making memory → DumpsImage cut pages other making memory
agrees_dump cut pages one other making memory within was = by making.stage was
  where
    by : (stage : Stage) → IsDumpedIn stage cut pages one making.pass memory → IsDumpedIn stage cut pages other making.pass memory
    by (Format plan) is = tt
    by Freeze is = tt
    by PassStage is = is
    by (Close plan header tables) is = record {
      kinds = is.kinds;
      bytes = λ at page there. gives_agrees (listed_pages pages) (listed_pages pages) one other making.pass.entries at page.bytes (λ place few. refl) within (is.bytes at page there);
    }

-- ---- the dump

freezes : DumpLaws → (ticket : ℕ) (pages : Pages) (chain : Chain) (old new : Making) (before after : Contents) → Steps ticket old before Frozen new after
    → DumpsImage before pages chain new after
freezes laws ticket pages chain old new before after s = grind arith

dumps : DumpLaws → StepLaws → (ticket : ℕ) (cut : Contents) (pages : Pages) (chain : Chain) (old new : Making) (before after : Contents) (step : ImageStep) → Steps ticket old before step new after
    → is_past_freeze old.stage ≡ true → IsRising old.pass → KeepsImage pages chain old before → DumpsImage cut pages chain old before → DumpsImage cut (pages_after step pages) chain new after
dumps dump laws ticket cut pages chain old new before after (Call request) s past rising keeps was =
    subst (λ memory. DumpsImage cut pages chain new memory) (sym s.2)
    (subst (λ (m : Making). DumpsImage cut pages chain m before) (sym s.0.is) (asked_dumps old.stage s.0.next cut pages chain old.pass before was))
dumps dump laws ticket cut pages chain old new before after (PageCall lane request) s past rising keeps was =
    subst (λ memory. DumpsImage cut (pages ++ request.bytes ∷ []) chain new memory) (sym s.2)
    (subst (λ (g : Stage). IsDumpedIn g cut (pages ++ request.bytes ∷ []) chain new.pass before) (sym s.0.still)
    (laws.take_dumps (listed_pages pages) chain cut old.pass new.pass before request.bytes s.0.taken rising
    (pass_kept old.stage pages chain old.pass before s.0.stage keeps.kept) (pass_dumped old.stage cut pages chain old.pass before s.0.stage was)))
dumps dump laws ticket cut pages chain old new before after (TableCall request) s past rising keeps was =
    subst (λ memory. DumpsImage cut pages chain new memory) (sym s.2)
    (subst (λ (m : Making). DumpsImage cut pages chain m before) (sym s.0.is)
    (dump.ends (listed_pages pages) chain cut old.pass before s.0.free rising s.0.over
    (pass_kept old.stage pages chain old.pass before s.0.stage keeps.kept) (pass_dumped old.stage cut pages chain old.pass before s.0.stage was)))
dumps dump laws ticket cut pages chain old new before after Frozen s past rising keeps was =
    absurd (both_ways (is_past_freeze old.stage) (ap is_past_freeze s.0.stage) past)
dumps dump laws ticket cut pages chain old new before after (Visited visit) s past rising keeps was =
    subst (λ (m : Making). DumpsImage cut pages chain m after) (sym s.passes.1)
    (subst (λ (g : Stage). IsDumpedIn g cut pages chain new.pass after) (sym s.passes.0)
    (laws.visit_dumps cut old.pass new.pass before after visit s.tests s.free rising (pass_dumped old.stage cut pages chain old.pass before s.passes.0 was)))
dumps dump laws ticket cut pages chain old new before after (Copied c) s past rising keeps was =
    subst (λ memory. DumpsImage cut pages chain new memory) (sym s.1)
    (subst (λ (m : Making). DumpsImage cut pages chain m before) (sym s.0.passes.1)
    (subst (λ (g : Stage). IsDumpedIn g cut pages chain new.pass before) (sym s.0.passes.0)
    (laws.copy_dumps (listed_pages pages) chain cut old.pass new.pass before c s.0.copies rising
    (pass_kept old.stage pages chain old.pass before s.0.passes.0 keeps.kept) (pass_dumped old.stage cut pages chain old.pass before s.0.passes.0 was))))

behind_dumps : (kind : Kind) (stage : Stage) (cut : Contents) (pages : Pages) (chain : Chain) (pass : Pass) (memory : Contents) → closing_outcomes stage ≡ 0 → is_past_freeze stage ≡ true
    → IsDumpedIn stage cut pages chain pass memory → IsDumpedIn (stage_when_done kind stage) cut pages chain pass memory
behind_dumps kind stage cut pages chain pass memory none past dumped = grind arith

goes_on_dump : (cut : Contents) (pages : Pages) (chain : Chain) (old new : Making) (memory : Contents) (made : Made) → PlanGoesOn old made new
    → is_past_freeze old.stage ≡ true → DumpsImage cut pages chain old memory → DumpsImage cut pages chain new memory
goes_on_dump cut pages chain old new memory made h past was =
    subst (λ (m : Making). DumpsImage cut pages chain m memory) (sym h.is)
    (by (plan_after h.plan made).calls (none_closing old.stage (plan_after h.plan made).calls h.closes))
  where
    by : (calls : Calls) → (calls ≡ [] → closing_outcomes old.stage ≡ 0)
        → IsDumpedIn (stage_after old.order.kind old.stage (plan_after h.plan made) calls) cut pages chain old.pass memory
    by [] none = behind_dumps old.order.kind old.stage cut pages chain old.pass memory (none refl) past was
    by (call ∷ calls) none = asked_dumps old.stage (plan_after h.plan made) cut pages chain old.pass memory was

hands_dump : (cut : Contents) (pages : Pages) (chain : Chain) (old new : Making) (memory : Contents) (made : Made) → HandsIn old made More new
    → is_past_freeze old.stage ≡ true → DumpsImage cut pages chain old memory → DumpsImage cut pages chain new memory
hands_dump cut pages chain old new memory made given past was = grind arith

pub making_laws : KeepsLaws → DumpLaws → StepLaws → MakingLaws
making_laws keeps dump laws = record {
  begins = begins keeps;
  steps = steps keeps laws;
  hands = hands;
  calls = calls keeps;
  agrees = agrees keeps;
  agrees_dump = agrees_dump;
  freezes = freezes dump;
  dumps = dumps dump laws;
  hands_dump = hands_dump;
}
