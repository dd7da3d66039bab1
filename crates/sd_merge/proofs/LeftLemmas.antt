-- Each step and each outcome leaves fewer before a merge.
use Rattle.std.proofs.Common.{◌≡◌, ◌≢◌, ◌↔◌, ℕ, zero, suc, ◌+◌, ◌-◌, ◌*◌, ◌<◌, ◌≤◌, Bool, true, false, if◌then◌else◌, List, [], ◌∷◌, length, Option, Some, None, refl, sym, ◌∙◌, ap, subst, arith}
use Rattle.std.specs.Prelude.{slice_get}
use Rattle.std.proofs.lemmas.Bool.{both_ways}
use Rattle.sd_chain.specs.Catalog.{Places}
use Rattle.sd_gate.specs.declared.slot_state.SlotState.{SlotState}
use Rattle.sd_gate.specs.Plans.{Planned, is_one, plan_after}
use Rattle.sd_gate.specs.Requests.{Made}
use Rattle.sd_gate.specs.Sequences.{Calls, format_calls}
use Rattle.sd_gate.specs.PlanUse.{plan_left, IsUnderWay}
use Rattle.sd_writing.specs.declared.new_image.NewImage.{NewImage}
use Rattle.sd_gate.proofs.UseLemmas.{gives_fewer, settled_fewer}
use Rattle.sd_merge.specs.declared.merge_progress.MergeProgress.{MergeProgress}
use Rattle.sd_merge.specs.declared.merge_progress.MergeProgress.TheVariants as progress
use Rattle.sd_merge.specs.declared.merge_step.MergeStep.{MergeStep}
use Rattle.sd_merge.specs.declared.retired.Retired.{Retired}
use Rattle.sd_merge.specs.declared.stage.Stage.{Stage}
use Rattle.sd_merge.specs.declared.stage.Stage.TheVariants.{Pass as PassStage}
use Rattle.sd_merge.specs.Copying.{Copying, IsClosing, Opens, PlanGoesOn, Steps, begun_copy, is_taking, plan_of, stage_after, with_plan}
use Rattle.sd_merge.specs.Sources.{few_pages}
use Rattle.sd_merge.specs.Left.{LeftLaws, body_left, copy_left, doing_left, left_of, retiring_left, running_left, stage_left}
use Rattle.sd_merge.specs.Merger.{AreRunning, CopiesOn, Doing, EndsOne, GoesOnWith, Hands, HandsAt, HandsClosing, HandsCopying, HandsTo, IsLastCall, IsHanded, IsRunning, IsRunningAt, TakesList, Retiring, Running, StaysStrange, Works, WorksAt, awaited_in, copying, due, ends, is_strange, opened, order_of, retiring}
use Rattle.sd_writing.proofs.EntryLemmas.{few_calls}

-- ---- a plan

asked_fewer : (stage : Stage) (old new : Planned) (taking pages : ℕ) → plan_of stage ≡ Some old → plan_left new + 1 ≡ plan_left old
    → stage_left (with_plan stage new) taking pages < stage_left stage taking pages
asked_fewer stage old new taking pages is fewer = grind arith

-- ---- a step of the merged image

-- in the pass
passing : (old : Copying) → old.stage ≡ PassStage → copy_left old ≡ body_left (is_taking old.taking) old.ahead
passing old e = ap (λ (s : Stage). stage_left s (is_taking old.taking) old.ahead) e

step_fewer : (ticket : ℕ) (places : Places) (old new : Copying) (made : MergeStep) → Steps ticket places old made new → copy_left new < copy_left old
step_fewer ticket places old new made s = grind arith

-- ---- a step of a merge

plus_list : (a b list n : ℕ) → a < b → n ≡ a + list → n < b + list
plus_list a b list n l e = omega arith

more_list : (b list n : ℕ) → 0 < b → n ≡ list → n < b + list
more_list b list n some e = omega arith

copies_fewer : (ticket : ℕ) (places : Places) (running : Running) (old : Copying) (made : MergeStep) (new : Doing) (most : ℕ) → CopiesOn ticket places old made new
    → copy_left old ≤ most → doing_left running new < most + (6 * length running.before + 1)
copies_fewer ticket places running old made new most c few =
    plus_list (copy_left c.copy) most (6 * length running.before + 1) (doing_left running new)
    (less (copy_left c.copy) (copy_left old) most (step_fewer ticket places old c.copy made c.steps) few) (ap (doing_left running) c.is)
  where
    less : (a b m : ℕ) → a < b → b ≤ m → a < m
    less a b m l e = omega arith

due_most : (running : Running) (serial : ℕ) (state : SlotState) → copy_left (begun_copy (order_of running serial state)) ≤ 16 + 4 * few_pages running.source.pages
due_most running serial state = sums (length (format_calls state)) (few_pages running.source.pages) (few_calls state)
  where
    sums : (n pages : ℕ) → n ≤ 3 → 2 * n + 0 + (2 * 0 + 4 * pages + 10) ≤ 16 + 4 * pages
    sums n pages few = omega arith

works_at : (serial : ℕ) (state : SlotState) (ticket : ℕ) (places : Places) (running : Running) (old : Doing) (made : MergeStep) (new : Doing)
    → WorksAt serial state ticket places running old made new → doing_left running new < doing_left running old
works_at serial state ticket places running due made new w =
    copies_fewer ticket places running (begun_copy (order_of running serial state)) made new _ w (due_most running serial state)
works_at serial state ticket places running (copying copy) made new w = copies_fewer ticket places running copy made new (copy_left copy) w (omega arith)
works_at serial state ticket places running (opened number) made new w = absurd w
works_at serial state ticket places running (retiring r) made new w =
    plus (plan_left w.next) (plan_left r.plan) _ (doing_left running new) (gives_fewer r.plan w.next w.request w.gives) (ap (doing_left running) w.is)
  where
    plus : (a b later n : ℕ) → a + 1 ≡ b → n ≡ a + later → n < b + later
    plus a b later n l e = omega arith

-- the source and the images that were there stay
same_doing : (old new : Running) → new ≡ record old { doing = new.doing } → running_left new ≡ doing_left old new.doing
same_doing old new e = ap running_left e

works : (serial : ℕ) (state : SlotState) (ticket : ℕ) (places : Places) (old : Option Running) (made : MergeStep) (new : Option Running)
    → Works serial state ticket places old made new → left_of new < left_of old
works serial state ticket places old made new w = grind arith

-- ---- an outcome

goes_on_fewer : (old new : Copying) (made : Made) → PlanGoesOn old made new → copy_left new < copy_left old
goes_on_fewer old new made g =
    subst (λ (m : Copying). copy_left m < copy_left old) (sym g.is)
    (by (plan_after g.plan made).calls refl)
  where
    fewer : plan_left (plan_after g.plan made) + 1 ≡ plan_left g.plan
    fewer = settled_fewer g.plan made g.awaited.out g.one

    ended : (stage : Stage) → plan_of stage ≡ Some g.plan → (IsClosing stage → ⊥) → stage_left PassStage (is_taking old.taking) old.ahead < stage_left stage (is_taking old.taking) old.ahead
    ended stage is none = grind arith

    by : (calls : Calls) → (plan_after g.plan made).calls ≡ calls
        → stage_left (stage_after old.stage (plan_after g.plan made) calls) (is_taking old.taking) old.ahead < copy_left old
    by calls e = grind (arith, asked_fewer)

opens_some : (old : Copying) (made : Made) (one : NewImage) → Opens old made one → 0 < copy_left old
opens_some old made one o = grind arith

-- an image of the list has something before it
retiring_some : (r : Retiring) → IsUnderWay r.plan → 0 < retiring_left r
retiring_some r under = by r.plan.out refl
  where
    calls : (cs : Calls) → (cs ≢ []) → 0 < length cs
    calls [] some = absurd (some refl)
    calls (c ∷ cs) some = omega arith

    by : (o : Option _) → r.plan.out ≡ o → 0 < retiring_left r
    by None e = (let n : 0 < length r.plan.calls = calls r.plan.calls (under.some e) in omega arith)
    by (Some id) e = (let n : is_one r.plan.out ≡ 1 = ap is_one e in omega arith)

doing_some : (running : Running) (doing : Doing) → IsRunningAt running doing → 0 < doing_left running doing
doing_some running doing is = grind (arith, retiring_some)

hands_due : (running : Running) (old : Doing) (done : MergeProgress) (new : Doing) → StaysStrange old done new → is_strange done ≡ false → doing_left running new < doing_left running old
hands_due running old done new h strange = grind arith

hands_copying : (running : Running) (old : Copying) (made : Made) (done : MergeProgress) (new : Doing) → HandsCopying old made done new → is_strange done ≡ false → ends done ≡ false
    → doing_left running new < doing_left running (copying old)
hands_copying running old made progress.Strange new h strange goes = absurd (both_ways true strange refl)
hands_copying running old made progress.Failed new h strange goes = absurd (both_ways true goes refl)
hands_copying running old made progress.More new h strange goes =
    plus_list (copy_left h.copy) (copy_left old) (6 * length running.before + 1) (doing_left running new) (goes_on_fewer old h.copy made h.hands) (ap (doing_left running) h.is)
hands_copying running old made (progress.Opened one) new h strange goes =
    more_list (copy_left old) (6 * length running.before + 1) (doing_left running new) (opens_some old made one h.hands) (ap (doing_left running) h.is)
hands_copying running old made _ new h strange goes = absurd h

pub within_list : {X : Type 0} (xs : List X) (k : ℕ) (x : X) → slice_get xs k ≡ Some x → k < length xs
within_list {X} [] k x e = absurd (let f : ◌≡◌ {A = Option X} None (Some x) = e in cc)
within_list (y ∷ xs) zero x e = omega arith
within_list (y ∷ xs) (suc k) x e = (let l : k < length xs = within_list xs k x e in omega arith)

-- the image that was closed had one event left, and the next has six
next_fewer : (one later length ended n : ℕ) → one ≡ 1 → later ≡ 6 * (length - (ended + 1)) → ended + 1 < length → n ≡ 6 + 6 * (length - (ended + 1 + 1)) → n < one + later
next_fewer one later length ended n o l some e = (let f : length - (ended + 1) ≡ (length - (ended + 1 + 1)) + 1 = omega arith in omega arith)

goes_with_fewer : (old new : Retiring) (made : Made) → GoesOnWith old made new → retiring_left new < retiring_left old
goes_with_fewer old new made g =
    subst (λ (r : Retiring). retiring_left r < retiring_left old) (sym g.is)
    (plus (plan_left (plan_after old.plan made)) (plan_left old.plan) (6 * (length old.list - (old.ended + 1))) (settled_fewer old.plan made g.done.out g.done.one))
  where
    plus : (a b later : ℕ) → a + 1 ≡ b → a + later < b + later
    plus a b later e = omega arith

ends_fewer : (old new : Retiring) (made : Made) → IsLastCall old made → EndsOne old new → retiring_left new < retiring_left old
ends_fewer old new made last e = grind (arith, next_fewer, within_list)

hands_closing : (old new : Retiring) (made : Made) (done : MergeProgress) → HandsClosing old made done new → is_strange done ≡ false → ends done ≡ false → retiring_left new < retiring_left old
hands_closing old new made done h strange goes = grind (arith, both_ways, goes_with_fewer, ends_fewer)

hands_at : (running : Running) (old : Doing) (made : Made) (done : MergeProgress) (new : Doing) → HandsAt old made done new → is_strange done ≡ false → ends done ≡ false
    → doing_left running new < doing_left running old
hands_at running old made done new h strange goes = grind (arith, hands_due, hands_copying, hands_closing)

-- what goes on has less, and what ends has nothing
hands_to : (old next : Running) (made : Made) (done : MergeProgress) → HandsTo old made done next → is_strange done ≡ false → IsRunning old
    → left_of (if ends done then None else Some next) < running_left old
hands_to old next made done h strange is = by (ends done) refl
  where
    by : (b : Bool) → ends done ≡ b → left_of (if b then None else Some next) < running_left old
    by true e = doing_some old old.doing is
    by false e = subst (λ n. n < running_left old) (sym (same_doing old next h.is)) (hands_at old old.doing made done next.doing h.hands strange e)

handed : (old : Option Running) (made : Made) (done : MergeProgress) (new : Option Running) → IsHanded old made done new → is_strange done ≡ false → AreRunning old → left_of new < left_of old
handed old made done new h strange are = grind (arith, hands_to)

hands : (old : Option Running) (made : Made) (done : MergeProgress) (new : Option Running) → Hands old made done new → is_strange done ≡ false → AreRunning old → left_of new < left_of old
hands old made done new h strange are = grind (arith, both_ways, handed)

-- ---- the list

retires : (running : Running) (list : List Retired) (done : MergeProgress) (new : Option Running) → TakesList (Some running) list done new → is_strange done ≡ false
    → length list ≤ length running.before → left_of new < left_of (Some running)
retires running list progress.Strange new h strange few = absurd (both_ways true strange refl)
retires running list progress.More new h strange few =
    let is : running ≡ h.running = one_running running h.running h.was in
    let was : running_left running ≡ 6 * length running.before + 1 = ap (doing_left running) (ap (λ (r : Running). r.doing) is ∙ h.opened) in
    let now : left_of new ≡ 2 * 3 + 0 + 6 * (length list - (0 + 1)) = ap left_of h.is in
    let some : 0 < length list = within_list list 0 h.first h.there in
    omega arith
  where
    one_running : (a b : Running) → Some a ≡ Some b → a ≡ b
    one_running a b e = cc
retires running list (progress.Merged serial) new h strange few = by running.doing h.awaited (ap left_of h.is)
  where
    by : (d : Doing) → awaited_in d ≡ Some serial → left_of new ≡ 0 → left_of new < doing_left running d
    by due e none = absurd (let f : ◌≡◌ {A = Option ℕ} None (Some serial) = e in cc)
    by (copying copy) e none = absurd (let f : ◌≡◌ {A = Option ℕ} None (Some serial) = e in cc)
    by (opened number) e none = omega arith
    by (retiring r) e none = absurd (let f : ◌≡◌ {A = Option ℕ} None (Some serial) = e in cc)
retires running list _ new h strange few = absurd h

idle : (running : Option Running) → AreRunning running → left_of running ≡ 0 ↔ running ≡ None
idle running are = grind (arith, doing_some)

pub left_laws : LeftLaws
left_laws = record {
  idle = idle;
  works = works;
  hands = hands;
  retires = retires;
}
