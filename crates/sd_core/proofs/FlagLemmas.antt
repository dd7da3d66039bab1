-- Whether the next checkpoint goes on from the tip, and whether a gate's opening was taken up.
use Rattle.std.proofs.Common.{◌≡◌, ◌⊎◌, ℕ, Bool, true, false, ◌||◌, ◌&&◌, if◌then◌else◌, List, [], ◌∷◌, ◌++◌, Option, Some, IfSome, IsSome, is_some, refl, sym, ◌∙◌, ap, subst, arith}
use Rattle.std.proofs.lemmas.Option.{same_Some}
use Rattle.std.proofs.Math.Bool.{or-true}
use Rattle.sd_gate.specs.declared.answer.Answer.{Answer}
use Rattle.sd_gate.specs.declared.slot_state.SlotState.{SlotState}
use Rattle.sd_gate.specs.Calls.{buffer_back, is_done}
use Rattle.sd_gate.specs.Inspections.{calls_then, nothing}
use Rattle.sd_gate.specs.Plans.{Gives, Planned, plan_after}
use Rattle.sd_gate.specs.Requests.{Asked, Made}
use Rattle.sd_gate.specs.Sequences.{Calls, format_calls}
use Rattle.sd_image.specs.declared.header.Kind.{Kind}
use Rattle.sd_journal.specs.declared.entry.Entry.{Entry}
use Rattle.sd_journal.specs.declared.entry.Entry.TheVariants.{Applied, Freeze, Acked, Cancelled, Reopened}
use Rattle.sd_journal.specs.declared.mark.Mark.TheVariants.{Start, Visit, Table}
use Rattle.sd_journal.specs.History.{Base, History, pending}
use Rattle.sd_journal.specs.Marked.{Marked, Noted, Told, entries_of}
use Rattle.sd_journal.specs.Trimming.{Ends, IsEnded, IsFolded, MarkedTrimLaws, TrimLaws, base_after}
use Rattle.sd_rounds.specs.declared.image_order.ImageOrder.{ImageOrder}
use Rattle.sd_rounds.specs.declared.stage.Stage.{Stage}
use Rattle.sd_rounds.specs.Dumper.{Running, is_last}
use Rattle.sd_rounds.specs.Making.{IsReadyFor, IsWritten, Making, PlanGoesOn, plan_of, stage_after, stage_when_done, with_plan}
use Rattle.sd_rounds.specs.Pass.{Pass}
use Rattle.sd_rounds.specs.Sound.{IsSoundImage}
use Rattle.sd_crash_safety.specs.DumperSteps.{opens_gate}
use Rattle.sd_core.specs.Grown.{AreFlags, HasNoOpen, IsGated, IsGatedImage, IsGatedStage, has_grown, has_visited_all}

-- ---- by the journal

-- a trim leaves it
pub grown_trims : (base : Base) (kept folded : History) (n : ℕ) → IsEnded n folded → has_grown (base_after base n folded) kept ≡ has_grown base (kept ++ folded)
grown_trims base [] [] n ended = absurd ended
grown_trims base [] (Applied seat command reply ∷ before) n ended = absurd ended
grown_trims base [] (Freeze m ∷ before) n ended = absurd ended
grown_trims base [] (Acked m ∷ before) n ended = refl
grown_trims base [] (Cancelled m ∷ before) n ended = absurd ended
grown_trims base [] (Reopened m ∷ before) n ended = refl
grown_trims base (Applied seat command reply ∷ kept) folded n ended = grown_trims base kept folded n ended
grown_trims base (Freeze m ∷ kept) folded n ended = grown_trims base kept folded n ended
grown_trims base (Acked m ∷ kept) folded n ended = refl
grown_trims base (Cancelled m ∷ kept) folded n ended = refl
grown_trims base (Reopened m ∷ kept) folded n ended = refl

no_true : {P : Type 0} → false ≡ true → P
no_true is = absurd (let no : false ≡ true = is in cc)

-- the entries are as before
pub same_flags : (base : Base) (items now : Marked) (swept grows committing : Bool) → now ≡ items → AreFlags base items swept grows committing → AreFlags base now swept grows committing
same_flags base items now swept grows committing same was = subst (λ all. AreFlags base all swept grows committing) (sym same) was

-- nothing was committed
pub set_flags : (base : Base) (items : Marked) (swept grows committing : Bool) → grows ≡ has_grown base (entries_of items) → committing ≡ false → swept ≡ has_visited_all items
    → AreFlags base items swept grows committing
set_flags base items swept grows committing grown none by = record { grown = grown; visited_by = by; sure = λ is. no_true (sym none ∙ is) }

-- whether the pending checkpoint had visited all pages stays so over a trim
ends_unswept : (n : ℕ) (entry : Entry) (earlier : Marked) → Ends n (entries_of earlier) entry → has_visited_all (Told entry ∷ earlier) ≡ false
ends_unswept n entry earlier is = grind arith

pub swept_trims : TrimLaws → MarkedTrimLaws → (kept front : Marked) (n : ℕ) → IsFolded n front → has_visited_all (kept ++ front) ≡ has_visited_all kept
swept_trims laws marked [] front n f =
    ap has_visited_all f.newest.2 ∙ ends_unswept n f.newest.0 f.newest.1 (subst (λ all. IsEnded n (entries_of all)) f.newest.2 f.ended)
swept_trims laws marked (Told (Applied seat command reply) ∷ kept) front n f = swept_trims laws marked kept front n f
swept_trims laws marked (Told (Freeze m) ∷ kept) front n f = refl
swept_trims laws marked (Told (Acked m) ∷ kept) front n f = refl
swept_trims laws marked (Told (Cancelled m) ∷ kept) front n f = refl
swept_trims laws marked (Told (Reopened m) ∷ kept) front n f = refl
swept_trims laws marked (Noted (Start serial) ∷ kept) front n f = swept_trims laws marked kept front n f
swept_trims laws marked (Noted (Visit serial space page) ∷ kept) front n f = swept_trims laws marked kept front n f
swept_trims laws marked (Noted (Table serial) ∷ kept) front n f =
    ap (λ all. is_some (pending all)) (marked.entries kept front) ∙ ap is_some (sym (laws.pending_stays (entries_of kept) (entries_of front) n f.ended))

-- after the table of the pending checkpoint's dump it has visited all pages
pub table_swept_by : (swept last : Bool) (frozen : Option ℕ) → (swept ≡ true → IsSome frozen) → is_some frozen ≡ last → (swept || last) ≡ is_some frozen
table_swept_by swept last frozen some is = grind arith

-- ---- the gate of the image in the making

pub gated_of : (swept : Bool) (all : Option Running) (running : Running) (image : Making) → IfSome all (IsGated swept) → all ≡ Some running → running.image ≡ Some image
    → IsGatedStage (is_last running) swept image.stage
gated_of swept all running image gated was making = subst (IsGatedImage (is_last running) swept) making (subst (λ r. IfSome r (IsGated swept)) was gated)

-- the calls that make a slot ready
pub format_has_no_open : (state : SlotState) → HasNoOpen (format_calls state)
format_has_no_open state = grind arith

same_plan : (plan other : Planned) → Some plan ≡ Some other → plan ≡ other
same_plan plan other e = same_Some plan other e

-- the next call is asked for, and more are left
pub gated_asked : (last swept : Bool) (stage : Stage) (plan next : Planned) (request : Asked) → IsGatedStage last swept stage → plan_of stage ≡ Some plan → Gives plan next request
    → IsGatedStage last swept (with_plan stage next)
gated_asked last swept stage plan next request gated is gives = grind arith

-- where it opens the gate of the last image, that one's pass is over
pub gate_swept : (last swept : Bool) (stage : Stage) (plan next : Planned) (request : Asked) → IsGatedStage last swept stage → plan_of stage ≡ Some plan → Gives plan next request
    → last ≡ true → opens_gate request.id.call ≡ true → swept ≡ true
gate_swept last swept stage plan next request gated is gives dump opens = grind arith

-- the opening of a gate may be taken up
pub sure_asked : (committing last opens swept : Bool) → (committing ≡ true → swept ≡ true) → (last ≡ true → opens ≡ true → swept ≡ true) → (committing || last && opens) ≡ true → swept ≡ true
sure_asked committing last opens swept sure new is = grind arith

-- an outcome comes, and the plan goes on or the next stage begins
gated_behind : (last swept : Bool) (kind : Kind) (stage : Stage) → IsGatedStage last swept (stage_when_done kind stage)
gated_behind last swept kind stage = grind arith

calls_kept : (calls : Calls) (answer : Answer) (buffer : Option (List ℕ)) → HasNoOpen calls → HasNoOpen (calls_then calls nothing answer buffer).0
calls_kept calls answer buffer none = grind arith

open_after : (plan : Planned) (made : Made) → plan.awaits ≡ nothing → HasNoOpen plan.calls → HasNoOpen (plan_after plan made).calls
open_after plan made known none = by (is_done made.answer)
  where
    buffer : Option (List ℕ)
    buffer = buffer_back made.request.id.call made.request.bytes

    by : (done : Bool) → HasNoOpen (if done then calls_then plan.calls plan.awaits made.answer buffer else ([], nothing)).0
    by done = grind arith

gated_after : (last swept : Bool) (order : ImageOrder) (pass : Pass) (stage : Stage) (plan : Planned) (made : Made) (calls : Calls) → plan_of stage ≡ Some plan → IsReadyFor order pass stage
    → IsGatedStage last swept stage → IsGatedStage last swept (stage_after order.kind stage (plan_after plan made) calls)
gated_after last swept order pass stage plan made calls is ready gated = grind arith

pub gated_more : (last swept : Bool) (image next : Making) (made : Made) → IsSoundImage image → PlanGoesOn image made next ⊎ IsWritten image made next
    → IsGatedStage last swept image.stage → IsGatedStage last swept next.stage
gated_more last swept image next made sound given gated = grind arith

-- once the table is asked for, the pass is over
pub table_sure : (committing last opens swept now : Bool) → now ≡ (swept || last) → (committing ≡ true → swept ≡ true) → (committing || last && opens) ≡ true → now ≡ true
table_sure committing last opens swept now is sure commits = is ∙ by committing last swept sure commits
  where
    by : (c l s : Bool) → (c ≡ true → s ≡ true) → (c || l && opens) ≡ true → (s || l) ≡ true
    by c l true had commits_now = refl
    by c true false had commits_now = refl
    by true false false had commits_now = no_true (had refl)
    by false false false had commits_now = no_true commits_now

pub table_gated : (last swept now : Bool) → now ≡ (swept || last) → last ≡ true → now ≡ true
table_gated last swept now is dump = is ∙ ap (λ l. swept || l) dump ∙ or-true swept
