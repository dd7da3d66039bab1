-- What the steps and outcomes of an image leave of what is so of it.
use Rattle.std.proofs.Common.{◌≡◌, ◌⊎◌, ℕ, ◌≤◌, ◌==◌, ◌&&◌, true, if◌then◌else◌, List, ◌∷◌, Option, Some, None, IfSome, slice_set, refl, sym, ◌∙◌, ap, subst, inl, inr, arith}
use Rattle.std.proofs.lemmas.Bool.{eq-eqb, false≢true}
use Rattle.sd_chain.specs.Catalog.{IsHeld, Places}
use Rattle.sd_gate.specs.declared.request_id.RequestId.{RequestId}
use Rattle.sd_gate.specs.Plans.{plan_after}
use Rattle.sd_gate.specs.Requests.{Asked, Made}
use Rattle.sd_image.specs.Words.{kind_number}
use Rattle.sd_journal.specs.declared.entry.Entry.TheVariants.{Freeze}
use Rattle.sd_journal.specs.declared.mark.Mark.TheVariants.{Start, Table, Visit}
use Rattle.sd_journal.specs.Marked.{Marked, Noted, Told, last_visit}
use Rattle.sd_pagetable.specs.Contents.{Contents}
use Rattle.sd_rounds.specs.declared.copied.Copied.{Copied}
use Rattle.sd_rounds.specs.declared.visit.Visit.{Visit as PageVisit}
use Rattle.sd_image.specs.declared.digester.Digester.{Digester}
use Rattle.sd_rounds.specs.declared.image_order.ImageOrder.{ImageOrder}
use Rattle.sd_rounds.specs.declared.stage.Stage.{Stage}
use Rattle.sd_rounds.specs.declared.stage.Stage.TheVariants.{Format, Freeze as FreezeStage, Pass as PassStage, Close}
use Rattle.sd_rounds.specs.Making.{Asks, CopiesSector, IsWritten, MakerFreezes, Making, PlanGoesOn, Visits, WritesPage, WritesTable, begun_image, is_frozen_dump, is_passing, is_past_freeze, out_of, stage_after, with_plan}
use Rattle.sd_rounds.specs.Pass.{Pass}
use Rattle.sd_core.specs.declared.numbers.Numbers.{Numbers}
use Rattle.sd_core.specs.Sound.{IsImageInMaking, IsStageOfImage, IsVisiting, IsVisitingIn}
use Rattle.sd_core.specs.Visited.{is_begun}
use Rattle.sd_rounds.proofs.DumperLemmas.{past_with as frozen_asked}
use Rattle.sd_rounds.proofs.VisitLemmas.{cursor as visited_after}
use Rattle.sd_core.proofs.StageLemmas.{IsAskedIn, IsAfterPlace, asked_in, behind, copied_after, visiting_asked}
use Rattle.sd_core.proofs.WorkLemmas.{SameNumbers, same_numbers}

-- the image in another stage, with its request that is out then
pub record IsTurned (items : Marked) (places : Places) (numbers : Numbers) (image next : Making) (out : Option RequestId) : Type 0 where
  pub image_is : IsImageInMaking items places numbers next
  pub order : next.order ≡ image.order
  pub still : is_frozen_dump next ≡ is_frozen_dump image
  pub out_is : out_of next.stage ≡ out
  pub slot : IfSome out (λ id. id.slot ≡ image.order.slot)

turn : (items now : Marked) (places after : Places) (old new : Numbers) (image : Making) (pass : Pass) (stage : Stage) (writes : List (Option RequestId)) (digester : Digester) → SameNumbers old new
    → IsImageInMaking items places old image → IsHeld after image.order.serial → IsStageOfImage image.order stage → IsVisitingIn now image.order.serial pass stage
    → is_begun now image.order.serial ≡ true → IsImageInMaking now after new (record { order = image.order; pass = pass; stage = stage; writes = writes; digester = digester })
turn items now places after old new image pass stage writes digester same is held at visits begun = grind arith

-- the next call of a plan
pub image_asked : (items : Marked) (places : Places) (old new : Numbers) (image next : Making) (request : Asked) → SameNumbers old new
    → IsImageInMaking items places old image → Asks image request next → IsTurned items places new image next (Some request.id)
image_asked items places old new image next request same is asks = subst (λ m. IsTurned items places new image m (Some request.id)) (sym asks.is) (record {
  image_is = turn items items places places old new image image.pass (with_plan image.stage asks.next) image.writes image.digester same is is.held asked.stage_is
      (visiting_asked items image.order.serial image.pass image.stage asks.next is.visiting_in) is.begun;
  order = refl;
  still = ap (λ b. (kind_number image.order.kind == 2) && b) (frozen_asked image.stage asks.next);
  out_is = asked.out;
  slot = asked.slot;
})
  where
    asked : IsAskedIn image.order image.stage asks.next request
    asked = asked_in image.order image.stage asks.plan asks.next request asks.was asks.gives is.stage

-- the pass is over, or goes on: its cursor
passing : (items : Marked) (places : Places) (numbers : Numbers) (image : Making) → IsImageInMaking items places numbers image → image.stage ≡ PassStage
    → IsVisiting items image.order.serial image.pass
passing items places numbers image is stage = subst (λ s. IsVisitingIn items image.order.serial image.pass s) stage is.visiting_in

-- the write of a page that was copied
pub image_page : (items : Marked) (places : Places) (old new : Numbers) (image next : Making) (lane : ℕ) (request : Asked) → SameNumbers old new
    → IsImageInMaking items places old image → WritesPage image lane request next → IsTurned items places new image next None
image_page items places old new image next lane request same is writes = subst (λ m. IsTurned items places new image m None) (sym whole) (record {
  image_is = turn items items places places old new image next.pass PassStage next.writes next.digester same is is.held tt
      (record { started = cursor.started; cursor = cursor.cursor ∙ sym (ap (λ (p : Pass). p.after) writes.taken.is) }) is.begun;
  order = refl;
  still = ap (λ s. (kind_number image.order.kind == 2) && is_past_freeze s) (sym writes.stage);
  out_is = refl;
  slot = tt;
})
  where
    cursor : IsVisiting items image.order.serial image.pass
    cursor = passing items places old image is writes.stage

    whole : next ≡ record { order = image.order; pass = next.pass; stage = PassStage; writes = next.writes; digester = next.digester }
    whole = ap (λ o. record { order = o; pass = next.pass; stage = next.stage; writes = next.writes; digester = next.digester }) writes.order
        ∙ ap (λ s. record { order = image.order; pass = next.pass; stage = s; writes = next.writes; digester = next.digester }) writes.still

-- the first call that writes the table: the image's visits are over
pub image_table : (items : Marked) (places : Places) (old new : Numbers) (image next : Making) (memory : Contents) (request : Asked) → SameNumbers old new
    → IsImageInMaking items places old image → WritesTable image memory request next → IsTurned (Noted (Table image.order.serial) ∷ items) places new image next (Some request.id)
image_table items places old new image next memory request same is writes = grind arith

-- a page was visited: the journal's mark has the cursor
pub image_visited : (items : Marked) (places : Places) (numbers : Numbers) (image next : Making) (before after : Contents) (visit : PageVisit)
    → IsImageInMaking items places numbers image → Visits image before visit next after
    → IsTurned (Noted (Visit image.order.serial visit.space visit.page) ∷ items) places numbers image next None
image_visited items places numbers image next before after visit is visits = subst (λ m. IsTurned (Noted (Visit image.order.serial visit.space visit.page) ∷ items) places numbers image m None) (sym visits.passes.1) (record {
  image_is = turn items (Noted (Visit image.order.serial visit.space visit.page) ∷ items) places places numbers numbers image next.pass image.stage image.writes image.digester (same_numbers numbers) is is.held is.stage
      (subst (λ s. IsVisitingIn (Noted (Visit image.order.serial visit.space visit.page) ∷ items) image.order.serial next.pass s) (sym visits.passes.0) (record {
        started = cursor.started;
        cursor = ap (λ b. if b then Some (visit.space, visit.page) else last_visit items image.order.serial) (eq-eqb image.order.serial image.order.serial refl)
            ∙ sym (ap (λ (p : Pass). p.after) visits.tests.is ∙ visited_after image.pass (visit.space, visit.page) visits.tests.page.soft_dirty);
      })) is.begun;
  order = refl;
  still = refl;
  out_is = ap out_of visits.passes.0;
  slot = tt;
})
  where
    cursor : IsVisiting items image.order.serial image.pass
    cursor = passing items places numbers image is visits.passes.0

-- a sector was copied
pub image_copied : (items : Marked) (places : Places) (numbers : Numbers) (image next : Making) (memory : Contents) (copied : Copied)
    → IsImageInMaking items places numbers image → CopiesSector image memory copied next → IsTurned items places numbers image next None
image_copied items places numbers image next memory copied is copies = subst (λ m. IsTurned items places numbers image m None) (sym copies.passes.1) (record {
  image_is = turn items items places places numbers numbers image next.pass image.stage image.writes image.digester (same_numbers numbers) is is.held is.stage
      (subst (λ s. IsVisitingIn items image.order.serial next.pass s) (sym copies.passes.0)
      (record { started = cursor.started; cursor = cursor.cursor ∙ sym (copied_after image.pass next.pass memory copied copies.copies) })) is.begun;
  order = refl;
  still = refl;
  out_is = ap out_of copies.passes.0;
  slot = tt;
})
  where
    cursor : IsVisiting items image.order.serial image.pass
    cursor = passing items places numbers image is copies.passes.0

-- an outcome of its plan with which it goes on
plan_more : (items : Marked) (places after : Places) (numbers : Numbers) (image next : Making) (made : Made)
    → IsImageInMaking items places numbers image → IsHeld after image.order.serial → PlanGoesOn image made next → IsTurned items after numbers image next None
plan_more items places after numbers image next made is held goes = subst (λ m. IsTurned items after numbers image m None) (sym goes.is) (record {
  image_is = turn items items places after numbers numbers image image.pass
      (stage_after image.order.kind image.stage (plan_after goes.plan made) (plan_after goes.plan made).calls) image.writes image.digester (same_numbers numbers) is held
      (on.stage_is is.stage) (on.visiting_in is.visiting_in) is.begun;
  order = refl;
  still = on.frozen;
  out_is = on.rests;
  slot = tt;
})
  where
    on : IsAfterPlace items image.order image.pass image.stage (stage_after image.order.kind image.stage (plan_after goes.plan made) (plan_after goes.plan made).calls)
    on = behind items image.order image.pass image.stage goes.plan (plan_after goes.plan made) (plan_after goes.plan made).calls goes.awaited.was refl refl goes.closes

-- a data page was written
page_more : (items : Marked) (places after : Places) (numbers : Numbers) (image next : Making) (made : Made)
    → IsImageInMaking items places numbers image → IsHeld after image.order.serial → IsWritten image made next → IsTurned items after numbers image next None
page_more items places after numbers image next made is held written = subst (λ m. IsTurned items after numbers image m None) (sym written.is) (record {
  image_is = turn items items places after numbers numbers image image.pass image.stage (slice_set image.writes written.lane None) image.digester (same_numbers numbers) is held is.stage is.visiting_in is.begun;
  order = refl;
  still = refl;
  out_is = passes image.stage written.passing;
  slot = tt;
})
  where
    passes : (stage : Stage) → is_passing stage ≡ true → out_of stage ≡ None
    passes (Format plan) is = absurd (false≢true is)
    passes FreezeStage is = absurd (false≢true is)
    passes PassStage is = refl
    passes (Close plan header tables) is = absurd (false≢true is)

-- an outcome with which it goes on
pub image_more : (items : Marked) (places after : Places) (numbers : Numbers) (image next : Making) (made : Made)
    → IsImageInMaking items places numbers image → IsHeld after image.order.serial → PlanGoesOn image made next ⊎ IsWritten image made next → IsTurned items after numbers image next None
image_more items places after numbers image next made is held (inl goes) = plan_more items places after numbers image next made is held goes
image_more items places after numbers image next made is held (inr written) = page_more items places after numbers image next made is held written

-- the memory is frozen for it
pub record IsFrozenNext (items : Marked) (places : Places) (numbers : Numbers) (image next : Making) : Type 0 where
  pub order : next.order ≡ image.order
  pub image_is : IsImageInMaking (Told (Freeze numbers.begun) ∷ items) places numbers next
  pub out_is : out_of next.stage ≡ None

pub image_frozen : (items : Marked) (places : Places) (numbers : Numbers) (image next : Making) → IsImageInMaking items places numbers image → MakerFreezes image next
    → IsFrozenNext items places numbers image next
image_frozen items places numbers image next is f = subst (IsFrozenNext items places numbers image) (sym f.is) (record {
  order = refl;
  image_is = turn items (Told (Freeze numbers.begun) ∷ items) places places numbers numbers image image.pass PassStage image.writes image.digester (same_numbers numbers) is is.held tt
      (record { started = cursor.started; cursor = cursor.cursor }) is.begun;
  out_is = refl;
})
  where
    cursor : IsVisiting items image.order.serial image.pass
    cursor = subst (λ s. IsVisitingIn items image.order.serial image.pass s) f.stage is.visiting_in

-- an image that begins, with its first call
pub begun_asked : (items : Marked) (places : Places) (numbers : Numbers) (order : ImageOrder) (next : Making) (request : Asked) → order.serial ≤ numbers.given → IsHeld places order.serial → last_visit items order.serial ≡ None → Asks (begun_image order) request next
    → IsTurned (Noted (Start order.serial) ∷ items) places numbers (begun_image order) next (Some request.id)
begun_asked items places numbers order next request given held none asks = grind arith
