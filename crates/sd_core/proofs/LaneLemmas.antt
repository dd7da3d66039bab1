-- In which lane a request of the dumper is, and what is out once its outcome was handed in.
use Rattle.std.proofs.Common.{◌≡◌, ℕ, suc, ◌<◌, false, List, ◌∷◌, is_none, Option, Some, None, slice_get, slice_set, refl, sym, ◌∙◌, ap, subst, inl, inr, arith}
use Rattle.sd_gate.specs.declared.call.Call.TheVariants.{Write}
use Rattle.sd_gate.specs.declared.request_id.RequestId.{RequestId}
use Rattle.sd_gate.specs.declared.worker.Worker.TheVariants.{Dumper}
use Rattle.sd_gate.specs.Plans.{Planned}
use Rattle.sd_gate.specs.Requests.{Asked, Made}
use Rattle.sd_gate.specs.Sequences.{data_place}
use Rattle.sd_command.specs.declared.reply.Reply.{Reply}
use Rattle.sd_merge.specs.Merger as merger
use Rattle.sd_rounds.specs.declared.stage.Stage.{Stage}
use Rattle.sd_rounds.specs.Dumper.{IsOutOfImage, IsOutOfRunning, Running, out_of_running, slot_of, writes_of_running}
use Rattle.sd_rounds.specs.Making.{Making, WritesPage, out_of, plan_of}
use Rattle.sd_writing.specs.Entries.{data_pages}
use Rattle.sd_rounds.specs.Sound.{IsSoundImage}
use Rattle.sd_rounds.specs.Writes.{no_writes}
use Rattle.sd_crash_safety.specs.Calls.{HandedIn, IsApart}
use Rattle.sd_crash_safety.specs.View.{CoreView, page_lane}
use Rattle.sd_core.specs.Sound.{HasWrites, IsCore, Parts}
use Rattle.sd_crash_safety.proofs.Lanes.{plan_outside}
use Rattle.sd_core.proofs.MergeLemmas.{asks_apart}
use Rattle.sd_core.proofs.OutsLemmas.{IsOfDumper, far, lane_at, no_write, on_slot}
use Rattle.sd_core.proofs.WorkLemmas.{at_work}

-- one request is in one lane
pub same_lane : (core : Parts) (one other : ℕ) (id : RequestId) → IsCore core → slice_get core.outs one ≡ Some (Some id) → slice_get core.outs other ≡ Some (Some id) → one ≡ other
same_lane core one other id sound at its = elim (sound.outs_are.apart one other id id at its refl) [
  | inl same ↦ same
  | inr pages ↦ absurd (pages.are.apart refl)
]

-- what is out while a checkpoint runs
pub jobs_are : (core : Parts) (running : Running) → IsCore core → core.dumper.running ≡ Some running
    → core.outs ≡ out_of_running (Some running) ∷ merger.out_of_merge core.merger ∷ None ∷ writes_of_running (Some running)
jobs_are core running sound is = sound.outs_are.jobs (at_work core running sound is).stands ∙ ap (λ r. out_of_running r ∷ merger.out_of_merge core.merger ∷ None ∷ writes_of_running r) is

its_lane : (core : Parts) (running : Running) (lane : ℕ) (id : RequestId) → IsCore core → core.dumper.running ≡ Some running → id.worker ≡ Dumper
    → slice_get core.outs lane ≡ Some (Some id) → IsOfDumper (Some running) id
its_lane core running lane id sound is whose at = grind arith

-- it is out of the image that is being made
pub out_there : (core : Parts) (lane : ℕ) (id : RequestId) → IsCore core → is_none core.dumper.running ≡ false → id.worker ≡ Dumper → slice_get core.outs lane ≡ Some (Some id)
    → IsOutOfRunning core.dumper.running id
out_there core lane id sound runs whose at = by core.dumper.running refl
  where
    by_image : (running : Running) (image : Option Making) → running.image ≡ image → IsOfDumper (Some running) id → IsOutOfImage image id
    by_image running None is (inl own) = (let no : None ≡ Some id = sym (ap (λ i. out_of_running (Some (record running { image = i }))) is) ∙ own in cc)
    by_image running None is (inr page) = no_write page.0 id (ap (λ i. slice_get (writes_of_running (Some (record running { image = i }))) page.0) (sym is) ∙ page.1)
    by_image running (Some image) is (inl own) = inl (ap (λ i. out_of_running (Some (record running { image = i }))) (sym is) ∙ own)
    by_image running (Some image) is (inr page) = inr (record { lane = page.0; is = ap (λ i. slice_get (writes_of_running (Some (record running { image = i }))) page.0) (sym is) ∙ page.1 })

    by : (running : Option Running) → core.dumper.running ≡ running → IsOutOfRunning running id
    by running is = grind arith

-- it is on the slot of the image
pub slot_at : (core : Parts) (running : Running) (lane : ℕ) (id : RequestId) → IsCore core → core.dumper.running ≡ Some running → id.worker ≡ Dumper
    → slice_get core.outs lane ≡ Some (Some id) → id.slot ≡ slot_of running
slot_at core running lane id sound is whose at =
    let w = at_work core running sound is in
    on_slot running id w.asked w.writes (its_lane core running lane id sound is whose at)

-- ---- one of the plan

pub out_is : (stage : Stage) (plan : Planned) → plan_of stage ≡ Some plan → out_of stage ≡ plan.out
out_is stage plan was = grind arith

-- ---- the write of a data page

-- ---- what is out then

-- ---- as the calls of a core say it

pub handed_at : (old new : CoreView) (lane k : ℕ) (made : Made) (answer : Reply) → lane ≡ k → HandedIn old k made answer new → HandedIn old lane made answer new
handed_at old new lane k made answer same h = subst (λ n. HandedIn old n made answer new) (sym same) h

-- ---- what is out once a step was made

-- while a plan is made no data page is written
pub none_written : (image : Making) (plan : Planned) → plan_of image.stage ≡ Some plan → IsSoundImage image → image.writes ≡ no_writes
none_written image plan was sound = sound.rests (plan_outside image.stage plan was)

module _ (running : Running) (image next : Making) (merge : Option RequestId) (outs : List (Option RequestId)) (are : outs ≡ None ∷ merge ∷ None ∷ writes_of_running (Some running))
    (making : running.image ≡ Some image) where
  image_outs : outs ≡ None ∷ merge ∷ None ∷ image.writes
  image_outs = are ∙ ap (λ i. None ∷ merge ∷ None ∷ writes_of_running (Some (record running { image = i }))) making

  -- nothing is asked for
  pub outs_kept : next.writes ≡ image.writes → out_of next.stage ≡ None → outs ≡ out_of next.stage ∷ merge ∷ None ∷ next.writes
  outs_kept same rests = image_outs ∙ ap (λ w. None ∷ merge ∷ None ∷ w) (sym same) ∙ ap (λ o. o ∷ merge ∷ None ∷ next.writes) (sym rests)

  -- a call of a plan
  pub outs_asked : (id : RequestId) → next.writes ≡ image.writes → out_of next.stage ≡ Some id → slice_set outs 0 (Some id) ≡ out_of next.stage ∷ merge ∷ None ∷ next.writes
  outs_asked id same out = ap (λ all. slice_set all 0 (Some id)) image_outs ∙ ap (λ w. Some id ∷ merge ∷ None ∷ w) (sym same) ∙ ap (λ o. o ∷ merge ∷ None ∷ next.writes) (sym out)

  -- the write of a data page
  pub outs_writing : (lane : ℕ) (id : RequestId) → next.writes ≡ slice_set image.writes lane (Some id) → out_of next.stage ≡ None
      → slice_set outs (page_lane lane) (Some id) ≡ out_of next.stage ∷ merge ∷ None ∷ next.writes
  outs_writing lane id now rests = ap (λ k. slice_set outs k (Some id)) (far lane) ∙ ap (λ all. slice_set all (suc (suc (suc lane))) (Some id)) image_outs
      ∙ ap (λ w. None ∷ merge ∷ None ∷ w) (sym now) ∙ ap (λ o. o ∷ merge ∷ None ∷ next.writes) (sym rests)

  pub outs_resting : image.writes ≡ no_writes → outs ≡ None ∷ merge ∷ None ∷ no_writes
  outs_resting none = image_outs ∙ ap (λ w. None ∷ merge ∷ None ∷ w) none

  pub lane_free : (lane : ℕ) → slice_get image.writes lane ≡ Some None → slice_get outs (page_lane lane) ≡ Some None
  lane_free lane free = ap (slice_get outs) (far lane) ∙ ap (λ all. slice_get all (suc (suc (suc lane)))) image_outs ∙ free

-- what is out on the slot of a page that is to be written is in a lane of pages
pub page_beside : (core : Parts) (running : Running) (image next : Making) (lane : ℕ) (request : Asked) → IsCore core → core.dumper.running ≡ Some running → running.image ≡ Some image
    → core.outs ≡ None ∷ merger.out_of_merge core.merger ∷ None ∷ writes_of_running (Some running) → image.order.slot ≡ slot_of running → WritesPage image lane request next
    → (other_lane : ℕ) (other : RequestId) → slice_get core.outs other_lane ≡ Some (Some other) → other.slot ≡ request.id.slot → 2 < other_lane
page_beside core running image next lane request sound is making are own writes at id out same =
    elim (lane_at None (merger.out_of_merge core.merger) image.writes at id (ap (λ all. slice_get all at) (sym (image_outs running image next (merger.out_of_merge core.merger) core.outs are making)) ∙ out)) [
      | inl a ↦ absurd (let no : None ≡ Some id = a.1 in cc)
      | inr rest ↦ elim rest [
        | inl b ↦ absurd (asks_apart core running request.id id sound is (writes.slot ∙ own) b.1 (sym same))
        | inr page ↦ (let here = page.1 in omega (arith, here))
      ]
    ]

-- what is out on the slot of a page that is to be written writes others
pub page_apart : (core : Parts) (running : Running) (image next : Making) (lane : ℕ) (request : Asked) → IsCore core → core.dumper.running ≡ Some running → running.image ≡ Some image
    → core.outs ≡ None ∷ merger.out_of_merge core.merger ∷ None ∷ writes_of_running (Some running) → image.order.slot ≡ slot_of running → WritesPage image lane request next
    → IsApart core.outs request.id
page_apart core running image next lane request sound is making are own writes at id out same =
    elim (lane_at None (merger.out_of_merge core.merger) image.writes at id (ap (λ all. slice_get all at) (sym (image_outs running image next (merger.out_of_merge core.merger) core.outs are making)) ∙ out)) [
      | inl a ↦ absurd (let no : None ≡ Some id = a.1 in cc)
      | inr rest ↦ elim rest [
        | inl b ↦ absurd (asks_apart core running request.id id sound is (writes.slot ∙ own) b.1 (sym same))
        | inr page ↦
            let w = at_work core running sound is in
            let its = (subst (λ i. HasWrites running i) making w.writes).0.each page.0 id page.2 in
            record {
              one = record { place = data_pages image.pass.entries; call = writes.call };
              another = record { place = its.place; call = its.call };
              apart = λ call. not_same its.place its.made (sym writes.call ∙ call ∙ its.call);
            }
      ]
    ]
  where
    not_same : (place : ℕ) → place < data_pages image.pass.entries → Write (data_place (data_pages image.pass.entries)) ≡ Write (data_place place) → ⊥
    not_same place made same_call =
        let places : data_place (data_pages image.pass.entries) ≡ data_place place = cc in
        omega (arith, places, made)
