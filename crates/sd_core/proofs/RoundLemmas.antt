-- The images of a checkpoint that runs, from call to call.
use Rattle.std.proofs.Common.{◌≡◌, ◌≢◌, ◌⊎◌, ℕ, zero, suc, ◌<◌, ◌≤◌, List, [], ◌∷◌, get_or, length, Option, Some, None, is_none, true, slice_get, refl, sym, ◌∙◌, ap, subst, inl, inr, arith}
use Rattle.std.specs.Option.{option_map}
use Rattle.std.proofs.lemmas.Option.{same_Some}
use Rattle.sd_chain.specs.Catalog.{Places}
use Rattle.sd_command.specs.declared.refusal.Refusal.TheVariants.{StoreDown}
use Rattle.sd_command.specs.declared.reply.Reply.{Reply}
use Rattle.sd_command.specs.declared.reply.Reply.TheVariants as reply
use Rattle.sd_gate.specs.declared.phase.Phase.{Phase}
use Rattle.sd_gate.specs.declared.request_id.RequestId.{RequestId}
use Rattle.sd_gate.specs.declared.worker.Worker.{Worker}
use Rattle.sd_gate.specs.declared.worker.Worker.TheVariants.{Dumper}
use Rattle.sd_gate.specs.Calls.{IsLook}
use Rattle.sd_gate.specs.Requests.{Asked}
use Rattle.sd_image.specs.Image.{Image}
use Rattle.sd_merge.specs.declared.stage.Stage.{Stage as CopyStage}
use Rattle.sd_merge.specs.Merger as merger
use Rattle.sd_merge.specs.Merger.{Doing, due, copying, opened, retiring}
use Rattle.sd_rounds.specs.Dumper.{AreRunning, HasSlot, Running, out_of_running, slot_of, writes_of_running}
use Rattle.sd_writing.specs.Entries.{Place}
use Rattle.sd_store_laws.specs.Beliefs.{Belief}
use Rattle.sd_store_laws.specs.Store.{Store}
use Rattle.sd_crash_safety.specs.Believes.{Believes}
use Rattle.sd_crash_safety.specs.LiveImages.{id_of, ids_of}
use Rattle.sd_crash_safety.specs.Merges.{IsAskedIn, IsMergeAt, IsMergeOn}
use Rattle.sd_crash_safety.specs.View.{CoreView}
use Rattle.sd_core.specs.Rounds.{HasFewOpen, IsNextRound, IsSameRound, OpensImage, SameRound, TurnsRound}
use Rattle.sd_core.specs.Sound.{IsCore, IsDoing, Parts}
use Rattle.sd_core.specs.Working.{HasFallen, LeavesByOutcome}
use Rattle.sd_core.proofs.BesideLemmas.{merger_works}
use Rattle.sd_core.proofs.LaneLemmas.{jobs_are}
use Rattle.sd_core.proofs.OutsLemmas.{lane_at, on_slot}
use Rattle.sd_core.proofs.OwnLemmas.{own_has}
use Rattle.sd_core.proofs.WorkLemmas.{at_work}

-- ---- how many images are open

-- nothing changes
pub same_round : (running : Option Running) → SameRound running running
same_round None = tt
same_round (Some running) = (running, refl, record { job = refl; opened = refl; parent = refl })

-- the image in the making turns
pub round_goes_on : (old new : Option Running) (from to : Running) → old ≡ Some from → new ≡ Some to → IsSameRound from to → SameRound old new
round_goes_on old new from to was is same = subst (SameRound old) (sym is) (from, was, same)

pub turns_same : (old new : Option Running) (places : Places) → SameRound old new → TurnsRound old new places
turns_same old new places same = grind arith

pub none_turns : (old new : Option Running) (places : Places) → new ≡ None → TurnsRound old new places
none_turns old new places none = subst (λ running. TurnsRound old running places) (sym none) tt

pub next_turns : (old new : Option Running) (places : Places) (from to : Running) → old ≡ Some from → new ≡ Some to → IsNextRound from to places → TurnsRound old new places
next_turns old new places from to was is next = subst (λ running. TurnsRound old running places) (sym is) (from, was, inr next)

none_idle : (running : Option Running) → is_none running ≡ true → running ≡ None
none_idle running is = grind arith

-- after an outcome that came late none runs
pub late_turns : (worker : Worker) (old new : CoreView) (answer : Reply) → answer ≡ reply.Refused StoreDown → LeavesByOutcome old worker answer new
    → TurnsRound old.dumper.running new.dumper.running new.catalog
late_turns worker old new answer is leaves =
    let fallen : HasFallen old worker new = subst (λ a. LeavesByOutcome old worker a new) is leaves in
    none_turns old.dumper.running new.dumper.running new.catalog (none_idle new.dumper.running (fallen.idle Dumper))

-- ---- the image that enters

pub opens_for : (running : Running) (old new : CoreView) (answer : Reply) → OpensImage running old answer new → old.dumper.running ≡ Some running
opens_for running old new answer given = grind arith

pub none_enters : (running : Running) (old new : CoreView) (answer : Reply) → is_none old.dumper.running ≡ true → OpensImage running old answer new → ⊥
none_enters running old new answer idle enters = let no : Some running ≡ None = sym (opens_for running old new answer enters) ∙ none_idle old.dumper.running idle in cc

-- none does where as many are open as before
pub none_opens : (running : Running) (old new : CoreView) (answer : Reply) → ((n : ℕ) → answer ≢ reply.Acked n) → SameRound old.dumper.running new.dumper.running → OpensImage running old answer new → ⊥
none_opens running old new answer other same given = grind arith

pub ends_opens : (running : Running) (old new : CoreView) (answer : Reply) → ((n : ℕ) → answer ≢ reply.Acked n) → new.dumper.running ≡ None → OpensImage running old answer new → ⊥
ends_opens running old new answer other none given = grind arith

-- ---- between calls

pub few_are : (since : ℕ) (running : Option Running) → AreRunning since running → HasFewOpen running
few_are since running are = grind arith

-- no checkpoint runs beside an opener
pub opens_alone : (core : Parts) → IsCore core → core.opener ≢ None → core.dumper.running ≡ None
opens_alone core sound opens = by core.dumper.running refl
  where
    by : (running : Option Running) → core.dumper.running ≡ running → running ≡ None
    by None is = refl
    by (Some running) is = absurd (opens (at_work core running sound is).closed)

-- ---- what is out on the slot of a pre-dump

ids_at : (asked : List (Option Asked)) (lane : ℕ) (request : Option Asked) → slice_get asked lane ≡ Some request → slice_get (ids_of asked) lane ≡ Some (option_map id_of request)
ids_at [] lane request is = absurd (let no : None ≡ Some request = is in cc)
ids_at (a ∷ asked) zero request is = ap (λ o. Some (option_map id_of o)) (same_Some a request is)
ids_at (a ∷ asked) (suc lane) request is = ids_at asked lane request is

-- a request for a merged image in the making is on the merge's slot, or only looks
copy_looks : (stage : CopyStage) (phases : List Phase) (bodies : List (List ℕ)) (store : Store) (beliefs : List Belief) (running : Option Running) (target : ℕ) (source : Image) (page : Option Place) (request : Asked)
    → IsAskedIn stage phases bodies store beliefs running target source page (Some request) → (request.id.slot ≡ target) ⊎ IsLook request.id.call
copy_looks stage phases bodies store beliefs running target source page request is = grind arith

module _ (core : Parts) (view : CoreView) (sound : IsCore core) (outs : view.outs ≡ core.outs) (stands : view.standing ≡ core.standing) (merges : view.merger ≡ core.merger)
    (running : Running) (place : ℕ) (asked : List (Option Asked)) (bodies files : List (List ℕ)) (was : core.dumper.running ≡ Some running) (below : place < running.opened)
    (few : running.opened ≤ length running.pre_dumps) (b : Believes view asked bodies files) (id : RequestId) (on : id.slot ≡ get_or running.pre_dumps place running.dump) where
  -- it is on none that isn't the checkpoint's, and not on that of the next image
  not_at : (slot : ℕ) → (HasSlot core.dumper.running slot → ⊥) → id.slot ≢ slot
  not_at slot none same = none (subst (λ r. HasSlot r slot) (sym was) (subst (HasSlot (Some running)) (sym on ∙ same) (own_has running place)))

  not_own : id.slot ≢ slot_of running
  not_own same = (at_work core running sound was).apart place running.opened below few (sym on ∙ same)

  -- the merger's
  its_id : (request : Option Asked) → slice_get asked 1 ≡ Some request → slice_get core.outs 1 ≡ Some (Some id) → option_map id_of request ≡ Some id
  its_id request own at = same_Some (option_map id_of request) (Some id) (sym (ids_at asked 1 request own) ∙ ap (λ all. slice_get all 1) (b.knows.out ∙ outs) ∙ at)

  asks_copy : (request : Option Asked) (stage : CopyStage) (store : Store) (beliefs : List Belief) (runs : Option Running) (target : ℕ) (source : Image) (page : Option Place)
      → option_map id_of request ≡ Some id → IsAskedIn stage view.phases bodies store beliefs runs target source page request → id.slot ≢ target → IsLook id.call
  asks_copy request stage store beliefs runs target source page is asks other = grind arith

  asks_close : (request : Option Asked) (slot : ℕ) → option_map id_of request ≡ Some id → ((out : Asked) → request ≡ Some out → out.id.slot ≡ slot) → id.slot ≢ slot → IsLook id.call
  asks_close request slot is at other = grind arith

  doing_looks : (merge : merger.Running) (doing : Doing) → core.merger ≡ Some merge → merge.doing ≡ doing → slice_get core.outs 1 ≡ Some (Some id)
      → IsMergeAt view.phases asked bodies view.numbers.serial b.store b.beliefs view.dumper.running merge.slot merge.source doing
      → IsDoing core.phases core.places core.numbers core.room core.dumper.running merge doing → IsLook id.call
  doing_looks merge due runs is at m d = absurd (let no : None ≡ Some id = its_id None m.1 at in cc)
  doing_looks merge (copying copy) runs is at m d =
      asks_copy m.copy.request copy.stage b.store b.beliefs view.dumper.running merge.slot m.repeats.image copy.taking (its_id m.copy.request m.copy.own at) m.copy.asked_in
      (not_at merge.slot (merger_works core merge sound runs).spared)
  doing_looks merge (opened serial) runs is at m d = absurd m
  doing_looks merge (retiring r) runs is at m d =
      asks_close m.closes.request m.one.slot (its_id m.closes.request m.closes.own at) m.closes.asked_at (not_at m.one.slot (d.each r.ended m.one m.there).spared)

  merger_looks : (merge : Option merger.Running) → core.merger ≡ merge → slice_get core.outs 1 ≡ Some (Some id)
      → IsMergeOn view.phases asked bodies view.numbers.serial b.store b.beliefs view.dumper.running merge → IsLook id.call
  merger_looks None runs at m = absurd (let no : None ≡ Some id = its_id None m.1 at in cc)
  merger_looks (Some merge) runs at m = doing_looks merge merge.doing runs refl at m (merger_works core merge sound runs).doing

  pub only_looks : (lane : ℕ) → slice_get core.outs lane ≡ Some (Some id) → IsLook id.call
  only_looks lane at =
      let w = at_work core running sound was in
      elim (lane_at (out_of_running (Some running)) (merger.out_of_merge core.merger) (writes_of_running (Some running)) lane id (ap (λ all. slice_get all lane) (sym (jobs_are core running sound was)) ∙ at)) [
        | inl own ↦ absurd (not_own (on_slot running id w.asked w.writes (inl own.1)))
        | inr rest ↦ elim rest [
          | inl its ↦ merger_looks core.merger refl (ap (slice_get core.outs) (sym its.0) ∙ at)
              (subst (IsMergeOn view.phases asked bodies view.numbers.serial b.store b.beliefs view.dumper.running) merges (b.knows.merging (stands ∙ w.stands)).is)
          | inr page ↦ absurd (not_own (on_slot running id w.asked w.writes (inr (page.0, page.2))))
        ]
      ]
