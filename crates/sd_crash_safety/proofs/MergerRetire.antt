-- The next call on an image of a merge's list is asked for.
use Rattle.std.proofs.Common.{◌≡◌, ◌↔◌, ℕ, ◌≤◌, true, List, [], Option, Some, None, option_and_then, slice_get, slice_set, refl, sym, ◌∙◌, ap, subst, inl, inr, arith}
use Rattle.std.proofs.lemmas.Option.{same_Some}
use Rattle.sd_disk.specs.Contents.{file_at}
use Rattle.sd_image.specs.Image.{Image}
use Rattle.sd_gate.specs.declared.slot_state.SlotState.TheVariants.{Open as OpenSlot}
use Rattle.sd_gate.specs.Phases.{is_ready}
use Rattle.sd_gate.specs.Plans.{Gives, Planned}
use Rattle.sd_gate.specs.Requests.{Asked}
use Rattle.sd_journal.specs.History.{History}
use Rattle.sd_merge.specs.declared.merge_step.MergeStep.TheVariants.{Call}
use Rattle.sd_merge.specs.Merger.{Retiring, retiring}
use Rattle.sd_merge.specs.Merger as merger
use Rattle.sd_rounds.specs.declared.image_order.ImageOrder.{ImageOrder}
use Rattle.sd_rounds.specs.declared.stage.Stage.TheVariants.{Format}
use Rattle.sd_rounds.specs.Dumper.{Running}
use Rattle.sd_rounds.specs.MakingLaws.{MakingLaws}
use Rattle.sd_store_laws.specs.Beliefs.{Belief, Kept, Closing, image_in}
use Rattle.sd_store_laws.specs.LiveImages.{CatalogFollows}
use Rattle.sd_store_laws.specs.Needs.{IsNeededIn}
use Rattle.sd_store_laws.specs.SlotSteps.{with_belief}
use Rattle.sd_crash_safety.specs.Believes.{Believes, HasStore}
use Rattle.sd_crash_safety.specs.GateSteps.{GateSteps}
use Rattle.sd_crash_safety.specs.LiveImages.{IsLiveOn, IsSlotFor}
use Rattle.sd_crash_safety.specs.MergerSteps.{AsksToRetire}
use Rattle.sd_crash_safety.specs.Merges.{IsMergeAt, IsMergeOn, IsRetiredOn, IsRetiringOn, order_of_slot}
use Rattle.sd_crash_safety.specs.StoreSteps.{MayAsk, QuietSteps}
use Rattle.sd_crash_safety.specs.View.{CoreView, history_of}
use Rattle.sd_crash_safety.proofs.Asks.{HasIt, IsChangedAt, changed_by, unchanged_at}
use Rattle.sd_crash_safety.proofs.AsksImage.{plan_on}
use Rattle.sd_crash_safety.proofs.AsksSlot.{AsksOn, AsksQuietly, AsksToClose, asks_on}
use Rattle.sd_crash_safety.proofs.BeginsImage.{none_at}
use Rattle.sd_crash_safety.proofs.MergerUse.{use_then}
use Rattle.sd_crash_safety.proofs.OpenCore.{believes_parts}
use Rattle.sd_crash_safety.proofs.Places.{free_there, ids_set, set_same}

call_is : (request other : Asked) → Call request ≡ Call other → other ≡ request
call_is request other same = cc

plan_is : (old : Retiring) (next other : Planned) (to : Retiring) → retiring to ≡ retiring (record old { plan = next }) → to ≡ record old { plan = next }
plan_is old next other to same = cc

module _ (quiet : QuietSteps) (gates : GateSteps) (follows : CatalogFollows) (making : MakingLaws)
    (old new : CoreView) (merge : merger.Running) (r next : Retiring) (ticket : ℕ) (request : Asked) (asked : List (Option Asked)) (bodies files : List (List ℕ))
    (s : AsksToRetire old merge r next ticket request new) (b : Believes old asked bodies files) where
  abbrev history : History
  history = history_of old

  abbrev running : Option Running
  running = old.dumper.running

  abbrev last : ℕ
  last = old.numbers.serial

  abbrev asked_now : List (Option Asked)
  asked_now = slice_set asked 1 (Some request)

  u : IsLiveOn old.base history old.catalog old.grows old.memory old.phases asked bodies last b.store b.dump b.beliefs running
  u = b.knows.is_live s.rest.stands

  m : IsRetiringOn old.phases asked bodies b.store b.beliefs running r
  m = subst (IsMergeAt old.phases asked bodies last b.store b.beliefs running merge.slot merge.source) s.doing
      (subst (λ x. IsMergeOn old.phases asked bodies last b.store b.beliefs running x) s.was (b.knows.merging s.rest.stands).is)

  abbrev slot : ℕ
  slot = m.one.slot

  c : IsRetiredOn old.phases asked bodies b.store b.beliefs running r m.one
  c = m.closes

  gives : Gives r.plan s.retires.next request
  gives = subst (Gives r.plan s.retires.next) (call_is request s.retires.request s.retires.call) s.retires.gives

  next_is : next ≡ record r { plan = s.retires.next }
  next_is = plan_is r s.retires.next s.retires.next next s.retires.is

  free : slice_get asked 1 ≡ Some None
  free = free_there asked 1 (ap (λ ids. slice_get ids 1) b.knows.out ∙ s.free)

  none : c.request ≡ None
  none = same_Some c.request None (sym c.own ∙ free)

  abbrev order : ImageOrder
  order = order_of_slot slot OpenSlot

  slot_is : IsSlotFor (Format r.plan) order [] c.phase (file_at bodies slot) None c.belief None
  slot_is = subst (λ q. IsSlotFor (Format r.plan) order [] c.phase (file_at bodies slot) q c.belief None) none c.slot_is

  on : request.id.slot ≡ slot
  on = gives.slot ∙ plan_on (Format r.plan) order [] c.phase (file_at bodies slot) None c.belief None r.plan refl slot_is

  asked_on : (is_ready c.phase request.id.call ≡ true) × AsksOn (Format s.retires.next) order [] c.phase (file_at bodies slot) request c.belief None
  asked_on = asks_on (Format r.plan) order [] c.phase (file_at bodies slot) c.belief None r.plan s.retires.next request refl gives slot_is

  abbrev may : MayAsk old.phases asked 1 request
  may = record {
    free = free;
    phase = c.phase;
    waits = record { is = ap (slice_get old.phases) on ∙ c.phase_is; ready = asked_on.0 };
  }

  -- the merge, with what is believed of the slot
  merge_with : (belief_now : Belief) (then : List Belief) → IsChangedAt b.beliefs slot belief_now then
      → IsSlotFor (Format s.retires.next) order [] c.phase (file_at bodies slot) (Some request) belief_now None
      → ((i : Image) → image_in belief_now ≡ Some i → IsNeededIn b.store i → ⊥)
      → IsRetiringOn old.phases asked_now bodies b.store then running (record r { plan = s.retires.next })
  merge_with belief_now then changed slot_now unneeded = record {
    alone = m.alone;
    one = m.one;
    there = m.there;
    closes = record {
      phase = c.phase;
      phase_is = c.phase_is;
      belief = belief_now;
      belief_is = changed.there;
      unneeded = λ i has. unneeded i (sym (ap (λ o. option_and_then image_in o) changed.there) ∙ has);
      spared = c.spared;
      request = Some request;
      own = set_same asked 1 None (Some request) free;
      asked_at = λ out is. ap (λ (q : Asked). q.id.slot) (sym (same_Some request out is)) ∙ on;
      slot_is = slot_now;
    };
    before = m.before;
    later = λ place other after at. (let l = m.later place other after at in record {
      image = l.image;
      has = ap (λ o. option_and_then image_in o) (changed.others other.slot (λ same. m.apart r.ended place m.one other after m.there at (sym same))) ∙ l.has;
      unneeded = l.unneeded;
      spared = l.spared;
    });
    apart = m.apart;
  }

  -- the new core, with these beliefs
  believes_with : (belief_now : Belief) (then : List Belief) → IsChangedAt b.beliefs slot belief_now then
      → HasStore old.base history old.phases asked_now bodies b.store b.dump then
      → ((i : Image) → HasIt c.belief i ↔ HasIt belief_now i) → ((i : Image) → image_in belief_now ≡ Some i → image_in c.belief ≡ Some i)
      → IsSlotFor (Format s.retires.next) order [] c.phase (file_at bodies slot) (Some request) belief_now None → Believes new asked_now bodies files
  believes_with belief_now then changed has same before slot_now =
      believes_parts new old.base history old.catalog old.grows old.memory old.phases last running (Some (record merge { doing = retiring (record r { plan = s.retires.next }) }))
      (record {
        base_is = s.rest.base;
        history_is = s.rest.history;
        places_is = s.catalog;
        grows_is = s.rest.grows;
        memory_is = s.rest.memory;
        phases_is = s.phases;
        last_is = s.serial;
        running_is = s.rest.dumper;
        merger_is = s.is ∙ ap (λ x. Some (record merge { doing = retiring x })) next_is;
        closed = s.rest.closed;
      })
      asked_now bodies files b.store b.dump then (λ is. b.knows.sure (sym s.rest.committing ∙ is)) b.knows.count
      (ids_set asked 1 (Some request) ∙ ap (λ ids. slice_set ids 1 (Some request.id)) b.knows.out ∙ sym s.outs) has
      (use_then follows making old.base history old.catalog old.grows old.memory old.phases asked bodies last b.store b.dump b.beliefs then running slot c.belief belief_now request
      u free on c.belief_is changed same (λ i has_it. few_of i (before i has_it)) (λ i has_it. inl (before i has_it)) c.spared s.rest.makes)
      (record { spelled = (b.knows.merging s.rest.stands).spelled; is = merge_with belief_now then changed slot_now (λ i has_it. unneeded_of i (before i has_it)) })
    where
      few_of : (i : Image) → image_in c.belief ≡ Some i → i.header.serial ≤ last
      few_of i has_it = u.used.slots slot i (ap (λ o. option_and_then image_in o) c.belief_is ∙ has_it)

      unneeded_of : (i : Image) → image_in c.belief ≡ Some i → IsNeededIn b.store i → ⊥
      unneeded_of i has_it = c.unneeded i (ap (λ o. option_and_then image_in o) c.belief_is ∙ has_it)

  -- a quiet call
  quietly : AsksQuietly (Format s.retires.next) order [] c.phase (file_at bodies slot) request c.belief None → Believes new asked_now bodies files
  quietly q = believes_with c.belief b.beliefs (unchanged_at b.beliefs slot c.belief c.belief_is)
      (quiet.asks old.base history old.phases asked bodies b.store b.dump b.beliefs 1 request may (record { opens = q.opens; closes = q.closes }) b.has)
      (λ i. (λ has. has, λ has. has)) (λ i has. has) q.slot_is

  -- its gate is closed
  closes_it : AsksToClose (Format s.retires.next) order [] c.phase (file_at bodies slot) request c.belief None → Believes new asked_now bodies files
  closes_it q =
      let i = q.image in
      let kept : slice_get b.beliefs slot ≡ Some (Kept i) = c.belief_is ∙ ap Some q.kept in
      let has_i : image_in c.belief ≡ Some i = ap image_in q.kept in
      believes_with (Closing i) (with_belief b.beliefs slot (Closing i)) (changed_by b.beliefs slot c.belief (Closing i) c.belief_is)
      (subst (λ x. HasStore old.base history old.phases asked_now bodies b.store b.dump (with_belief b.beliefs x (Closing i))) on
      ((gates old.base history old.phases asked bodies).closes b.store b.dump b.beliefs 1 request i (record {
        may = may;
        none = none_at asked old request.id.slot b.knows.out s.apart;
        call = q.call;
        phase = q.whole;
        belief = ap (slice_get b.beliefs) on ∙ kept;
        unneeded = c.unneeded i (ap (λ o. option_and_then image_in o) kept);
      }) b.has))
      (λ j. (λ has. to_closing j has, λ has. to_kept j has)) (λ j has. has_i ∙ has) q.slot_is
    where
      to_closing : (j : Image) → HasIt c.belief j → HasIt (Closing q.image) j
      to_closing j (inl is) = inr (let same : Kept q.image ≡ Kept j = sym q.kept ∙ is in cc)
      to_closing j (inr is) = absurd (let no : Kept q.image ≡ Closing j = sym q.kept ∙ is in cc)

      to_kept : (j : Image) → HasIt (Closing q.image) j → HasIt c.belief j
      to_kept j given = grind arith

  pub merger_retires_lem : Believes new asked_now bodies files
  merger_retires_lem = elim asked_on.1 [
    | inl q ↦ quietly q
    | inr more ↦ elim more [
      | inl q ↦ closes_it q
      | inr q ↦ absurd (let no : None ≡ Some q.image = q.its in cc)
    ]
  ]
