-- What is so of every world stays so where a device call is made.
use Rattle.std.proofs.Common.{◌≡◌, ◌≢◌, ℕ, ◌<◌, true, List, map, length, Some, slice_get, slice_set, refl, sym, ◌∙◌, ap, subst, inl, inr, arith}
use Rattle.std.proofs.lemmas.Bool.{cases_eq}
use Rattle.std.proofs.lemmas.Option.{same_Some}
use Rattle.sd_disk.specs.Contents.{file_at}
use Rattle.sd_disk.specs.declared.disk.Disk.{Ghosts}
use Rattle.sd_gate.specs.declared.phase.Phase.{Phase}
use Rattle.sd_gate.specs.declared.request_id.RequestId.{RequestId}
use Rattle.sd_gate.specs.Calls.{AreKept, is_done}
use Rattle.sd_gate.specs.Laws.{WritesCommute}
use Rattle.sd_gate.specs.Looks.{IsLookedUpAs}
use Rattle.sd_gate.specs.Phases.{after as phase_after, body_after, is_ready}
use Rattle.sd_gate.specs.Requests.{Asked, Made}
use Rattle.sd_gate.specs.Sequences.{data_place}
use Rattle.sd_crash_safety.specs.Believes.{Believes}
use Rattle.sd_crash_safety.specs.LiveImages.{IsPageOf}
use Rattle.sd_crash_safety.specs.Laws.{PerformedIsBelieved}
use Rattle.sd_crash_safety.specs.View.{CoreView}
use Rattle.sd_world.specs.declared.kept.Kept.{Kept}
use Rattle.sd_world.specs.declared.kept.Kept.TheVariants.{Request, Outcome}
use Rattle.sd_world.specs.Consistent.{AreAskedInPages, AreInPlace, IsConsistent, IsWorld, SlotNow, slot_after, slot_now}
use Rattle.sd_world.specs.Steps.{IsPerformed}
use Rattle.sd_world.specs.View.{asked_of, kept_id}
use Rattle.sd_crash_safety.proofs.Performed.{kept_body as same_body}
use Rattle.sd_world.proofs.KeptLemmas.{IsWrite, WriteBeside, filled_places, is_set, made_now, outcome_off, ready_now, request_on, same_outcome, set_elsewhere}
use Rattle.sd_world.proofs.Lists.{get_map, map_set, set_itself}
use Rattle.sd_world.proofs.Worlds.{Fits, slot_as}

-- the write of a page keeps its bytes
page_kept : (slot : ℕ) (request other : Asked) → other.id ≡ request.id → AreKept request.id.call request.bytes other.bytes → IsPageOf slot request → IsPageOf slot other
page_kept slot request other same kept page = grind arith

-- what a write said of a file is so of every file
told_anyway : (file other : List ℕ) (made : Made) → IsWrite made.request.id.call → IsLookedUpAs file made → IsLookedUpAs other made
told_anyway file other made write told = grind arith

module _ (law : WritesCommute) {D : Type 0} (g : Ghosts D) (core : CoreView) (kept : List Kept) (lane : ℕ) (request : Asked) (old : D) (made : Made) (new : D)
    (at : slice_get kept lane ≡ Some (Request request)) (p : IsPerformed g request old made new)
    (world : IsWorld g (record { core = core; disk = old; kept = kept })) where
  abbrev pub later : List Kept
  later = slice_set kept lane (Outcome made)

  abbrev pub files : List (List ℕ)
  files = g.contents new

  same_id : made.request.id ≡ request.id
  same_id = p.made_of.id

  -- what is out on its slot beside it writes other pages
  others : (other : ℕ) (k : Kept) (b : Asked) → other ≢ lane → slice_get kept other ≡ Some k → asked_of k ≡ Some b → made.request.id.slot ≡ b.id.slot
      → AreAskedInPages lane other made.request b
  others other k b differs there asks on = elim (world.places.apart lane other (Request request) k request b at there refl asks (sym (ap (λ (id : RequestId). id.slot) same_id) ∙ on)) [
    | inl own ↦ absurd (differs (sym own))
    | inr pages ↦ record { first = pages.first; second = pages.second; apart = λ same. pages.apart (sym (ap (λ (id : RequestId). id.call) same_id) ∙ same) }
  ]

  later_places : AreInPlace later (length files)
  later_places = subst (AreInPlace later) (sym p.count)
      (filled_places kept (length (g.contents old)) lane (Request request) (Outcome made) made.request at refl
      (subst (λ (id : RequestId). id.slot < length (g.contents old)) (sym same_id) (world.places.range lane (Request request) request at refl))
      (λ some. subst (λ (id : RequestId). IsPageOf id.slot made.request) (sym same_id)
      (page_kept request.id.slot request made.request same_id p.made_of.bytes (world.places.pages lane (Request request) request at refl some)))
      others world.places)

  later_outs : core.outs ≡ map kept_id later
  later_outs = world.outs ∙ sym (set_itself (map kept_id kept) lane (Some request.id) (get_map kept_id kept lane (Request request) at))
      ∙ ap (λ id. slice_set (map kept_id kept) lane (Some id)) (sym same_id) ∙ sym (map_set kept_id kept lane (Outcome made))

  beside : WriteBeside made lane request.id.slot kept
  beside other_lane other differs there on =
      let pages = others other_lane (Outcome other) other.request differs there refl (ap (λ (id : RequestId). id.slot) same_id ∙ sym on) in
      record {
        first = page_kept request.id.slot request made.request same_id p.made_of.bytes (world.places.pages lane (Request request) request at refl pages.first);
        second = subst (λ n. IsPageOf n other.request) on (world.places.pages other_lane (Outcome other) other.request there refl pages.second);
        apart = pages.apart;
      }

  made_here : (s : SlotNow) → slot_now later request.id.slot s ≡ slot_after (slot_now kept request.id.slot s) made
  made_here s = made_now law kept lane request.id.slot s request made at (ap (λ (id : RequestId). id.slot) same_id) beside

  elsewhere_now : (slot : ℕ) (s : SlotNow) → slot ≢ request.id.slot → slot_now later slot s ≡ slot_now kept slot s
  elsewhere_now slot s differs = set_elsewhere kept lane (Request request) (Outcome made) slot s at (request_on request slot)
      (outcome_off made slot (λ on. differs (sym on ∙ ap (λ (id : RequestId). id.slot) same_id)))

  module _ (was : IsConsistent g (record { core = core; disk = old; kept = kept })) where
    ready : (phase : Phase) → slice_get core.phases request.id.slot ≡ Some phase → is_ready phase request.id.call ≡ true
    ready phase is =
        let cover = was.believes.has.waiting lane request (get_map asked_of kept lane (Request request) at) in
        subst (λ q. is_ready q request.id.call ≡ true) (same_Some cover.phase phase (sym cover.waits.is ∙ is)) cover.waits.ready

    stands_here : (phase : Phase) → slice_get core.phases request.id.slot ≡ Some phase
        → Fits files (g.may_leave new) request.id.slot (slot_now later request.id.slot (slot_as phase (file_at was.bodies request.id.slot)))
    stands_here phase is =
        let slot = request.id.slot in
        let s = slot_as phase (file_at was.bodies slot) in
        let n : SlotNow = slot_now kept slot s in
        subst (Fits files (g.may_leave new) slot) (sym (made_here s))
        (subst (λ (id : RequestId). Fits files (g.may_leave new) slot (slot_as (phase_after n.phase id.call (is_done made.answer)) (body_after n.body id.call made.request.bytes)))
        (sym same_id)
        (subst (λ b. Fits files (g.may_leave new) slot (slot_as (phase_after n.phase request.id.call (is_done made.answer)) b))
        (sym (same_body n.body request.id.call request.bytes made.request.bytes p.made_of.bytes))
        (p.fits n.phase n.body (ready_now kept (length (g.contents old)) lane request s world.places at (ready phase is)) (was.stands slot phase is))))

    stands_now : (slot : ℕ) (phase : Phase) → slice_get core.phases slot ≡ Some phase
        → Fits files (g.may_leave new) slot (slot_now later slot (slot_as phase (file_at was.bodies slot)))
    stands_now slot phase is = elim (cases_eq slot request.id.slot) [
      | inl same ↦ subst (λ s. Fits files (g.may_leave new) s (slot_now later s (slot_as phase (file_at was.bodies s)))) (sym same)
          (stands_here phase (ap (slice_get core.phases) (sym same) ∙ is))
      | inr differs ↦
          let s = slot_as phase (file_at was.bodies slot) in
          let n : SlotNow = slot_now kept slot s in
          subst (Fits files (g.may_leave new) slot) (sym (elsewhere_now slot s differs)) (p.elsewhere slot n.phase n.body differs (was.stands slot phase is))
    ]

    told_here : g.is_honest new → is_done made.answer ≡ true → IsLookedUpAs (file_at files made.request.id.slot) made
    told_here honest done = grind arith

    told_other : (other : ℕ) (m : Made) → other ≢ lane → slice_get kept other ≡ Some (Outcome m) → is_done m.answer ≡ true → IsLookedUpAs (file_at files m.request.id.slot) m
    told_other other m differs before done = elim (cases_eq m.request.id.slot request.id.slot) [
      | inl on ↦
          let pages = others other (Outcome m) m.request differs before refl (ap (λ (id : RequestId). id.slot) same_id ∙ sym on) in
          let page = world.places.pages other (Outcome m) m.request before refl pages.second in
          told_anyway (file_at (g.contents old) m.request.id.slot) (file_at files m.request.id.slot) m (record { at = data_place page.place; is = page.call }) (was.told other m before done)
      | inr off ↦ subst (λ file. IsLookedUpAs file m) (sym (p.others m.request.id.slot off)) (was.told other m before done)
    ]

    told_now : g.is_honest new → (other : ℕ) (m : Made) → slice_get later other ≡ Some (Outcome m) → is_done m.answer ≡ true
        → IsLookedUpAs (file_at files m.request.id.slot) m
    told_now honest other m there done = elim (is_set kept lane (Request request) (Outcome made) at other (Outcome m) there).either [
      | inl (same, is) ↦
          let its : m ≡ made = same_outcome m made (ap Some is) in
          subst (λ (x : Made). IsLookedUpAs (file_at files x.request.id.slot) x) (sym its) (told_here honest (ap (λ (x : Made). is_done x.answer) (sym its) ∙ done))
      | inr (differs, before) ↦ told_other other m differs before done
    ]

  pub performed_world : PerformedIsBelieved → IsWorld g (record { core = core; disk = new; kept = later })
  performed_world performed = record {
    count = p.count ∙ world.count;
    outs = later_outs;
    places = later_places;
    consistent = λ honest.
        let was = world.consistent (p.one_call.honest honest) in
        record {
          bodies = was.bodies;
          believes = subst (λ asked. Believes core asked was.bodies files) (sym (map_set asked_of kept lane (Outcome made)))
              (performed core (map asked_of kept) was.bodies (g.contents old) files lane request made
              (get_map asked_of kept lane (Request request) at) p.made_of was.believes);
          stands = stands_now was;
          told = told_now was honest;
        };
  }
