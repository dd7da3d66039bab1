-- What is so of every world stays so where an outcome is handed in.
use Rattle.std.proofs.Common.{◌≡◌, ℕ, ◌<◌, List, [], map, length, Some, None, slice_get, slice_set, refl, sym, ◌∙◌, ap, subst, inl, inr}
use Rattle.std.proofs.lemmas.Bool.{cases_eq}
use Rattle.std.proofs.lemmas.List.{get_or-set_same, get_or-set_other}
use Rattle.std.proofs.lemmas.Option.{same_Some, slice_get_within}
use Rattle.sd_command.specs.declared.reply.Reply.{Reply}
use Rattle.sd_disk.specs.Contents.{file_at}
use Rattle.sd_disk.specs.declared.disk.Disk.{Ghosts}
use Rattle.sd_gate.specs.declared.phase.Phase.{Phase}
use Rattle.sd_gate.specs.Calls.{IsLook, is_done}
use Rattle.sd_gate.specs.Fits.{PhaseReads}
use Rattle.sd_gate.specs.Laws.{GivenUpFits, WritesCommute}
use Rattle.sd_gate.specs.Phases.{after as phase_after, body_after, bodies_after, phases_after}
use Rattle.sd_gate.specs.Requests.{Made}
use Rattle.sd_crash_safety.specs.Believes.{Believes}
use Rattle.sd_crash_safety.specs.Calls.{AreGivenUp, HandedIn, IsOut}
use Rattle.sd_crash_safety.specs.LiveImages.{IsPageOf}
use Rattle.sd_crash_safety.specs.View.{CoreView}
use Rattle.sd_world.specs.declared.kept.Kept.{Kept}
use Rattle.sd_world.specs.declared.kept.Kept.TheVariants.{Nothing, Outcome}
use Rattle.sd_world.specs.Consistent.{AreInPlace, IsConsistent, IsWorld, slot_now}
use Rattle.sd_world.specs.View.{asked_of, kept_id}
use Rattle.sd_world.proofs.KeptLemmas.{alone_now, beside_of, cleared_places, handed_now, is_set, lane_cases, nothing_on, outcome_off, set_elsewhere}
use Rattle.sd_store_laws.proofs.SlotSteps.{set_other as get_set_other}
use Rattle.sd_world.proofs.Lists.{get_map, get_set_same, map_set}
use Rattle.sd_world.proofs.Worlds.{Fits, Stand, slot_as, stand_given_up}

module _ (law : WritesCommute) (kept : List Kept) (slots lane : ℕ) (made : Made) (at : slice_get kept lane ≡ Some (Outcome made)) (places : AreInPlace kept slots) where
  abbrev pub now : List Kept
  now = slice_set kept lane Nothing

  -- its slot is in the phase that followed, with the body that followed, and the others are as they were
  stand_handed : (contents : List (List ℕ)) (may_leave : List (List ℕ) → Type 0) (phases : List Phase) (bodies : List (List ℕ)) (phase : Phase)
      → length bodies ≡ length phases → slice_get phases made.request.id.slot ≡ Some phase
      → Stand contents may_leave phases kept bodies
      → Stand contents may_leave (phases_after phases made.request.id phase (is_done made.answer)) now (bodies_after bodies made.request.id made.request.bytes)
  stand_handed contents may_leave phases bodies phase stored here stand slot new is =
      let id = made.request.id in
      let next = phase_after phase id.call (is_done made.answer) in
      let body = body_after (file_at bodies id.slot) id.call made.request.bytes in
      let filled = bodies_after bodies id made.request.bytes in
      elim (cases_eq slot id.slot) [
        | inl same ↦
            let within : id.slot < length bodies = subst (λ n. id.slot < n) (sym stored) (slice_get_within phases id.slot phase here) in
            let it : new ≡ next = same_Some new next (sym is ∙ ap (slice_get (slice_set phases id.slot next)) same ∙ get_set_same phases id.slot phase next here) in
            let fits : Fits contents may_leave id.slot (slot_now now id.slot (slot_as next body)) =
            subst (Fits contents may_leave id.slot) (sym (handed_now law kept lane id.slot (slot_as phase (file_at bodies id.slot)) made at refl (beside_of kept slots lane (Outcome made) made places at refl)))
            (stand id.slot phase here) in
            subst (λ s. Fits contents may_leave s (slot_now now s (slot_as new (file_at filled s)))) (sym same)
            (subst (λ p. Fits contents may_leave id.slot (slot_now now id.slot (slot_as p (file_at filled id.slot)))) (sym it)
            (subst (λ b. Fits contents may_leave id.slot (slot_now now id.slot (slot_as next b))) (sym (get_or-set_same bodies id.slot body [] within)) fits))
        | inr differs ↦
            let was : slice_get phases slot ≡ Some new = sym (get_set_other phases id.slot slot next differs) ∙ is in
            subst (Fits contents may_leave slot) (sym (set_elsewhere kept lane (Outcome made) Nothing slot (slot_as new (file_at filled slot)) at
            (outcome_off made slot (λ on. differs (sym on))) (nothing_on slot)))
            (subst (λ b. Fits contents may_leave slot (slot_now kept slot (slot_as new b)))
            (sym (get_or-set_other bodies id.slot slot body [] differs)) (stand slot new was))
      ]

  -- a call that only looks is alone on its slot
  look_reads : (contents : List (List ℕ)) (may_leave : List (List ℕ) → Type 0) (phases : List Phase) (bodies : List (List ℕ)) (phase : Phase)
      → IsLook made.request.id.call → slice_get phases made.request.id.slot ≡ Some phase → Stand contents may_leave phases kept bodies
      → PhaseReads (phase_after phase made.request.id.call (is_done made.answer))
      (body_after (file_at bodies made.request.id.slot) made.request.id.call made.request.bytes) (file_at contents made.request.id.slot)
  look_reads contents may_leave phases bodies phase looks here stand = elim (lane_cases lane) [
    | inl few ↦ (subst (Fits contents may_leave made.request.id.slot)
        (alone_now kept slots lane made (slot_as phase (file_at bodies made.request.id.slot)) law places at few) (stand made.request.id.slot phase here)).reads
    | inr some ↦
        let page : IsPageOf made.request.id.slot made.request = places.pages lane (Outcome made) made.request at refl some in
        absurd (subst IsLook page.call looks)
  ]

-- each slot is as it was, or as the outcome leaves it
pub handed_stands : {D : Type 0} (g : Ghosts D) (disk : D) (old new : CoreView) (kept : List Kept) (lane : ℕ) (made : Made) (answer : Reply)
    → WritesCommute → slice_get kept lane ≡ Some (Outcome made) → GivenUpFits (g.contents disk) (g.may_leave disk)
    → ((out : IsOut old made.request.id) → HandedIn old out.lane made answer new)
    → IsWorld g (record { core = old; disk = disk; kept = kept }) → (was : IsConsistent g (record { core = old; disk = disk; kept = kept }))
    → (new.outs ≡ map kept_id (slice_set kept lane Nothing))
    × Stand (g.contents disk) (g.may_leave disk) new.phases (slice_set kept lane Nothing) (bodies_after was.bodies made.request.id made.request.bytes)
handed_stands g disk old new kept lane made answer law at gives handed world was =
    let id = made.request.id in
    let later = slice_set kept lane Nothing in
    let contents = g.contents disk in
    let h = handed (record { lane = lane; is = ap (λ outs. slice_get outs lane) world.outs ∙ get_map kept_id kept lane (Outcome made) at }) in
    let outs : new.outs ≡ map kept_id later =
    h.outs ∙ ap (λ all. slice_set all lane None) world.outs ∙ sym (map_set kept_id kept lane Nothing) in
    let cover = was.believes.has.waiting lane made.request (get_map asked_of kept lane (Outcome made) at) in (
      outs,
      stand_given_up contents (g.may_leave disk) later (bodies_after was.bodies id made.request.bytes)
          (phases_after old.phases id cover.phase (is_done made.answer)) new.phases gives
          (subst (λ all. AreGivenUp all (phases_after old.phases id cover.phase (is_done made.answer)) new.phases) outs (h.phases cover.phase cover.waits))
          (stand_handed law kept (length contents) lane made at world.places contents (g.may_leave disk) old.phases was.bodies cover.phase
          was.believes.has.stored cover.waits.is was.stands),
    )

pub handed_world : {D : Type 0} (g : Ghosts D) (disk : D) (old new : CoreView) (kept : List Kept) (lane : ℕ) (made : Made) (answer : Reply)
    → WritesCommute → slice_get kept lane ≡ Some (Outcome made) → GivenUpFits (g.contents disk) (g.may_leave disk)
    → ((out : IsOut old made.request.id) → HandedIn old out.lane made answer new)
    → IsWorld g (record { core = old; disk = disk; kept = kept })
    → IsWorld g (record { core = new; disk = disk; kept = slice_set kept lane Nothing })
handed_world g disk old new kept lane made answer law at gives handed world =
    let id = made.request.id in
    let later = slice_set kept lane Nothing in
    let contents = g.contents disk in
    let h = handed (record { lane = lane; is = ap (λ outs. slice_get outs lane) world.outs ∙ get_map kept_id kept lane (Outcome made) at }) in
    let outs : new.outs ≡ map kept_id later =
    h.outs ∙ ap (λ all. slice_set all lane None) world.outs ∙ sym (map_set kept_id kept lane Nothing) in
    record {
      count = world.count ∙ sym h.count;
      outs = outs;
      places = cleared_places kept (length contents) lane (Outcome made) at world.places;
      consistent = λ honest.
          let was = world.consistent honest in
          let asked_at : slice_get (map asked_of kept) lane ≡ Some (Some made.request) = get_map asked_of kept lane (Outcome made) at in
          let cover = was.believes.has.waiting lane made.request asked_at in
          record {
            bodies = bodies_after was.bodies id made.request.bytes;
            believes = subst (λ asked. Believes new asked (bodies_after was.bodies id made.request.bytes) contents)
                (sym (map_set asked_of kept lane Nothing))
                (h.goes_on (map asked_of kept) was.bodies contents asked_at
                (record {
                  reads = λ looks phase waits. look_reads law kept (length contents) lane made at world.places contents (g.may_leave disk) old.phases was.bodies phase looks waits.is was.stands;
                  told = was.told lane made at;
                }) was.believes);
            stands = stand_given_up contents (g.may_leave disk) later (bodies_after was.bodies id made.request.bytes)
                (phases_after old.phases id cover.phase (is_done made.answer)) new.phases gives
                (subst (λ all. AreGivenUp all (phases_after old.phases id cover.phase (is_done made.answer)) new.phases) outs (h.phases cover.phase cover.waits))
                (stand_handed law kept (length contents) lane made at world.places contents (g.may_leave disk) old.phases was.bodies cover.phase
                was.believes.has.stored cover.waits.is was.stands);
            told = λ other m there. elim (is_set kept lane (Outcome made) Nothing at other (Outcome m) there).either [
              | inl (same, is) ↦ absurd (let no : Outcome m ≡ Nothing = is in cc)
              | inr (differs, before) ↦ was.told other m before
            ];
          };
    }
