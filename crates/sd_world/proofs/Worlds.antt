-- What is so of every world stays so through each event.
use Rattle.std.proofs.Common.{◌≡◌, ◌≢◌, ℕ, ◌<◌, List, map, length, Some, None, slice_get, slice_set, refl, sym, ◌∙◌, ap, subst, inl, inr}
use Rattle.std.proofs.lemmas.Bool.{cases_eq}
use Rattle.sd_disk.specs.Contents.{file_at}
use Rattle.sd_disk.specs.declared.disk.Disk.{Ghosts}
use Rattle.sd_gate.specs.declared.phase.Phase.{Phase}
use Rattle.sd_gate.specs.declared.worker.Worker.{Worker}
use Rattle.sd_gate.specs.Fits.{SlotFits}
use Rattle.sd_gate.specs.Laws.{GivenUpFits}
use Rattle.sd_gate.specs.Requests.{Asked}
use Rattle.sd_crash_safety.specs.Believes.{Believes}
use Rattle.sd_crash_safety.specs.Calls.{AreGivenUp, HandsOut, Stays}
use Rattle.sd_crash_safety.specs.View.{CoreView}
use Rattle.sd_world.specs.declared.kept.Kept.{Kept}
use Rattle.sd_world.specs.declared.kept.Kept.TheVariants.{Nothing, Request, Outcome}
use Rattle.sd_world.specs.Consistent.{AreAskedInPages, IsWorld, SlotNow, slot_now}
use Rattle.sd_world.specs.Steps.{KeepsRequest}
use Rattle.sd_world.specs.View.{asked_of, kept_id}
use Rattle.sd_world.proofs.KeptLemmas.{asked_id_of, filled_places, free_now, is_set, nothing_on, request_on, set_elsewhere}
use Rattle.sd_store_laws.proofs.SlotSteps.{set_other as get_set_other}
use Rattle.sd_world.proofs.Lists.{get_map, map_get, map_set}

-- a slot in this phase, with this body
abbrev pub slot_as : Phase → List ℕ → SlotNow
slot_as phase body = record { phase = phase; body = body }

-- the slots of a disk with these contents are so
abbrev pub Fits : List (List ℕ) → (List (List ℕ) → Type 0) → ℕ → SlotNow → Type 0
Fits contents may_leave slot now = SlotFits now.phase now.body slot contents may_leave

-- each slot of these phases and bodies is as they say, with the calls whose outcomes are kept
abbrev pub Stand : (List (List ℕ)) → (List (List ℕ) → Type 0) → List Phase → List Kept → List (List ℕ) → Type 0
Stand contents may_leave phases kept bodies = (slot : ℕ) (phase : Phase) → slice_get phases slot ≡ Some phase
    → Fits contents may_leave slot (slot_now kept slot (slot_as phase (file_at bodies slot)))

module _ (contents : List (List ℕ)) (may_leave : List (List ℕ) → Type 0) where
  -- jobs without a request are given up
  pub stand_given_up : (kept : List Kept) (bodies : List (List ℕ)) (old new : List Phase) → GivenUpFits contents may_leave
      → AreGivenUp (map kept_id kept) old new → Stand contents may_leave old kept bodies → Stand contents may_leave new kept bodies
  stand_given_up kept bodies old new gives up stand slot phase is =
      let from = up.each slot phase is in
      let body = file_at bodies slot in
      elim from.2 [
        | inl same ↦ subst (λ p. Fits contents may_leave slot (slot_now kept slot (slot_as p body))) (sym same) (stand slot from.0 from.1)
        | inr (same, free) ↦
            let was : SlotFits from.0 body slot contents may_leave =
            subst (Fits contents may_leave slot) (free_now kept slot (slot_as from.0 body) free) (stand slot from.0 from.1) in
            subst (Fits contents may_leave slot) (sym (free_now kept slot (slot_as phase body) free))
            (subst (λ p. SlotFits p body slot contents may_leave) (sym same) (gives from.0 body slot was))
      ]

-- a request that is handed out is kept in the lane in which it is out
pub same_lane : (old : CoreView) (new : CoreView) (kept later : List Kept) (worker : Worker) (request : Asked) (hands : HandsOut old worker request new)
    (keeps : KeepsRequest new.outs kept request later) → keeps.lane ≡ hands.lane
same_lane old new kept later worker request hands keeps = elim (cases_eq keeps.lane hands.lane) [
  | inl same ↦ same
  | inr differs ↦
      let there : slice_get old.outs keeps.lane ≡ Some (Some request.id) =
      sym (get_set_other old.outs hands.lane keeps.lane (Some request.id) differs) ∙ ap (λ outs. slice_get outs keeps.lane) (sym hands.outs) ∙ keeps.out in
      absurd ((hands.apart keeps.lane request.id there refl).apart refl)
]

module _ {D : Type 0} (g : Ghosts D) (disk : D) where
  -- ---- a call of the core that leaves what is out

  pub stays_world : (old new : CoreView) (kept : List Kept) → GivenUpFits (g.contents disk) (g.may_leave disk) → Stays old new
      → IsWorld g (record { core = old; disk = disk; kept = kept }) → IsWorld g (record { core = new; disk = disk; kept = kept })
  stays_world old new kept gives stays world = record {
    count = world.count ∙ sym stays.phases.count;
    outs = stays.outs ∙ world.outs;
    places = world.places;
    consistent = λ honest.
        let was = world.consistent honest in
        record {
          bodies = was.bodies;
          believes = stays.goes_on (map asked_of kept) was.bodies (g.contents disk) was.believes;
          stands = stand_given_up (g.contents disk) (g.may_leave disk) kept was.bodies old.phases new.phases gives
              (subst (λ outs. AreGivenUp outs old.phases new.phases) (stays.outs ∙ world.outs) stays.phases) was.stands;
          told = was.told;
        };
  }

  -- ---- a request that is handed out

  module _ (old new : CoreView) (kept : List Kept) (worker : Worker) (request : Asked) (hands : HandsOut old worker request new)
      (world : IsWorld g (record { core = old; disk = disk; kept = kept })) where
    -- nothing is kept in its lane
    idle : slice_get kept hands.lane ≡ Some Nothing
    idle = (let at = map_get kept_id kept hands.lane None (ap (λ outs. slice_get outs hands.lane) (sym world.outs) ∙ hands.free) in at.1 ∙ ap Some (nothing at.0 at.2))
      where
        nothing : (k : Kept) → kept_id k ≡ None → k ≡ Nothing
        nothing Nothing is = refl
        nothing (Request r) is = absurd (let no : Some r.id ≡ None = is in cc)
        nothing (Outcome made) is = absurd (let no : Some made.request.id ≡ None = is in cc)

    beside : (other : ℕ) (k : Kept) (b : Asked) → other ≢ hands.lane → slice_get kept other ≡ Some k → asked_of k ≡ Some b → request.id.slot ≡ b.id.slot
        → AreAskedInPages hands.lane other request b
    beside other k b differs at asks on =
        let out : slice_get old.outs other ≡ Some (Some b.id) = ap (λ outs. slice_get outs other) world.outs ∙ get_map kept_id kept other k at ∙ ap Some (asked_id_of k b asks) in
        let lanes = hands.beside other b.id out (sym on) in
        record { first = lanes.0; second = lanes.1; apart = (hands.apart other b.id out (sym on)).apart }

    pub hands_out_world : IsWorld g (record { core = new; disk = disk; kept = slice_set kept hands.lane (Request request) })
    hands_out_world =
        let now = slice_set kept hands.lane (Request request) in
        let same : (slot : ℕ) (s : SlotNow) → slot_now now slot s ≡ slot_now kept slot s = λ slot s.
        set_elsewhere kept hands.lane Nothing (Request request) slot s idle (nothing_on slot) (request_on request slot) in
        record {
          count = world.count ∙ ap length (sym hands.phases);
          outs = hands.outs ∙ ap (λ outs. slice_set outs hands.lane (Some request.id)) world.outs ∙ sym (map_set kept_id kept hands.lane (Request request));
          places = filled_places kept (length (g.contents disk)) hands.lane Nothing (Request request) request idle refl
              (subst (λ n. request.id.slot < n) (sym world.count) hands.slot) hands.pages beside world.places;
          consistent = λ honest.
              let was = world.consistent honest in
              record {
                bodies = was.bodies;
                believes = subst (λ asked. Believes new asked was.bodies (g.contents disk)) (sym (map_set asked_of kept hands.lane (Request request)))
                    (hands.goes_on (map asked_of kept) was.bodies (g.contents disk) was.believes);
                stands = λ slot phase is. subst (Fits (g.contents disk) (g.may_leave disk) slot) (sym (same slot (slot_as phase (file_at was.bodies slot))))
                    (was.stands slot phase (ap (λ phases. slice_get phases slot) (sym hands.phases) ∙ is));
                told = λ other made at. elim (is_set kept hands.lane Nothing (Request request) idle other (Outcome made) at).either [
                  | inl (here, is) ↦ absurd (let no : Outcome made ≡ Request request = is in cc)
                  | inr (differs, there) ↦ was.told other made there
                ];
              };
        }
