-- What the steps of an opener keep of what it knows.
use Rattle.std.proofs.Common.{◌≡◌, ◌≢◌, ℕ, zero, suc, ◌+◌, ◌<◌, ◌≤◌, true, List, [], ◌∷◌, ◌++◌, length, map, take, Option, Some, None, refl, sym, ◌∙◌, ap, subst, arith}
use Rattle.std.proofs.Math.Numerals.{add-one}
use Rattle.sd_disk.specs.Contents.{file_at}
use Rattle.sd_image.specs.declared.reason.Reason.{Reason}
use Rattle.sd_image.specs.ReasonLaws.{GoodStoreHasNoReason}
use Rattle.sd_gate.specs.declared.phase.Phase.{Phase}
use Rattle.sd_gate.specs.declared.settled.Settled.{Settled}
use Rattle.sd_gate.specs.declared.settled.Settled.TheVariants.{Finished, Failed}
use Rattle.sd_gate.specs.Calls.{is_done}
use Rattle.sd_gate.specs.Inspections.{the_length}
use Rattle.sd_gate.specs.Laws.{found_phase}
use Rattle.sd_gate.specs.Looks.{InspectionFinds, IsFound, LooksAt}
use Rattle.sd_gate.specs.Plans.{Planned, begun, calls_after, plan_after, settled}
use Rattle.sd_gate.specs.Requests.{Asked, Made}
use Rattle.sd_gate.specs.Sequences.{Calls, first_looks}
use Rattle.sd_restore.specs.Faulty.{IsFaulty}
use Rattle.sd_restore.specs.Reading.{AreRightlyDigested}
use Rattle.sd_restore.specs.Scanned.{IsScanned}
use Rattle.sd_opener.specs.declared.stage.Stage.{Stage}
use Rattle.sd_opener.specs.declared.stage.Stage.TheVariants.{Asking}
use Rattle.sd_opener.specs.Looking.{IsStageOf, Looking, out_of_look}
use Rattle.sd_opener.specs.Sees.{IsNoStore, IsOpenStage, IsLookOf, Sees, SeesSlot}

-- ---- one slot more

take_more : (files : List (List ℕ)) (n : ℕ) → n < length files → take (suc n) files ≡ take n files ++ file_at files n ∷ []
take_more [] n within = absurd (omega (arith, within))
take_more (file ∷ files) zero within = refl
take_more (file ∷ files) (suc n) within = ap (λ all. file ∷ all) (take_more files n (omega (arith, within)))

map_back : (files : List (List ℕ)) (file : List ℕ) → map found_phase (files ++ file ∷ []) ≡ map found_phase files ++ found_phase file ∷ []
map_back [] file = refl
map_back (f ∷ files) file = ap (λ all. found_phase f ∷ all) (map_back files file)

pub back_count : (told : List Phase) (phase : Phase) → length (told ++ phase ∷ []) ≡ suc (length told)
back_count [] phase = refl
back_count (p ∷ told) phase = ap suc (back_count told phase)

pub record IsPassed (files : List (List ℕ)) (old new : Looking) (phase : Phase) : Type 0 where
  pub within : length old.told < length files
  pub phase_is : phase ≡ found_phase (file_at files (length old.told))
  pub same_slots : new.slots ≡ old.slots
  pub told_more : new.told ≡ old.told ++ phase ∷ []
  pub next_stage : new.stage ≡ Asking (begun (length old.told + 1) first_looks the_length)
  pub scanned_more : AreRightlyDigested files → IsScanned files (length old.told + 1) new.scanned

pub passes : InspectionFinds → (files : List (List ℕ)) (request : Option Asked) (old new : Looking) (phase : Phase) → Sees files request old → IsPassed files old new phase
    → Sees files None new
passes finds files request old new phase sees is =
    let n = length old.told in
    let more : length new.told ≡ suc n = ap length is.told_more ∙ back_count old.told phase in
    let at : n + 1 ≡ length new.told = add-one n ∙ sym more in
    record {
      count = sees.count ∙ sym is.same_slots;
      told = is.told_more ∙ ap (λ all. all ++ phase ∷ []) sees.told ∙ ap (λ p. map found_phase (take n files) ++ p ∷ []) is.phase_is
          ∙ sym (map_back (take n files) (file_at files n)) ∙ ap (map found_phase) (sym (take_more files n is.within)) ∙ ap (λ k. map found_phase (take k files)) (sym more);
      scanned = λ right. subst (λ k. IsScanned files k new.scanned) at (is.scanned_more right);
      slot = subst (λ k. SeesSlot k (file_at files k) None new.stage) at
          (subst (SeesSlot (n + 1) (file_at files (n + 1)) None) (sym is.next_stage) (finds.begins (n + 1) (file_at files (n + 1))));
    }

-- ---- outcomes

-- an outcome that gave the file as it is goes to the plan
pub goes_on : InspectionFinds → (slot : ℕ) (file : List ℕ) (plan : Planned) (request : Asked) (made : Made) → LooksAt slot file (Some request) plan → IsLookOf file request made
    → (plan.out ≡ Some made.request.id) × LooksAt slot file None (plan_after plan made)
goes_on finds slot file plan request made looks is = (
  ap (λ (p : Planned). p.out) looks.2 ∙ ap Some (sym is.id),
  finds.settles slot file plan request made looks is.id is.bytes is.done is.told,
)

pub never_failed : (calls : Calls) → settled true calls ≢ Failed
never_failed calls is = grind arith

pub none_left : (calls : Calls) → settled true calls ≡ Finished → calls ≡ []
none_left calls is = grind arith

-- a slot that is to be decoded has nothing out, and is any slot's stage
pub open_out : (stage : Stage) → IsOpenStage stage → out_of_look stage ≡ None
open_out stage is = grind arith

pub open_stage : (stage : Stage) (slot : ℕ) → IsOpenStage stage → IsStageOf slot stage
open_stage stage slot is = grind arith

-- ---- damage

pub faulty_is_no_store : GoodStoreHasNoReason → (files : List (List ℕ)) (slot : ℕ) (reason : Reason) → IsFaulty (file_at files slot) reason → IsNoStore files
faulty_is_no_store good files slot reason faulty images store = grind arith

-- ---- an outcome, whatever follows

-- what the opener knows of the slot that an outcome says of
module _ (finds : InspectionFinds) (files : List (List ℕ)) (request : Asked) (old : Looking) (plan new : Planned) (made : Made) (ended : Settled)
    (asking : old.stage ≡ Asking plan)
    (settles : plan.out ≡ Some made.request.id → (new ≡ plan_after plan made) × (ended ≡ settled (is_done made.answer) (calls_after plan made).0))
    (sees : Sees files (Some request) old) (is : IsLookOf (file_at files (length old.told)) request made) where
  abbrev file : List ℕ
  file = file_at files (length old.told)

  looks_at : LooksAt (length old.told) file (Some request) plan
  looks_at = subst (SeesSlot (length old.told) file (Some request)) asking sees.slot

  went : (plan.out ≡ Some made.request.id) × LooksAt (length old.told) file None (plan_after plan made)
  went = goes_on finds (length old.told) file plan request made looks_at is

  pub looks_on : LooksAt (length old.told) file None new
  looks_on = subst (LooksAt (length old.told) file None) (sym (settles went.0).0) went.1

  ended_is : ended ≡ settled true (calls_after plan made).0
  ended_is = (settles went.0).1 ∙ ap (λ done. settled done (calls_after plan made).0) is.done

  pub cant_fail : ended ≢ Failed
  cant_fail failed = never_failed (calls_after plan made).0 (sym ended_is ∙ failed)

  pub finds_file : ended ≡ Finished → IsFound file new.found
  finds_file finished = finds.ends (length old.told) file new looks_on
      (ap (λ (p : Planned). p.calls) (settles went.0).0 ∙ none_left (calls_after plan made).0 (sym ended_is ∙ finished))

  pub within_files : length files ≡ old.slots → length old.told ≤ old.slots → (length old.told ≡ old.slots → plan.out ≢ Some made.request.id) → length old.told < length files
  within_files count few last = omega_within (λ same. last same went.0)
    where
      omega_within : (length old.told ≢ old.slots) → length old.told < length files
      omega_within other = omega (arith, count, few, other)
