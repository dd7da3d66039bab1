-- How a run ends.
use Rattle.std.proofs.Common.{◌≡◌, ◌≢◌, ℕ, Bool, List, Option, Some, Result, Err, IfErr, sym, ◌∙◌, subst, inl, inr, refl, arith}
use Rattle.std.specs.Io.KnownBytes.{Appends}
use Rattle.sd_exit.specs.declared.stop.Stop.{Stop}
use Rattle.sd_exit.specs.declared.stop.Stop.TheVariants as stop
use Rattle.sd_exit.specs.Ending.{Exits, OnWriter, end_status, end_text, status_of}
use Rattle.sd_script.specs.declared.script_error.ScriptError.{ScriptError}
use Rattle.sd_script.specs.declared.script_error.ScriptError.TheVariants as error
use Rattle.sd_script.specs.declared.script.Script.{Script}
use Rattle.sd_script.specs.Script.{IfUnfit}
use Rattle.sd_world.specs.declared.open_fault.OpenFault.{OpenFault}
use Rattle.sd_world.specs.declared.open_fault.OpenFault.TheVariants as opening
use Rattle.sd_world.specs.Opens.{HasNoFrame, IsFaultOf}
use Rattle.sd_run.specs.Ending.{IsEndOfMerge, IsUnprinted, IsWhyRun, script_fault_line, unfit, unopened}

module _ (blames : ℕ → Type 0) (contents : List (List ℕ)) (failed now : ℕ) where
  -- of a store that isn't opened the fault is printed
  pub unopened_why : (met : OpenFault) (stopped : Stop) → stopped ≡ unopened met → IsFaultOf contents failed now met
      → (met ≡ opening.NoFrame → HasNoFrame contents 65536) → IsWhyRun blames contents failed now stopped
  unopened_why met stopped by is few = subst (IsWhyRun blames contents failed now) (sym by) (of met is few)
    where
      of : (met : OpenFault) → IsFaultOf contents failed now met → (met ≡ opening.NoFrame → HasNoFrame contents 65536)
          → IsWhyRun blames contents failed now (unopened met)
      of opening.NoFrame is few = few refl
      of (opening.Damaged slot reason) is few = is
      of opening.Device is few = is
      of opening.OutOfMemory is few = tt

  -- an answer that isn't printed is
  pub unprinted_why : (ended : Result Unit Stop) → IfErr ended IsUnprinted → IfErr ended (IsWhyRun blames contents failed now)
  unprinted_why ended stops = grind arith

  -- and a merge that isn't refused
  pub merged_why : (ended : Result Unit Stop) → ended ≢ Err stop.Refused → IfErr ended IsEndOfMerge → IfErr ended (IsWhyRun blames contents failed now)
  merged_why ended other stops = grind arith

  -- a script that can't be taken names its line
  pub unfit_why : (told : ScriptError) (stopped : Stop) → stopped ≡ unfit told → IfUnfit {T = Script} (Err told) blames → IsWhyRun blames contents failed now stopped
  unfit_why told stopped by is = subst (IsWhyRun blames contents failed now) (sym by) (of told is)
    where
      of : (told : ScriptError) → IfUnfit {T = Script} (Err told) blames → IsWhyRun blames contents failed now (unfit told)
      of (error.Line n) is = is
      of error.OutOfMemory is = tt

-- who blames no line blames none that is blamed otherwise
pub why_run : (blames : ℕ → Type 0) (contents : List (List ℕ)) (failed now : ℕ) (ended : Result Unit Stop) → IfErr ended (IsWhyRun (λ _. ⊥) contents failed now)
    → IfErr ended (IsWhyRun blames contents failed now)
why_run blames contents failed now ended is = grind arith

-- ---- statuses

pub unopened_is_one : (why : OpenFault) → status_of (unopened why) ≡ 1
unopened_is_one why = grind arith

end_is_one : (why : Stop) → IsEndOfMerge why → status_of why ≡ 1
end_is_one why is = grind arith

pub ends_with_one : (ended : Result Unit Stop) → IfErr ended IsEndOfMerge → IfErr ended (λ why. status_of why ≡ 1)
ends_with_one ended is = grind arith

-- ---- a script that can't be taken

-- the writer has no part in it
pub never_writer : (P : Type 0) (why : ScriptError) → OnWriter (Err (unfit why)) P
never_writer P (error.Line number) = record {}
never_writer P error.OutOfMemory = record {}

-- it is never the end of a run
pub unfit_is_seen : (why : ScriptError) (before after : Option (List ℕ)) (refused : Bool) (status : ℕ)
    → Exits before after refused (end_text (Err (unfit why))) (end_status (Err (unfit why))) status → status ≢ 0
unfit_is_seen why before after refused status given also = grind arith

-- with status 2 the line that doesn't fit is the one that is blamed
pub blamed_line : (told : ScriptError) (before after : Option (List ℕ)) (refused : Bool) (status : ℕ) (first : Option ℕ)
    → Exits before after refused (end_text (Err (unfit told))) (end_status (Err (unfit told))) status
    → IfUnfit {T = Script} (Err told) (λ n. first ≡ Some n) → (number : ℕ) → first ≡ Some number → status ≡ 2 → Appends before after (script_fault_line number)
blamed_line (error.Line n) before after refused status first (inl e) blamed number is two =
    let same : n ≡ number = cc (sym blamed ∙ is) in
    subst (λ k. Appends before after (script_fault_line k)) same e.1
blamed_line error.OutOfMemory before after refused status first (inl e) blamed number is two = let one : status ≡ 1 = e.2 in absurd (omega (arith, one, two))
blamed_line told before after refused status first (inr e) blamed number is two = let one : status ≡ 1 = e.1 in absurd (omega (arith, one, two))
