-- The calls of a plan, as they lead a slot from phase to phase.
use Rattle.std.proofs.Common.{◌≡◌, ◌≢◌, ◌⊎◌, ℕ, true, List, [], ◌∷◌, refl, arith}
use Rattle.sd_gate.specs.declared.call.Call.{Call}
use Rattle.sd_gate.specs.declared.phase.Phase.{Phase}
use Rattle.sd_gate.specs.declared.phase.Phase.TheVariants.{Whole}
use Rattle.sd_gate.specs.Laws.{Leads, no_call, one_call}
use Rattle.sd_gate.specs.Phases.{after, body_after, is_ready}
use Rattle.sd_gate.specs.Sequences.{Calls}

pub record HasLed (phase : Phase) (body : List ℕ) (call : Call) (bytes : List ℕ) (calls : Calls) (last : Phase) (final : List ℕ) : Type 0 where
  pub ready : is_ready phase call ≡ true
  pub rest : Leads (after phase call true) (body_after body call bytes) calls last final

-- the next call is one for which the slot is ready, and the others follow
pub leads_head : (phase last : Phase) (body final : List ℕ) (call : Call) (bytes : List ℕ) (calls : Calls) → Leads phase body ((call, bytes) ∷ calls) last final
    → HasLed phase body call bytes calls last final
leads_head _ _ _ _ _ _ _ (one_call phase last body final call bytes calls ready rest) = record { ready = ready; rest = rest }

pub leads_end : (phase last : Phase) (body final : List ℕ) → Leads phase body [] last final → (phase ≡ last) × (body ≡ final)
leads_end _ _ _ _ (no_call phase body) = (refl, refl)

pub is_whole : (phase : Phase) → (phase ≡ Whole) ⊎ (phase ≢ Whole)
is_whole phase = grind arith
