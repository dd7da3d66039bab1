-- A fault of one core is the fault of some core.
use Rattle.std.proofs.Common.{◌≡◌, Result, Ok, Err, IsOk, IfOk, IfErr, refl, sym, subst}
use Rattle.sd_crash_safety.specs.View.{CoreView}

pub of_some : {T F : Type 0} (P : CoreView → F → Type 0) (result : Result T F) (core : CoreView)
    → IfErr result (P core) → IfErr result (λ fault. (own : CoreView) × P own fault)
of_some P (Ok parts) core is = is
of_some P (Err fault) core is = (core, is)

-- What is so of a core is so of the one that is given back.
pub of_given_back : {D F : Type 0} (P : CoreView → Type 0) (result : Result (CoreView × D) F) (core : CoreView)
    → (IsOk result → P core) → IfOk result (λ parts. parts.0 ≡ core) → IfOk result (λ parts. P parts.0)
of_given_back P (Ok parts) core holds is = subst P (sym is) (holds refl)
of_given_back P (Err fault) core holds is = is
