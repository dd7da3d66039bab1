-- What a device call leaves of the files, and what its outcome says of them.
use Rattle.std.proofs.Common.{◌≡◌, ℕ, List, sym, subst}
use Rattle.sd_gate.specs.declared.answer.Answer.{Answer}
use Rattle.sd_gate.specs.declared.call.Call.{Call}
use Rattle.sd_gate.specs.declared.call.Call.TheVariants.{Len, Read}
use Rattle.sd_gate.specs.Calls.{CallFinds, IsLook}

-- what a call said of a file, it says of the file afterwards
pub tells_now : (call : Call) (old new : List ℕ) (answer : Answer) (bytes : List ℕ) → (IsLook call → new ≡ old) → CallFinds call old answer bytes
    → CallFinds call new answer bytes
tells_now Len old new answer bytes same tells = subst (λ file. CallFinds Len file answer bytes) (sym (same tt)) tells
tells_now (Read at) old new answer bytes same tells = subst (λ file. CallFinds (Read at) file answer bytes) (sym (same tt)) tells
tells_now _ old new answer bytes same tells = tt
