-- What a program printed last.
use Rattle.std.proofs.Common.{◌≡◌, ◌++◌, ℕ, Bool, true, false, if◌then◌else◌, List, Option, Result, Ok, Err, OnOk, OnErr, [], inl, inr, refl}
use Rattle.std.specs.Io.KnownBytes.{Appends, Keeps}
use Rattle.std.proofs.KnownBytes.{Appends-kept, Appends-trans}
use Rattle.sd_exit.specs.Ending.{Exits}

-- a text, and then another whichever that is
pub goes_on : {X E : Type 0} (a b c : Option (List ℕ)) (front rest : List ℕ) (result : Result X E) → Appends a b front → OnOk result (Appends b c rest)
    → OnOk result ((rest : List ℕ) × Appends a c (front ++ rest))
goes_on a b c front rest (Ok value) first next = (rest, Appends-trans a b c front rest first next)
goes_on a b c front rest (Err error) first next = tt

-- a text was printed, and then all is flushed
pub finished : (before mid after : Option (List ℕ)) (text : List ℕ) (refused : Bool) (wanted status : ℕ) → Appends before mid text → Keeps mid after
    → status ≡ (if refused then 1 else wanted) → Exits before after refused text wanted status
finished before mid after text false wanted status printed kept is = inl (refl, Appends-kept before mid after text printed kept, is)
finished before mid after text true wanted status printed kept is = inr (refl, is)

once : (refused : Bool) (status : ℕ) → status ≡ (if refused then 1 else 1) → status ≡ 1
once false status is = is
once true status is = is

-- a text was printed, however it goes on, or refused, and then all is flushed
pub finished_early : {X E : Type 0} (before mid after : Option (List ℕ)) (front : List ℕ) (was refused : Bool) (status : ℕ) (result : Result X E)
    → OnOk result ((rest : List ℕ) × Appends before mid (front ++ rest)) → OnErr result (was ≡ true) → Keeps mid after → (was ≡ true → refused ≡ true)
    → status ≡ (if refused then 1 else 1) → (rest : List ℕ) × Exits before after refused (front ++ rest) 1 status
finished_early before mid after front was refused status (Ok value) printed not kept held is =
    (printed.0, finished before mid after (front ++ printed.0) refused 1 status printed.1 kept is)
finished_early before mid after front was refused status (Err error) printed not kept held is = ([], inr (held not, once refused status is))
