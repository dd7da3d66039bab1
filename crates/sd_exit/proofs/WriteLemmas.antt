-- Bytes that are written in several calls.
use Rattle.std.proofs.Common.{◌≡◌, ℕ, ◌-◌, List, [], ◌++◌, Option, length, take, drop, append_assoc, append-nil, take-append-drop, arith}
use Rattle.std.proofs.lemmas.List.{take_rest}
use Rattle.std.specs.Io.KnownBytes.{Appends, Keeps}
use Rattle.std.proofs.KnownBytes.{Appends-kept, Appends-nil}
use Rattle.sd_exit.specs.Texts.{PrintsBeginning}

-- what stays grows by nothing
pub nothing_more : (a b : Option (List ℕ)) → Keeps a b → Appends a b []
nothing_more a b kept = Appends-kept a a b [] (Appends-nil a) kept

-- some more of the rest is written
pub some_more : (all done rest : List ℕ) (n : ℕ) → all ≡ done ++ rest → all ≡ (done ++ take n rest) ++ take (length rest - n) (drop n rest)
some_more all done rest n e = grind (arith, take-append-drop, append_assoc, take_rest)

-- what is written is a beginning, also where nothing more is
pub begun : (a b c : Option (List ℕ)) (all done rest : List ℕ) → all ≡ done ++ rest → Appends a b done → Appends b c [] → PrintsBeginning a c all
begun a b c all done rest split written none = grind (arith, append-nil)
