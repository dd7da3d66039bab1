-- Permissions as a number and as text.
use Rattle.std.specs.Prelude.{List, [], ◌∷◌, ℕ, ◌+◌, if◌then◌else◌}
use Rattle.sd_areas.specs.declared.prot.Prot.{Prot}

-- read 1, write 2, execute 4, added up
abbrev pub prot_bits : Prot → ℕ
prot_bits prot = (if prot.read then 1 else 0) + (if prot.write then 2 else 0) + (if prot.execute then 4 else 0)

-- the letters `rwx`, each a `-` where the permission is missing
abbrev pub prot_text : Prot → List ℕ
prot_text prot =
    (if prot.read then 114 else 45) ∷ (if prot.write then 119 else 45) ∷ (if prot.execute then 120 else 45) ∷ []
