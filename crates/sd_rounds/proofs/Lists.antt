-- Lists of entries with one more.
use Rattle.std.proofs.Common.{◌≡◌, ℕ, zero, suc, ◌*◌, ◌<◌, List, [], ◌∷◌, ◌++◌, length, take, Option, Some, None, arith}
use Rattle.std.specs.Prelude.{slice_get}
use Rattle.std.proofs.lemmas.List.{length-append, length-take-le, length-drop}
use Rattle.std.proofs.Math.Seq.{take-add}
use Rattle.sd_image.specs.declared.run.RunKind.{RunKind}
use Rattle.sd_writing.specs.Entries.{Place, ImageEntry}
use Rattle.sd_rounds.specs.Pass.{sector_of}

-- one entry at the end
abbrev pub put_after : List ImageEntry → Place → RunKind → List ImageEntry
put_after entries at kind = entries ++ (record { place = at; kind = kind }) ∷ []

pub slice_get_front : {X : Type 0} (xs ys : List X) (k : ℕ) (x : X) → slice_get xs k ≡ Some x → slice_get (xs ++ ys) k ≡ Some x
slice_get_front {X} [] ys k x e = absurd (let f : ◌≡◌ {A = Option X} None (Some x) = e in cc)
slice_get_front (y ∷ xs) ys zero x e = e
slice_get_front (y ∷ xs) ys (suc k) x e = slice_get_front xs ys k x e

-- one sector more of a page's front
pub front_more : (copied bytes : List ℕ) (sector : ℕ) → length bytes ≡ 4096 → sector < 8 → length copied ≡ 512 * sector → copied ≡ take (length copied) bytes
    → copied ++ sector_of bytes sector ≡ take (length (copied ++ sector_of bytes sector)) bytes
front_more copied bytes sector whole within is front = grind (arith, length-take-le, length-drop, length-append, take-add)
