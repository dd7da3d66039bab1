-- What a crash leaves of slots in their phases is as believed.
use Rattle.std.proofs.Common.{◌≡◌, ◌⊎◌, ℕ, zero, suc, ◌<◌, false, List, [], ◌∷◌, length, slice_get, slice_index_or, Some, refl, sym, ◌∙◌, subst, arith}
use Rattle.std.specs.List.{AllZip}
use Rattle.std.proofs.lemmas.Option.{same_Some}
use Rattle.sd_disk.specs.Contents.{file_at}
use Rattle.sd_image.specs.Image.{Image, IsImage, gate, is_open}
use Rattle.sd_gate.specs.declared.phase.Phase.{Phase}
use Rattle.sd_gate.specs.declared.phase.Phase.TheVariants.{Raw}
use Rattle.sd_gate.specs.Fits.{PhaseLeaves}
use Rattle.sd_gate.specs.Laws.{ImageWholeOrClosed, IsClosedOrWhole}
use Rattle.sd_store_laws.specs.Beliefs.{Belief, Closed, FitsBelief}
use Rattle.sd_store_laws.specs.Gates.{IsBelievedAs, IsInDoubt, LeftAsBelieved, MayBelieve}

closed_fits : (belief : Belief) (file : List ℕ) → belief ≡ Closed → is_open file ≡ false → FitsBelief belief file
closed_fits belief file is shut = subst (λ b. FitsBelief b file) (sym is) shut

whole_or_closed : (body file : List ℕ) (i : Image) → IsImage (gate ∷ body) i → IsClosedOrWhole body file → (is_open file ≡ false) ⊎ IsImage file i
whole_or_closed body file i is given = grind arith

doubt_fits : (body file : List ℕ) (belief : Belief) → IsInDoubt body belief → IsClosedOrWhole body file → FitsBelief belief file
doubt_fits body file belief doubt left = grind arith

fits : ImageWholeOrClosed → (phase : Phase) (body file : List ℕ) (belief : Belief) → IsBelievedAs phase body belief → PhaseLeaves phase body file → FitsBelief belief file
fits law phase body file belief is left = grind arith

-- two lists of one length fit, where they do at each place
record FitAt (beliefs : List Belief) (files : List (List ℕ)) : Type 0 where
  count : length beliefs ≡ length files
  each : (slot : ℕ) (belief : Belief) (file : List ℕ) → slice_get beliefs slot ≡ Some belief → slice_get files slot ≡ Some file → FitsBelief belief file

all_fit : (beliefs : List Belief) (files : List (List ℕ)) → FitAt beliefs files → AllZip FitsBelief beliefs files
all_fit [] [] at = tt
all_fit (belief ∷ beliefs) (file ∷ files) at = (
  at.each 0 belief file refl refl,
  all_fit beliefs files (record { count = let count = at.count in omega arith; each = λ slot. at.each (suc slot) }),
)
all_fit _ _ at = let count = at.count in absurd (omega arith)

-- the element at a place
there : {X : Type 0} (xs : List X) (k : ℕ) (d : X) → k < length xs → (x : X) × (slice_get xs k ≡ Some x)
there [] k d less = absurd (omega arith)
there (x ∷ xs) zero d less = (x, refl)
there (x ∷ xs) (suc k) d less = there xs k d (omega arith)

within : {X : Type 0} (xs : List X) (k : ℕ) (x : X) → slice_get xs k ≡ Some x → k < length xs
within [] k x e = absurd cc
within (y ∷ xs) zero x e = omega arith
within (y ∷ xs) (suc k) x e = let rest = within xs k x e in omega (arith, rest)

is_file : (files : List (List ℕ)) (k : ℕ) (file : List ℕ) → slice_get files k ≡ Some file → slice_index_or files k [] ≡ file
is_file [] k file e = absurd cc
is_file (f ∷ files) zero file e = same_Some f file e
is_file (f ∷ files) (suc k) file e = is_file files k file e

believed_fits : ImageWholeOrClosed → (phase : Phase) (body file : List ℕ) (belief : Belief) → MayBelieve phase body belief → PhaseLeaves phase body file → FitsBelief belief file
believed_fits law phase body file belief may left = may.weaker file (fits law phase body file may.strong may.is left)

pub left_as_believed : ImageWholeOrClosed → LeftAsBelieved
left_as_believed law phases bodies c beliefs are left = all_fit beliefs c (record {
  count = are.count ∙ sym left.count;
  each = λ slot belief file has got.
      let less = within beliefs slot belief has in
      let phase = there phases slot Raw (let same = are.count in omega (arith, less, same)) in
      subst (FitsBelief belief) (is_file c slot file got)
      (believed_fits law phase.0 (file_at bodies slot) (file_at c slot) belief (are.each slot phase.0 belief phase.1 has) (left.each slot phase.0 phase.1));
})
