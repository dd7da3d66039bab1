-- Which checkpoints can be restored.
use Rattle.std.proofs.Common.{◌≡◌, ◌≢◌, ◌⊎◌, ◌<◌, ◌+◌, ℕ, Bool, true, false, IsTrue, List, [], ◌∷◌, ◌++◌, take, length, Contains, Result, Ok, Err, refl, sym, ◌∙◌, ap, subst, inl, inr, arith}
use Rattle.std.specs.Prelude.{◌↔◌, IfOk, IfErr, slice_index_or}
use Rattle.std.proofs.lemmas.Bool.{false≢true}
use Rattle.std.proofs.lemmas.List.Elements.{Contains-push, Contains-push_cases, Contains-append_left}
use Rattle.sd_areas.specs.PlainMemory.{PlainMemory}
use Rattle.sd_image.specs.declared.header.Header.{Header}
use Rattle.sd_image.specs.declared.header.Kind.TheVariants.{PreDump}
use Rattle.sd_chain.specs.Catalog.{Opened, Places}
use Rattle.sd_chain.specs.Catalog as catalog
use Rattle.sd_chain.specs.Checkpoints.{AreCheckpointsOf, HasCheckpoint}
use Rattle.sd_chain.specs.Store.{HasTheImages, IsCatalogOf}
use Rattle.sd_image.specs.Image.{Image, OpenImages}
use Rattle.sd_restore.specs.declared.fault.Fault.{Fault}
use Rattle.sd_restore.specs.declared.fault.Fault.TheVariants.{EmptyChain}
use Rattle.sd_restore.specs.At.{ShowsAt}
use Rattle.sd_restore.specs.Faulty.{FaultNames}
use Rattle.sd_restore.proofs.TakeLemmas.{taken_at}
use Rattle.sd_history.specs.Restorable.{AreRestorable, GoesBackTo, IsOfStore, KeepsOne}

-- ---- one checkpoint

pub placed_goes : (contents : List (List ℕ)) (number : ℕ) (placed : Result Unit Fault) (w : Unit) → placed ≡ Ok w → IfOk placed (λ _. GoesBackTo contents number) → IsTrue true ↔ GoesBackTo contents number
placed_goes contents number placed w is goes = ((λ _. subst (λ q. IfOk q (λ _. GoesBackTo contents number)) is goes), (λ _. refl))

not_placed : (contents : List (List ℕ)) (number : ℕ) (fault : Fault) → IsOfStore fault → (GoesBackTo contents number → FaultNames (λ _ _. ⊥) fault)
    → (GoesBackTo contents number → fault ≢ EmptyChain) → GoesBackTo contents number → ⊥
not_placed contents number fault (inl empty) good saved goes = saved goes empty
not_placed contents number fault (inr named) good saved goes = named (good goes)

pub absent_goes : (contents : List (List ℕ)) (number : ℕ) (placed : Result Unit Fault) (fault : Fault) (r : Result Bool Fault) → placed ≡ Err fault
    → IfOk r (λ is. IsOfStore fault × (is ≡ false))
    → (GoesBackTo contents number → IfErr placed (FaultNames (λ _ _. ⊥)))
    → (GoesBackTo contents number → placed ≢ Err EmptyChain)
    → IfOk r (λ is. IsTrue is ↔ GoesBackTo contents number)
absent_goes contents number placed fault (Err e) is absent good saved = tt
absent_goes contents number placed fault (Ok b) is absent good saved = (
  λ true_is. absurd (false≢true (sym absent.1 ∙ true_is)),
  λ goes. absurd (not_placed contents number fault absent.0
      (λ g. subst (λ q. IfErr q (FaultNames (λ _ _. ⊥))) is (good g))
      (λ g empty. saved g (is ∙ ap Err empty)) goes),
)

-- ---- one checkpoint more

pub keeps_it : (contents : List (List ℕ)) (number : ℕ) (old new : List ℕ) → GoesBackTo contents number → new ≡ old ++ number ∷ [] → KeepsOne contents number old new
keeps_it contents number old new goes is n = subst (λ (xs : List ℕ). Contains xs n ↔ (Contains old n ⊎ ((n ≡ number) × GoesBackTo contents n))) (sym is) (
  λ c. elim (Contains-push_cases old number n c) [
    | inl d ↦ inl d
    | inr e ↦ inr (sym e, subst (GoesBackTo contents) e goes)
  ],
  λ either. elim either [
    | inl d ↦ Contains-append_left old (number ∷ []) n d
    | inr here ↦ subst (Contains (old ++ number ∷ [])) (sym here.0) (Contains-push old number)
  ],
)

pub leaves_it : (contents : List (List ℕ)) (number : ℕ) (old new : List ℕ) → (GoesBackTo contents number → ⊥) → new ≡ old → KeepsOne contents number old new
leaves_it contents number old new never is n = subst (λ (xs : List ℕ). Contains xs n ↔ (Contains old n ⊎ ((n ≡ number) × GoesBackTo contents n))) (sym is) (
  λ c. inl c,
  λ either. elim either [
    | inl d ↦ d
    | inr here ↦ absurd (never (subst (GoesBackTo contents) here.0 here.1))
  ],
)

-- ---- all of them

-- of these numbers those were kept at which contents have a memory
abbrev pub AreKept : List (List ℕ) → List ℕ → List ℕ → Type 0
AreKept contents numbers kept = (n : ℕ) → Contains kept n ↔ (Contains numbers n × GoesBackTo contents n)

pub none_kept : (contents : List (List ℕ)) → AreKept contents [] []
none_kept contents n = (λ c. absurd (omega (arith, c.1)), λ both. both.0)

pub one_more_kept : (contents : List (List ℕ)) (numbers : List ℕ) (i number d : ℕ) (old new : List ℕ) → i < length numbers → number ≡ slice_index_or numbers i d
    → AreKept contents (take i numbers) old → KeepsOne contents number old new → AreKept contents (take (i + 1) numbers) new
one_more_kept contents numbers i number d old new less is was keeps n = subst (λ (xs : List ℕ). Contains new n ↔ (Contains xs n × GoesBackTo contents n)) (sym (taken_at numbers i d less ∙ ap (λ x. take i numbers ++ x ∷ []) (sym is))) (
  λ c. elim ((keeps n).0 c) [
    | inl d ↦ (let both = (was n).0 d in (Contains-append_left (take i numbers) (number ∷ []) n both.0, both.1))
    | inr here ↦ (subst (Contains (take i numbers ++ number ∷ [])) (sym here.0) (Contains-push (take i numbers) number), here.1)
  ],
  λ both. elim (Contains-push_cases (take i numbers) number n both.0) [
    | inl d ↦ (keeps n).1 (inl ((was n).1 (d, both.1)))
    | inr e ↦ (keeps n).1 (inr (sym e, both.1))
  ],
)

-- the image of a checkpoint at which contents have a memory stands in the catalog
pub goes_listed : (contents : List (List ℕ)) (places : Places) (numbers : List ℕ) (number : ℕ) → AreCheckpointsOf (catalog.images places) numbers
    → ((all : List Image) → OpenImages contents all → HasTheImages contents places all) → GoesBackTo contents number → Contains numbers number
goes_listed contents places numbers number are has goes =
    let shows = goes.1 in
    let i = (has shows.images shows.store.slots).opened shows.image shows.chosen.member in
    let here : HasCheckpoint number i.0 = record {
      restored = subst (λ (h : Header). h.kind ≢ PreDump) i.2.header shows.chosen.restorable;
      checkpoint = ap (λ (h : Header). h.checkpoint) (sym i.2.header) ∙ shows.chosen.checkpoint;
    } in
    (are.each number).1 (i.0, i.1, here)

pub all_kept : (contents : List (List ℕ)) (places : Places) (numbers kept : List ℕ) → AreCheckpointsOf (catalog.images places) numbers
    → ((all : List Image) → OpenImages contents all → HasTheImages contents places all) → AreKept contents numbers kept → AreRestorable contents kept
all_kept contents places numbers kept are has were n = (
  λ c. ((were n).0 c).1,
  λ goes. (were n).1 (goes_listed contents places numbers n are has goes, goes),
)
