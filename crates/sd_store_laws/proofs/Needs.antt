-- What is needed after a step was needed before it, or is the image that the step adds.
use Rattle.std.proofs.Common.{◌≡◌, ◌⊎◌, true, List, sym, ◌∙◌, subst, inl, inr}
use Rattle.sd_image.specs.Image.{Image}
use Rattle.sd_image.specs.Shows.{IsNamed, IsTip}
use Rattle.sd_store_laws.specs.Needed.{IsNeeded}
use Rattle.sd_store_laws.specs.Store.{IsNextDump, IsNextPreDump, IsSoundStore, IsMergedCopy, Store, jobs}
use Rattle.sd_store_laws.specs.Steps.{Adds, Retires, added, cancelled, checkpoint_begun, committed, merging, replaced, retired}
use Rattle.sd_image.proofs.OneMemory.{named_once_among as one_named}
use Rattle.sd_store_laws.proofs.Growth.{fewer_named, fewer_tip}
use Rattle.sd_store_laws.proofs.StepLemmas.{added_called, begun_called, cancelled_called, committed_called, merging_called, name_back, nothing_at_0, old_tip, replaced_called, retired_called, tip_back, whole_called}

module _ (s : Store) (sound : IsSoundStore s) where
  abbrev Before : Image → Type 0
  Before j = IsNeeded s.catalog (jobs s) j

  pub begun_needs : (tip j : Image) → s.grows ≡ true → IsTip s.catalog tip → IsNeeded s.catalog (jobs (checkpoint_begun s tip.header.stands_for)) j → Before j
  begun_needs tip j grows is (inl top) = inl top
  begun_needs tip j grows is (inr n) = elim (begun_called s sound tip grows is n.0 n.1) [
    | inl was ↦ inr (n.0, was, n.2)
    | inr same ↦
        let mine : j ≡ tip = one_named s.catalog tip.header.stands_for j tip sound.serials (subst (λ k. IsNamed s.catalog k j) same n.2) (sound.own grows tip is) in
        inl (subst (IsTip s.catalog) (sym mine) is)
  ]

  pub whole_needs : (j : Image) → IsNeeded s.catalog (jobs (checkpoint_begun s 0)) j → Before j
  whole_needs j (inl top) = inl top
  whole_needs j (inr n) = elim (whole_called s sound n.0 n.1) [
    | inl was ↦ inr (n.0, was, n.2)
    | inr none ↦ absurd (nothing_at_0 s sound j n.2.member (n.2.stands ∙ none))
  ]

  pub cancelled_needs : (j : Image) → IsNeeded s.catalog (jobs (cancelled s)) j → Before j
  cancelled_needs j (inl top) = inl top
  cancelled_needs j (inr n) = inr (n.0, cancelled_called s sound n.0 n.1, n.2)

  pub merging_needs : (tip j : Image) → IsTip s.catalog tip → IsNeeded s.catalog (jobs (merging s tip)) j → Before j
  merging_needs tip j is (inl top) = inl top
  merging_needs tip j is (inr n) = inr (n.0, merging_called s sound tip is n.0 n.1, n.2)

  pub retired_needs : (new : List Image) (j : Image) → Retires s new → IsNeeded new (jobs (retired s new)) j → Before j
  retired_needs new j is (inl top) = inl (tip_back s sound new is j top)
  retired_needs new j is (inr n) =
      let was = retired_called s sound new is n.0 n.1 in
      inr (n.0, was, name_back s sound new is n.0 j was n.2)

  pub added_needs : (i : Image) (new : List Image) (j : Image) → IsNextPreDump s i → Adds s.catalog i new → IsNeeded new (jobs (added s new i.header.stands_for)) j → (j ≡ i) ⊎ Before j
  added_needs i new j is adds (inl top) = inr (inl (old_tip s sound i new is adds j top))
  added_needs i new j is adds (inr n) = elim (fewer_named s.catalog new i n.0 j adds n.2) [
    | inl same ↦ inl same
    | inr before ↦ elim (added_called s sound i new is adds n.0 n.1) [
      | inl was ↦ inr (inr (n.0, was, before))
      | inr number ↦ absurd (is.next.fresh.number.stands j before.member (before.stands ∙ number))
    ]
  ]

  pub committed_needs : (i : Image) (new : List Image) (j : Image) → IsNextDump s i → Adds s.catalog i new → IsNeeded new (jobs (committed s new)) j → (j ≡ i) ⊎ Before j
  committed_needs i new j is adds (inl top) = elim (fewer_tip s.catalog new i j adds top) [ inl same ↦ inl same | inr was ↦ inr (inl was) ]
  committed_needs i new j is adds (inr n) = elim (fewer_named s.catalog new i n.0 j adds n.2) [
    | inl same ↦ inl same
    | inr before ↦ inr (inr (n.0, committed_called s sound i new is adds n.0 n.1, before))
  ]

  pub replaced_needs : (twin : Image) (new : List Image) (j : Image) → IsMergedCopy s.catalog s.source twin → Adds s.catalog twin new → IsNeeded new (jobs (replaced s new)) j → (j ≡ twin) ⊎ Before j
  replaced_needs twin new j is adds (inl top) = elim (fewer_tip s.catalog new twin j adds top) [ inl same ↦ inl same | inr was ↦ inr (inl was) ]
  replaced_needs twin new j is adds (inr n) = elim (fewer_named s.catalog new twin n.0 j adds n.2) [
    | inl same ↦ inl same
    | inr before ↦ elim (replaced_called s sound twin new is adds n.0 n.1) [
      | inl was ↦ inr (inr (n.0, was, before))
      | inr none ↦ absurd (nothing_at_0 s sound j before.member (before.stands ∙ none))
    ]
  ]
