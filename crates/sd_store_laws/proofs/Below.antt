-- What a referenced number gives stays.
use Rattle.std.proofs.Common.{◌≡◌, ◌⊎◌, ℕ, List, [], ◌∷◌, Contains, refl, sym, subst, inl, inr}
use Rattle.sd_image.specs.Image.{Image}
use Rattle.sd_image.specs.Laws.{SerialsDiffer}
use Rattle.sd_image.specs.Shows.{Holds, IsNamed, IsTip}
use Rattle.sd_image.proofs.Members.{contains_cases, contains_front, contains_none}
use Rattle.sd_store_laws.specs.Needed.{IsCalled, by_tip, by_job, by_parent}
use Rattle.sd_store_laws.specs.Cut.{KeepsItsNumber}
use Rattle.sd_store_laws.specs.Store.{IsSoundStore, Store, jobs}
use Rattle.sd_store_laws.specs.Steps.{Adds}
use Rattle.sd_store_laws.specs.Below.{BelowStays, GivesByNumber, GivesStill, OwnIsNeeded, StepsGive}
use Rattle.sd_image.proofs.OneMemory.{named_once_among as one_named}
use Rattle.sd_store_laws.proofs.Cuts.{IsFollowed, holds_back, holds_on, named_back, named_on, needed_in}
use Rattle.sd_store_laws.proofs.Growth.{called_all}
use Rattle.sd_store_laws.proofs.ShownStays.{unused_is_uncalled_lem}
use Rattle.sd_store_laws.proofs.Opens.{twin_harmless}

below_on : (catalog images : List Image) (jobs : List ℕ) (number space page : ℕ) (bytes : List ℕ) → IsFollowed catalog jobs images → IsCalled catalog jobs number
    → GivesByNumber catalog number space page bytes → GivesByNumber images number space page bytes
below_on catalog images jobs number space page bytes f called gives =
    let j = named_on catalog images jobs number gives.0 f called gives.1 in
    let next : IsCalled catalog jobs gives.0.header.parent = by_parent gives.0.header.parent number gives.0 called gives.1 refl in (
      j.0,
      j.1,
      elim j.2 [
        | inl same ↦ subst (Holds images space page bytes) (sym same) (holds_on catalog images jobs space page bytes gives.0 f next gives.2)
        | inr alike ↦ (alike images space page bytes).1 gives.2
      ],
    )

below_back : (catalog images : List Image) (jobs : List ℕ) (number space page : ℕ) (bytes : List ℕ) → IsFollowed catalog jobs images → IsCalled catalog jobs number
    → GivesByNumber images number space page bytes → GivesByNumber catalog number space page bytes
below_back catalog images jobs number space page bytes f called gives =
    let i = named_back catalog images jobs number gives.0 f called gives.1 in
    let next : IsCalled catalog jobs i.0.header.parent = by_parent i.0.header.parent number i.0 called i.1 refl in (
      i.0,
      i.1,
      elim i.2 [
        | inl same ↦ holds_back catalog images jobs space page bytes i.0 f next (subst (Holds images space page bytes) same gives.2)
        | inr alike ↦ (alike images space page bytes).0 gives.2
      ],
    )

pub below_stays_lem : BelowStays
below_stays_lem catalog adding images jobs number differ cut keeps called space page bytes =
    let f : IsFollowed catalog jobs images = record {
      differ = differ;
      needed = cut.needed;
      within = λ j c. elim (cut.within j c) [ inl among ↦ inl among | inr added ↦ inr (keeps j added) ];
    } in
    (below_on catalog images jobs number space page bytes f called, below_back catalog images jobs number space page bytes f called)

-- ---- steps

-- one image more that keeps what its number names
one_more : (s : Store) (one : Image) (new : List Image) → IsSoundStore s → KeepsItsNumber s.catalog (jobs s) one → Adds s.catalog one new → GivesStill s new
one_more s one new sound keeps adds number space page bytes called = below_stays_lem s.catalog (one ∷ []) new (jobs s) number sound.serials
    (record {
      needed = λ j n. (adds j).1 (inr (needed_in s.catalog (jobs s) j n));
      within = λ j c. elim ((adds j).0 c) [
        | inl same ↦ inr (subst (Contains (one ∷ [])) (sym same) (contains_front one []))
        | inr among ↦ inl among
      ];
    })
    (λ j c. elim (contains_cases one j [] c) [
      | inl e ↦ subst (KeepsItsNumber s.catalog (jobs s)) (sym e) keeps
      | inr none ↦ absurd (contains_none j none)
    ]) called space page bytes

pub steps_give_lem : StepsGive
steps_give_lem = record {
  adds = λ s one new sound next adds. one_more s one new sound (λ called. absurd (unused_is_uncalled_lem s.catalog (jobs s) one.header.stands_for next.fresh.number called)) adds;
  replaces = λ s one new sound twin adds. one_more s one new sound (twin_harmless s one sound twin).number adds;
  retires = λ s new sound is number space page bytes called. below_stays_lem s.catalog [] new (jobs s) number sound.serials
      (record { needed = is.needed; within = λ j c. inl (is.within j c) }) (λ j c. absurd (contains_none j c)) called space page bytes;
}

-- ---- the tip's own number

module _ (catalog : List Image) (work : List ℕ) (tip : Image) (differ : SerialsDiffer catalog) (is : IsTip catalog tip) (own : IsNamed catalog tip.header.stands_for tip) where
  abbrev WasOrOwn : ℕ → Type 0
  WasOrOwn number = IsCalled catalog work number ⊎ (number ≡ tip.header.stands_for)

  own_called : (number : ℕ) → IsCalled catalog (tip.header.stands_for ∷ work) number → WasOrOwn number
  own_called = called_all catalog (tip.header.stands_for ∷ work) WasOrOwn
      (λ t top. inl (by_tip t.header.parent t top refl))
      (λ number c. elim (contains_cases tip.header.stands_for number work c) [
        | inl same ↦ inr same
        | inr among ↦ inl (by_job number among)
      ])
      (λ number i was named. elim was [
        | inl called ↦ inl (by_parent i.header.parent number i called named refl)
        | inr same ↦
            let mine : i ≡ tip = one_named catalog tip.header.stands_for i tip differ (subst (λ n. IsNamed catalog n i) same named) own in
            inl (subst (λ (k : Image). IsCalled catalog work k.header.parent) (sym mine) (by_tip tip.header.parent tip is refl))
      ])

pub own_is_needed_lem : OwnIsNeeded
own_is_needed_lem catalog work tip i differ is own (inl top) = inl top
own_is_needed_lem catalog work tip i differ is own (inr n) = elim (own_called catalog work tip differ is own n.0 n.1) [
  | inl called ↦ inr (n.0, called, n.2)
  | inr same ↦
      let mine : i ≡ tip = one_named catalog tip.header.stands_for i tip differ (subst (λ k. IsNamed catalog k i) same n.2) own in
      inl (subst (IsTip catalog) (sym mine) is)
]
