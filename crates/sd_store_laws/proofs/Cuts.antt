-- What a crash leaves of a catalog holds and shows what the catalog does.
use Rattle.std.proofs.Common.{◌≡◌, ◌⊎◌, ℕ, ◌<◌, List, [], ◌∷◌, Contains, Option, Some, None, refl, sym, ◌∙◌, ap, subst, inl, inr, arith}
use Rattle.sd_areas.specs.PlainMemory.{PlainMemory}
use Rattle.sd_image.specs.Image.{Image}
use Rattle.sd_image.specs.Shows.{Holds, by_data, by_zero, by_parent, IsMemory, IsNamed, IsNotAfter, IsRestorable, IsTip, ImagesShow}
use Rattle.sd_store_laws.specs.Needed.{IsCalled, IsNeeded}
use Rattle.sd_store_laws.specs.Needed as needed
use Rattle.sd_image.specs.Laws.{SerialsDiffer}
use Rattle.sd_image.proofs.Members.{contains_cases, contains_front, contains_later}
use Rattle.sd_store_laws.specs.Cut.{CutHoldsTheSame, CutShowsTheSame, CutShowsLastOrPending, HoldsAlike, IsCut, LeavesShown, IsPending, KeepsItsNumber, KeepsTheTip, Repeats}
use Rattle.sd_image.proofs.OneMemory.{named_once_among as one_named}
use Rattle.sd_store_laws.proofs.Choose.{not_after_self, one_tip, some_named, some_tip, tip_is}
use Rattle.sd_store_laws.proofs.Memories.{memory_moves}

-- all needed images, and others that keep what their numbers name
pub record IsFollowed (catalog : List Image) (jobs : List ℕ) (images : List Image) : Type 0 where
  pub differ : SerialsDiffer catalog
  pub needed : (i : Image) → IsNeeded catalog jobs i → Contains images i
  pub within : (i : Image) → Contains images i → Contains catalog i ⊎ KeepsItsNumber catalog jobs i

-- what a number names in the catalog is what it names here, or holds the same
abbrev pub IsSame : List Image → Image → Image → Type 0
IsSame catalog i j = (j ≡ i) ⊎ HoldsAlike catalog i j

abbrev pub NamesBack : List Image → ℕ → Image → Type 0
NamesBack catalog number j = (i : Image) × IsNamed catalog number i × IsSame catalog i j

pub named_back : (catalog images : List Image) (jobs : List ℕ) (number : ℕ) (j : Image) → IsFollowed catalog jobs images → IsCalled catalog jobs number
    → IsNamed images number j → NamesBack catalog number j
named_back catalog images jobs number j f called named = elim (f.within j named.member) [
  | inl among ↦
      let i = some_named catalog number j among named.stands in
      let high = i.1.greatest j among named.stands in
      let low = named.greatest i.0 (f.needed i.0 (inr (number, called, i.1))) i.1.stands in
      (i.0, i.1, inl (f.differ j i.0 among i.1.member (omega (arith, low, high))))
  | inr keeps ↦
      let found = keeps (subst (IsCalled catalog jobs) (sym named.stands) called) in
      (found.0, subst (λ n. IsNamed catalog n found.0) named.stands found.1, inr found.2)
]

pub named_on : (catalog images : List Image) (jobs : List ℕ) (number : ℕ) (i : Image) → IsFollowed catalog jobs images → IsCalled catalog jobs number
    → IsNamed catalog number i → (j : Image) × IsNamed images number j × IsSame catalog i j
named_on catalog images jobs number i f called named =
    let j = some_named images number i (f.needed i (inr (number, called, named))) named.stands in
    let back = named_back catalog images jobs number j.0 f called j.1 in
    (j.0, j.1, subst (λ (k : Image). IsSame catalog k j.0) (one_named catalog number back.0 i f.differ back.1 named) back.2)

-- an image whose parent number is referenced holds here what it holds in the catalog
pub holds_on : (catalog images : List Image) (jobs : List ℕ) (space page : ℕ) (bytes : List ℕ) (i : Image) → IsFollowed catalog jobs images
    → IsCalled catalog jobs i.header.parent → Holds catalog space page bytes i → Holds images space page bytes i
holds_on catalog images jobs space page bytes i f called (by_data _ place has is) = by_data i place has is
holds_on catalog images jobs space page bytes i f called (by_zero _ has is) = by_zero i has is
holds_on catalog images jobs space page bytes i f called (by_parent _ parent has named holds) =
    let j = named_on catalog images jobs i.header.parent parent f called named in
    let next : IsCalled catalog jobs parent.header.parent = needed.by_parent parent.header.parent i.header.parent parent called named refl in
    let there = holds_on catalog images jobs space page bytes parent f next holds in
    by_parent i j.0 has j.1 (elim j.2 [
      | inl same ↦ subst (Holds images space page bytes) (sym same) there
      | inr alike ↦ (alike images space page bytes).1 holds
    ])

-- and holds nothing else
pub holds_back : (catalog images : List Image) (jobs : List ℕ) (space page : ℕ) (bytes : List ℕ) (i : Image) → IsFollowed catalog jobs images
    → IsCalled catalog jobs i.header.parent → Holds images space page bytes i → Holds catalog space page bytes i
holds_back catalog images jobs space page bytes i f called (by_data _ place has is) = by_data i place has is
holds_back catalog images jobs space page bytes i f called (by_zero _ has is) = by_zero i has is
holds_back catalog images jobs space page bytes i f called (by_parent _ parent has named holds) =
    let j = named_back catalog images jobs i.header.parent parent f called named in
    let next : IsCalled catalog jobs j.0.header.parent = needed.by_parent j.0.header.parent i.header.parent j.0 called j.1 refl in
    by_parent i j.0 has j.1 (elim j.2 [
      | inl same ↦ subst (Holds catalog space page bytes) same
          (holds_back catalog images jobs space page bytes parent f (subst (λ (k : Image). IsCalled catalog jobs k.header.parent) (sym same) next) holds)
      | inr alike ↦ (alike images space page bytes).0 holds
    ])

pub cut_holds_the_same_lem : CutHoldsTheSame
cut_holds_the_same_lem catalog adding images jobs i differ cut keeps called space page bytes =
    let f : IsFollowed catalog jobs images = record {
      differ = differ;
      needed = cut.needed;
      within = λ j c. elim (cut.within j c) [ inl among ↦ inl among | inr added ↦ inr (keeps j added) ];
    } in
    (λ holds. holds_on catalog images jobs space page bytes i f called holds, λ holds. holds_back catalog images jobs space page bytes i f called holds)

-- ---- what is shown

pub record LeavesShownSo (catalog : List Image) (jobs : List ℕ) (images : List Image) : Type 0 where
  pub followed : IsFollowed catalog jobs images
  pub tips : (i : Image) → Contains images i → Contains catalog i ⊎ KeepsTheTip catalog i

abbrev IsSameTip : List Image → Image → Image → Type 0
IsSameTip catalog tip j = (j ≡ tip) ⊎ Repeats catalog tip j

not_below : (i j : Image) → IsNotAfter i j → j.header.checkpoint < i.header.checkpoint → ⊥
not_below i j given less = grind arith

tip_on : (catalog images : List Image) (jobs : List ℕ) (tip : Image) → LeavesShownSo catalog jobs images → IsTip catalog tip
    → (j : Image) × IsTip images j × IsSameTip catalog tip j
tip_on catalog images jobs tip h is =
    let there = h.followed.needed tip (inl is) in
    let j = some_tip images tip there is.restorable in
    let after = j.1.greatest tip there is.restorable in (
      j.0,
      j.1,
      elim (h.tips j.0 j.1.member) [
        | inl among ↦ inl (tip_is catalog j.0 tip h.followed.differ is among j.1.restorable after)
        | inr keeps ↦
            let found = keeps j.1.restorable in
            let same : found.0 ≡ tip = one_tip catalog found.0 tip h.followed.differ found.1 is in
            elim found.2 [
              | inl less ↦ absurd (not_below tip j.0 after (subst (λ (k : Image). j.0.header.checkpoint < k.header.checkpoint) same less))
              | inr repeats ↦ inr (subst (λ (k : Image). Repeats catalog k j.0) same repeats)
            ]
      ],
    )

none_on : (catalog images : List Image) (jobs : List ℕ) → LeavesShownSo catalog jobs images
    → ((i : Image) → Contains catalog i → IsRestorable i → ⊥) → (i : Image) → Contains images i → IsRestorable i → ⊥
none_on catalog images jobs h none i c restorable = elim (h.tips i c) [
  | inl among ↦ none i among restorable
  | inr keeps ↦ let found = keeps restorable in none found.0 found.1.member found.1.restorable
]

-- the tip's memory
tip_holds : (catalog images : List Image) (jobs : List ℕ) (tip j : Image) (memory : PlainMemory) → IsFollowed catalog jobs images → IsTip catalog tip
    → IsSameTip catalog tip j → IsMemory catalog tip memory → IsMemory images j memory
tip_holds catalog images jobs tip j memory f is (inl same) was =
    subst (λ (k : Image). IsMemory images k memory) (sym same) (memory_moves catalog images tip tip memory refl
    (record { bytes = λ space page bytes holds. holds_on catalog images jobs space page bytes tip f (needed.by_tip tip.header.parent tip is refl) holds }) was)
tip_holds catalog images jobs tip j memory f is (inr repeats) was =
    memory_moves catalog images tip j memory repeats.areas (record { bytes = λ space page bytes holds. (repeats.bytes images space page bytes).1 holds }) was

same_checkpoint : (catalog : List Image) (tip j : Image) → IsSameTip catalog tip j → j.header.checkpoint ≡ tip.header.checkpoint
same_checkpoint catalog tip j given = grind arith

pub shows_on : (catalog images : List Image) (jobs : List ℕ) (shown : Option (ℕ × PlainMemory)) → LeavesShownSo catalog jobs images
    → ImagesShow catalog shown → ImagesShow images shown
shows_on catalog images jobs None h none = none_on catalog images jobs h none
shows_on catalog images jobs (Some moment) h was =
    let j = tip_on catalog images jobs was.0 h was.1 in
    (j.0, j.1, same_checkpoint catalog was.0 j.0 j.2 ∙ was.2, tip_holds catalog images jobs was.0 j.0 moment.1 h.followed was.1 j.2 was.3)

pub cut_shows_the_same_lem : CutShowsTheSame
cut_shows_the_same_lem catalog adding images jobs shown differ cut harmless was =
    shows_on catalog images jobs shown (record {
      followed = record {
        differ = differ;
        needed = cut.needed;
        within = λ i c. elim (cut.within i c) [ inl among ↦ inl among | inr added ↦ inr (harmless i added).number ];
      };
      tips = λ i c. elim (cut.within i c) [ inl among ↦ inl among | inr added ↦ inr (harmless i added).tip ];
    }) was

-- ---- with a pending dump

abbrev AreKnown : List Image → List Image → List ℕ → Image → List Image → Type 0
AreKnown catalog adding jobs pending images = (i : Image) → Contains images i → Contains catalog i ⊎ Contains (pending ∷ adding) i

-- the pending one is there, or all others leave what is shown
has_pending : (catalog adding images : List Image) (jobs : List ℕ) (pending : Image) → AreKnown catalog adding jobs pending images
    → Contains images pending ⊎ ((i : Image) → Contains images i → Contains catalog i ⊎ Contains adding i)
has_pending catalog adding [] jobs pending known = inr (λ i c. absurd (let e = c.1 in omega (arith, e)))
has_pending catalog adding (one ∷ images) jobs pending known =
    elim (has_pending catalog adding images jobs pending (λ i c. known i (contains_later one i images c))) [
      | inl there ↦ inl (contains_later one pending images there)
      | inr rest ↦ elim (known one (contains_front one images)) [
        | inl among ↦ inr (first (inl among) rest)
        | inr added ↦ elim (contains_cases pending one adding added) [
          | inl same ↦ inl (subst (Contains (one ∷ images)) same (contains_front one images))
          | inr among ↦ inr (first (inr among) rest)
        ]
      ]
    ]
  where
    first : Contains catalog one ⊎ Contains adding one → ((i : Image) → Contains images i → Contains catalog i ⊎ Contains adding i)
        → (i : Image) → Contains (one ∷ images) i → Contains catalog i ⊎ Contains adding i
    first here rest i c = elim (contains_cases one i images c) [
      | inl e ↦ subst (λ (k : Image). Contains catalog k ⊎ Contains adding k) (sym e) here
      | inr d ↦ rest i d
    ]

uncalled_keeps : (catalog : List Image) (jobs : List ℕ) (pending : Image) → IsPending catalog jobs pending → KeepsItsNumber catalog jobs pending
uncalled_keeps catalog jobs pending is called = absurd (is.uncalled called)

record IsUnder (catalog adding : List Image) (jobs : List ℕ) (pending : Image) : Type 0 where
  differ : SerialsDiffer catalog
  harmless : (added : Image) → Contains adding added → LeavesShown catalog jobs added
  is : IsPending catalog jobs pending

-- the pending one is the tip where it is there
pending_tip : (catalog adding images : List Image) (jobs : List ℕ) (pending : Image) → IsUnder catalog adding jobs pending → AreKnown catalog adding jobs pending images
    → Contains images pending → IsTip images pending
pending_tip catalog adding images jobs pending u known there = record {
  member = there;
  restorable = u.is.restorable;
  greatest = λ j c restorable. elim (known j c) [
    | inl among ↦ inl (u.is.newest j among restorable)
    | inr added ↦ elim (contains_cases pending j adding added) [
      | inl same ↦ subst (λ (k : Image). IsNotAfter k pending) (sym same) (not_after_self pending)
      | inr among ↦
          let found = (u.harmless j among).tip restorable in
          let under = u.is.newest found.0 found.1.member found.1.restorable in
          inl (elim found.2 [
            | inl less ↦ omega (arith, less, under)
            | inr repeats ↦ let same = repeats.checkpoint in omega (arith, same, under)
          ])
    ]
  ];
}

followed : (catalog adding images : List Image) (jobs : List ℕ) (pending : Image) → IsUnder catalog adding jobs pending
    → ((i : Image) → IsNeeded catalog jobs i → Contains images i) → AreKnown catalog adding jobs pending images → IsFollowed catalog jobs images
followed catalog adding images jobs pending u needs known = record {
  differ = u.differ;
  needed = needs;
  within = λ i c. elim (known i c) [
    | inl among ↦ inl among
    | inr added ↦ elim (contains_cases pending i adding added) [
      | inl same ↦ inr (subst (KeepsItsNumber catalog jobs) (sym same) (uncalled_keeps catalog jobs pending u.is))
      | inr among ↦ inr (u.harmless i among).number
    ]
  ];
}

pub needed_in : (catalog : List Image) (jobs : List ℕ) (i : Image) → IsNeeded catalog jobs i → Contains catalog i
needed_in catalog jobs i given = grind arith

pending_shows : (catalog adding images : List Image) (jobs : List ℕ) (pending : Image) (next : Option (ℕ × PlainMemory)) → IsUnder catalog adding jobs pending
    → IsCut catalog (pending ∷ adding) jobs images → Contains images pending → ImagesShow (pending ∷ catalog) next
    → ImagesShow images next
pending_shows catalog adding images jobs pending None u cut there none = absurd (none pending (contains_front pending catalog) u.is.restorable)
pending_shows catalog adding images jobs pending (Some moment) u cut there was =
    let mine = pending_tip catalog adding images jobs pending u cut.within there in
    let first = followed catalog adding (pending ∷ catalog) jobs pending u (λ i n. contains_later pending i catalog (needed_in catalog jobs i n)) known in
    let second = followed catalog adding images jobs pending u cut.needed cut.within in
    let same : was.0 ≡ pending = front_tip was.0 was.1 in (
      pending,
      mine,
      ap (λ (k : Image). k.header.checkpoint) (sym same) ∙ was.2,
      memory_moves (pending ∷ catalog) images pending pending moment.1 refl
          (record {
            bytes = λ space page bytes holds.
                holds_on catalog images jobs space page bytes pending second u.is.parent (holds_back catalog (pending ∷ catalog) jobs space page bytes pending first u.is.parent holds);
          })
          (subst (λ (k : Image). IsMemory (pending ∷ catalog) k moment.1) same was.3),
    )
  where
    known : AreKnown catalog adding jobs pending (pending ∷ catalog)
    known i c = elim (contains_cases pending i catalog c) [
      | inl same ↦ inr (subst (Contains (pending ∷ adding)) (sym same) (contains_front pending adding))
      | inr among ↦ inl among
    ]

    front_tip : (i : Image) → IsTip (pending ∷ catalog) i → i ≡ pending
    front_tip i tip = elim (contains_cases pending i catalog tip.member) [
      | inl same ↦ same
      | inr among ↦ absurd (not_below pending i (tip.greatest pending (contains_front pending catalog) u.is.restorable) (u.is.newest i among tip.restorable))
    ]

pub cut_shows_last_or_pending_lem : CutShowsLastOrPending
cut_shows_last_or_pending_lem catalog adding images jobs pending last next differ cut harmless is was then_shown =
    let u : IsUnder catalog adding jobs pending = record { differ = differ; harmless = harmless; is = is } in
    elim (has_pending catalog adding images jobs pending cut.within) [
      | inl there ↦ inr (pending_shows catalog adding images jobs pending next u cut there then_shown)
      | inr known ↦ inl (cut_shows_the_same_lem catalog adding images jobs last differ (record { needed = cut.needed; within = known }) harmless was)
    ]
