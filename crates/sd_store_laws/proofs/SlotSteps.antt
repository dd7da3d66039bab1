-- How the beliefs about slots follow.
use Rattle.std.proofs.Common.{◌≡◌, ◌≢◌, ◌⊎◌, ℕ, zero, suc, List, [], ◌∷◌, Option, Some, None, Contains, IfSome, slice_get, slice_set, refl, sym, ◌∙◌, ap, subst, inl, inr, arith}
use Rattle.std.specs.Option.{option_and_then}
use Rattle.std.proofs.lemmas.Bool.{cases_eq}
use Rattle.std.proofs.lemmas.Option.{none-some, same_Some}
use Rattle.sd_image.specs.Image.{Image}
use Rattle.sd_image.proofs.Members.{contains_at, contains_cases, contains_front, contains_later, contains_none, place_in}
use Rattle.sd_store_laws.specs.Needed.{IsNeeded}
use Rattle.sd_store_laws.specs.Store.{IsFresh, IsNextDump, IsSoundStore, IsMergedCopy, Store, jobs, IsNextPreDump}
use Rattle.sd_store_laws.specs.Steps.{Retires, checkpoint_begun, cancelled, merging, retired, Adds, added, committed, replaced}
use Rattle.sd_store_laws.specs.Beliefs.{AreSlotsOf, Belief, Closed, Kept, Closing, Opening, IsAdded, image_at, image_in}
use Rattle.sd_store_laws.specs.SlotSteps.{ClosingRetires, Lacks, SlotsDrop, SlotsFollowCalls, SlotsFollowImages, SlotsFollowJobs, with_belief}
use Rattle.sd_store_laws.proofs.Needs.{begun_needs, cancelled_needs, merging_needs, retired_needs, whole_needs, added_needs, committed_needs, replaced_needs}
use Rattle.sd_store_laws.proofs.Stays.{dump_stays_lem, fresh_stays_lem, twin_stays_lem}

-- ---- one place of a list

-- an element that stands somewhere else
abbrev Elsewhere : {X : Type 0} → List X → ℕ → X → Type 0
Elsewhere xs slot x = (k : ℕ) × (k ≢ slot) × (slice_get xs k ≡ Some x)

later_elsewhere : {X : Type 0} (y : X) (xs : List X) (slot : ℕ) (x : X) → Elsewhere xs slot x → Elsewhere (y ∷ xs) (suc slot) x
later_elsewhere y xs slot x e = (suc e.0, λ same. e.1 (omega (arith, same)), e.2)

-- what stands in a list with one place changed
set_back : {X : Type 0} (xs : List X) (slot : ℕ) (y x : X) → Contains (slice_set xs slot y) x → (x ≡ y) ⊎ Elsewhere xs slot x
set_back [] slot y x c = absurd (contains_none x c)
set_back (z ∷ xs) zero y x c = elim (contains_cases y x xs c) [
  | inl e ↦ inl e
  | inr d ↦ let rest = place_in xs x d in inr (suc rest.0, λ same. omega (arith, same), rest.1)
]
set_back (z ∷ xs) (suc slot) y x c = elim (contains_cases z x (slice_set xs slot y) c) [
  | inl e ↦ inr (0, λ same. omega (arith, same), ap Some (sym e))
  | inr d ↦ elim (set_back xs slot y x d) [
    | inl e ↦ inl e
    | inr there ↦ inr (later_elsewhere z xs slot x there)
  ]
]

pub set_other : {X : Type 0} (xs : List X) (slot k : ℕ) (y : X) → k ≢ slot → slice_get (slice_set xs slot y) k ≡ slice_get xs k
set_other (z ∷ xs) zero zero y other = absurd (other refl)
set_other (z ∷ xs) (suc slot) (suc k) y other = set_other xs slot k y (λ same. other (ap suc same))
set_other _ _ _ y other = refl

pub set_same : {X : Type 0} (xs : List X) (slot : ℕ) (z y : X) → slice_get xs slot ≡ Some z → slice_get (slice_set xs slot y) slot ≡ Some y
set_same [] slot z y e = absurd cc
set_same (w ∷ xs) zero z y e = refl
set_same (w ∷ xs) (suc slot) z y e = set_same xs slot z y e

-- ---- one belief changed

module _ (beliefs : List Belief) (slot : ℕ) (was is : Belief) (there : slice_get beliefs slot ≡ Some was) where
  abbrev new : List Belief
  new = with_belief beliefs slot is

  come : Contains new is
  come = contains_at new slot is (set_same beliefs slot was is there)

  move : (x : Belief) → Contains beliefs x → (x ≡ was) ⊎ Contains new x
  move x c =
      let k = place_in beliefs x c in
      elim (cases_eq k.0 slot) [
        | inl same ↦ inl (same_Some x was (sym k.1 ∙ ap (slice_get beliefs) same ∙ there))
        | inr other ↦ inr (contains_at new k.0 x (set_other beliefs slot k.0 is other ∙ k.1))
      ]

  back : (x : Belief) → Contains new x → (x ≡ is) ⊎ Elsewhere beliefs slot x
  back x c = set_back beliefs slot is x c

  here : Elsewhere beliefs slot is → Contains beliefs is
  here e = contains_at beliefs e.0 is e.2

  abbrev AreApart : List Belief → Type 0
  AreApart bs = (a b : ℕ) (i j : Image) → image_at bs a ≡ Some i → image_at bs b ≡ Some j → i.header.serial ≡ j.header.serial → a ≡ b

  -- the image of the slot is in no other
  alone : AreApart beliefs → (i : Image) (x : Belief) → image_in was ≡ Some i → image_in x ≡ Some i → Elsewhere beliefs slot x → ⊥
  alone apart i x mine its e =
      e.1 (apart e.0 slot i i (ap (option_and_then image_in) e.2 ∙ its) (ap (option_and_then image_in) there ∙ mine) refl)

  -- the image that the slot has now was there before, or has a serial of its own
  abbrev IsItsOwn : Type 0
  IsItsOwn = (i : Image) → image_in is ≡ Some i → (image_in was ≡ Some i) ⊎ ((other : ℕ) (j : Image) → image_at beliefs other ≡ Some j → j.header.serial ≢ i.header.serial)

  at_slot : (i : Image) → image_at new slot ≡ Some i → image_in is ≡ Some i
  at_slot i e = sym (ap (option_and_then image_in) (set_same beliefs slot was is there)) ∙ e

  at_other : (k : ℕ) (i : Image) → k ≢ slot → image_at new k ≡ Some i → image_at beliefs k ≡ Some i
  at_other k i other e = sym (ap (option_and_then image_in) (set_other beliefs slot k is other)) ∙ e

  one_there : AreApart beliefs → IsItsOwn → (k : ℕ) (i j : Image) → k ≢ slot → image_at beliefs k ≡ Some j → image_in is ≡ Some i → i.header.serial ≡ j.header.serial → ⊥
  one_there apart own k i j other e f same = elim (own i f) [
    | inl before ↦ other (apart k slot j i e (ap (option_and_then image_in) there ∙ before) (sym same))
    | inr fresh ↦ fresh k j e (sym same)
  ]

  still_apart : AreApart beliefs → IsItsOwn → AreApart new
  still_apart apart own a b i j p q same = elim (cases_eq a slot) [
    | inl ea ↦ elim (cases_eq b slot) [
      | inl eb ↦ ea ∙ sym eb
      | inr ob ↦ absurd (one_there apart own b i j ob (at_other b j ob q) (at_slot i (subst (λ k. image_at new k ≡ Some i) ea p)) same)
    ]
    | inr oa ↦ elim (cases_eq b slot) [
      | inl eb ↦ absurd (one_there apart own a j i oa (at_other a i oa p) (at_slot j (subst (λ k. image_at new k ≡ Some j) eb q)) (sym same))
      | inr ob ↦ apart a b i j (at_other a i oa p) (at_other b j ob q) same
    ]
  ]

elsewhere_in : (beliefs : List Belief) (slot : ℕ) (x : Belief) → Elsewhere beliefs slot x → Contains beliefs x
elsewhere_in beliefs slot x e = contains_at beliefs e.0 x e.2

-- ---- calls

opens : (s : Store) (pending : Option Image) (beliefs : List Belief) (slot : ℕ) (i : Image) → AreSlotsOf s pending beliefs
    → slice_get beliefs slot ≡ Some Closed → IsAdded s pending i
    → ((other : ℕ) (j : Image) → image_at beliefs other ≡ Some j → j.header.serial ≢ i.header.serial)
    → AreSlotsOf s pending (with_belief beliefs slot (Opening i))
opens s pending beliefs slot i are there adding fresh =
    let forth = move beliefs slot Closed (Opening i) there in
    let before = back beliefs slot Closed (Opening i) there in
    record {
      catalog = λ j. (
        λ c. elim ((are.catalog j).0 c) [
          | inl kept ↦ elim (forth (Kept j) kept) [ inl e ↦ absurd cc | inr now ↦ inl now ]
          | inr closing ↦ elim (forth (Closing j) closing) [ inl e ↦ absurd cc | inr now ↦ inr now ]
        ],
        λ c. elim c [
          | inl kept ↦ elim (before (Kept j) kept) [ inl e ↦ absurd cc | inr e ↦ (are.catalog j).1 (inl (elsewhere_in beliefs slot (Kept j) e)) ]
          | inr closing ↦ elim (before (Closing j) closing) [ inl e ↦ absurd cc | inr e ↦ (are.catalog j).1 (inr (elsewhere_in beliefs slot (Closing j) e)) ]
        ],
      );
      needed = λ j n. elim (forth (Kept j) (are.needed j n)) [ inl e ↦ absurd cc | inr now ↦ now ];
      opening = λ j c. elim (before (Opening j) c) [
        | inl e ↦ let same : j ≡ i = cc in subst (IsAdded s pending) (sym same) adding
        | inr e ↦ are.opening j (elsewhere_in beliefs slot (Opening j) e)
      ];
      dump = are.dump;
      serials = still_apart beliefs slot Closed (Opening i) there are.serials (λ j e. inr (λ other k at.
          subst (λ (x : Image). k.header.serial ≢ x.header.serial) (same_Some i j e) (fresh other k at)));
    }

pends : (s : Store) (beliefs : List Belief) (dump : Image) → AreSlotsOf s None beliefs → IsNextDump s dump → AreSlotsOf s (Some dump) beliefs
pends s beliefs dump are is = grind arith

closes : (s : Store) (pending : Option Image) (beliefs : List Belief) (slot : ℕ) (i : Image) → AreSlotsOf s pending beliefs
    → slice_get beliefs slot ≡ Some (Kept i) → (IsNeeded s.catalog (jobs s) i → ⊥)
    → AreSlotsOf s pending (with_belief beliefs slot (Closing i))
closes s pending beliefs slot i are there unneeded =
    let forth = move beliefs slot (Kept i) (Closing i) there in
    let before = back beliefs slot (Kept i) (Closing i) there in
    record {
      catalog = λ j. (
        λ c. elim ((are.catalog j).0 c) [
          | inl kept ↦ elim (forth (Kept j) kept) [
            | inl e ↦ let same : j ≡ i = cc in
                inr (subst (λ (x : Image). Contains (with_belief beliefs slot (Closing i)) (Closing x)) (sym same) (come beliefs slot (Kept i) (Closing i) there))
            | inr now ↦ inl now
          ]
          | inr closing ↦ elim (forth (Closing j) closing) [ inl e ↦ absurd cc | inr now ↦ inr now ]
        ],
        λ c. elim c [
          | inl kept ↦ elim (before (Kept j) kept) [ inl e ↦ absurd cc | inr e ↦ (are.catalog j).1 (inl (elsewhere_in beliefs slot (Kept j) e)) ]
          | inr closing ↦ elim (before (Closing j) closing) [
            | inl e ↦ let same : j ≡ i = cc in
                (are.catalog j).1 (inl (subst (λ (x : Image). Contains beliefs (Kept x)) (sym same) (contains_at beliefs slot (Kept i) there)))
            | inr e ↦ (are.catalog j).1 (inr (elsewhere_in beliefs slot (Closing j) e))
          ]
        ],
      );
      needed = λ j n. elim (forth (Kept j) (are.needed j n)) [
        | inl e ↦ let same : j ≡ i = cc in absurd (unneeded (subst (IsNeeded s.catalog (jobs s)) same n))
        | inr now ↦ now
      ];
      opening = λ j c. elim (before (Opening j) c) [
        | inl e ↦ absurd cc
        | inr e ↦ are.opening j (elsewhere_in beliefs slot (Opening j) e)
      ];
      dump = are.dump;
      serials = still_apart beliefs slot (Kept i) (Closing i) there are.serials (λ j e. inl e);
    }

-- ---- what is being opened, after a step

same_added : (s t : Store) (pending : Option Image) (i : Image) → (IsFresh s i → IsFresh t i) → (IsMergedCopy s.catalog s.source i → IsMergedCopy t.catalog t.source i)
    → IsAdded s pending i → IsAdded t pending i
same_added s t pending i fresh twin given = grind arith

same_dump : (s t : Store) (pending : Option Image) → ((i : Image) → IsNextDump s i → IsNextDump t i) → IfSome pending (IsNextDump s) → IfSome pending (IsNextDump t)
same_dump s t pending keeps was = grind arith

closed : (s : Store) (pending : Option Image) (beliefs : List Belief) (slot : ℕ) (i : Image) (new : List Image) → IsSoundStore s → AreSlotsOf s pending beliefs
    → slice_get beliefs slot ≡ Some (Closing i) → Lacks s.catalog i new
    → AreSlotsOf (retired s new) pending (with_belief beliefs slot Closed)
closed s pending beliefs slot i new sound are there lacks = record {
  catalog = λ j. (
    λ c. let old = (lacks j).0 c in elim ((are.catalog j).0 old.0) [
      | inl kept ↦ elim (forth (Kept j) kept) [ inl e ↦ absurd cc | inr now ↦ inl now ]
      | inr closing ↦ elim (forth (Closing j) closing) [
        | inl e ↦ let same : j ≡ i = cc in absurd (old.1 same)
        | inr now ↦ inr now
      ]
    ],
    λ c. elim c [
      | inl kept ↦ elim (before (Kept j) kept) [
        | inl e ↦ absurd cc
        | inr e ↦ (lacks j).1 (
          (are.catalog j).1 (inl (elsewhere_in beliefs slot (Kept j) e)),
          λ same. gone (Kept j) (ap Some same) e,
        )
      ]
      | inr closing ↦ elim (before (Closing j) closing) [
        | inl e ↦ absurd cc
        | inr e ↦ (lacks j).1 (
          (are.catalog j).1 (inr (elsewhere_in beliefs slot (Closing j) e)),
          λ same. gone (Closing j) (ap Some same) e,
        )
      ]
    ],
  );
  needed = λ j n. elim (forth (Kept j) (are.needed j (retired_needs s sound new j retires n))) [ inl e ↦ absurd cc | inr now ↦ now ];
  opening = λ j c. elim (before (Opening j) c) [
    | inl e ↦ absurd cc
    | inr e ↦ same_added s (retired s new) pending j (fresh_stays_lem.retires s j new retires) (twin_stays_lem.retires s j new sound retires)
        (are.opening j (elsewhere_in beliefs slot (Opening j) e))
  ];
  dump = same_dump s (retired s new) pending (λ j. dump_stays_lem.retires s j new retires) are.dump;
  serials = still_apart beliefs slot (Closing i) Closed there are.serials (λ j e. absurd (none-some j e));
}
  where
    forth : (x : Belief) → Contains beliefs x → (x ≡ Closing i) ⊎ Contains (with_belief beliefs slot Closed) x
    forth = move beliefs slot (Closing i) Closed there

    before : (x : Belief) → Contains (with_belief beliefs slot Closed) x → (x ≡ Closed) ⊎ Elsewhere beliefs slot x
    before = back beliefs slot (Closing i) Closed there

    gone : (x : Belief) → image_in x ≡ Some i → Elsewhere beliefs slot x → ⊥
    gone x its e = alone beliefs slot (Closing i) Closed there are.serials i x refl its e

    retires : Retires s new
    retires = record {
      needed = λ j n.
          let kept = are.needed j n in
          let place = place_in beliefs (Kept j) kept in
          (lacks j).1 ((are.catalog j).1 (inl kept), λ same. other j same place.0 place.1);
      within = λ j c. ((lacks j).0 c).0;
    }
      where
        other : (j : Image) → j ≡ i → (k : ℕ) → slice_get beliefs k ≡ Some (Kept j) → ⊥
        other j same k at = elim (cases_eq k slot) [
          | inl e ↦ let both : Kept j ≡ Closing i = same_Some (Kept j) (Closing i) (sym at ∙ ap (slice_get beliefs) e ∙ there) in absurd cc
          | inr ne ↦ gone (Kept j) (ap Some same) (k, ne, at)
        ]

-- the image of a slot is in no other belief
nowhere : (beliefs : List Belief) (slot : ℕ) (i : Image) (was x : Belief)
    → ((a b : ℕ) (j k : Image) → image_at beliefs a ≡ Some j → image_at beliefs b ≡ Some k → j.header.serial ≡ k.header.serial → a ≡ b)
    → slice_get beliefs slot ≡ Some was → image_in was ≡ Some i → (x ≡ was → ⊥) → image_in x ≡ Some i → Contains beliefs x → ⊥
nowhere beliefs slot i was x apart there mine other its c =
    let k = place_in beliefs x c in
    let same = apart k.0 slot i i (ap (option_and_then image_in) k.1 ∙ its) (ap (option_and_then image_in) there ∙ mine) refl in
    other (same_Some x was (sym k.1 ∙ ap (slice_get beliefs) same ∙ there))

drops : SlotsDrop
drops s pending beliefs slot i are there =
    let forth = move beliefs slot (Opening i) Closed there in
    let before = back beliefs slot (Opening i) Closed there in (
      record {
        catalog = λ j. (
          λ c. elim ((are.catalog j).0 c) [
            | inl kept ↦ elim (forth (Kept j) kept) [ inl e ↦ absurd cc | inr now ↦ inl now ]
            | inr closing ↦ elim (forth (Closing j) closing) [ inl e ↦ absurd cc | inr now ↦ inr now ]
          ],
          λ c. elim c [
            | inl kept ↦ elim (before (Kept j) kept) [ inl e ↦ absurd cc | inr e ↦ (are.catalog j).1 (inl (elsewhere_in beliefs slot (Kept j) e)) ]
            | inr closing ↦ elim (before (Closing j) closing) [ inl e ↦ absurd cc | inr e ↦ (are.catalog j).1 (inr (elsewhere_in beliefs slot (Closing j) e)) ]
          ],
        );
        needed = λ j n. elim (forth (Kept j) (are.needed j n)) [ inl e ↦ absurd cc | inr now ↦ now ];
        opening = λ j c. elim (before (Opening j) c) [
          | inl e ↦ absurd cc
          | inr e ↦ are.opening j (elsewhere_in beliefs slot (Opening j) e)
        ];
        dump = are.dump;
        serials = still_apart beliefs slot (Opening i) Closed there are.serials (λ j e. absurd (none-some j e));
      },
      λ c. elim ((are.catalog i).0 c) [
        | inl kept ↦ nowhere beliefs slot i (Opening i) (Kept i) are.serials there refl (λ e. cc) refl kept
        | inr closing ↦ nowhere beliefs slot i (Opening i) (Closing i) are.serials there refl (λ e. cc) refl closing
      ],
    )

closing_retires : (s : Store) (pending : Option Image) (beliefs : List Belief) (slot : ℕ) (i : Image) (new : List Image) → AreSlotsOf s pending beliefs
    → slice_get beliefs slot ≡ Some (Closing i) → Lacks s.catalog i new → Retires s new
closing_retires s pending beliefs slot i new are there lacks = record {
  needed = λ j n.
      let kept = are.needed j n in
      (lacks j).1 (
        (are.catalog j).1 (inl kept),
        λ same. nowhere beliefs slot i (Closing i) (Kept j) are.serials there refl (λ e. cc) (ap Some same) kept,
      );
  within = λ j c. ((lacks j).0 c).0;
}

-- a list without an image that can be distinguished from the others
without : (i : Image) (all : List Image) → ((j : Image) → Contains all j → (j ≡ i) ⊎ (j ≢ i)) → (new : List Image) × Lacks all i new
without i [] known = ([], λ j. (λ c. absurd (contains_none j c), λ c. absurd (contains_none j c.0)))
without i (one ∷ rest) known =
    let tail = without i rest (λ j c. known j (contains_later one j rest c)) in
    elim (known one (contains_front one rest)) [
      | inl same ↦ (
        tail.0,
        λ j. (
          λ c. let was = (tail.1 j).0 c in (contains_later one j rest was.0, was.1),
          λ c. elim (contains_cases one j rest c.0) [
            | inl e ↦ absurd (c.1 (e ∙ same))
            | inr among ↦ (tail.1 j).1 (among, c.1)
          ],
        ),
      )
      | inr other ↦ (
        one ∷ tail.0,
        λ j. (
          λ c. elim (contains_cases one j tail.0 c) [
            | inl e ↦ (subst (Contains (one ∷ rest)) (sym e) (contains_front one rest), λ is. other (sym e ∙ is))
            | inr among ↦ let was = (tail.1 j).0 among in (contains_later one j rest was.0, was.1)
          ],
          λ c. elim (contains_cases one j rest c.0) [
            | inl e ↦ subst (Contains (one ∷ tail.0)) (sym e) (contains_front one tail.0)
            | inr among ↦ contains_later one j tail.0 ((tail.1 j).1 (among, c.1))
          ],
        ),
      )
    ]

pub slots_drop_lem : SlotsDrop
slots_drop_lem = drops

pub closing_retires_lem : ClosingRetires
closing_retires_lem = record {
  lacks = λ s i sound c. without i s.catalog (λ j d. elim (cases_eq j.header.serial i.header.serial) [
    | inl same ↦ inl (sound.serials j i d c same)
    | inr other ↦ inr (λ is. other (ap (λ (k : Image). k.header.serial) is))
  ]);
  retires = closing_retires;
}

pub slots_follow_calls_lem : SlotsFollowCalls
slots_follow_calls_lem = record { opens = opens; pends = pends; closes = closes; closed = closed }

-- ---- jobs

-- another store with the same catalog
same_slots : (s t : Store) (pending : Option Image) (beliefs : List Belief) → s.catalog ≡ t.catalog
    → ((j : Image) → IsNeeded t.catalog (jobs t) j → IsNeeded s.catalog (jobs s) j)
    → ((j : Image) → IsAdded s pending j → IsAdded t pending j) → IfSome pending (IsNextDump t)
    → AreSlotsOf s pending beliefs → AreSlotsOf t pending beliefs
same_slots s t pending beliefs same needs adding dump are = record {
  catalog = λ j. (λ c. (are.catalog j).0 (subst (λ xs. Contains xs j) (sym same) c), λ c. subst (λ xs. Contains xs j) same ((are.catalog j).1 c));
  needed = λ j n. are.needed j (needs j n);
  opening = λ j c. adding j (are.opening j c);
  dump = dump;
  serials = are.serials;
}

pub slots_follow_jobs_lem : SlotsFollowJobs
slots_follow_jobs_lem = record {
  begins = λ s tip beliefs sound grows is are.
      same_slots s (checkpoint_begun s tip.header.stands_for) None beliefs refl (λ j. begun_needs s sound tip j grows is)
      (λ j. same_added s (checkpoint_begun s tip.header.stands_for) None j (fresh_stays_lem.begins s tip j is) (λ twin. twin)) tt are;
  begins_whole = λ s beliefs sound are.
      same_slots s (checkpoint_begun s 0) None beliefs refl (whole_needs s sound) (λ j. same_added s (checkpoint_begun s 0) None j (fresh_stays_lem.begins_whole s j) (λ twin. twin)) tt are;
  cancels = λ s beliefs sound are.
      same_slots s (cancelled s) None beliefs refl (cancelled_needs s sound) (λ j. same_added s (cancelled s) None j (fresh_stays_lem.cancels s j) (λ twin. twin)) tt are;
  merges = λ s tip pending beliefs sound is none are.
      same_slots s (merging s tip) pending beliefs refl (λ j. merging_needs s sound tip j is)
      (λ j. same_added s (merging s tip) pending j (fresh_stays_lem.merges s tip j is) (λ twin. absurd (none-some twin.source (sym none ∙ twin.running))))
      (same_dump s (merging s tip) pending (λ j. dump_stays_lem.merges s tip j is) are.dump) are;
}

-- ---- images that enter

module _ (s : Store) (pending : Option Image) (beliefs : List Belief) (slot : ℕ) (i : Image) (new : List Image) (are : AreSlotsOf s pending beliefs)
    (there : slice_get beliefs slot ≡ Some (Opening i)) (more : Adds s.catalog i new) where
  abbrev after : List Belief
  after = with_belief beliefs slot (Kept i)

  forth : (x : Belief) → Contains beliefs x → (x ≡ Opening i) ⊎ Contains after x
  forth = move beliefs slot (Opening i) (Kept i) there

  before : (x : Belief) → Contains after x → (x ≡ Kept i) ⊎ Elsewhere beliefs slot x
  before = back beliefs slot (Opening i) (Kept i) there

  -- an image that is being opened elsewhere has another serial
  other_serial : (j : Image) → Elsewhere beliefs slot (Opening j) → i.header.serial ≢ j.header.serial
  other_serial j e same = e.1 (are.serials e.0 slot j i (ap (option_and_then image_in) e.2) (ap (option_and_then image_in) there) (sym same))

  not_elsewhere : (j : Image) → j ≡ i → Elsewhere beliefs slot (Opening j) → ⊥
  not_elsewhere j same e = other_serial j e (ap (λ (k : Image). k.header.serial) (sym same))

  enters : (t : Store) (next : Option Image) → t.catalog ≡ new → ((j : Image) → IsNeeded t.catalog (jobs t) j → (j ≡ i) ⊎ IsNeeded s.catalog (jobs s) j)
      → ((j : Image) → Elsewhere beliefs slot (Opening j) → IsAdded s pending j → IsAdded t next j) → IfSome next (IsNextDump t) → AreSlotsOf t next after
  enters t next same needs adding dump = record {
    catalog = λ j. (
      λ c. elim ((more j).0 (subst (λ xs. Contains xs j) same c)) [
        | inl e ↦ inl (subst (λ (x : Image). Contains after (Kept x)) (sym e) (come beliefs slot (Opening i) (Kept i) there))
        | inr old ↦ elim ((are.catalog j).0 old) [
          | inl kept ↦ elim (forth (Kept j) kept) [ inl e ↦ absurd cc | inr now ↦ inl now ]
          | inr closing ↦ elim (forth (Closing j) closing) [ inl e ↦ absurd cc | inr now ↦ inr now ]
        ]
      ],
      λ c. subst (λ xs. Contains xs j) (sym same) ((more j).1 (elim c [
        | inl kept ↦ elim (before (Kept j) kept) [
          | inl e ↦ let it : j ≡ i = cc in inl it
          | inr e ↦ inr ((are.catalog j).1 (inl (elsewhere_in beliefs slot (Kept j) e)))
        ]
        | inr closing ↦ elim (before (Closing j) closing) [
          | inl e ↦ absurd cc
          | inr e ↦ inr ((are.catalog j).1 (inr (elsewhere_in beliefs slot (Closing j) e)))
        ]
      ])),
    );
    needed = λ j n. elim (needs j n) [
      | inl e ↦ subst (λ (x : Image). Contains after (Kept x)) (sym e) (come beliefs slot (Opening i) (Kept i) there)
      | inr old ↦ elim (forth (Kept j) (are.needed j old)) [ inl e ↦ absurd cc | inr now ↦ now ]
    ];
    opening = λ j c. elim (before (Opening j) c) [
      | inl e ↦ absurd cc
      | inr e ↦ adding j e (are.opening j (elsewhere_in beliefs slot (Opening j) e))
    ];
    dump = dump;
    serials = still_apart beliefs slot (Opening i) (Kept i) there are.serials (λ j e. inl e);
  }

adds_enters : (s : Store) (beliefs : List Belief) (slot : ℕ) (i : Image) (new : List Image) → IsSoundStore s → AreSlotsOf s None beliefs
    → slice_get beliefs slot ≡ Some (Opening i) → IsNextPreDump s i → Adds s.catalog i new
    → AreSlotsOf (added s new i.header.stands_for) None (with_belief beliefs slot (Kept i))
adds_enters s beliefs slot i new sound are there is more =
    enters s None beliefs slot i new are there more (added s new i.header.stands_for) None refl (λ j. added_needs s sound i new j is more)
    (λ j e. same_added s (added s new i.header.stands_for) None j
    (fresh_stays_lem.adds s i j new is.next more (other_serial s None beliefs slot i new are there more j e))
    (twin_stays_lem.adds s i j new sound is.next more (other_serial s None beliefs slot i new are there more j e)))
    tt

commits_enters : (s : Store) (beliefs : List Belief) (slot : ℕ) (i : Image) (new : List Image) → IsSoundStore s → AreSlotsOf s (Some i) beliefs
    → slice_get beliefs slot ≡ Some (Opening i) → Adds s.catalog i new
    → AreSlotsOf (committed s new) None (with_belief beliefs slot (Kept i))
commits_enters s beliefs slot i new sound are there more =
    enters s (Some i) beliefs slot i new are there more (committed s new) None refl (λ j. committed_needs s sound i new j are.dump more) adding tt
  where
    adding : (j : Image) → Elsewhere beliefs slot (Opening j) → IsAdded s (Some i) j → IsAdded (committed s new) None j
    adding j e (inl pre) = inl (pre.0, fresh_stays_lem.commits s i j new are.dump.next more (other_serial s (Some i) beliefs slot i new are there more j e) pre.1)
    adding j e (inr (inl twin)) = inr (inl (twin_stays_lem.adds s i j new sound are.dump.next more (other_serial s (Some i) beliefs slot i new are there more j e) twin))
    adding j e (inr (inr is)) = absurd (not_elsewhere s (Some i) beliefs slot i new are there more j (sym (same_Some i j is)) e)

replaces_enters : (s : Store) (pending : Option Image) (beliefs : List Belief) (slot : ℕ) (i : Image) (new : List Image) → IsSoundStore s → AreSlotsOf s pending beliefs
    → slice_get beliefs slot ≡ Some (Opening i) → IsMergedCopy s.catalog s.source i → Adds s.catalog i new
    → ((j : Image) → Contains beliefs (Opening j) → IsMergedCopy s.catalog s.source j → j ≡ i)
    → IfSome pending (λ dump. i.header.serial ≢ dump.header.serial)
    → AreSlotsOf (replaced s new) pending (with_belief beliefs slot (Kept i))
replaces_enters s pending beliefs slot i new sound are there is more one apart =
    enters s pending beliefs slot i new are there more (replaced s new) pending refl (λ j. replaced_needs s sound i new j is more) adding (dump pending are.dump apart)
  where
    adding : (j : Image) → Elsewhere beliefs slot (Opening j) → IsAdded s pending j → IsAdded (replaced s new) pending j
    adding j e (inl pre) = inl (pre.0, fresh_stays_lem.replaces s i j new is more (other_serial s pending beliefs slot i new are there more j e) pre.1)
    adding j e (inr (inl twin)) =
        absurd (not_elsewhere s pending beliefs slot i new are there more j (one j (elsewhere_in beliefs slot (Opening j) e) twin) e)
    adding j e (inr (inr it)) = inr (inr it)

    dump : (o : Option Image) → IfSome o (IsNextDump s) → IfSome o (λ d. i.header.serial ≢ d.header.serial) → IfSome o (IsNextDump (replaced s new))
    dump None was other = tt
    dump (Some d) was other = dump_stays_lem.replaces s i d new sound is more other was

pub slots_follow_images_lem : SlotsFollowImages
slots_follow_images_lem = record { adds = adds_enters; commits = commits_enters; replaces = replaces_enters }
