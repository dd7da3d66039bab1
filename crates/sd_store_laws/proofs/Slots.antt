-- What contents show whose slots are as believed.
use Rattle.std.proofs.Common.{◌≡◌, ◌⊎◌, ℕ, false, nat_eq, List, [], ◌∷◌, map, filter_map, Option, Some, None, Contains, refl, sym, ◌∙◌, subst, inl, inr, arith, suc}
use Rattle.std.specs.List.{AllByRecursion, AllZip, IsDistinct}
use Rattle.std.proofs.lemmas.Bool.{ne_eqb}
use Rattle.std.proofs.lemmas.Option.{none-some, same_Some}
use Rattle.std.proofs.lemmas.List.Elements.{Contains-append_left}
use Rattle.sd_areas.specs.PlainMemory.{PlainMemory}
use Rattle.sd_image.specs.Image.{Image, IsImage, OpenImages, is_open}
use Rattle.sd_image.specs.Shows.{Shows, ImagesShow}
use Rattle.sd_image.proofs.Members.{contains_cases, contains_front, contains_later, contains_none}
use Rattle.sd_store_laws.specs.Cut.{LeavesShown, IsPending}
use Rattle.sd_store_laws.specs.Store.{IsNextDump, IsSoundStore, Store, jobs}
use Rattle.sd_store_laws.specs.Beliefs.{AreSlotsOf, Belief, Closed, Kept, Closing, Opening, ContentsShow, FitsBelief, IsAdded, IsLeft, LeftImagesShow, image_in, image_at}
use Rattle.sd_image.proofs.ReadyLemmas.{image_opens}
use Rattle.sd_store_laws.proofs.Cuts.{cut_shows_the_same_lem, cut_shows_last_or_pending_lem}
use Rattle.sd_store_laws.proofs.ShownStays.{dump_is_pending_lem, pre_dump_is_harmless_lem, twin_is_harmless_lem}

-- ---- sets of images

-- the images that are being opened
abbrev opening_in : Belief → Option Image
opening_in (Opening i) = Some i
opening_in _ = None

abbrev openings : List Belief → List Image
openings = filter_map opening_in

is_opening : (beliefs : List Belief) (i : Image) → Contains beliefs (Opening i) → Contains (openings beliefs) i
is_opening [] i c = absurd (contains_none (Opening i) c)
is_opening (Closed ∷ beliefs) i c = elim (contains_cases Closed (Opening i) beliefs c) [ inl e ↦ absurd cc | inr d ↦ is_opening beliefs i d ]
is_opening (Kept j ∷ beliefs) i c = elim (contains_cases (Kept j) (Opening i) beliefs c) [ inl e ↦ absurd cc | inr d ↦ is_opening beliefs i d ]
is_opening (Closing j ∷ beliefs) i c = elim (contains_cases (Closing j) (Opening i) beliefs c) [ inl e ↦ absurd cc | inr d ↦ is_opening beliefs i d ]
is_opening (Opening j ∷ beliefs) i c = elim (contains_cases (Opening j) (Opening i) beliefs c) [
  | inl e ↦ let same : i ≡ j = cc in subst (λ (k : Image). Contains (j ∷ openings beliefs) k) (sym same) (contains_front j (openings beliefs))
  | inr d ↦ contains_later j i (openings beliefs) (is_opening beliefs i d)
]

was_opening : (beliefs : List Belief) (i : Image) → Contains (openings beliefs) i → Contains beliefs (Opening i)
was_opening [] i c = absurd (contains_none i c)
was_opening (Closed ∷ beliefs) i c = contains_later Closed (Opening i) beliefs (was_opening beliefs i c)
was_opening (Kept j ∷ beliefs) i c = contains_later (Kept j) (Opening i) beliefs (was_opening beliefs i c)
was_opening (Closing j ∷ beliefs) i c = contains_later (Closing j) (Opening i) beliefs (was_opening beliefs i c)
was_opening (Opening j ∷ beliefs) i c = elim (contains_cases j i (openings beliefs) c) [
  | inl e ↦ subst (λ (k : Image). Contains (Opening j ∷ beliefs) (Opening k)) (sym e) (contains_front (Opening j) beliefs)
  | inr d ↦ contains_later (Opening j) (Opening i) beliefs (was_opening beliefs i d)
]

-- what is being opened, beside the pending dump, leaves what is shown
harmless_or_pending : (s : Store) (pending : Option Image) (i : Image) → IsSoundStore s → IsAdded s pending i → LeavesShown s.catalog (jobs s) i ⊎ (pending ≡ Some i)
harmless_or_pending s pending i sound given = grind (arith, pre_dump_is_harmless_lem, twin_is_harmless_lem)

left_last : (s : Store) (beliefs : List Belief) (images : List Image) (shown : Option (ℕ × PlainMemory))
    → IsSoundStore s → AreSlotsOf s None beliefs → IsLeft beliefs images → ImagesShow s.catalog shown → ImagesShow images shown
left_last s beliefs images shown sound slots left was =
    cut_shows_the_same_lem s.catalog (openings beliefs) images (jobs s) shown sound.serials
    (record {
      needed = λ i n. left.kept i (slots.needed i n);
      within = λ i c. elim (left.within i c) [
        | inl kept ↦ inl ((slots.catalog i).1 (inl kept))
        | inr (inl closing) ↦ inl ((slots.catalog i).1 (inr closing))
        | inr (inr opening) ↦ inr (is_opening beliefs i opening)
      ];
    })
    (λ i c. elim (harmless_or_pending s None i sound (slots.opening i (was_opening beliefs i c))) [
      | inl harmless ↦ harmless
      | inr never ↦ absurd (none-some i never)
    ]) was

-- those of a list that leave what is shown
record Sorted (s : Store) (dump : Image) (images : List Image) : Type 0 where
  harmless : List Image
  each : (i : Image) → Contains harmless i → LeavesShown s.catalog (jobs s) i
  others : (i : Image) → Contains images i → (i ≡ dump) ⊎ Contains harmless i

sorted : (s : Store) (dump : Image) (images : List Image) → ((i : Image) → Contains images i → LeavesShown s.catalog (jobs s) i ⊎ (Some dump ≡ Some i)) → Sorted s dump images
sorted s dump [] known = record { harmless = []; each = λ i c. absurd (contains_none i c); others = λ i c. absurd (contains_none i c) }
sorted s dump (one ∷ images) known =
    let rest = sorted s dump images (λ i c. known i (contains_later one i images c)) in
    elim (known one (contains_front one images)) [
      | inl harmless ↦ record {
        harmless = one ∷ rest.harmless;
        each = λ i c. elim (contains_cases one i rest.harmless c) [
          | inl e ↦ subst (LeavesShown s.catalog (jobs s)) (sym e) harmless
          | inr d ↦ rest.each i d
        ];
        others = λ i c. elim (contains_cases one i images c) [
          | inl e ↦ inr (subst (Contains (one ∷ rest.harmless)) (sym e) (contains_front one rest.harmless))
          | inr d ↦ elim (rest.others i d) [
            | inl is ↦ inl is
            | inr among ↦ inr (contains_later one i rest.harmless among)
          ]
        ];
      }
      | inr is ↦ record {
        harmless = rest.harmless;
        each = rest.each;
        others = λ i c. elim (contains_cases one i images c) [
          | inl e ↦ inl (e ∙ sym (same_Some dump one is))
          | inr d ↦ rest.others i d
        ];
      }
    ]

is_pending : (s : Store) (dump : Image) → IsNextDump s dump → IsPending s.catalog (jobs s) dump
is_pending s dump is =
    dump_is_pending_lem s.catalog (jobs s) dump is.restorable is.next.fresh.number (Contains-append_left s.chain s.work dump.header.parent is.next.parent) is.newest

left_pending : (s : Store) (dump : Image) (beliefs : List Belief) (images : List Image) (last next : Option (ℕ × PlainMemory))
    → IsSoundStore s → AreSlotsOf s (Some dump) beliefs → IsLeft beliefs images
    → ImagesShow s.catalog last → ImagesShow (dump ∷ s.catalog) next → ImagesShow images last ⊎ ImagesShow images next
left_pending s dump beliefs images last next sound slots left was follows =
    let parts = sorted s dump (openings beliefs) (λ i c. harmless_or_pending s (Some dump) i sound (slots.opening i (was_opening beliefs i c))) in
    cut_shows_last_or_pending_lem s.catalog parts.harmless images (jobs s) dump last next sound.serials
    (record {
      needed = λ i n. left.kept i (slots.needed i n);
      within = λ i c. elim (left.within i c) [
        | inl kept ↦ inl ((slots.catalog i).1 (inl kept))
        | inr (inl closing) ↦ inl ((slots.catalog i).1 (inr closing))
        | inr (inr opening) ↦ elim (parts.others i (is_opening beliefs i opening)) [
          | inl e ↦ inr (subst (Contains (dump ∷ parts.harmless)) (sym e) (contains_front dump parts.harmless))
          | inr among ↦ inr (contains_later dump i parts.harmless among)
        ]
      ];
    }) parts.each (is_pending s dump slots.dump) was follows

pub left_images_show_lem : LeftImagesShow
left_images_show_lem = record { last = left_last; pending = left_pending }

-- ---- contents

abbrev serials_in : List Belief → List ℕ
serials_in beliefs = map (λ (i : Image). i.header.serial) (filter_map image_in beliefs)

abbrev serials_of : List Image → List ℕ
serials_of images = map (λ (i : Image). i.header.serial) images

abbrev OthersThan : ℕ → List ℕ → Type 0
OthersThan serial = AllByRecursion (λ n. nat_eq serial n ≡ false)

record Left (beliefs : List Belief) (contents : List (List ℕ)) (images : List Image) : Type 0 where
  slots : OpenImages contents images
  left : IsLeft beliefs images
  others : (serial : ℕ) → OthersThan serial (serials_in beliefs) → OthersThan serial (serials_of images)
  distinct : IsDistinct nat_eq (serials_in beliefs) → IsDistinct nat_eq (serials_of images)

-- one slot more that is closed, and wasn't kept
not_there : (b : Belief) (beliefs : List Belief) (contents : List (List ℕ)) (file : List ℕ) (images : List Image) → ((i : Image) → Kept i ≡ b → ⊥) → is_open file ≡ false
    → ((serial : ℕ) → OthersThan serial (serials_in (b ∷ beliefs)) → OthersThan serial (serials_in beliefs))
    → (IsDistinct nat_eq (serials_in (b ∷ beliefs)) → IsDistinct nat_eq (serials_in beliefs))
    → Left beliefs contents images → Left (b ∷ beliefs) (file ∷ contents) images
not_there b beliefs contents file images unkept closed fewer less rest = record {
  slots = inl (closed, rest.slots);
  left = record {
    kept = λ i c. elim (contains_cases b (Kept i) beliefs c) [ inl e ↦ absurd (unkept i e) | inr d ↦ rest.left.kept i d ];
    within = λ i c. elim (rest.left.within i c) [
      | inl kept ↦ inl (contains_later b (Kept i) beliefs kept)
      | inr (inl closing) ↦ inr (inl (contains_later b (Closing i) beliefs closing))
      | inr (inr opening) ↦ inr (inr (contains_later b (Opening i) beliefs opening))
    ];
  };
  others = λ serial all. rest.others serial (fewer serial all);
  distinct = λ all. rest.distinct (less all);
}

-- one slot more that has its image
abbrev Has : Belief → Image → Type 0
Has b i = (b ≡ Kept i) ⊎ ((b ≡ Closing i) ⊎ (b ≡ Opening i))

is_there : (b : Belief) (one : Image) (beliefs : List Belief) (contents : List (List ℕ)) (file : List ℕ) (images : List Image) → Has b one → IsImage file one
    → ((i : Image) → Kept i ≡ b → i ≡ one)
    → ((serial : ℕ) → OthersThan serial (serials_in (b ∷ beliefs)) → OthersThan serial (one.header.serial ∷ serials_in beliefs))
    → (IsDistinct nat_eq (serials_in (b ∷ beliefs)) → IsDistinct nat_eq (one.header.serial ∷ serials_in beliefs))
    → Left beliefs contents images → Left (b ∷ beliefs) (file ∷ contents) (one ∷ images)
unfolding IsDistinct
is_there b one beliefs contents file images has is only others distinct rest = record {
  slots = inr (one, images, refl, image_opens file one is, is, rest.slots);
  left = record {
    kept = λ i c. elim (contains_cases b (Kept i) beliefs c) [
      | inl e ↦ subst (Contains (one ∷ images)) (sym (only i e)) (contains_front one images)
      | inr d ↦ contains_later one i images (rest.left.kept i d)
    ];
    within = λ i c. elim (contains_cases one i images c) [
      | inl e ↦ subst (λ (k : Image). Contains (b ∷ beliefs) (Kept k) ⊎ (Contains (b ∷ beliefs) (Closing k) ⊎ Contains (b ∷ beliefs) (Opening k))) (sym e) (mine has)
      | inr d ↦ elim (rest.left.within i d) [
        | inl kept ↦ inl (contains_later b (Kept i) beliefs kept)
        | inr (inl closing) ↦ inr (inl (contains_later b (Closing i) beliefs closing))
        | inr (inr opening) ↦ inr (inr (contains_later b (Opening i) beliefs opening))
      ]
    ];
  };
  others = λ serial all. let both = others serial all in (both.0, rest.others serial both.1);
  distinct = λ all. let both = distinct all in (rest.others one.header.serial both.0, rest.distinct both.1);
}
  where
    mine : Has b one → Contains (b ∷ beliefs) (Kept one) ⊎ (Contains (b ∷ beliefs) (Closing one) ⊎ Contains (b ∷ beliefs) (Opening one))
    mine (inl e) = inl (subst (Contains (b ∷ beliefs)) e (contains_front b beliefs))
    mine (inr (inl e)) = inr (inl (subst (Contains (b ∷ beliefs)) e (contains_front b beliefs)))
    mine (inr (inr e)) = inr (inr (subst (Contains (b ∷ beliefs)) e (contains_front b beliefs)))

left_of : (beliefs : List Belief) (contents : List (List ℕ)) → AllZip FitsBelief beliefs contents → (images : List Image) × Left beliefs contents images
unfolding IsDistinct
left_of [] [] fits = (
  [],
  record {
    slots = refl;
    left = record { kept = λ i c. absurd (contains_none (Kept i) c); within = λ i c. absurd (contains_none i c) };
    others = λ serial all. tt;
    distinct = λ all. tt;
  },
)
left_of [] (file ∷ contents) fits = absurd fits
left_of (b ∷ beliefs) [] fits = absurd fits
left_of (Closed ∷ beliefs) (file ∷ contents) fits =
    let rest = left_of beliefs contents fits.1 in
    (rest.0, not_there Closed beliefs contents file rest.0 (λ i e. absurd cc) fits.0 (λ serial all. all) (λ all. all) rest.1)
left_of (Kept i ∷ beliefs) (file ∷ contents) fits =
    let rest = left_of beliefs contents fits.1 in
    (i ∷ rest.0, is_there (Kept i) i beliefs contents file rest.0 (inl refl) fits.0 (λ k e. cc) (λ serial all. all) (λ all. all) rest.1)
left_of (Closing i ∷ beliefs) (file ∷ contents) fits =
    let rest = left_of beliefs contents fits.1 in
    elim fits.0 [
      | inl closed ↦ (rest.0, not_there (Closing i) beliefs contents file rest.0 (λ k e. absurd cc) closed (λ serial all. all.1) (λ all. all.1) rest.1)
      | inr is ↦ (i ∷ rest.0, is_there (Closing i) i beliefs contents file rest.0 (inr (inl refl)) is (λ k e. absurd cc) (λ serial all. all) (λ all. all) rest.1)
    ]
left_of (Opening i ∷ beliefs) (file ∷ contents) fits =
    let rest = left_of beliefs contents fits.1 in
    elim fits.0 [
      | inl closed ↦ (rest.0, not_there (Opening i) beliefs contents file rest.0 (λ k e. absurd cc) closed (λ serial all. all.1) (λ all. all.1) rest.1)
      | inr is ↦ (i ∷ rest.0, is_there (Opening i) i beliefs contents file rest.0 (inr (inr refl)) is (λ k e. absurd cc) (λ serial all. all) (λ all. all) rest.1)
    ]

-- no two slots have images with one serial
abbrev AreApart : List Belief → Type 0
AreApart beliefs = (a b : ℕ) (i j : Image) → image_at beliefs a ≡ Some i → image_at beliefs b ≡ Some j → i.header.serial ≡ j.header.serial → a ≡ b

not_among : (serial : ℕ) (beliefs : List Belief) → ((slot : ℕ) (j : Image) → image_at beliefs slot ≡ Some j → serial ≡ j.header.serial → ⊥) → OthersThan serial (serials_in beliefs)
not_among serial [] never = tt
not_among serial (Closed ∷ beliefs) never = not_among serial beliefs (λ slot. never (suc slot))
not_among serial (Kept i ∷ beliefs) never = (ne_eqb serial i.header.serial (never 0 i refl), not_among serial beliefs (λ slot. never (suc slot)))
not_among serial (Closing i ∷ beliefs) never = (ne_eqb serial i.header.serial (never 0 i refl), not_among serial beliefs (λ slot. never (suc slot)))
not_among serial (Opening i ∷ beliefs) never = (ne_eqb serial i.header.serial (never 0 i refl), not_among serial beliefs (λ slot. never (suc slot)))

tail_apart : (b : Belief) (beliefs : List Belief) → AreApart (b ∷ beliefs) → AreApart beliefs
tail_apart b beliefs apart x y i j p q e = let same = apart (suc x) (suc y) i j p q e in omega (arith, same)

front_apart : (b : Belief) (one : Image) (beliefs : List Belief) → image_in b ≡ Some one → AreApart (b ∷ beliefs) → OthersThan one.header.serial (serials_in beliefs)
front_apart b one beliefs has apart = not_among one.header.serial beliefs (λ slot j there e. let same = apart 0 (suc slot) one j has there e in absurd (omega (arith, same)))

distinct_serials : (beliefs : List Belief) → AreApart beliefs → IsDistinct nat_eq (serials_in beliefs)
unfolding IsDistinct
distinct_serials [] apart = tt
distinct_serials (Closed ∷ beliefs) apart = distinct_serials beliefs (tail_apart Closed beliefs apart)
distinct_serials (Kept i ∷ beliefs) apart = (front_apart (Kept i) i beliefs refl apart, distinct_serials beliefs (tail_apart (Kept i) beliefs apart))
distinct_serials (Closing i ∷ beliefs) apart = (front_apart (Closing i) i beliefs refl apart, distinct_serials beliefs (tail_apart (Closing i) beliefs apart))
distinct_serials (Opening i ∷ beliefs) apart = (front_apart (Opening i) i beliefs refl apart, distinct_serials beliefs (tail_apart (Opening i) beliefs apart))

shown_by : (beliefs : List Belief) (contents : List (List ℕ)) (images : List Image) (shown : Option (ℕ × PlainMemory)) → Left beliefs contents images
    → IsDistinct nat_eq (serials_in beliefs) → ImagesShow images shown → Shows contents shown
shown_by beliefs contents images shown left distinct newest =
    record { images = images; store = record { slots = left.slots; serials = left.distinct distinct }; newest = newest }

pub contents_show_lem : ContentsShow
contents_show_lem = record {
  last = λ s beliefs contents shown sound slots fits was.
      let left = left_of beliefs contents fits in
      shown_by beliefs contents left.0 shown left.1 (distinct_serials beliefs slots.serials) (left_last s beliefs left.0 shown sound slots left.1.left was);
  pending = λ s dump beliefs contents last next sound slots fits was follows.
      let left = left_of beliefs contents fits in
      elim (left_pending s dump beliefs left.0 last next sound slots left.1.left was follows) [
        | inl is ↦ inl (shown_by beliefs contents left.0 last left.1 (distinct_serials beliefs slots.serials) is)
        | inr is ↦ inr (shown_by beliefs contents left.0 next left.1 (distinct_serials beliefs slots.serials) is)
      ];
}
