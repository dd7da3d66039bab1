-- The worked stores show what they are said to show.
use Rattle.sd_image.proofs.ReadyLemmas.{image_opens}
use Rattle.sd_store_laws.proofs.Files.{a_file, b_file, m_file}
use Rattle.std.specs.List.{slice_get, IsDistinct}
use Rattle.std.proofs.Common.{◌≡◌, ◌⊎◌, ◌<◌, ℕ, List, [], ◌∷◌, Some, Contains, refl, sym, ◌∙◌, ap, subst, inl, inr, arith, length}
use Rattle.sd_areas.specs.Pages.{pages_from}
use Rattle.sd_image.specs.declared.header.Kind.{Kind}
use Rattle.sd_image.specs.declared.header.Kind.TheVariants.{PreDump, Dump, Merged}
use Rattle.sd_image.specs.declared.run.RunKind.TheVariants.{Data, Parent, Zero}
use Rattle.sd_image.specs.Table.{Listed}
use Rattle.sd_image.specs.Image.{Image, OpenImages}
use Rattle.sd_image.specs.Shows.{Holds, by_data, by_parent, IsNamed, IsNotAfter, IsRestorable, IsTip, by_zero, pages_of, Shows, ImagesShow}
use Rattle.sd_store_laws.specs.Reached.{Reaches, itself, beyond}
use Rattle.sd_store_laws.specs.Needed.{by_job}
use Rattle.sd_image.specs.Laws.{SerialsDiffer}
use Rattle.sd_image.proofs.Members.{contains_cases, contains_front, contains_later, contains_none}
use Rattle.sd_store_laws.specs.Cut.{HoldsAlike, Repeats}
use Rattle.sd_store_laws.specs.Store.{IsSoundStore}
use Rattle.sd_store_laws.specs.Steps.{checkpoint_begun, found_store}
use Rattle.sd_store_laws.specs.Worked.{ChainRows, WhyItGrows, found, one_page_memory, merged, one_page, unchanged, whole, file_of}
use Rattle.sd_image.proofs.OneMemory.{named_once_among as one_named}
use Rattle.sd_store_laws.proofs.OnePage.{page_memory}
use Rattle.sd_store_laws.proofs.StepLemmas.{steps_keep_lem}

-- ---- what holds of each image of a short list

pub each_of_one : (P : Image → Type 0) (a : Image) → P a → (i : Image) → Contains (a ∷ []) i → P i
each_of_one P a pa i c = elim (contains_cases a i [] c) [
  | inl e ↦ subst P (sym e) pa
  | inr d ↦ absurd (contains_none i d)
]

pub each_of_two : (P : Image → Type 0) (a b : Image) → P a → P b → (i : Image) → Contains (a ∷ b ∷ []) i → P i
each_of_two P a b pa pb i c = elim (contains_cases a i (b ∷ []) c) [
  | inl e ↦ subst P (sym e) pa
  | inr d ↦ each_of_one P b pb i d
]

pub each_of_three : (P : Image → Type 0) (a b c : Image) → P a → P b → P c → (i : Image) → Contains (a ∷ b ∷ c ∷ []) i → P i
each_of_three P a b c pa pb pc i d = elim (contains_cases a i (b ∷ c ∷ []) d) [
  | inl e ↦ subst P (sym e) pa
  | inr f ↦ each_of_two P b c pb pc i f
]

-- ---- pages

pub holds_whole : (images : List Image) (kind : Kind) (serial stands_for parent checkpoint : ℕ) (bytes : List ℕ)
    → Holds images 1 16 bytes (one_page kind serial stands_for parent checkpoint Data (bytes ∷ []))
unfolding pages_from
holds_whole images kind serial stands_for parent checkpoint bytes = by_data (one_page kind serial stands_for parent checkpoint Data (bytes ∷ [])) 0 refl refl

pub holds_unchanged : (images : List Image) (serial parent checkpoint : ℕ) (bytes : List ℕ) (i : Image) → IsNamed images parent i → Holds images 1 16 bytes i
    → Holds images 1 16 bytes (unchanged serial parent checkpoint)
unfolding pages_from
holds_unchanged images serial parent checkpoint bytes i named holds =
    by_parent (unchanged serial parent checkpoint) i (0, omega arith, refl) named holds

-- images with the same table and pages hold the same, where no page is left to the parent
same_bytes : (xs ys : List Image) (space page : ℕ) (bytes : List ℕ) (j i : Image) → i.spaces ≡ j.spaces → i.pages ≡ j.pages
    → (Contains (pages_of Parent i.spaces) (space, page) → ⊥) → Holds xs space page bytes i → Holds ys space page bytes j
same_bytes xs ys space page bytes j i spaces pages none (by_data _ place has is) =
    by_data j place (subst (λ (ss : List Listed). slice_get (pages_of Data ss) place ≡ Some (space, page)) spaces has)
    (subst (λ (ps : List (List ℕ)). slice_get ps place ≡ Some bytes) pages is)
same_bytes xs ys space page bytes j i spaces pages none (by_zero _ has is) =
    by_zero j (subst (λ (ss : List Listed). Contains (pages_of Zero ss) (space, page)) spaces has) is
same_bytes xs ys space page bytes j i spaces pages none (by_parent _ parent has named holds) = absurd (none has)

-- a merged image of a page that a dump has repeats it
pub alike_pages : (images : List Image) (one other : Kind) (serial later stands_for checkpoint : ℕ) (bytes : List ℕ)
    → HoldsAlike images (one_page one serial stands_for 0 checkpoint Data (bytes ∷ [])) (one_page other later stands_for 0 checkpoint Data (bytes ∷ []))
alike_pages images one other serial later stands_for checkpoint bytes others space page held = grind (arith, same_bytes, contains_none)

dump_restores : (i : Image) → i.header.kind ≡ Dump → IsRestorable i
dump_restores i e f = let both : Dump ≡ PreDump = sym e ∙ f in absurd cc

-- ---- the rows of the chain

module _ (bytes other : List ℕ) where
  abbrev a : Image
  a = whole 1 1 bytes

  abbrev b : Image
  b = unchanged 2 1 2

  abbrev m : Image
  m = merged 3 1 1 other

  first_row : ImagesShow (a ∷ []) (Some (1, one_page_memory bytes))
  first_row = (
    a,
    record {
      member = contains_front a [];
      restorable = dump_restores a refl;
      greatest = λ j c restorable. each_of_one (λ k. IsNotAfter k a) a (inr (refl, omega arith)) j c;
    },
    refl,
    page_memory bytes Dump 1 1 0 1 Data (bytes ∷ []) (a ∷ []) (holds_whole (a ∷ []) Dump 1 1 0 1 bytes),
  )

  a_named : IsNamed (a ∷ b ∷ []) 1 a
  a_named = grind arith

  second_row : ImagesShow (a ∷ b ∷ []) (Some (2, one_page_memory bytes))
  second_row = (
    b,
    record {
      member = contains_later a b (b ∷ []) (contains_front b []);
      restorable = dump_restores b refl;
      greatest = λ j c restorable. each_of_two (λ k. IsNotAfter k b) a b (inl (omega arith)) (inr (refl, omega arith)) j c;
    },
    refl,
    page_memory bytes Dump 2 2 1 2 Parent [] (a ∷ b ∷ []) (holds_unchanged (a ∷ b ∷ []) 2 1 2 bytes a a_named (holds_whole (a ∷ b ∷ []) Dump 1 1 0 1 bytes)),
  )

  abbrev three : List Image
  three = a ∷ b ∷ m ∷ []

  m_named : IsNamed three 1 m
  m_named = grind arith

  third_row : ImagesShow three (Some (2, one_page_memory other))
  third_row = (
    b,
    record {
      member = contains_later a b (b ∷ m ∷ []) (contains_front b (m ∷ []));
      restorable = dump_restores b refl;
      greatest = λ j c restorable. each_of_three (λ k. IsNotAfter k b) a b m (inl (omega arith)) (inr (refl, omega arith)) (inl (omega arith)) j c;
    },
    refl,
    page_memory other Dump 2 2 1 2 Parent [] three (holds_unchanged three 2 1 2 other m m_named (holds_whole three Merged 3 1 0 1 other)),
  )

  serials_three : SerialsDiffer three
  serials_three i j c d = grind arith

  -- what is reached from an image that stands for another number stands for it, or is reached beyond it
  from_m : (i start : Image) → start.header.parent ≡ 0 → Reaches three i start → i ≡ start
  from_m i start none (itself) = refl
  from_m i start none (beyond _ up named reaches) =
      absurd (each_of_three (λ k. k.header.stands_for ≡ start.header.parent → ⊥) a b m (λ e. omega (arith, e, none)) (λ e. omega (arith, e, none)) (λ e. omega (arith, e, none)) up named.member named.stands)

  from_b : (i start : Image) → start.header.parent ≡ 1 → Reaches three i start → (i ≡ start) ⊎ (i ≡ m)
  from_b i start one (itself) = inl refl
  from_b i start one (beyond _ up named reaches) =
      let is : up ≡ m = one_named three 1 up m serials_three (subst (λ n. IsNamed three n up) one named) m_named in
      inr (from_m i up (ap (λ (k : Image). k.header.parent) is) reaches ∙ is)

  a_not_reached : Reaches three a b → ⊥
  a_not_reached reaches = elim (from_b a b refl reaches) [
    | inl e ↦ let same : 1 ≡ 2 = ap (λ (k : Image). k.header.serial) e in omega (arith, same)
    | inr e ↦ let same : 1 ≡ 3 = ap (λ (k : Image). k.header.serial) e in omega (arith, same)
  ]

  -- the files of the three
  open_files : length bytes ≡ 4096 → length other ≡ 4096 → OpenImages (file_of a ∷ file_of b ∷ file_of m ∷ []) three
  open_files long long_too =
      let first = a_file bytes long in
      let last = m_file other long_too in
      inr (
        a,
        b ∷ m ∷ [],
        refl,
        image_opens (file_of a) a first,
        first,
        inr (
          b,
          m ∷ [],
          refl,
          image_opens (file_of b) b b_file,
          b_file,
          inr (m, [], refl, image_opens (file_of m) m last, last, refl),
        ),
      )

  file_rows : length bytes ≡ 4096 → length other ≡ 4096 → Shows (file_of a ∷ file_of b ∷ file_of m ∷ []) (Some (2, one_page_memory other))
  unfolding IsDistinct
  file_rows long long_too = record {
    images = three;
    store = record { slots = open_files long long_too; serials = ((refl, (refl, tt)), ((refl, tt), (tt, tt))) };
    newest = third_row;
  }

  pub chain_rows_lem : ChainRows bytes other
  chain_rows_lem = record {
    first = first_row;
    second = second_row;
    third = third_row;
    reaches = beyond b m m_named itself;
    no_more = a_not_reached;
    files = file_rows;
  }

  -- ---- a store whose tip isn't named by its own number

  abbrev t : Image
  t = whole 5 2 bytes

  abbrev n : Image
  n = merged 6 5 1 other

  abbrev d : Image
  d = unchanged 7 5 3

  found_differ : SerialsDiffer (found bytes other)
  found_differ i j c e = grind arith

  found_tip : IsTip (found bytes other) t
  found_tip = grind arith

  n_named : IsNamed (found bytes other) 5 n
  n_named = grind arith

  n_named_later : IsNamed (d ∷ found bytes other) 5 n
  n_named_later = grind arith

  changed : ImagesShow (d ∷ found bytes other) (Some (3, one_page_memory other))
  changed = (
    d,
    record {
      member = contains_front d (t ∷ n ∷ []);
      restorable = dump_restores d refl;
      greatest = λ j c restorable. each_of_three (λ k. IsNotAfter k d) d t n (inr (refl, omega arith)) (inl (omega arith)) (inl (omega arith)) j c;
    },
    refl,
    page_memory other Dump 7 7 5 3 Parent [] (d ∷ found bytes other)
        (holds_unchanged (d ∷ found bytes other) 7 5 3 other n n_named_later (holds_whole (d ∷ found bytes other) Merged 6 5 0 1 other)),
  )

  abbrev w : Image
  w = merged 8 5 2 bytes

  abbrev four : List Image
  four = d ∷ w ∷ t ∷ n ∷ []

  each_of_four : (P : Image → Type 0) → P d → P w → P t → P n → (i : Image) → Contains four i → P i
  each_of_four P pd pw pt pn i c = elim (contains_cases d i (w ∷ t ∷ n ∷ []) c) [
    | inl e ↦ subst P (sym e) pd
    | inr f ↦ each_of_three P w t n pw pt pn i f
  ]

  w_named : IsNamed four 5 w
  w_named = grind arith

  otherwise : ImagesShow four (Some (3, one_page_memory bytes))
  otherwise = (
    d,
    record {
      member = contains_front d (w ∷ t ∷ n ∷ []);
      restorable = dump_restores d refl;
      greatest = λ j c restorable. each_of_four (λ k. IsNotAfter k d) (inr (refl, omega arith)) (inl (omega arith)) (inl (omega arith)) (inl (omega arith)) j c;
    },
    refl,
    page_memory bytes Dump 7 7 5 3 Parent [] four (holds_unchanged four 7 5 3 bytes w w_named (holds_whole four Merged 8 5 0 2 bytes)),
  )

  twin : Repeats (found bytes other) t w
  twin = record { checkpoint = refl; stands = refl; areas = refl; bytes = alike_pages (found bytes other) Dump Merged 5 8 5 2 bytes }

  unsound : IsSoundStore (checkpoint_begun (found_store (found bytes other)) 5) → ⊥
  unsound sound =
      let named = (sound.tip t found_tip).named (by_job 5 (contains_front 5 [])) in
      let less = named.greatest n n_named.member refl in
      omega (arith, less)

  pub why_it_grows_lem : WhyItGrows bytes other
  why_it_grows_lem = record {
    sound = steps_keep_lem.opens (found bytes other) found_differ (each_of_two (λ k. k.header.parent < k.header.stands_for) t n (omega arith) (omega arith));
    tip = found_tip;
    shows = (t, found_tip, refl, page_memory bytes Dump 5 5 0 2 Data (bytes ∷ []) (found bytes other) (holds_whole (found bytes other) Dump 5 5 0 2 bytes));
    misnamed = n_named;
    changed = changed;
    twin = twin;
    otherwise = otherwise;
    unsound = unsound;
  }
