-- Contents show one memory: an image of a store holds one page's bytes at each page, and so stands for one memory.
use Rattle.std.proofs.Common.{◌≡◌, ℕ, true, eqb, is_some, List, [], ◌∷◌, Contains, Option, Some, None, MatchOption, refl, sym, ◌∙◌, ap, subst, inl, inr, arith}
use Rattle.std.specs.List.{list_any, slice_get}
use Rattle.std.specs.FinMap as finmap
use Rattle.std.specs.FinMap.{same_map, nat_cmp-IsAntisymmetric}
use Rattle.std.specs.Option.{option_and_then}
use Rattle.std.proofs.lemmas.Bool.{eqb-true, or_cases}
use Rattle.std.proofs.lemmas.Cmp.{nat_cmp_total}
use Rattle.sd_areas.specs.Areas.{prot_in}
use Rattle.sd_areas.specs.PlainMemory.{Page, Space, PlainMemory}
use Rattle.sd_image.specs.declared.run.RunKind.TheVariants.{Data, Parent, Zero}
use Rattle.sd_image.specs.Table.{Listed}
use Rattle.sd_image.specs.Image.{Image}
use Rattle.sd_image.specs.Shows.{Holds, by_data, by_zero, by_parent, page_in, IsMemory, IsNamed, IsStore, ImagesShow}
use Rattle.sd_image.specs.Laws.{HaveTables, HeldOnce, HeldOnceAmong, SerialsDiffer, ShownOnce}
use Rattle.sd_image.proofs.OneImage.{image_of_file, one_store_lem, serial_once, tip_once_lem}
use Rattle.sd_image.proofs.PagePlaces.{among_data, kind_once, place_once}
use Rattle.sd_image.proofs.Members.{contains_front, contains_later}

-- ---- at a page an image holds one page's bytes

data_not_zero : Data ≡ Zero → ⊥
data_not_zero e = cc

data_not_parent : Data ≡ Parent → ⊥
data_not_parent e = cc

zero_not_parent : Zero ≡ Parent → ⊥
zero_not_parent e = cc

pub named_once_among : (images : List Image) (number : ℕ) (i j : Image) → SerialsDiffer images → IsNamed images number i → IsNamed images number j → i ≡ j
named_once_among images number i j differ a b =
    let low = a.greatest j b.member b.stands in
    let high = b.greatest i a.member a.stands in
    differ i j a.member b.member (omega arith)

pub held_once_among : HeldOnceAmong
held_once_among images space page one other i differ tables among (by_data _ p at is) (by_data _ q there was) =
    let same : p ≡ q = place_once Data i.header i.spaces p q (space, page) (tables i among).each at there in
    let here : slice_get i.pages p ≡ slice_get i.pages q = ap (slice_get i.pages) same in
    cc
held_once_among images space page one other i differ tables among (by_data _ p at is) (by_zero _ c was) =
    absurd (data_not_zero (kind_once i.header 0 i.spaces Data Zero (space, page) (tables i among).each (among_data i.spaces p (space, page) at) c))
held_once_among images space page one other i differ tables among (by_data _ p at is) (by_parent _ parent c named holds) =
    absurd (data_not_parent (kind_once i.header 0 i.spaces Data Parent (space, page) (tables i among).each (among_data i.spaces p (space, page) at) c))
held_once_among images space page one other i differ tables among (by_zero _ c is) (by_data _ p at was) =
    absurd (data_not_zero (kind_once i.header 0 i.spaces Data Zero (space, page) (tables i among).each (among_data i.spaces p (space, page) at) c))
held_once_among images space page one other i differ tables among (by_zero _ c is) (by_zero _ d was) = is ∙ sym was
held_once_among images space page one other i differ tables among (by_zero _ c is) (by_parent _ parent d named holds) =
    absurd (zero_not_parent (kind_once i.header 0 i.spaces Zero Parent (space, page) (tables i among).each c d))
held_once_among images space page one other i differ tables among (by_parent _ parent c named holds) (by_data _ p at was) =
    absurd (data_not_parent (kind_once i.header 0 i.spaces Data Parent (space, page) (tables i among).each (among_data i.spaces p (space, page) at) c))
held_once_among images space page one other i differ tables among (by_parent _ parent c named holds) (by_zero _ d was) =
    absurd (zero_not_parent (kind_once i.header 0 i.spaces Zero Parent (space, page) (tables i among).each d c))
held_once_among images space page one other i differ tables among (by_parent _ parent c named holds) (by_parent _ parent' d named' holds') =
    let same : parent' ≡ parent = named_once_among images i.header.parent parent' parent differ named' named in
    held_once_among images space page one other parent differ tables named.member holds (subst (Holds images space page other) same holds')

store_serials : (contents : List (List ℕ)) (images : List Image) → IsStore contents images → SerialsDiffer images
store_serials contents images store = λ i j a b e. serial_once images i j store.serials a b e

store_tables : (contents : List (List ℕ)) (images : List Image) → IsStore contents images → HaveTables images
store_tables contents images store = λ i among. (image_of_file contents images i store.slots among).1.table

pub held_once_lem : HeldOnce
held_once_lem contents images space page one other i store among =
    held_once_among images space page one other i (store_serials contents images store) (store_tables contents images store) among

-- ---- an image of a store stands for one memory

same_page : (p q : Page) → p.prot ≡ q.prot → p.bytes ≡ q.bytes → p ≡ q
same_page p q a b = rw (a, b) refl

found_once : (contents : List (List ℕ)) (images : List Image) (i : Image) (s : Listed) (page : ℕ) (a b : Option Page) → IsStore contents images → Contains images i
    → MatchOption a (prot_in s.areas page ≡ None) (λ found. (prot_in s.areas page ≡ Some found.prot) × Holds images s.space page found.bytes i)
    → MatchOption b (prot_in s.areas page ≡ None) (λ found. (prot_in s.areas page ≡ Some found.prot) × Holds images s.space page found.bytes i)
    → a ≡ b
found_once contents images i s page None None store among x y = refl
found_once contents images i s page None (Some q) store among x y = let e = y.0 in absurd cc
found_once contents images i s page (Some p) None store among x y = let e = x.0 in absurd cc
found_once contents images i s page (Some p) (Some q) store among x y =
    let a = x.0 in
    let b = y.0 in
    let prot : p.prot ≡ q.prot = cc in
    ap Some (same_page p q prot (held_once_lem contents images s.space page p.bytes q.bytes i store among x.1 y.1))

-- the listed space of a number
listed_at : (spaces : List Listed) (space : ℕ) → list_any (λ (s : Listed). eqb s.space space) spaces ≡ true → (s : Listed) × Contains spaces s × (s.space ≡ space)
listed_at [] space e = absurd cc
listed_at (s ∷ spaces) space e =
    elim (or_cases (eqb s.space space) (list_any (λ (t : Listed). eqb t.space space) spaces) e) [
      | inl here ↦ (s, contains_front s spaces, eqb-true s.space space here)
      | inr later ↦ let rest = listed_at spaces space later in (rest.0, contains_later s rest.0 spaces rest.1, rest.2)
    ]

same_space : (a b : Option Space) → is_some a ≡ is_some b → (is_some a ≡ true → (page : ℕ) → option_and_then (λ (pages : Space). finmap.get pages page) a ≡ option_and_then (λ (pages : Space). finmap.get pages page) b) → a ≡ b
same_space None None alive pages = refl
same_space (Some p) (Some q) alive pages = ap Some (same_map nat_cmp_total nat_cmp-IsAntisymmetric p q (pages refl))
same_space _ _ alive pages = absurd cc

memory_once : (contents : List (List ℕ)) (images : List Image) (i : Image) (m n : PlainMemory) → IsStore contents images → Contains images i
    → IsMemory images i m → IsMemory images i n → m ≡ n
memory_once contents images i m n store among a b = same_map nat_cmp_total nat_cmp-IsAntisymmetric m n (λ space.
    same_space (finmap.get m space) (finmap.get n space) (a.alive space ∙ sym (b.alive space)) (λ alive page.
    let found = listed_at i.spaces space (sym (a.alive space) ∙ alive) in
    subst (λ (k : ℕ). page_in m k page ≡ page_in n k page) found.2
    (found_once contents images i found.0 page (page_in m found.0.space page) (page_in n found.0.space page) store among
    (a.pages found.0 found.1 page) (b.pages found.0 found.1 page))))

same_moment : (a b : ℕ × PlainMemory) → a.0 ≡ b.0 → a.1 ≡ b.1 → a ≡ b
same_moment a b n m = rw (n, m) refl

newest_once : (contents : List (List ℕ)) (images : List Image) (one other : Option (ℕ × PlainMemory)) → IsStore contents images → ImagesShow images one → ImagesShow images other → one ≡ other
newest_once contents images None None store a b = refl
newest_once contents images None (Some y) store a b = absurd (a b.0 b.1.member b.1.restorable)
newest_once contents images (Some x) None store a b = absurd (b a.0 a.1.member a.1.restorable)
newest_once contents images (Some x) (Some y) store a b =
    let same : a.0 ≡ b.0 = tip_once_lem contents images a.0 b.0 store a.1 b.1 in
    let number : x.0 ≡ y.0 = sym a.2 ∙ ap (λ (i : Image). i.header.checkpoint) same ∙ b.2 in
    let stands : IsMemory images a.0 y.1 = subst (λ (i : Image). IsMemory images i y.1) (sym same) b.3 in
    ap Some (same_moment x y number (memory_once contents images a.0 x.1 y.1 store a.1.member a.3 stands))

pub shown_once_lem : ShownOnce
shown_once_lem contents one other a b =
    let same : b.images ≡ a.images = one_store_lem contents b.images a.images b.store.slots a.store.slots in
    newest_once contents a.images one other a.store a.newest (subst (λ (images : List Image). ImagesShow images other) same b.newest)
