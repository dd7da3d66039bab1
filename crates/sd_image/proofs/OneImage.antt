-- A file has one image, contents have one list of images, and serials distinguish them.
use Rattle.std.proofs.Common.{◌≡◌, ℕ, false, nat_eq, List, [], ◌∷◌, ◌++◌, map, length, Contains, refl, sym, ◌∙◌, ap, subst, inl, inr, arith, append_assoc}
use Rattle.std.proofs.lemmas.Bool.{eq-eqb}
use Rattle.std.specs.List.{concat, AllByRecursion, IsDistinct}
use Rattle.sd_image.specs.declared.header.Header.{Header}
use Rattle.sd_image.specs.Header.{header_text}
use Rattle.sd_image.specs.Table.{table_text, IsTable}
use Rattle.sd_image.specs.Image.{Image, IsImage, OpenImages, gate, image_text, is_open}
use Rattle.sd_image.specs.Laws.{NamedOnce, OneImage, OneSpelling, OneStore, TipOnce}
use Rattle.sd_image.proofs.HeaderRules.{header_length, header_once}
use Rattle.sd_image.proofs.TableLaws.{table_once}
use Rattle.sd_image.proofs.ShowsLemmas.{true_not_false}
use Rattle.sd_image.proofs.Members.{contains_cases}

-- two texts with fronts of one length
fronts_once : (a b : List ℕ) (s t : List ℕ) → length a ≡ length b → a ++ s ≡ b ++ t → (a ≡ b) × (s ≡ t)
fronts_once [] [] s t n e = (refl, e)
fronts_once (x ∷ a) (y ∷ b) s t n e =
    let rest : a ++ s ≡ b ++ t = cc in
    let found = fronts_once a b s t (omega arith) rest in
    let front : a ≡ b = found.0 in
    let first : x ≡ y = cc in
    (cc, found.1)
fronts_once _ _ s t n e = absurd (omega arith)

-- equally many pages, each of so many bytes, and what stands after them
pages_once : (n : ℕ) (ps qs : List (List ℕ)) (s t : List ℕ) → AllByRecursion (λ page. length page ≡ n) ps → AllByRecursion (λ page. length page ≡ n) qs
    → length ps ≡ length qs → concat ps ++ s ≡ concat qs ++ t → (ps ≡ qs) × (s ≡ t)
pages_once n [] [] s t a b m e = (refl, e)
pages_once n (p ∷ ps) (q ∷ qs) s t a b m e =
    let parts : p ++ (concat ps ++ s) ≡ q ++ (concat qs ++ t) = sym (append_assoc p (concat ps) s) ∙ e ∙ append_assoc q (concat qs) t in
    let first = fronts_once p q (concat ps ++ s) (concat qs ++ t) (a.0 ∙ sym b.0) parts in
    let rest = pages_once n ps qs s t a.1 b.1 (omega arith) first.1 in
    let here : p ≡ q = first.0 in
    let others : ps ≡ qs = rest.0 in
    (cc, rest.1)
pages_once n _ _ s t a b m e = absurd (omega arith)

same_image : (i j : Image) → i.header ≡ j.header → i.pages ≡ j.pages → i.spaces ≡ j.spaces → i ≡ j
same_image i j h p s = rw (h, p, s) refl

after_gate : (a b : List ℕ) → gate ∷ a ≡ gate ∷ b → a ≡ b
after_gate a b e = cc

pub one_spelling_lem : OneSpelling
one_spelling_lem one other i a b = a.spelled ∙ sym b.spelled

pub one_image_lem : OneImage
one_image_lem file i j a b =
    let text : image_text i ≡ image_text j = after_gate (image_text i) (image_text j) (sym a.spelled ∙ b.spelled) in
    let front = fronts_once (header_text i.header) (header_text j.header) (concat i.pages ++ table_text i.spaces) (concat j.pages ++ table_text j.spaces)
    (header_length i.header a.header.words ∙ sym (header_length j.header b.header.words))
    (sym (append_assoc (header_text i.header) (concat i.pages) (table_text i.spaces)) ∙ text ∙ append_assoc (header_text j.header) (concat j.pages) (table_text j.spaces)) in
    let header : i.header ≡ j.header = header_once i.header j.header a.header.words b.header.words front.0 in
    let many : length i.pages ≡ length j.pages = a.stored ∙ ap (λ (h : Header). h.pages) header ∙ sym b.stored in
    let pages = pages_once 4096 i.pages j.pages (table_text i.spaces) (table_text j.spaces) a.whole b.whole many front.1 in
    let table : IsTable i.header j.spaces = subst (λ (h : Header). IsTable h j.spaces) (sym header) b.table in
    same_image i j header pages.0 (table_once i.header i.spaces j.spaces a.table table pages.1)

pub one_store_lem : OneStore
one_store_lem [] images others a b = a ∙ sym b
one_store_lem (file ∷ files) images others (inl a) (inl b) = one_store_lem files images others a.1 b.1
one_store_lem (file ∷ files) images others (inl a) (inr b) = true_not_false (is_open file) b.3 a.0
one_store_lem (file ∷ files) images others (inr a) (inl b) = true_not_false (is_open file) a.3 b.0
one_store_lem (file ∷ files) images others (inr a) (inr b) =
    let first : a.0 ≡ b.0 = one_image_lem file a.0 b.0 a.4 b.4 in
    let rest : a.1 ≡ b.1 = one_store_lem files a.1 b.1 a.5 b.5 in
    let both : a.0 ∷ a.1 ≡ b.0 ∷ b.1 = cc in
    a.2 ∙ both ∙ sym b.2

-- each image of a store is the image of a file
pub image_of_file : (contents : List (List ℕ)) (images : List Image) (i : Image) → OpenImages contents images → Contains images i → (file : List ℕ) × IsImage file i
image_of_file [] images i none among = absurd (let c : Contains [] i = subst (λ (xs : List Image). Contains xs i) none among in omega (arith, c.1))
image_of_file (file ∷ files) images i (inl a) among = image_of_file files images i a.1 among
image_of_file (file ∷ files) images i (inr a) among =
    elim (contains_cases a.0 i a.1 (subst (λ (xs : List Image). Contains xs i) a.2 among)) [
      | inl e ↦ (file, subst (IsImage file) (sym e) a.4)
      | inr c ↦ image_of_file files a.1 i a.5 c
    ]

-- no image after has the serial of one that differs from all of theirs
pub stands_not_after : (n : ℕ) (images : List Image) (i : Image) → AllByRecursion (λ k. nat_eq n k ≡ false) (map (λ (j : Image). j.header.serial) images) → Contains images i
    → n ≡ i.header.serial → ⊥
stands_not_after n [] i differ among e = omega (arith, among.1)
stands_not_after n (j ∷ images) i differ among e =
    elim (contains_cases j i images among) [
      | inl is ↦ true_not_false (nat_eq n j.header.serial) (eq-eqb n j.header.serial (e ∙ ap (λ (k : Image). k.header.serial) is)) differ.0
      | inr c ↦ stands_not_after n images i differ.1 c e
    ]

-- distinct serials distinguish images
pub serial_once : (images : List Image) (i j : Image) → IsDistinct nat_eq (map (λ (k : Image). k.header.serial) images) → Contains images i → Contains images j
    → i.header.serial ≡ j.header.serial → i ≡ j
unfolding IsDistinct
serial_once [] i j distinct a b e = absurd (omega (arith, a.1))
serial_once (k ∷ images) i j distinct a b e =
    elim (contains_cases k i images a) [
      | inl p ↦ elim (contains_cases k j images b) [
        | inl q ↦ p ∙ sym q
        | inr d ↦ absurd (stands_not_after k.header.serial images j distinct.0 d (ap (λ (x : Image). x.header.serial) (sym p) ∙ e))
      ]
      | inr c ↦ elim (contains_cases k j images b) [
        | inl q ↦ absurd (stands_not_after k.header.serial images i distinct.0 c (ap (λ (x : Image). x.header.serial) (sym q) ∙ sym e))
        | inr d ↦ serial_once images i j distinct.1 c d e
      ]
    ]

pub named_once_lem : NamedOnce
named_once_lem contents images number i j store a b =
    let low = a.greatest j b.member b.stands in
    let high = b.greatest i a.member a.stands in
    serial_once images i j store.serials a.member b.member (omega arith)

pub tip_once_lem : TipOnce
tip_once_lem contents images i j store a b =
    serial_once images i j store.serials a.member b.member (
    elim (a.greatest j b.member b.restorable) [
      | inl low ↦ elim (b.greatest i a.member a.restorable) [
        | inl high ↦ absurd (omega arith)
        | inr high ↦ absurd (omega arith)
      ]
      | inr low ↦ elim (b.greatest i a.member a.restorable) [
        | inl high ↦ absurd (omega arith)
        | inr high ↦ omega arith
      ]
    ])
