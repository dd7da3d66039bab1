-- The catalog of a store's first slots, and of one slot more.
use Rattle.std.proofs.Common.{◌≡◌, ◌⊎◌, ℕ, zero, suc, Bool, true, false, nat_eq, cond, List, [], ◌∷◌, ◌++◌, length, Some, refl, sym, ◌∙◌, ap, subst, inl, inr, arith}
use Rattle.std.specs.List.{slice_get}
use Rattle.std.proofs.lemmas.Bool.{eq-eqb, false≢true, ne_eqb}
use Rattle.std.proofs.lemmas.Option.{none-some, same_Some}
use Rattle.sd_image.specs.Image.{Image, is_open}
use Rattle.sd_chain.specs.Catalog.{Opened, place_of}
use Rattle.sd_chain.specs.Store.{IsOpenedAs}
use Rattle.sd_chain.specs.Laws.{ClosedSlotAddsNothing, EmptyCatalog, OpenSlotAddsItsImage}
use Rattle.sd_chain.proofs.TablePages.{get_left, get_right}

-- an element of a list with one more
one_more : (xs : List (List ℕ)) (y z : List ℕ) (k : ℕ) → slice_get (xs ++ y ∷ []) k ≡ Some z → (slice_get xs k ≡ Some z) ⊎ ((k ≡ length xs) × (y ≡ z))
one_more [] y z zero e = inr (refl, same_Some y z e)
one_more [] y z (suc k) e = absurd (none-some z e)
one_more (x ∷ xs) y z zero e = inl e
one_more (x ∷ xs) y z (suc k) e = elim (one_more xs y z k e) [
  | inl here ↦ inl here
  | inr last ↦ inr (ap suc last.0, last.1)
]

still_opened : (contents : List (List ℕ)) (file : List ℕ) (i : Opened) (image : Image) → IsOpenedAs contents i image → IsOpenedAs (contents ++ file ∷ []) i image
still_opened contents file i image was =
    record { file = was.file; slot = get_left contents (file ∷ []) i.slot was.file was.slot; spelled = was.spelled; header = was.header; spaces = was.spaces }

pub empty_catalog_lem : EmptyCatalog
empty_catalog_lem = record {
  sound = λ serial i there. absurd (none-some (Some i) there);
  all = λ slot file there opens. absurd (none-some file there);
}

pub closed_slot_lem : ClosedSlotAddsNothing
closed_slot_lem contents places file catalog closed = record {
  sound = λ serial i there. let was = catalog.sound serial i there in (was.0, still_opened contents file i was.0 was.1);
  all = λ slot other there opens. elim (one_more contents file other slot there) [
    | inl here ↦ catalog.all slot other here opens
    | inr last ↦ absurd (false≢true (sym closed ∙ subst (λ (f : List ℕ). is_open f ≡ true) (sym last.1) opens))
  ];
}

pub open_slot_lem : OpenSlotAddsItsImage
open_slot_lem contents old new file i image catalog is header spaces slot fresh changes = record {
  sound = λ serial j there. sound serial j (nat_eq i.header.serial serial) refl (sym (changes serial) ∙ there);
  all = λ k other there opens. elim (one_more contents file other k there) [
    | inl here ↦
        let was = catalog.all k other here opens in
        let apart : nat_eq i.header.serial was.0 ≡ false =
        ne_eqb i.header.serial was.0 (λ e. fresh was.1 (ap (place_of old) e ∙ was.2)) in
        (was.0, was.1, changes was.0 ∙ ap (λ b. cond b (Some (Some i)) (place_of old was.0)) apart ∙ was.2, was.3)
    | inr last ↦
        let same : nat_eq i.header.serial i.header.serial ≡ true = eq-eqb i.header.serial i.header.serial refl in
        (i.header.serial, i, changes i.header.serial ∙ ap (λ b. cond b (Some (Some i)) (place_of old i.header.serial)) same, slot ∙ sym last.0)
  ];
}
  where
    mine : IsOpenedAs (contents ++ file ∷ []) i image
    mine = record { file = file; slot = get_right contents (file ∷ []) i.slot 0 (omega (arith, slot)); spelled = is; header = header; spaces = spaces }

    sound : (serial : ℕ) (j : Opened) (b : Bool) → nat_eq i.header.serial serial ≡ b → cond (nat_eq i.header.serial serial) (Some (Some i)) (place_of old serial) ≡ Some (Some j)
        → (picture : Image) × IsOpenedAs (contents ++ file ∷ []) j picture
    sound serial j true test there =
        let both : Some (Some i) ≡ Some (Some j) = ap (λ b. cond b (Some (Some i)) (place_of old serial)) (sym test) ∙ there in
        let same : i ≡ j = cc in
        (image, subst (λ (k : Opened). IsOpenedAs (contents ++ file ∷ []) k image) same mine)
    sound serial j false test there =
        let was = catalog.sound serial j (ap (λ b. cond b (Some (Some i)) (place_of old serial)) (sym test) ∙ there) in
        (was.0, still_opened contents file j was.0 was.1)
