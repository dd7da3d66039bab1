-- Whether a catalog shows a checkpoint, and the serials of its images.
use Rattle.std.proofs.Common.{◌≡◌, ℕ, zero, suc, ◌||◌, Bool, true, false, List, [], ◌∷◌, ◌++◌, map, take, slice_get, is_some, Option, Some, None, Bor, refl, sym, ◌∙◌, ap, arith}
use Rattle.std.specs.List.{list_any}
use Rattle.std.proofs.lemmas.List.Folds.{list_any_none}
use Rattle.std.proofs.lemmas.Option.{same_Some, slice_get-get_or}
use Rattle.std.proofs.Math.Bool.{or-true}
use Rattle.sd_chain.specs.Catalog.{IsNewestChoice, Opened, Places, images, serial_of}
use Rattle.sd_image.specs.declared.header.Kind.{Kind}
use Rattle.sd_image.specs.declared.header.Kind.TheVariants.{PreDump}
use Rattle.sd_core.specs.Merging.{has_tip, is_restored}

abbrev restored : Opened → Bool
restored i = is_restored i.header.kind

restored_kind : (kind : Kind) → (kind ≡ PreDump → ⊥) → is_restored kind ≡ true
restored_kind kind other = grind arith

not_restored : (kind : Kind) → ((kind ≡ PreDump → ⊥) → ⊥) → is_restored kind ≡ false
not_restored kind not_other = grind arith

any_at : (all : List Opened) (place : ℕ) (i : Opened) → slice_get all place ≡ Some i → restored i ≡ true → list_any restored all ≡ true
any_at [] place i at is = absurd (let no : None ≡ Some i = at in cc)
any_at (x ∷ all) zero i at is = ap (λ b. b || list_any restored all) (ap restored (same_Some x i at) ∙ is)
any_at (x ∷ all) (suc place) i at is = ap (λ b. restored x || b) (any_at all place i at is) ∙ or-true (restored x)

pub tip_is_some : (places : Places) (chosen : Option (Bor Opened)) → IsNewestChoice (images places) chosen → is_some chosen ≡ has_tip places
tip_is_some places None none = sym (list_any_none restored (images places) (λ k d within. not_restored _ (none k d within)))
tip_is_some places (Some tip) is = sym (any_at (images places) is.member.0 tip.now (slice_get-get_or (images places) is.member.0 tip.now is.member.1 ∙ ap Some is.member.2)
    (restored_kind tip.now.header.kind is.restored))

-- a store with a tip
pub tip_not_none : (places : Places) → has_tip places ≡ true → (chosen : Option (Bor Opened)) → IsNewestChoice (images places) chosen → chosen ≡ None → ⊥
tip_not_none places is chosen newest none = (let no : false ≡ true = sym (ap is_some none) ∙ tip_is_some places chosen newest ∙ is in cc)

-- ---- serials

pub serials_are : (all : List (Bor Opened)) → map (λ (i : Bor Opened). i.now.header.serial) all ≡ map serial_of (map (λ i. i.now) all)
serials_are [] = refl
serials_are (i ∷ all) = ap (λ rest. i.now.header.serial ∷ rest) (serials_are all)

pub serials_more : (all : List (Bor Opened)) (place : ℕ) (i : Bor Opened) → slice_get all place ≡ Some i
    → map (λ (i : Bor Opened). i.now.header.serial) (take (suc place) all) ≡ map (λ (i : Bor Opened). i.now.header.serial) (take place all) ++ i.now.header.serial ∷ []
serials_more [] place i at = absurd (let no : None ≡ Some i = at in cc)
serials_more (x ∷ all) zero i at = ap (λ (o : Bor Opened). o.now.header.serial ∷ []) (same_Some x i at)
serials_more (x ∷ all) (suc place) i at = ap (λ rest. x.now.header.serial ∷ rest) (serials_more all place i at)

pub never_some : {X : Type 0} (one : Option X) → ((x : X) → one ≡ Some x → ⊥) → one ≡ None
never_some one none = grind arith
