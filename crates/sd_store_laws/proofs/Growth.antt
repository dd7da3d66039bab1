-- A list of images with one more.
use Rattle.std.proofs.Common.{◌≡◌, ◌≢◌, ◌⊎◌, ℕ, ◌<◌, ◌≤◌, List, Contains, refl, sym, ◌∙◌, ap, subst, inl, inr, arith}
use Rattle.sd_image.specs.Image.{Image}
use Rattle.sd_image.specs.Shows.{IsNamed, IsNotAfter, IsRestorable, IsTip}
use Rattle.sd_image.specs.Laws.{SerialsDiffer}
use Rattle.sd_store_laws.specs.Needed.{IsCalled, by_tip, by_job, by_parent}
use Rattle.sd_store_laws.specs.Steps.{Adds}

-- what holds of the tip's parent and of the jobs' numbers, and of the parent of whatever such a number names, holds of each referenced number
pub called_all : (images : List Image) (jobs : List ℕ) (P : ℕ → Type 0) → ((tip : Image) → IsTip images tip → P tip.header.parent)
    → ((number : ℕ) → Contains jobs number → P number) → ((number : ℕ) (i : Image) → P number → IsNamed images number i → P i.header.parent)
    → (number : ℕ) → IsCalled images jobs number → P number
called_all images jobs P tips asked next number (by_tip _ tip is parent) = subst P parent (tips tip is)
called_all images jobs P tips asked next number (by_job _ among) = asked number among
called_all images jobs P tips asked next number (by_parent _ before i called named parent) =
    subst P parent (next before i (called_all images jobs P tips asked next before called) named)

pub fewer_named : (old new : List Image) (i : Image) (number : ℕ) (j : Image) → Adds old i new → IsNamed new number j → (j ≡ i) ⊎ IsNamed old number j
fewer_named old new i number j adds named = elim ((adds j).0 named.member) [
  | inl same ↦ inl same
  | inr among ↦ inr (record {
    member = among;
    stands = named.stands;
    greatest = λ k c is. named.greatest k ((adds k).1 (inr c)) is;
  })
]

pub more_named : (old new : List Image) (i : Image) (number : ℕ) (j : Image) → Adds old i new → (i.header.stands_for ≡ number → i.header.serial ≤ j.header.serial)
    → IsNamed old number j → IsNamed new number j
more_named old new i number j adds less named = record {
  member = (adds j).1 (inr named.member);
  stands = named.stands;
  greatest = λ k c is. elim ((adds k).0 c) [
    | inl same ↦ subst (λ (x : Image). x.header.serial ≤ j.header.serial) (sym same) (less (ap (λ (x : Image). x.header.stands_for) (sym same) ∙ is))
    | inr among ↦ named.greatest k among is
  ];
}

-- the one that is added is named, where its serial is above those of all that stand for the same number
pub new_named : (old new : List Image) (i : Image) → Adds old i new
    → ((j : Image) → Contains old j → j.header.stands_for ≡ i.header.stands_for → j.header.serial < i.header.serial) → IsNamed new i.header.stands_for i
new_named old new i adds above = record {
  member = (adds i).1 (inl refl);
  stands = refl;
  greatest = λ k c is. elim ((adds k).0 c) [
    | inl same ↦ subst (λ (x : Image). x.header.serial ≤ i.header.serial) (sym same) (omega arith)
    | inr among ↦ let less = above k among is in omega (arith, less)
  ];
}

pub fewer_tip : (old new : List Image) (i tip : Image) → Adds old i new → IsTip new tip → (tip ≡ i) ⊎ IsTip old tip
fewer_tip old new i tip adds is = elim ((adds tip).0 is.member) [
  | inl same ↦ inl same
  | inr among ↦ inr (record {
    member = among;
    restorable = is.restorable;
    greatest = λ k c restorable. is.greatest k ((adds k).1 (inr c)) restorable;
  })
]

pub more_tip : (old new : List Image) (i tip : Image) → Adds old i new → (IsRestorable i → IsNotAfter i tip) → IsTip old tip → IsTip new tip
more_tip old new i tip adds less is = record {
  member = (adds tip).1 (inr is.member);
  restorable = is.restorable;
  greatest = λ k c restorable. elim ((adds k).0 c) [
    | inl same ↦ subst (λ (x : Image). IsNotAfter x tip) (sym same) (less (subst IsRestorable same restorable))
    | inr among ↦ is.greatest k among restorable
  ];
}

pub new_tip : (old new : List Image) (i : Image) → Adds old i new → IsRestorable i
    → ((j : Image) → Contains old j → IsRestorable j → IsNotAfter j i) → IsTip new i
new_tip old new i adds is newest = record {
  member = (adds i).1 (inl refl);
  restorable = is;
  greatest = λ k c restorable. elim ((adds k).0 c) [
    | inl same ↦ subst (λ (x : Image). IsNotAfter x i) (sym same) (inr (refl, omega arith))
    | inr among ↦ newest k among restorable
  ];
}

pub serials_more : (old new : List Image) (i : Image) → Adds old i new → ((j : Image) → Contains old j → j.header.serial ≢ i.header.serial)
    → SerialsDiffer old → SerialsDiffer new
serials_more old new i adds other differ a b c d same = elim ((adds a).0 c) [
  | inl e ↦ elim ((adds b).0 d) [
    | inl f ↦ e ∙ sym f
    | inr f ↦ absurd (other b f (sym same ∙ ap (λ (x : Image). x.header.serial) e))
  ]
  | inr e ↦ elim ((adds b).0 d) [
    | inl f ↦ absurd (other a e (same ∙ ap (λ (x : Image). x.header.serial) f))
    | inr f ↦ differ a b e f same
  ]
]

pub falls_more : (old new : List Image) (i : Image) → Adds old i new → i.header.parent < i.header.stands_for
    → ((j : Image) → Contains old j → j.header.parent < j.header.stands_for) → (j : Image) → Contains new j → j.header.parent < j.header.stands_for
falls_more old new i adds here fall j c = elim ((adds j).0 c) [
  | inl same ↦ subst (λ (x : Image). x.header.parent < x.header.stands_for) (sym same) here
  | inr among ↦ fall j among
]
