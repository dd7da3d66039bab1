-- Of the images of a list, the one that a number names and the tip: there is one, or none to choose from.
use Rattle.std.proofs.Common.{◌≡◌, ◌≢◌, ◌⊎◌, ◌≤◌, ℕ, List, [], ◌∷◌, Contains, refl, sym, ◌∙◌, ap, subst, inl, inr, arith}
use Rattle.std.proofs.lemmas.Bool.{cases_eq, cases_lt}
use Rattle.sd_image.specs.declared.header.Kind.{Kind}
use Rattle.sd_image.specs.declared.header.Kind.TheVariants.{PreDump, Dump, Merged}
use Rattle.sd_image.specs.Image.{Image}
use Rattle.sd_image.specs.Shows.{IsNamed, IsNotAfter, IsRestorable, IsTip}
use Rattle.sd_image.specs.Laws.{SerialsDiffer}
use Rattle.sd_image.proofs.Members.{contains_cases, contains_front, contains_later, contains_none}

-- ---- the image that a number names

abbrev pub NobodyStands : List Image → ℕ → Type 0
NobodyStands images number = (i : Image) → Contains images i → i.header.stands_for ≡ number → ⊥

named_front : (images : List Image) (number : ℕ) (one : Image) → one.header.stands_for ≡ number
    → ((i : Image) → Contains images i → i.header.stands_for ≡ number → i.header.serial ≤ one.header.serial) → IsNamed (one ∷ images) number one
named_front images number one stands least = record {
  member = contains_front one images;
  stands = stands;
  greatest = λ j c is. elim (contains_cases one j images c) [
    | inl e ↦ subst (λ (k : Image). k.header.serial ≤ one.header.serial) (sym e) (omega arith)
    | inr d ↦ least j d is
  ];
}

named_later : (images : List Image) (number : ℕ) (one best : Image) → IsNamed images number best
    → (one.header.stands_for ≡ number → one.header.serial ≤ best.header.serial) → IsNamed (one ∷ images) number best
named_later images number one best named less = record {
  member = contains_later one best images named.member;
  stands = named.stands;
  greatest = λ j c is. elim (contains_cases one j images c) [
    | inl e ↦ subst (λ (k : Image). k.header.serial ≤ best.header.serial) (sym e) (less (ap (λ (k : Image). k.header.stands_for) (sym e) ∙ is))
    | inr d ↦ named.greatest j d is
  ];
}

pub find_named : (images : List Image) (number : ℕ) → NobodyStands images number ⊎ ((i : Image) × IsNamed images number i)
find_named [] number = inl (λ i c is. contains_none i c)
find_named (one ∷ images) number = elim (cases_eq one.header.stands_for number) [
  | inl stands ↦ elim (find_named images number) [
    | inl none ↦ inr (one, named_front images number one stands (λ i c is. absurd (none i c is)))
    | inr best ↦ elim (cases_lt one.header.serial best.0.header.serial) [
      | inl less ↦ inr (best.0, named_later images number one best.0 best.1 (λ is. omega arith))
      | inr more ↦ inr (one, named_front images number one stands (λ i c is. let h = best.1.greatest i c is in omega (arith, h, more)))
    ]
  ]
  | inr other ↦ elim (find_named images number) [
    | inl none ↦ inl (λ i c is. elim (contains_cases one i images c) [
      | inl e ↦ other (ap (λ (k : Image). k.header.stands_for) (sym e) ∙ is)
      | inr d ↦ none i d is
    ])
    | inr best ↦ inr (best.0, named_later images number one best.0 best.1 (λ is. absurd (other is)))
  ]
]

-- where an image stands for a number, one is named by it
pub some_named : (images : List Image) (number : ℕ) (i : Image) → Contains images i → i.header.stands_for ≡ number → (j : Image) × IsNamed images number j
some_named images number i c is = elim (find_named images number) [
  | inl none ↦ absurd (none i c is)
  | inr found ↦ found
]

-- ---- the tip

abbrev pub NobodyIsRestorable : List Image → Type 0
NobodyIsRestorable images = (i : Image) → Contains images i → IsRestorable i → ⊥

pub not_after_self : (i : Image) → IsNotAfter i i
not_after_self i = inr (refl, omega arith)

pub not_after_step : (a b c : Image) → IsNotAfter a b → IsNotAfter b c → IsNotAfter a c
not_after_step a b c given also = grind arith

order_cases : (a b : Image) → IsNotAfter a b ⊎ IsNotAfter b a
order_cases a b = grind arith

restorable_cases : (i : Image) → IsRestorable i ⊎ (IsRestorable i → ⊥)
restorable_cases i = by i.header.kind
  where
    by : (kind : Kind) → (kind ≢ PreDump) ⊎ ((kind ≢ PreDump) → ⊥)
    by PreDump = inr (λ never. never refl)
    by Dump = inl (λ e. cc)
    by Merged = inl (λ e. cc)

tip_front : (images : List Image) (one : Image) → IsRestorable one
    → ((i : Image) → Contains images i → IsRestorable i → IsNotAfter i one) → IsTip (one ∷ images) one
tip_front images one restorable least = record {
  member = contains_front one images;
  restorable = restorable;
  greatest = λ j c is. elim (contains_cases one j images c) [
    | inl e ↦ subst (λ (k : Image). IsNotAfter k one) (sym e) (not_after_self one)
    | inr d ↦ least j d is
  ];
}

tip_later : (images : List Image) (one best : Image) → IsTip images best
    → (IsRestorable one → IsNotAfter one best) → IsTip (one ∷ images) best
tip_later images one best tip less = record {
  member = contains_later one best images tip.member;
  restorable = tip.restorable;
  greatest = λ j c is. elim (contains_cases one j images c) [
    | inl e ↦ subst (λ (k : Image). IsNotAfter k best) (sym e) (less (subst IsRestorable e is))
    | inr d ↦ tip.greatest j d is
  ];
}

pub find_tip : (images : List Image) → NobodyIsRestorable images ⊎ ((i : Image) × IsTip images i)
find_tip [] = inl (λ i c is. contains_none i c)
find_tip (one ∷ images) = elim (restorable_cases one) [
  | inl restorable ↦ elim (find_tip images) [
    | inl none ↦ inr (one, tip_front images one restorable (λ i c is. absurd (none i c is)))
    | inr best ↦ elim (order_cases one best.0) [
      | inl less ↦ inr (best.0, tip_later images one best.0 best.1 (λ is. less))
      | inr more ↦ inr (one, tip_front images one restorable (λ i c is. not_after_step i best.0 one (best.1.greatest i c is) more))
    ]
  ]
  | inr never ↦ elim (find_tip images) [
    | inl none ↦ inl (λ i c is. elim (contains_cases one i images c) [
      | inl e ↦ never (subst IsRestorable e is)
      | inr d ↦ none i d is
    ])
    | inr best ↦ inr (best.0, tip_later images one best.0 best.1 (λ is. absurd (never is)))
  ]
]

pub some_tip : (images : List Image) (i : Image) → Contains images i → IsRestorable i → (j : Image) × IsTip images j
some_tip images i c is = elim (find_tip images) [
  | inl none ↦ absurd (none i c is)
  | inr found ↦ found
]

pub same_pair : (i j : Image) → IsNotAfter i j → IsNotAfter j i → i.header.serial ≡ j.header.serial
same_pair i j given also = grind arith

pub one_tip : (images : List Image) (i j : Image) → SerialsDiffer images → IsTip images i → IsTip images j → i ≡ j
one_tip images i j differ a b =
    differ i j a.member b.member (same_pair i j (b.greatest i a.member a.restorable) (a.greatest j b.member b.restorable))

-- an image of a list that isn't before its tip is the tip
pub tip_is : (images : List Image) (i tip : Image) → SerialsDiffer images → IsTip images tip → Contains images i → IsRestorable i → IsNotAfter tip i → i ≡ tip
tip_is images i tip differ is c restorable after = differ i tip c is.member (same_pair i tip (is.greatest i c restorable) after)
