-- Choosing the image of a checkpoint among the images that came so far, and in a store.
use Rattle.std.proofs.Common.{◌≡◌, ◌≢◌, ◌⊎◌, ◌<◌, ◌≤◌, ℕ, suc, List, [], ◌∷◌, ◌++◌, Option, Some, None, All, refl, sym, ◌∙◌, ap, subst, arith, inl, inr, Bor, Contains}
use Rattle.std.specs.Prelude.{MatchOption, IfSome}
use Rattle.std.proofs.lemmas.Bool.{cases_lt}
use Rattle.std.proofs.lemmas.List.Elements.{Contains-push, Contains-push_cases, Contains-append_left, All-push, All-contains}
use Rattle.sd_image.specs.declared.header.Header.{Header}
use Rattle.sd_image.specs.declared.header.Kind.TheVariants.{PreDump}
use Rattle.sd_image.specs.Image.{Image}
use Rattle.sd_image.specs.Laws.{OneImage}
use Rattle.sd_chain.specs.Catalog.{Opened, Places, AreInOrder, images, place_of, IsDumpOrMerged}
use Rattle.sd_chain.specs.Store.{IsCatalogOf, IsOpenedAs}
use Rattle.sd_chain.specs.Checkpoints.{HasCheckpoint, IsOfCheckpointAmong, IsCheckpointChoice, IsOfCheckpoint, LackCheckpoint, FindsCheckpoint}
use Rattle.sd_chain.specs.Checkpoints.{AreCheckpointsOf, AreFalling, IsBefore, IsBelow, IsNextAmong, IsNextChoice}
use Rattle.sd_chain.proofs.Members.{open_place}
use Rattle.sd_chain.proofs.Stores.{IsTied, store_of, image_of, opened_of}

-- ---- one image more

pub checkpoint_kept : (number : ℕ) (all : List Opened) (one best : Opened) → IsOfCheckpointAmong all number best
    → (HasCheckpoint number one → one.header.serial ≤ best.header.serial) → IsOfCheckpointAmong (all ++ one ∷ []) number best
checkpoint_kept number all one best chosen less = record {
  member = Contains-append_left all (one ∷ []) best chosen.member;
  has = chosen.has;
  greatest = λ other among is. elim (Contains-push_cases all one other among) [
    | inl c ↦ chosen.greatest other c is
    | inr e ↦ subst (λ (f : Opened). f.header.serial ≤ best.header.serial) e (less (subst (HasCheckpoint number) (sym e) is))
  ];
}

pub checkpoint_next : (number : ℕ) (all : List Opened) (one best : Opened) → IsOfCheckpointAmong all number best → HasCheckpoint number one
    → best.header.serial ≤ one.header.serial → IsOfCheckpointAmong (all ++ one ∷ []) number one
checkpoint_next number all one best chosen has less = record {
  member = Contains-push all one;
  has = has;
  greatest = λ other among is. elim (Contains-push_cases all one other among) [
    | inl c ↦ let h = chosen.greatest other c is in omega (arith, h, less)
    | inr e ↦ subst (λ (f : Opened). f.header.serial ≤ one.header.serial) e (omega arith)
  ];
}

pub checkpoint_first : (number : ℕ) (all : List Opened) (one : Opened) → All (λ i. HasCheckpoint number i → ⊥) all → HasCheckpoint number one
    → IsOfCheckpointAmong (all ++ one ∷ []) number one
checkpoint_first number all one none has = record {
  member = Contains-push all one;
  has = has;
  greatest = λ other among is. elim (Contains-push_cases all one other among) [
    | inl c ↦ absurd (All-contains (λ (i : Opened). HasCheckpoint number i → ⊥) all other none c is)
    | inr e ↦ subst (λ (f : Opened). f.header.serial ≤ one.header.serial) e (omega arith)
  ];
}

pub checkpoint_choice_kept : (number : ℕ) (all : List Opened) (one : Opened) (chosen : Option (Bor Opened)) → IsCheckpointChoice number all chosen → (HasCheckpoint number one → ⊥)
    → IsCheckpointChoice number (all ++ one ∷ []) chosen
checkpoint_choice_kept number all one None none never = All-push (λ i. HasCheckpoint number i → ⊥) all one none never
checkpoint_choice_kept number all one (Some best) chosen never = checkpoint_kept number all one best.now chosen (λ is. absurd (never is))

-- ---- the next checkpoint

pub next_kept : (bound : Option ℕ) (all : List Opened) (one : Opened) (number : ℕ) → IsNextAmong all bound number → (IsBefore bound one → one.header.checkpoint ≤ number)
    → IsNextAmong (all ++ one ∷ []) bound number
next_kept bound all one number next less = record {
  below = next.below;
  one = (next.one.0, Contains-append_left all (one ∷ []) next.one.0 next.one.1, next.one.2);
  greatest = λ other among is. elim (Contains-push_cases all one other among) [
    | inl c ↦ next.greatest other c is
    | inr e ↦ subst (λ (f : Opened). f.header.checkpoint ≤ number) e (less (subst (IsBefore bound) (sym e) is))
  ];
}

pub next_is : (bound : Option ℕ) (all : List Opened) (one : Opened) (number : ℕ) → number ≡ one.header.checkpoint → IsBefore bound one
    → ((i : Opened) → Contains all i → IsBefore bound i → i.header.checkpoint ≤ number) → IsNextAmong (all ++ one ∷ []) bound number
next_is bound all one number is before least = record {
  below = subst (IsBelow bound) (sym is) before.below;
  one = (one, Contains-push all one, record { restored = before.restored; checkpoint = sym is });
  greatest = λ other among has. elim (Contains-push_cases all one other among) [
    | inl c ↦ least other c has
    | inr e ↦ subst (λ (f : Opened). f.header.checkpoint ≤ number) e (omega (arith, is))
  ];
}

pub next_choice_kept : (bound : Option ℕ) (all : List Opened) (one : Opened) (chosen : Option ℕ) → IsNextChoice bound all chosen → (IsBefore bound one → ⊥)
    → IsNextChoice bound (all ++ one ∷ []) chosen
next_choice_kept bound all one None none never = All-push (λ i. IsBefore bound i → ⊥) all one none never
next_choice_kept bound all one (Some number) next never = next_kept bound all one number next (λ is. absurd (never is))

pub next_first : (bound : Option ℕ) (all : List Opened) (one : Opened) (number : ℕ) → number ≡ one.header.checkpoint → IsBefore bound one → All (λ i. IsBefore bound i → ⊥) all
    → IsNextAmong (all ++ one ∷ []) bound number
next_first bound all one number is before none =
    next_is bound all one number is before (λ i c has. absurd (All-contains (λ (k : Opened). IsBefore bound k → ⊥) all i none c has))

pub next_greater : (bound : Option ℕ) (all : List Opened) (one : Opened) (best number : ℕ) → number ≡ one.header.checkpoint → IsBefore bound one → best < number
    → IsNextAmong all bound best → IsNextAmong (all ++ one ∷ []) bound number
next_greater bound all one best number is before less next =
    next_is bound all one number is before (λ i c has. let h = next.greatest i c has in omega (arith, h, less))

-- ---- all of them

-- these were listed, and this is the next
pub record IsListing (all : List Opened) (numbers : List ℕ) (next : Option ℕ) : Type 0 where
  pub falling : AreFalling numbers
  pub are : (n : ℕ) → Contains numbers n → (i : Opened) × Contains all i × HasCheckpoint n i
  pub above : (n : ℕ) → next ≡ Some n → All (λ m. n < m) numbers
  pub one : (n : ℕ) → next ≡ Some n → (i : Opened) × Contains all i × HasCheckpoint n i
  pub rest : (i : Opened) → Contains all i → IsDumpOrMerged i → Contains numbers i.header.checkpoint ⊎ ((n : ℕ) × (next ≡ Some n) × (i.header.checkpoint ≤ n))

falling_push : (numbers : List ℕ) (n : ℕ) → AreFalling numbers → All (λ m. n < m) numbers → AreFalling (numbers ++ n ∷ [])
falling_push [] n falling above = (λ k d l. absurd (omega (arith, l)), tt)
falling_push (m ∷ numbers) n falling above = (
  All-push (λ k. k < m) numbers n falling.0 (above 0 m (omega arith)),
  falling_push numbers n falling.1 (λ k d l. above (suc k) d (omega (arith, l))),
)

chosen_next : (bound : Option ℕ) (all : List Opened) (next : Option ℕ) (n : ℕ) → IsNextChoice bound all next → next ≡ Some n → IsNextAmong all bound n
chosen_next bound all next n chosen is = subst (IsNextChoice bound all) is chosen

before_next : (bound : Option ℕ) (all : List Opened) (next : Option ℕ) (i : Opened) → IsNextChoice bound all next → Contains all i → IsBefore bound i → (n : ℕ) × (next ≡ Some n) × (i.header.checkpoint ≤ n)
before_next bound all None i none c is = absurd (All-contains (λ (k : Opened). IsBefore bound k → ⊥) all i none c is)
before_next bound all (Some n) i next c is = (n, refl, next.greatest i c is)

pub listing_begins : (all : List Opened) (next : Option ℕ) → IsNextChoice None all next → IsListing all [] next
listing_begins all next chosen = record {
  falling = tt;
  are = λ n c. absurd (omega (arith, c.1));
  above = λ n is k d l. absurd (omega (arith, l));
  one = λ n is. (chosen_next None all next n chosen is).one;
  rest = λ i c restored. inr (before_next None all next i chosen c (record { restored = restored; below = tt }));
}

pub listing_more : (all : List Opened) (numbers : List ℕ) (n : ℕ) (next : Option ℕ) → IsListing all numbers (Some n) → IsNextChoice (Some n) all next → IsListing all (numbers ++ n ∷ []) next
listing_more all numbers n next was chosen = record {
  falling = falling_push numbers n was.falling (was.above n refl);
  are = λ m c. elim (Contains-push_cases numbers n m c) [
    | inl d ↦ was.are m d
    | inr e ↦ subst (λ k. (i : Opened) × Contains all i × HasCheckpoint k i) e (was.one n refl)
  ];
  above = λ m is.
      let less = (chosen_next (Some n) all next m chosen is).below in
      All-push (λ k. m < k) numbers n (λ k d l. let more = was.above n refl k d l in omega (arith, more, less)) less;
  one = λ m is. (chosen_next (Some n) all next m chosen is).one;
  rest = λ i c restored. elim (was.rest i c restored) [
    | inl d ↦ inl (Contains-append_left numbers (n ∷ []) i.header.checkpoint d)
    | inr last ↦ elim (cases_lt i.header.checkpoint n) [
      | inl less ↦ inr (before_next (Some n) all next i chosen c (record { restored = restored; below = less }))
      | inr most ↦ inl (subst (Contains (numbers ++ n ∷ [])) (is_last i.header.checkpoint last.0 most last.1 last.2) (Contains-push numbers n))
    ]
  ];
}
  where
    same : (m : ℕ) → Some n ≡ Some m → n ≡ m
    same m e = cc

    is_last : (checkpoint m : ℕ) → n ≤ checkpoint → Some n ≡ Some m → checkpoint ≤ m → n ≡ checkpoint
    is_last checkpoint m most e less = let is = same m e in omega (arith, most, less, is)

pub listing_ends : (all : List Opened) (numbers : List ℕ) → IsListing all numbers None → AreCheckpointsOf all numbers
listing_ends all numbers was = record {
  falling = was.falling;
  each = λ n. (was.are n, λ one. listed n one.0 one.1 one.2);
}
  where
    none : (n : ℕ) → None ≡ Some n → ⊥
    none n e = absurd cc

    listed : (n : ℕ) (i : Opened) → Contains all i → HasCheckpoint n i → Contains numbers n
    listed n i c has = elim (was.rest i c has.restored) [
      | inl d ↦ subst (Contains numbers) has.checkpoint d
      | inr last ↦ absurd (none last.0 last.1)
    ]

-- ---- in its place, and in the store

pub checkpoint_place : (places : Places) (number : ℕ) (answer : Option (Bor Opened)) → AreInOrder places → IsCheckpointChoice number (images places) answer
    → IfSome answer (λ i. place_of places i.now.header.serial ≡ Some (Some i.now))
checkpoint_place places number None order none = tt
checkpoint_place places number (Some i) order chosen = open_place places i.now order chosen.member

pub finds_checkpoint : OneImage → (contents : List (List ℕ)) (places : Places) (number : ℕ) (answer : Option (Bor Opened)) → AreInOrder places → IsCatalogOf contents places
    → IsCheckpointChoice number (images places) answer → FindsCheckpoint contents number answer
finds_checkpoint one contents places number answer order catalog chosen =
    let s = store_of one contents places order catalog in
    record { images = s.0; store = s.2; found = by s.0 s.1 answer chosen }
  where
    by : (all : List Image) → IsTied contents all places → (answer : Option (Bor Opened)) → IsCheckpointChoice number (images places) answer
        → MatchOption answer (LackCheckpoint all number) (λ i. (image : Image) × IsOpenedAs contents i.now image × IsOfCheckpoint all number image)
    by all tied None none = λ image c restorable is.
        let i = opened_of contents all places image tied c in
        All-contains (λ (k : Opened). HasCheckpoint number k → ⊥) (images places) i.0 none i.1 (record {
          restored = subst (λ (h : Header). h.kind ≢ PreDump) i.2.header restorable;
          checkpoint = ap (λ (h : Header). h.checkpoint) (sym i.2.header) ∙ is;
        })
    by all tied (Some i) chosen =
        let image = image_of contents all places i.now tied chosen.member in (
          image.0,
          image.2,
          record {
            member = image.1;
            restorable = subst (λ (h : Header). h.kind ≢ PreDump) (sym image.2.header) chosen.has.restored;
            checkpoint = ap (λ (h : Header). h.checkpoint) image.2.header ∙ chosen.has.checkpoint;
            greatest = λ other c restorable is.
                let j = opened_of contents all places other tied c in
                let less = chosen.greatest j.0 j.1 (record {
                  restored = subst (λ (h : Header). h.kind ≢ PreDump) j.2.header restorable;
                  checkpoint = ap (λ (h : Header). h.checkpoint) (sym j.2.header) ∙ is;
                }) in
                omega (arith, less, ap (λ (h : Header). h.serial) j.2.header, ap (λ (h : Header). h.serial) image.2.header);
          },
        )
