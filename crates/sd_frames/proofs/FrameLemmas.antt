-- The places of frames after a change.
use Rattle.std.proofs.Common.{◌≡◌, ℕ, ◌<◌, ◌≤◌, zero, suc, true, false, nat_eq, List, [], ◌∷◌, ◌++◌, length, get_or, set, Option, Some, None, IsSome, refl, sym, ◌∙◌, ap, subst, inl, inr, arith}
use Rattle.std.proofs.lemmas.Bool.Decides.{nat_tests}
use Rattle.std.proofs.lemmas.Bool.{cases_Bool, cases_eq, cases_lt, or_cases, or_parts, or_left, or_right, eq-eqb, eqb-false}
use Rattle.std.specs.List.{slice_get}
use Rattle.std.specs.Option.{option_and_then, option_map_or, IfSome}
use Rattle.std.proofs.lemmas.Option.{slice_get_past}
use Rattle.std.proofs.lemmas.List.{length-map}
use Rattle.sd_frames.specs.Bytes.{zeros}
use Rattle.sd_frames.specs.Frames.{Cell, Pool, cell_at, count_at, cell_bytes, SetsCell, IsExhausted, HasFree, HasFreePlace}
use Rattle.sd_frames.specs.declared.frame_cell.FrameCell.{FrameCell}
use Rattle.sd_frames.specs.declared.frame_cell.FrameCell.TheVariants.{Used, Free}
use Rattle.sd_frames.specs.FrameCells.{cell_of, cells_of, is_among, AreLinked, IsFreeList}

-- ---- lists
module _ {X : Type 0} where
  pub got_set : (xs : List X) (i : ℕ) (y : X) → i < length xs → slice_get (set xs i y) i ≡ Some y
  got_set [] i y l = absurd (omega arith)
  got_set (x ∷ xs) zero y l = refl
  got_set (x ∷ xs) (suc i) y l = got_set xs i y (omega arith)

  pub got_other : (xs : List X) (i j : ℕ) (y : X) → (j ≡ i → ⊥) → slice_get (set xs i y) j ≡ slice_get xs j
  got_other (x ∷ xs) zero zero y n = absurd (n refl)
  got_other (x ∷ xs) (suc i) (suc j) y n = got_other xs i j y (λ e. n (ap suc e))
  got_other _ _ _ y n = refl

  pub got_within : (xs : List X) (i : ℕ) (x : X) → slice_get xs i ≡ Some x → i < length xs
  got_within [] i x e = absurd (let f : None ≡ Some x = e in cc)
  got_within (y ∷ xs) zero x e = omega arith
  got_within (y ∷ xs) (suc i) x e = (let l = got_within xs i x e in omega arith)

  pub got_pushed : (xs : List X) (y : X) → slice_get (xs ++ y ∷ []) (length xs) ≡ Some y
  got_pushed [] y = refl
  got_pushed (x ∷ xs) y = got_pushed xs y

  pub got_before : (xs : List X) (y : X) (i : ℕ) → (i ≡ length xs → ⊥) → slice_get (xs ++ y ∷ []) i ≡ slice_get xs i
  got_before [] y zero n = absurd (n refl)
  got_before (x ∷ xs) y (suc i) n = got_before xs y i (λ e. n (ap suc e))
  got_before _ y _ n = refl

  pub got_read : (xs : List X) (i : ℕ) (x : X) → i < length xs → x ≡ get_or xs i x → slice_get xs i ≡ Some x
  got_read [] i x l e = absurd (omega arith)
  got_read (y ∷ xs) zero x l e = ap Some (sym e)
  got_read (y ∷ xs) (suc i) x l e = got_read xs i x (omega arith) e

pub at_cell : (slots : List FrameCell) (k : ℕ) → get_or (cells_of slots) k None ≡ option_and_then cell_of (slice_get slots k)
at_cell (s ∷ slots) (suc k) = at_cell slots k
at_cell _ _ = refl

-- a frame in use has a place
in_slot : (o : Option FrameCell) (c : Cell) → option_and_then cell_of o ≡ Some c → o ≡ Some (Used c)
in_slot o c e = grind arith

pub used_slot : (slots : List FrameCell) (k : ℕ) (c : Cell) → get_or (cells_of slots) k None ≡ Some c → slice_get slots k ≡ Some (Used c)
used_slot slots k c e = in_slot (slice_get slots k) c (sym (at_cell slots k) ∙ e)

-- ---- the chain of free places
chain_free : (slots : List FrameCell) (first : Option ℕ) (places : List ℕ) (k : ℕ) → AreLinked slots first places → is_among k places ≡ true → (next : Option ℕ) × (slice_get slots k ≡ Some (Free next))
chain_free slots first [] k h e = absurd (let f : false ≡ true = e in cc)
chain_free slots first (p ∷ ps) k h e = elim (or_cases (nat_eq p k) (is_among k ps) e) [
  | inl here ↦ (h.0, ap (slice_get slots) (let q : k ≡ p = grind (arith, nat_tests) in q) ∙ h.2)
  | inr there ↦ chain_free slots h.0 ps k h.3 there
]

used_free : (c : Cell) (n : Option ℕ) → ◌≡◌ {A = Option FrameCell} (Some (Used c)) (Some (Free n)) → ⊥
used_free c n e = cc

chain_apart : (slots : List FrameCell) (first : Option ℕ) (places : List ℕ) (k : ℕ) (c : Cell) → AreLinked slots first places → slice_get slots k ≡ Some (Used c) → is_among k places ≡ false
chain_apart slots first places k c h e = grind (arith, cases_Bool, chain_free, used_free)

chain_set : (slots : List FrameCell) (first : Option ℕ) (places : List ℕ) (k : ℕ) (s : FrameCell) → AreLinked slots first places → is_among k places ≡ false → AreLinked (set slots k s) first places
chain_set slots first [] k s h e = h
chain_set slots first (p ∷ ps) k s h e =
    let parts = or_parts (nat_eq p k) (is_among k ps) e in
    (h.0, h.1, got_other slots k p s (eqb-false p k parts.0) ∙ h.2, chain_set slots h.0 ps k s h.3 parts.1, h.4)

-- a frame in use was changed
pub free_changed : (slots : List FrameCell) (first : Option ℕ) (k : ℕ) (c d : Cell) → IsFreeList slots first → slice_get slots k ≡ Some (Used c) → IsFreeList (set slots k (Used d)) first
free_changed slots first k c d h e = (
  h.0,
  chain_set slots first h.0 k (Used d) h.1 (chain_apart slots first h.0 k c h.1 e),
  λ place next f. elim (cases_eq place k) [
    | inl same ↦ absurd (used_free d next (sym (got_set slots k (Used d) (got_within slots k (Used c) e)) ∙ ap (slice_get (set slots k (Used d))) (sym same) ∙ f))
    | inr other ↦ h.2 place next (sym (got_other slots k place (Used d) other) ∙ f)
  ],
)

-- a frame became free
pub freed : (slots : List FrameCell) (first : Option ℕ) (k : ℕ) (c : Cell) → IsFreeList slots first → slice_get slots k ≡ Some (Used c) → IsFreeList (set slots k (Free first)) (Some k)
freed slots first k c h e =
    let apart = chain_apart slots first h.0 k c h.1 e in (
      k ∷ h.0,
      (first, refl, got_set slots k (Free first) (got_within slots k (Used c) e), chain_set slots first h.0 k (Free first) h.1 apart, apart),
      λ place next f. elim (cases_eq place k) [
        | inl same ↦ or_left _ _ (eq-eqb k place (sym same))
        | inr other ↦ or_right _ _ (h.2 place next (sym (got_other slots k place (Free first) other) ∙ f))
      ],
    )

same_next : (k p : ℕ) → ◌≡◌ {A = Option ℕ} (Some k) (Some p) → p ≡ k
same_next k p e = cc

same_link : (a b : Option ℕ) → ◌≡◌ {A = Option FrameCell} (Some (Free a)) (Some (Free b)) → a ≡ b
same_link a b e = cc

none_some : (k : ℕ) → ◌≡◌ {A = Option ℕ} (Some k) None → ⊥
none_some k e = cc

-- the first of the chain is free
pub first_free : (slots : List FrameCell) (k : ℕ) → IsFreeList slots (Some k) → (next : Option ℕ) × (slice_get slots k ≡ Some (Free next))
first_free slots k ([], h, a) = absurd (none_some k h)
first_free slots k (p ∷ ps, h, a) = (h.0, ap (slice_get slots) (sym (same_next k p h.1)) ∙ h.2)

-- the first of the chain was taken
pub taken : (slots : List FrameCell) (k : ℕ) (next : Option ℕ) (d : Cell) → IsFreeList slots (Some k) → slice_get slots k ≡ Some (Free next) → IsFreeList (set slots k (Used d)) next
taken slots k next d ([], h, a) e = absurd (none_some k h)
taken slots k next d (p ∷ ps, h, a) e =
    let p_is = same_next k p h.1 in
    let link : h.0 ≡ next = same_link h.0 next (sym h.2 ∙ ap (slice_get slots) p_is ∙ e) in
    let apart : is_among k ps ≡ false = ap (λ q. is_among q ps) (sym p_is) ∙ h.4 in (
      ps,
      chain_set slots next ps k (Used d) (subst (λ (n : Option ℕ). AreLinked slots n ps) link h.3) apart,
      λ place n f. elim (cases_eq place k) [
        | inl same ↦ absurd (used_free d n (sym (got_set slots k (Used d) (got_within slots k (Free next) e)) ∙ ap (slice_get (set slots k (Used d))) (sym same) ∙ f))
        | inr other ↦ elim (or_cases (nat_eq p place) (is_among place ps) (a place n (sym (got_other slots k place (Used d) other) ∙ f))) [
          | inl here ↦ absurd (other (sym (let q : p ≡ place = grind (arith, nat_tests) in q) ∙ p_is))
          | inr there ↦ there
        ]
      ],
    )

-- without a free place, each is in use
pub none_free : (slots : List FrameCell) (place : ℕ) (next : Option ℕ) → IsFreeList slots None → slice_get slots place ≡ Some (Free next) → ⊥
none_free slots place next ([], h, a) e = (let f : false ≡ true = a place next e in cc)
none_free slots place next (p ∷ ps, h, a) e = none_some p (sym h.1)

pub pushed : (slots : List FrameCell) (d : Cell) → IsFreeList slots None → IsFreeList (slots ++ Used d ∷ []) None
pushed slots d h = (
  [],
  refl,
  λ place n f. elim (cases_eq place (length slots)) [
    | inl same ↦ absurd (used_free d n (sym (got_pushed slots (Used d)) ∙ ap (slice_get (slots ++ Used d ∷ [])) (sym same) ∙ f))
    | inr other ↦ absurd (none_free slots place n h (sym (got_before slots (Used d) place other) ∙ f))
  ],
)

-- ---- the frames
pub sets_cell : (size : ℕ) (slots : List FrameCell) (k : ℕ) (s : FrameCell) → k < length slots → SetsCell (record { size = size; cells = cells_of slots }) (record { size = size; cells = cells_of (set slots k s) }) k (cell_of s)
sets_cell size slots k s l = record {
  size = refl;
  here = at_cell (set slots k s) k ∙ ap (option_and_then cell_of) (got_set slots k s l);
  others = λ other n. at_cell (set slots k s) other ∙ ap (option_and_then cell_of) (got_other slots k other s n) ∙ sym (at_cell slots other);
}

pub past_none : (slots : List FrameCell) (k : ℕ) → length slots ≤ k → get_or (cells_of slots) k None ≡ None
past_none slots k l = at_cell slots k ∙ ap (option_and_then cell_of) (slice_get_past slots k l)

pub free_none : (slots : List FrameCell) (k : ℕ) (next : Option ℕ) → slice_get slots k ≡ Some (Free next) → get_or (cells_of slots) k None ≡ None
free_none slots k next e = at_cell slots k ∙ ap (option_and_then cell_of) e

is_live : (o : Option FrameCell) → IsSome o → ((n : Option ℕ) → o ≡ Some (Free n) → ⊥) → IsSome (option_and_then cell_of o)
is_live o s h = grind arith

there_within : {X : Type 0} (xs : List X) (i : ℕ) → i < length xs → IsSome (slice_get xs i)
there_within [] i l = absurd (omega arith)
there_within (x ∷ xs) zero l = refl
there_within (x ∷ xs) (suc i) l = there_within xs i (omega arith)

pub all_used : (size : ℕ) (slots : List FrameCell) → IsFreeList slots None → length slots ≡ size → IsExhausted (record { size = size; cells = cells_of slots })
all_used size slots h e = λ k l. subst (λ (o : Option Cell). IsSome o) (sym (at_cell slots k)) (is_live (slice_get slots k) (there_within slots k (omega arith)) (λ n f. none_free slots k n h f))

-- with places left, or a free one, a frame is free
pub has_room : (size : ℕ) (slots : List FrameCell) → length slots < size → HasFree (record { size = size; cells = cells_of slots })
has_room size slots l = (length slots, l, past_none slots (length slots) (omega arith))

pub has_first : (size : ℕ) (slots : List FrameCell) (k : ℕ) → length slots ≤ size → IsFreeList slots (Some k) → HasFree (record { size = size; cells = cells_of slots })
has_first size slots k l h = let f = first_free slots k h in (k, (let g = got_within slots k (Free f.0) f.1 in omega arith), free_none slots k f.0 f.1)

not_some : (o : Option Cell) → o ≡ None → IsSome o → ⊥
not_some None e s = (let f : false ≡ true = s in cc)
not_some (Some c) e s = cc

-- without a chain none of the places is free
none_at : (slots : List FrameCell) (k : ℕ) → IsFreeList slots None → k < length slots → get_or (cells_of slots) k None ≡ None → ⊥
none_at slots k h l e =
    let s : IsSome (option_and_then cell_of (slice_get slots k)) = is_live (slice_get slots k) (there_within slots k l) (λ n g. none_free slots k n h g) in
    not_some _ (sym (at_cell slots k) ∙ e) s

pub no_free_place : (size : ℕ) (slots : List FrameCell) → IsFreeList slots None → HasFreePlace (record { size = size; cells = cells_of slots }) → ⊥
no_free_place size slots h f = none_at slots f.0 h (omega (arith, length-map slots cell_of, f.1)) f.2

-- where none of the places is free but a frame is, there are places left
pub room_left : (size : ℕ) (slots : List FrameCell) → IsFreeList slots None → HasFree (record { size = size; cells = cells_of slots }) → length slots < size
room_left size slots h f = elim (cases_lt f.0 (length slots)) [
  | inl l ↦ absurd (none_at slots f.0 h l f.2)
  | inr g ↦ (let l = f.1 in omega arith)
]

-- ---- what the calls on frames need
abbrev pub frames_of : ℕ → List FrameCell → Pool
frames_of size slots = record { size = size; cells = cells_of slots }

abbrev pub frame_of : Pool → ℕ → Cell
frame_of pool k = record { count = count_at pool k; bytes = cell_bytes pool k }

pub frame_again : (pool : Pool) (k : ℕ) (c : Cell) → cell_at pool k ≡ Some c → frame_of pool k ≡ c
frame_again pool k c e = ap (λ (o : Option Cell). record { count = option_map_or (λ (cell : Cell). cell.count) o 0; bytes = option_map_or (λ (cell : Cell). cell.bytes) o zeros }) e

pub some_cell : (o : Option Cell) → IsSome o → (c : Cell) × (o ≡ Some c)
some_cell o s = grind arith

-- a frame in use has a place that is in use
pub used_at : (size : ℕ) (slots : List FrameCell) (pool : Pool) (k : ℕ) → frames_of size slots ≡ pool → IsSome (cell_at pool k) → (c : Cell) × (cell_at pool k ≡ Some c) × (slice_get slots k ≡ Some (Used c))
used_at size slots pool k v s = let f = some_cell (cell_at pool k) s in (f.0, f.1, used_slot slots k f.0 (ap (λ p. cell_at p k) v ∙ f.1))

pub within_slots : (size : ℕ) (slots : List FrameCell) (pool : Pool) (k : ℕ) → frames_of size slots ≡ pool → IsSome (cell_at pool k) → k < length slots
within_slots size slots pool k v s = let u = used_at size slots pool k v s in got_within slots k (Used u.0) u.2

same_slot : (s t : FrameCell) → ◌≡◌ {A = Option FrameCell} (Some s) (Some t) → s ≡ t
same_slot s t e = cc

module _ (f : Cell → Cell) (size : ℕ) (slots : List FrameCell) (pool : Pool) (k : ℕ) (v : frames_of size slots ≡ pool) (some : IsSome (cell_at pool k)) (s t : FrameCell) (l : k < length slots) (r : s ≡ get_or slots k s) (h : IfSome (cell_of s) (λ (cell : Cell). t ≡ Used (f cell))) where
  u : (c : Cell) × (cell_at pool k ≡ Some c) × (slice_get slots k ≡ Some (Used c))
  u = used_at size slots pool k v some

  t_is : t ≡ Used (f (frame_of pool k))
  unfolding u
  t_is =
      let u = used_at size slots pool k v some in
      let s_is : s ≡ Used u.0 = same_slot s (Used u.0) (sym (got_read slots k s l r) ∙ u.2) in
      subst (λ (x : FrameCell). IfSome (cell_of x) (λ (cell : Cell). t ≡ Used (f cell))) s_is h ∙ ap (λ c. Used (f c)) (sym (frame_again pool k u.0 u.1))

  pub changes_frame : SetsCell pool (frames_of size (set slots k t)) k (Some (f (frame_of pool k)))
  changes_frame = subst (λ (p : Pool). SetsCell p (frames_of size (set slots k t)) k (Some (f (frame_of pool k)))) v
      (subst (λ (o : Option Cell). SetsCell (frames_of size slots) (frames_of size (set slots k t)) k o) (ap cell_of t_is) (sets_cell size slots k t l))

  pub changes_free : (first : Option ℕ) → IsFreeList slots first → IsFreeList (set slots k t) first
  changes_free first free =
      let w = used_at size slots pool k v some in
      subst (λ (x : FrameCell). IsFreeList (set slots k x) first) (sym t_is) (free_changed slots first k w.0 (f (frame_of pool k)) free w.2)

-- a frame that one entry had is free
pub frees_frame : (size : ℕ) (slots : List FrameCell) (pool : Pool) (k : ℕ) (next : Option ℕ) → frames_of size slots ≡ pool → k < length slots → SetsCell pool (frames_of size (set slots k (Free next))) k None
frees_frame size slots pool k next v l = subst (λ (p : Pool). SetsCell p (frames_of size (set slots k (Free next))) k None) v (sets_cell size slots k (Free next) l)

pub some_counted : (pool : Pool) (k : ℕ) → 0 < count_at pool k → IsSome (cell_at pool k)
some_counted pool k l = counted (cell_at pool k) l
  where
    counted : (o : Option Cell) → 0 < option_map_or (λ (cell : Cell). cell.count) o 0 → IsSome o
    counted None l = absurd (omega arith)
    counted (Some c) l = refl
