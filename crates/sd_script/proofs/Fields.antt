-- Lemmas on the fields of a line.
use Rattle.std.proofs.Common.{◌≡◌, ◌≢◌, ◌<◌, ◌≤◌, ◌+◌, ◌==◌, ◌++◌, ℕ, Bool, List, [], ◌∷◌, map, length, take, slice_set, ◌-◌, Bor, None, refl, arith, ap, sym, ◌∙◌, inl, inr, append_assoc, length-append, length-drop}
use Rattle.std.specs.List.{slice_split, onto_first, position_or_len, before_first, after_first}
use Rattle.std.proofs.lemmas.Bool.{cases_Bool}
use Rattle.std.proofs.lemmas.List.{take_more_set, length-map, length-take-le, map-append}
use Rattle.std.proofs.lemmas.List.Splits.{length-slice_split, slice_split_first, slice_split-cons_no}
use Rattle.sd_script.specs.Line.{mmap_of, munmap_of, mprotect_of, fork_of, exit_of, try_of, fault_of, words_of, store_of, load_of, begin_of, work_of, perform_of, perform_at_of, step_of, finish_of, checkpoint_of}

-- the texts of fields
abbrev pub texts : List (Bor (List ℕ)) → List (List ℕ)
texts fields = map (λ field. field.now) fields

-- each kind of line takes its own number of arguments
pub mmap_of-other : (xs : List (Bor (List ℕ))) → length xs ≢ 4 → mmap_of (texts xs) ≡ None
mmap_of-other (a ∷ b ∷ d ∷ e ∷ []) h = absurd (h refl)
mmap_of-other _ h = refl

pub munmap_of-other : (xs : List (Bor (List ℕ))) → length xs ≢ 3 → munmap_of (texts xs) ≡ None
munmap_of-other (a ∷ b ∷ d ∷ []) h = absurd (h refl)
munmap_of-other _ h = refl

pub mprotect_of-other : (xs : List (Bor (List ℕ))) → length xs ≢ 4 → mprotect_of (texts xs) ≡ None
mprotect_of-other (a ∷ b ∷ d ∷ e ∷ []) h = absurd (h refl)
mprotect_of-other _ h = refl

pub fork_of-other : (xs : List (Bor (List ℕ))) → length xs ≢ 1 → fork_of (texts xs) ≡ None
fork_of-other (a ∷ []) h = absurd (h refl)
fork_of-other _ h = refl

pub exit_of-other : (xs : List (Bor (List ℕ))) → length xs ≢ 1 → exit_of (texts xs) ≡ None
exit_of-other (a ∷ []) h = absurd (h refl)
exit_of-other _ h = refl

pub try_of-other : (xs : List (Bor (List ℕ))) → length xs ≢ 3 → try_of (texts xs) ≡ None
try_of-other (a ∷ b ∷ d ∷ []) h = absurd (h refl)
try_of-other _ h = refl

pub fault_of-other : (xs : List (Bor (List ℕ))) → length xs ≢ 2 → fault_of (texts xs) ≡ None
fault_of-other (a ∷ b ∷ []) h = absurd (h refl)
fault_of-other _ h = refl

pub words_of-other : (xs : List (Bor (List ℕ))) → length xs ≢ 3 → words_of (texts xs) ≡ None
words_of-other (a ∷ b ∷ d ∷ []) h = absurd (h refl)
words_of-other _ h = refl

pub store_of-other : (xs : List (Bor (List ℕ))) → length xs ≢ 3 → store_of (texts xs) ≡ None
store_of-other (a ∷ b ∷ d ∷ []) h = absurd (h refl)
store_of-other _ h = refl

pub load_of-other : (xs : List (Bor (List ℕ))) → length xs ≢ 3 → load_of (texts xs) ≡ None
load_of-other (a ∷ b ∷ d ∷ []) h = absurd (h refl)
load_of-other _ h = refl

pub begin_of-other : (xs : List (Bor (List ℕ))) → length xs ≢ 1 → begin_of (texts xs) ≡ None
begin_of-other (a ∷ []) h = absurd (h refl)
begin_of-other _ h = refl

pub work_of-other : (xs : List (Bor (List ℕ))) → length xs ≢ 1 → work_of (texts xs) ≡ None
work_of-other (a ∷ []) h = absurd (h refl)
work_of-other _ h = refl

pub perform_of-other : (xs : List (Bor (List ℕ))) → length xs ≢ 1 → perform_of (texts xs) ≡ None
perform_of-other (a ∷ []) h = absurd (h refl)
perform_of-other _ h = refl

pub perform_at_of-other : (xs : List (Bor (List ℕ))) → length xs ≢ 2 → perform_at_of (texts xs) ≡ None
perform_at_of-other (a ∷ b ∷ []) h = absurd (h refl)
perform_at_of-other _ h = refl

pub step_of-other : (xs : List (Bor (List ℕ))) → length xs ≢ 2 → step_of (texts xs) ≡ None
step_of-other (a ∷ b ∷ []) h = absurd (h refl)
step_of-other _ h = refl

pub finish_of-other : (xs : List (Bor (List ℕ))) → length xs ≢ 1 → finish_of (texts xs) ≡ None
finish_of-other (a ∷ []) h = absurd (h refl)
finish_of-other _ h = refl

pub checkpoint_of-other : (xs : List (Bor (List ℕ))) → length xs ≢ 1 → checkpoint_of (texts xs) ≡ None
checkpoint_of-other (a ∷ []) h = absurd (h refl)
checkpoint_of-other _ h = refl

-- ---- a line, taken apart field by field
abbrev pub is_space : ℕ → Bool
is_space byte = byte == 32

-- the fields so far, and those of the rest
abbrev pub Splits : List ℕ → List (Bor (List ℕ)) → List ℕ → Type 0
Splits line fields rest = texts fields ++ slice_split is_space rest ≡ slice_split is_space line

-- a field more
pub splits-more : (line rest : List ℕ) (fields : List (Bor (List ℕ))) (field : Bor (List ℕ)) (others : List ℕ) → Splits line fields rest
    → position_or_len is_space rest < length rest → field.now ≡ before_first is_space rest → others ≡ after_first is_space rest → Splits line (fields ++ field ∷ []) others
splits-more line rest fields field others splits within first after = grind (arith, slice_split_first, map-append, append_assoc)

pub splits-less : (rest others : List ℕ) → position_or_len is_space rest < length rest → others ≡ after_first is_space rest → length others < length rest
splits-less rest others within after = grind (arith, length-drop)

-- without an end it is one part
pub one_part : (p : ℕ → Bool) (rest : List ℕ) → position_or_len p rest ≡ length rest → slice_split p rest ≡ rest ∷ []
one_part p [] none = refl
one_part p (b ∷ bs) none = elim (cases_Bool (p b)) [
  | inl here ↦ absurd (let f : position_or_len p (b ∷ bs) ≡ 0 = rw here refl in omega arith)
  | inr there ↦
      let f : position_or_len p (b ∷ bs) ≡ 1 + position_or_len p bs = rw there refl in
      slice_split-cons_no p b bs there ∙ ap (onto_first b) (one_part p bs (omega arith))
]

-- the last field
pub splits-all : (line rest : List ℕ) (fields : List (Bor (List ℕ))) (field : Bor (List ℕ)) → Splits line fields rest
    → position_or_len is_space rest ≡ length rest → field.now ≡ rest → texts (fields ++ field ∷ []) ≡ slice_split is_space line
splits-all line rest fields field splits none is =
    map-append (λ (x : Bor (List ℕ)). x.now) fields (field ∷ []) ∙ ap (λ x. texts fields ++ x ∷ []) is ∙ ap (λ xs. texts fields ++ xs) (sym (one_part is_space rest none)) ∙ splits

-- ---- fields in a list of five, of which the first are taken
-- one more is put after those before it
pub splits-put : (line rest : List ℕ) (fields : List (Bor (List ℕ))) (count : ℕ) (field : Bor (List ℕ)) (others : List ℕ) → count < length fields
    → Splits line (take count fields) rest → position_or_len is_space rest < length rest → field.now ≡ before_first is_space rest → others ≡ after_first is_space rest
    → Splits line (take (count + 1) (slice_set fields count field)) others
splits-put line rest fields count field others within splits found first after = grind (arith, take_more_set, splits-more)

-- the last one is put there
pub splits-last : (line rest : List ℕ) (fields : List (Bor (List ℕ))) (count : ℕ) (field : Bor (List ℕ)) → count < length fields
    → Splits line (take count fields) rest → position_or_len is_space rest ≡ length rest → field.now ≡ rest
    → texts (take (count + 1) (slice_set fields count field)) ≡ slice_split is_space line
splits-last line rest fields count field within splits none is =
    ap texts (take_more_set fields count field within) ∙ splits-all line rest (take count fields) field splits none is

-- after four fields there are two more
pub splits-many : (line rest : List ℕ) (fields : List (Bor (List ℕ))) → 4 ≤ length fields
    → Splits line (take 4 fields) rest → position_or_len is_space rest < length rest → 5 < length (slice_split is_space line)
splits-many line rest fields room splits found = grind (arith, length-append, length-map, length-take-le, slice_split_first, length-slice_split)

-- ---- no line has more than five fields
