-- Segments one after the other.
use Rattle.std.proofs.Common.{◌≡◌, ◌+◌, ◌<◌, ℕ, Bool, true, false, List, [], ◌∷◌, ◌++◌, refl, sym, ap, ◌∙◌, subst, arith, append-nil}
use Rattle.std.specs.Prelude.{filter, take, drop, slice_index_or, length}
use Rattle.std.proofs.lemmas.Bool.{cond-true, cond-false}
use Rattle.std.proofs.lemmas.List.{drop_more, get_or_default, take-append-drop}
use Rattle.sd_restore.proofs.TakeLemmas.{taken_at}
use Rattle.sd_elf.specs.declared.fault.SegmentFault.{SegmentFault}
use Rattle.sd_elf.specs.declared.program_header.ProgramHeader.{ProgramHeader}
use Rattle.sd_elf.specs.declared.segments.Extent.{Extent}
use Rattle.sd_elf.specs.Segments.{AreSegments, BreaksSegment, IsFirstSegmentFault, IsSegment, extent_after, extent_of, is_memory, no_extent}

-- ---- after others

pub segments_join : (size : ℕ) (e : Extent) (xs ys : List ProgramHeader) → AreSegments size e xs → AreSegments size (extent_of e xs) ys → AreSegments size e (xs ++ ys)
segments_join size e [] ys p q = q
segments_join size e (x ∷ xs) ys p q = (p.0, segments_join size (extent_after e x) xs ys p.1 q)

pub extent_of-append : (e : Extent) (xs ys : List ProgramHeader) → extent_of e (xs ++ ys) ≡ extent_of (extent_of e xs) ys
extent_of-append e [] ys = refl
extent_of-append e (x ∷ xs) ys = extent_of-append (extent_after e x) xs ys

-- one among others stands after those before it
pub segment_among : (size : ℕ) (e : Extent) (xs : List ProgramHeader) (s : ProgramHeader) (ys : List ProgramHeader) → AreSegments size e (xs ++ s ∷ ys) → IsSegment size (extent_of e xs) s
segment_among size e [] s ys p = p.0
segment_among size e (x ∷ xs) s ys p = segment_among size (extent_after e x) xs s ys p.1

-- ---- what a fault says isn't so of a segment that a space can have

pub breaks_none : (size : ℕ) (e : Extent) (s : ProgramHeader) (f : SegmentFault) → IsSegment size e s → BreaksSegment size e s f → ⊥
breaks_none size e s f p given = grind arith

-- ---- those of memory among others

pub filter-append : (p : ProgramHeader → Bool) (xs ys : List ProgramHeader) → filter p (xs ++ ys) ≡ filter p xs ++ filter p ys
filter-append p [] ys = refl
filter-append p (x ∷ xs) ys = by (p x) refl (filter-append p xs ys)
  where
    by : (b : Bool) → p x ≡ b → filter p (xs ++ ys) ≡ filter p xs ++ filter p ys → filter p (x ∷ (xs ++ ys)) ≡ filter p (x ∷ xs) ++ filter p ys
    by true e rest = cond-true _ _ _ e ∙ ap (λ zs. x ∷ zs) rest ∙ sym (ap (λ zs. zs ++ filter p ys) (cond-true _ _ _ e))
    by false e rest = cond-false _ _ _ e ∙ rest ∙ sym (ap (λ zs. zs ++ filter p ys) (cond-false _ _ _ e))

pub filter_kept : (p : ProgramHeader → Bool) (xs : List ProgramHeader) (x : ProgramHeader) → p x ≡ true → filter p (xs ++ x ∷ []) ≡ filter p xs ++ x ∷ []
filter_kept p xs x e = filter-append p xs (x ∷ []) ∙ ap (λ zs. filter p xs ++ zs) (cond-true _ _ _ e)

pub filter_left : (p : ProgramHeader → Bool) (xs : List ProgramHeader) (x : ProgramHeader) → p x ≡ false → filter p (xs ++ x ∷ []) ≡ filter p xs ++ []
filter_left p xs x e = filter-append p xs (x ∷ []) ∙ ap (λ zs. filter p xs ++ zs) (cond-false _ _ _ e)

-- ---- one more

-- a list in three parts: what was passed, the next one, and what is left
parts_at : (xs : List ProgramHeader) (i : ℕ) (d : ProgramHeader) → i < length xs → xs ≡ take i xs ++ slice_index_or xs i d ∷ drop (i + 1) xs
parts_at xs i d less = sym (take-append-drop i xs) ∙ ap (λ ys. take i xs ++ ys) (drop_more xs i d less)

-- those of memory so far
abbrev pub passed : ℕ → List ProgramHeader → List ProgramHeader
passed i xs = filter is_memory (take i xs)

passed_kept : (xs : List ProgramHeader) (i : ℕ) (d : ProgramHeader) → i < length xs → is_memory (slice_index_or xs i d) ≡ true → passed (i + 1) xs ≡ passed i xs ++ slice_index_or xs i d ∷ []
passed_kept xs i d less e = ap (filter is_memory) (taken_at xs i d less) ∙ filter_kept is_memory (take i xs) (slice_index_or xs i d) e

pub passed_left : (xs : List ProgramHeader) (i : ℕ) (d : ProgramHeader) → i < length xs → is_memory (slice_index_or xs i d) ≡ false → passed (i + 1) xs ≡ passed i xs
passed_left xs i d less e = ap (filter is_memory) (taken_at xs i d less) ∙ filter_left is_memory (take i xs) (slice_index_or xs i d) e ∙ append-nil (passed i xs)

pub one_more_fits : (size : ℕ) (xs : List ProgramHeader) (i : ℕ) (d : ProgramHeader) (e : Extent) → i < length xs → is_memory (slice_index_or xs i d) ≡ true → AreSegments size no_extent (passed i xs) → e ≡ extent_of no_extent (passed i xs)
    → IsSegment size e (slice_index_or xs i d) → AreSegments size no_extent (passed (i + 1) xs)
one_more_fits size xs i d e less memory before is fits =
    subst (AreSegments size no_extent) (sym (passed_kept xs i d less memory))
    (segments_join size no_extent (passed i xs) (slice_index_or xs i d ∷ []) before (subst (λ e. IsSegment size e (slice_index_or xs i d)) is fits, tt))

pub one_more_extent : (xs : List ProgramHeader) (i : ℕ) (d : ProgramHeader) (e longer : Extent) → i < length xs → is_memory (slice_index_or xs i d) ≡ true → e ≡ extent_of no_extent (passed i xs)
    → longer ≡ extent_after e (slice_index_or xs i d) → longer ≡ extent_of no_extent (passed (i + 1) xs)
one_more_extent xs i d e longer less memory is after =
    after ∙ ap (λ e. extent_after e (slice_index_or xs i d)) is
    ∙ sym (extent_of-append no_extent (passed i xs) (slice_index_or xs i d ∷ [])) ∙ sym (ap (extent_of no_extent) (passed_kept xs i d less memory))

-- the first that a space can't have
pub breaks_first : (size : ℕ) (xs : List ProgramHeader) (i : ℕ) (d : ProgramHeader) (e : Extent) (f : SegmentFault) → i < length xs → is_memory (slice_index_or xs i d) ≡ true → AreSegments size no_extent (passed i xs) → e ≡ extent_of no_extent (passed i xs)
    → BreaksSegment size e (slice_index_or xs i d) f → IsFirstSegmentFault size xs i f
breaks_first size xs i d e f less memory before is breaks = grind (arith, get_or_default)

-- where there is such a one, a space can't have them all
pub first_break_none : (size : ℕ) (xs : List ProgramHeader) (i : ℕ) (f : SegmentFault) → IsFirstSegmentFault size xs i f → AreSegments size no_extent (filter is_memory xs) → ⊥
first_break_none size xs i f b all =
    let s = b.segment in
    let rest : List ProgramHeader = filter is_memory (drop (i + 1) xs) in
    let kept : filter is_memory (s ∷ drop (i + 1) xs) ≡ s ∷ rest = cond-true _ _ _ b.memory in
    let parts : filter is_memory xs ≡ passed i xs ++ s ∷ rest =
    ap (filter is_memory) (parts_at xs i s b.within ∙ ap (λ y. take i xs ++ y ∷ drop (i + 1) xs) (sym b.there))
    ∙ filter-append is_memory (take i xs) (s ∷ drop (i + 1) xs) ∙ ap (λ ys. passed i xs ++ ys) kept in
    breaks_none size (extent_of no_extent (passed i xs)) s f
    (segment_among size no_extent (passed i xs) s rest (subst (AreSegments size no_extent) parts all)) b.breaks
