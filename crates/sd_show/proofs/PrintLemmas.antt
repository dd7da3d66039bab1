-- What is printed in parts.
use Rattle.std.proofs.Common.{◌≡◌, ◌≤◌, ◌<◌, ◌+◌, ◌-◌, ◌^◌, false, codes, replicate, append-nil, ℕ, List, [], ◌∷◌, ◌++◌, drop, length, get_or, Option, Result, Ok, Err, OnOk, refl, sym, ◌∙◌, ap, subst, arith}
use Rattle.std.specs.Fmt.{decimal, char_count, shown_prefix, padded_integral, format_spec}
use Rattle.std.specs.Io.KnownBytes.{Appends}
use Rattle.std.proofs.KnownBytes.{Appends-nil, Appends-trans}
use Rattle.std.proofs.lemmas.List.{drop_more, length-drop, nil_from_length}
use Rattle.sd_show.specs.declared.state.State.{State}
use Rattle.sd_show.specs.Slots.{state_word}
use Rattle.sd_show.specs.Items.{place_after_run, place_after_runs, place_after_space, runs_in, spaces_in}
use Rattle.sd_show.specs.Texts.{run_line, runs_text, slot_line, space_lines, spaces_text}
use Rattle.sd_show.proofs.ItemLemmas.{spaces_more}

-- where a part was printed of what is left, the rest makes it whole
pub part_printed : (a b c : Option (List ℕ)) (part rest whole : List ℕ) → part ++ rest ≡ whole → Appends a b part → Appends b c rest → Appends a c whole
part_printed a b c part rest whole e p q = subst (Appends a c) e (Appends-trans a b c part rest p q)

-- where nothing is left, all is printed
pub all_printed : (a : Option (List ℕ)) (rest : List ℕ) → rest ≡ [] → Appends a a rest
all_printed a rest none = subst (Appends a a) (sym none) (Appends-nil a)

-- the same, where the rest may fail
pub then_printed : {T E : Type 0} (result : Result T E) (a b c : Option (List ℕ)) (part rest whole : List ℕ) → part ++ rest ≡ whole → Appends a b part
    → OnOk result (Appends b c rest) → OnOk result (Appends a c whole)
then_printed (Ok value) a b c part rest whole e p q = part_printed a b c part rest whole e p q
then_printed (Err why) a b c part rest whole e p q = tt

none_left : (xs : List (List ℕ)) (i : ℕ) → length xs ≤ i → drop i xs ≡ []
none_left xs i all = nil_from_length (drop i xs) (length-drop i xs ∙ (let e : length xs - i ≡ 0 = omega (arith, all) in e))

-- ---- a slot's number

nothing_less : (n : ℕ) → n - 0 - char_count (shown_prefix (format_spec 32 0 4 3 (2 ^ 64 - 1)) []) ≡ n
unfolding char_count
nothing_less n = let none : char_count (shown_prefix (format_spec 32 0 4 3 (2 ^ 64 - 1)) []) ≡ 0 = refl in omega (arith, none)

-- what `{slot:03}` writes
pub slot_padded : (slot : ℕ) → padded_integral (format_spec 32 0 4 3 (2 ^ 64 - 1)) false [] (decimal slot) ≡ replicate (3 - length (decimal slot)) 48 ++ decimal slot
unfolding padded_integral
slot_padded slot = rw (nothing_less (3 - length (decimal slot)), append-nil (decimal slot))

pub slot_written : (slot : ℕ) (state : State) (shown word : List ℕ) → shown ≡ replicate (3 - length (decimal slot)) 48 ++ decimal slot → word ≡ state_word state
    → codes "slot " ++ (shown ++ (codes " " ++ (word ++ 10 ∷ []))) ≡ slot_line slot state
unfolding slot_line
slot_written slot state shown word padded named = rw (padded, named) refl

-- ---- runs

pub runs_more : (at : Option ℕ) (runs : List (List ℕ)) (i : ℕ) → i < length runs
    → run_line at (get_or runs i []) ++ runs_text (place_after_run at (get_or runs i [])) (drop (i + 1) runs) ≡ runs_text at (drop i runs)
runs_more at runs i less = sym (ap (runs_text at) (drop_more runs i [] less))

pub behind_more : (at : Option ℕ) (runs : List (List ℕ)) (i : ℕ) → i < length runs
    → place_after_runs (place_after_run at (get_or runs i [])) (drop (i + 1) runs) ≡ place_after_runs at (drop i runs)
behind_more at runs i less = sym (ap (place_after_runs at) (drop_more runs i [] less))

pub runs_done : (at : Option ℕ) (runs : List (List ℕ)) (i : ℕ) → length runs ≤ i → runs_text at (drop i runs) ≡ []
runs_done at runs i all = ap (runs_text at) (none_left runs i all)

pub behind_done : (at : Option ℕ) (runs : List (List ℕ)) (i : ℕ) → length runs ≤ i → place_after_runs at (drop i runs) ≡ at
behind_done at runs i all = ap (place_after_runs at) (none_left runs i all)

-- ---- spaces

pub spaces_text_more : (left : ℕ) (at : Option ℕ) (bytes : List ℕ) → 0 < left → 16 ≤ length bytes
    → space_lines at bytes ++ spaces_text (place_after_runs at (runs_in bytes)) (spaces_in (left - 1) (place_after_space bytes)) ≡ spaces_text at (spaces_in left bytes)
spaces_text_more left at bytes some long = sym (ap (spaces_text at) (spaces_more left bytes some long))
