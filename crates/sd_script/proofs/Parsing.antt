-- What is known of a script while its lines are parsed.
use Rattle.std.proofs.Common.{◌≡◌, ℕ, ◌+◌, ◌<◌, ◌≤◌, ◌==◌, Bool, true, false, List, [], ◌∷◌, ◌++◌, length, get_or, take, drop, Some, None, Err, refl, arith, sym, ap, ◌∙◌, nat_lt, append_assoc, length-append}
use Rattle.std.specs.List.{filter_map, position_or_len}
use Rattle.std.specs.Option.{option_map}
use Rattle.std.specs.Prelude.{position}
use Rattle.std.proofs.lemmas.Bool.{false_from_ne_true}
use Rattle.std.proofs.lemmas.Bool.Decides.{nat_tests, Decides-ltb}
use Rattle.std.proofs.lemmas.List.Elements.{filter_map-append}
use Rattle.std.proofs.lemmas.List.Splits.{slice_split_first}
use Rattle.std.proofs.lemmas.List.Sums.{position_or_len_is}
use Rattle.memchr.specs.Find.{IsFirstByte, is_byte}
use Rattle.sd_script.specs.declared.line.Line.{Line}
use Rattle.sd_script.specs.declared.script.Script.{Script}
use Rattle.sd_script.specs.declared.script_error.ScriptError.{ScriptError}
use Rattle.sd_script.specs.declared.script_error.ScriptError.TheVariants as error
use Rattle.sd_script.specs.Script.{IfUnfit, is_unfit, request_in, lines_of, requests_of, first_unfit_line}
use Rattle.sd_script.proofs.Fields.{is_space, one_part}

abbrev pub is_newline : ℕ → Bool
is_newline byte = byte == 10

-- the lines before the rest of a script fit, and made these requests; the rest begins with the line of this number
pub record Parsed (script rest : List ℕ) (number : ℕ) (requests : List Line) : Type 0 where
  pub before : List (List ℕ)
  pub parted : before ++ lines_of rest ≡ lines_of script
  pub counted : length before + 1 ≡ number
  pub fit : position_or_len is_unfit before ≡ length before
  pub in_order : requests ≡ filter_map request_in before
  pub room : number + length rest ≤ length script + 1

-- ---- where a text's first line ends

pub line_at : (text : List ℕ) (end : ℕ) → IsFirstByte (is_byte 10) text (Some end) → lines_of text ≡ take end text ∷ lines_of (drop (end + 1) text)
line_at text end first = grind (arith, position_or_len_is, false_from_ne_true, slice_split_first)

pub line_alone : (text : List ℕ) → IsFirstByte (is_byte 10) text None → lines_of text ≡ text ∷ []
line_alone text none = one_part is_newline text
    (position_or_len_is is_newline text (length text) 0 (omega arith) (λ k l. false_from_ne_true (is_newline (get_or text k 0)) (none k (omega arith) l)) (λ l. absurd (omega arith)))

-- ---- where a text's first field ends

pub space_at : (text : List ℕ) (end : ℕ) → IsFirstByte (is_byte 32) text (Some end) → (position_or_len is_space text ≡ end) × (end < length text) × (get_or text end 0 ≡ 32)
space_at text end first = grind (arith, position_or_len_is, false_from_ne_true)

pub no_space : (text : List ℕ) → IsFirstByte (is_byte 32) text None → position_or_len is_space text ≡ length text
no_space text none =
    position_or_len_is is_space text (length text) 0 (omega arith) (λ k l. false_from_ne_true (is_space (get_or text k 0)) (none k (omega arith) l)) (λ l. absurd (omega arith))

-- ---- lists of which none passes a test
module _ {X : Type 0} (p : X → Bool) where
  passes_not : (x : X) (xs : List X) → position_or_len p (x ∷ xs) ≡ length (x ∷ xs) → (p x ≡ false) × (position_or_len p xs ≡ length xs)
  passes_not x xs none = grind arith

  none_more : (xs : List X) (y : X) → position_or_len p xs ≡ length xs → p y ≡ false → position_or_len p (xs ++ y ∷ []) ≡ length (xs ++ y ∷ [])
  none_more [] y none fails = rw fails refl
  none_more (x ∷ xs) y none fails =
      let parts = passes_not x xs none in
      let more = none_more xs y parts.1 fails in
      let e : position_or_len p (x ∷ xs ++ y ∷ []) ≡ 1 + position_or_len p (xs ++ y ∷ []) = rw parts.0 refl in
      omega arith

  first_at : (xs ys : List X) (y : X) → position_or_len p xs ≡ length xs → p y ≡ true → position_or_len p (xs ++ y ∷ ys) ≡ length xs
  first_at [] ys y none passes = rw passes refl
  first_at (x ∷ xs) ys y none passes =
      let parts = passes_not x xs none in
      let more = first_at xs ys y parts.1 passes in
      let e : position_or_len p (x ∷ xs ++ y ∷ ys) ≡ 1 + position_or_len p (xs ++ y ∷ ys) = rw parts.0 refl in
      omega arith

  first_is : (xs : List X) (i : ℕ) → position_or_len p xs ≡ i → i < length xs → position p xs ≡ Some i
  first_is xs i e within = rw (e, (Decides-ltb i (length xs)).1 within) refl

  none_is : (xs : List X) → position_or_len p xs ≡ length xs → position p xs ≡ None
  none_is xs e = let out : nat_lt (length xs) (length xs) ≡ false = grind (arith, nat_tests) in rw (e, out) refl

-- ---- a line more, which fits
pub parsed-more : (script rest line others : List ℕ) (number : ℕ) (requests : List Line) → Parsed script rest number requests → lines_of rest ≡ line ∷ lines_of others
    → length others < length rest → is_unfit line ≡ false → Parsed script others (number + 1) (requests ++ filter_map request_in (line ∷ []))
parsed-more script rest line others number requests parsed parts shorter fits =
    let long = length-append parsed.before (line ∷ []) in
    let counted = parsed.counted in
    let room = parsed.room in
    record {
      before = parsed.before ++ line ∷ [];
      parted = append_assoc parsed.before (line ∷ []) (lines_of others) ∙ ap (λ xs. parsed.before ++ xs) (sym parts) ∙ parsed.parted;
      counted = omega arith;
      fit = none_more is_unfit parsed.before line parsed.fit fits;
      in_order = ap (λ xs. xs ++ filter_map request_in (line ∷ [])) parsed.in_order ∙ sym (filter_map-append request_in parsed.before (line ∷ []));
      room = omega arith;
    }

-- ---- the first line that doesn't fit
pub blamed : (script rest line : List ℕ) (more : List (List ℕ)) (number n : ℕ) (requests : List Line) → Parsed script rest number requests → lines_of rest ≡ line ∷ more
    → (n ≡ number) × (is_unfit line ≡ true) → first_unfit_line script ≡ Some n
blamed script rest line more number n requests parsed parts unfit =
    let lines : parsed.before ++ line ∷ more ≡ lines_of script = ap (λ xs. parsed.before ++ xs) (sym parts) ∙ parsed.parted in
    let first = first_at is_unfit parsed.before more line parsed.fit unfit.1 in
    let long = length-append parsed.before (line ∷ more) in
    let found = first_is is_unfit (parsed.before ++ line ∷ more) (length parsed.before) first (omega arith) in
    ap (λ xs. option_map (λ place. place + 1) (position is_unfit xs)) (sym lines) ∙ ap (option_map (λ place. place + 1)) found ∙ ap Some (parsed.counted ∙ sym unfit.0)

pub blamed-by : (script rest line : List ℕ) (more : List (List ℕ)) (number : ℕ) (requests : List Line) → Parsed script rest number requests → lines_of rest ≡ line ∷ more → (e : ScriptError)
    → IfUnfit {T = Unit {0}} (Err e) (λ n. (n ≡ number) × (is_unfit line ≡ true)) → IfUnfit {T = Script} (Err e) (λ n. first_unfit_line script ≡ Some n)
blamed-by script rest line more number requests parsed parts (error.Line n) unfit = blamed script rest line more number n requests parsed parts unfit
blamed-by script rest line more number requests parsed parts error.OutOfMemory unfit = tt

-- ---- all lines fit
module _ (script rest : List ℕ) (number : ℕ) (requests : List Line) (parsed : Parsed script rest number requests) (alone : lines_of rest ≡ rest ∷ []) where
  all_lines : parsed.before ++ rest ∷ [] ≡ lines_of script
  all_lines = ap (λ xs. parsed.before ++ xs) (sym alone) ∙ parsed.parted

  pub all_fit : is_unfit rest ≡ false → first_unfit_line script ≡ None
  all_fit fits = ap (λ xs. option_map (λ place. place + 1) (position is_unfit xs)) (sym all_lines)
      ∙ ap (option_map (λ place. place + 1)) (none_is is_unfit (parsed.before ++ rest ∷ []) (none_more is_unfit parsed.before rest parsed.fit fits))

  pub all_requests : requests ++ filter_map request_in (rest ∷ []) ≡ requests_of script
  all_requests = ap (λ xs. xs ++ filter_map request_in (rest ∷ [])) parsed.in_order ∙ sym (filter_map-append request_in parsed.before (rest ∷ [])) ∙ ap (filter_map request_in) all_lines
