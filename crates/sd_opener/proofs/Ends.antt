-- What the inspection of a slot ends with.
use Rattle.std.proofs.Common.{◌≡◌, ◌≢◌, ℕ, ◌<◌, ◌≤◌, true, nat_eq, nat_le, nat_lt, ◌==◌, if◌then◌else◌, List, drop, length, slice_index, Option, Some, None, Ok, Err, sym, ◌∙◌, ap, subst, inl, inr, arith}
use Rattle.std.proofs.Math.Seq.{length-slice}
use Rattle.std.proofs.lemmas.Bool.Decides.{nat_tests}
use Rattle.std.proofs.lemmas.Bool.{and_from, cases_lt, eq-eqb, le-leb, lt-ltb}
use Rattle.std.proofs.lemmas.Option.{same_Some}
use Rattle.sd_image.specs.declared.header.Header.{Header}
use Rattle.sd_image.specs.declared.reason.Reason.{Reason}
use Rattle.sd_image.specs.Header.{header_text, IsHeader}
use Rattle.sd_image.specs.Image.{gate, is_open}
use Rattle.sd_image.specs.Reading.{header_in}
use Rattle.sd_gate.specs.declared.phase.Phase.{Phase}
use Rattle.sd_gate.specs.declared.phase.Phase.TheVariants.{Raw, Whole, Shut}
use Rattle.sd_gate.specs.Laws.{found_phase, phase_found, phase_looked_up}
use Rattle.sd_gate.specs.Looks.{HasNoHeader, IsFound, front_of_file, table_of_file, ReadsHeader as LooksHeader}
use Rattle.sd_gate.specs.Plans.{Back}
use Rattle.sd_restore.specs.Faulty.{IsFaulty}
use Rattle.sd_restore.specs.Reading.{HasHeader}

-- a file in phase Whole has a header after an open gate
pub record IsWhole (file : List ℕ) : Type 0 where
  pub long : 4096 ≤ length file
  pub gate : slice_index file 0 ≡ gate

found_raw : (file : List ℕ) → length file < 4096 → found_phase file ≡ Raw
found_raw file short = grind (arith, nat_tests)

found_closed : (file : List ℕ) → 4096 ≤ length file → slice_index file 0 ≢ gate → found_phase file ≡ Shut
found_closed file long other = grind (arith, nat_tests)

pub whole_is : (file : List ℕ) → found_phase file ≡ Whole → IsWhole file
whole_is file is = grind arith

pub opens_so : (file : List ℕ) → IsWhole file → is_open file ≡ true
opens_so file whole = and_from (nat_le 4096 (length file)) (nat_eq (slice_index file 0) gate) (le-leb 4096 (length file) whole.long) (eq-eqb (slice_index file 0) gate whole.gate)

pub whole_phase : (file : List ℕ) → is_open file ≡ true → found_phase file ≡ Whole
whole_phase file opens = grind (arith, nat_tests)

first_gate : (file : List ℕ) → 4096 ≤ length file → slice_index (front_of_file file) 0 ≡ slice_index file 0
first_gate file long = grind arith

first_length : (file : List ℕ) → 4096 ≤ length file → length (front_of_file file) ≡ 4096
first_length file long = length-slice 0 4096 file long

-- what came back of an open file: its length, and its first bytes
module _ (file : List ℕ) (found : Back) (is : IsFound file found) (whole : IsWhole file) where
  pub its_first : (first : List ℕ) → found.first ≡ Some first → first ≡ front_of_file file
  its_first first told = same_Some first (front_of_file file) (sym told ∙ is.first whole.long)

  pub first_is_whole : (first : List ℕ) → found.first ≡ Some first → length first ≡ 4096
  first_is_whole first told = ap length (its_first first told) ∙ first_length file whole.long

  pub its_length : (len : ℕ) → found.len ≡ Some len → len ≡ length file
  its_length len told = same_Some len (length file) (sym told ∙ is.len)

  looks_header : (h : Header) → header_in (front_of_file file) (length file) ≡ Ok h → LooksHeader file h
  looks_header h header = record { long = whole.long; opens = first_gate file whole.long ∙ whole.gate; header = header }

  here : (first : List ℕ) (len : ℕ) → found.first ≡ Some first → found.len ≡ Some len → header_in first len ≡ header_in (front_of_file file) (length file)
  here first len told_first told_len = ap (λ bytes. header_in bytes len) (its_first first told_first) ∙ ap (header_in (front_of_file file)) (its_length len told_len)

  pub its_table : (first : List ℕ) (len : ℕ) (h : Header) → found.first ≡ Some first → found.len ≡ Some len → header_in first len ≡ Ok h
      → found.second ≡ Some (table_of_file h file)
  its_table first len h told_first told_len header = is.table h (looks_header h (sym (here first len told_first told_len) ∙ header))

  pub its_header : (first : List ℕ) (len : ℕ) (h : Header) → found.first ≡ Some first → found.len ≡ Some len
      → (drop 1 first ≡ header_text h) × IsHeader h len → HasHeader file h
  its_header first len h told_first told_len reads = grind (arith, opens_so)

  pub its_reason : (first : List ℕ) (len : ℕ) (why : Reason) → found.first ≡ Some first → found.len ≡ Some len → header_in first len ≡ Err why
      → HasNoHeader file why
  its_reason first len why told_first told_len header = grind arith

-- the phase that is said is the file's
pub phase_is : (file : List ℕ) (found : Back) (phase : Phase) → IsFound file found → phase_found found.len found.first ≡ Some phase → phase ≡ found_phase file
phase_is file found phase is told = elim (cases_lt (length file) 4096) [
  | inl short ↦ short_phase found.first (subst (λ len. phase_found len found.first ≡ Some phase) is.len told) short
  | inr long ↦
      let now : phase_found (Some (length file)) (Some (front_of_file file)) ≡ Some phase =
      subst (λ first. phase_found (Some (length file)) first ≡ Some phase) (is.first long) (subst (λ len. phase_found len found.first ≡ Some phase) is.len told) in
      same_Some phase (phase_looked_up (length file) (front_of_file file)) (sym now) ∙ told_long long
]
  where
    short_phase : (first : Option (List ℕ)) → phase_found (Some (length file)) first ≡ Some phase → length file < 4096 → phase ≡ found_phase file
    short_phase None now short = same_Some phase Raw (sym now ∙ ap (λ b. if b then Some Raw else None) (lt-ltb (length file) 4096 short)) ∙ sym (found_raw file short)
    short_phase (Some bytes) now short = same_Some phase Raw (sym now ∙ ap (λ b. Some (if b then Raw else (if slice_index bytes 0 == gate then Whole else Shut))) (lt-ltb (length file) 4096 short)) ∙ sym (found_raw file short)

    told_long : 4096 ≤ length file → phase_looked_up (length file) (front_of_file file) ≡ found_phase file
    told_long long = ap (λ byte. if nat_lt (length file) 4096 then Raw else (if byte == gate then Whole else Shut)) (first_gate file long)

-- a header that is none breaks the file
pub broken_is_faulty : (file : List ℕ) (why : Reason) → HasNoHeader file why → IsFaulty file why
broken_is_faulty file why broken = grind (arith, opens_so, first_gate)
