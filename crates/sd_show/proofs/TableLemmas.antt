-- What is read of a table, and how much of it is shown.
use Rattle.std.proofs.Common.{◌≡◌, ◌≤◌, ◌<◌, ◌+◌, ◌-◌, ℕ, List, ◌++◌, take, drop, length, min, Option, Some, None, Result, Ok, Err, IfOk, sym, ◌∙◌, ap, subst, arith, inl, inr}
use Rattle.std.specs.Prelude.{slice_range}
use Rattle.std.proofs.lemmas.Bool.{cases_lt}
use Rattle.std.proofs.lemmas.List.{length-drop, length-take-le, take-append-drop, take-take, take_all}
use Rattle.sd_image.specs.declared.header.Header.{Header}
use Rattle.sd_image.specs.declared.reason.Reason.{Reason}
use Rattle.sd_image.specs.Fronts.{FrontDecides, front_fault}
use Rattle.sd_image.specs.Reading.{digest_of_file, file_in, header_in, table_in}
use Rattle.sd_show.specs.declared.judged.Judged.{Judged}
use Rattle.sd_show.specs.declared.stop.Stop.{Stop}
use Rattle.sd_show.specs.declared.opened.Opened.{Opened}
use Rattle.sd_show.specs.Slots.{BeginsTable, IsJudged, IsTableOf, OpenSlotIsRead, reason_of, shown_table, table_bytes}
use Rattle.sd_show.proofs.ByteLemmas.{range_to_end}

-- ---- the beginning of a table

-- the first 2 MiB of it are those of the table
pub shortened : (table bytes : List ℕ) → BeginsTable table bytes → take 2097152 bytes ≡ take 2097152 table
shortened table bytes begins =
    elim (cases_lt (length bytes) 2097152) [
      | inl short ↦ (let long = begins.long in ap (take 2097152) (begins.beginning ∙ take_all (length bytes) table (grind arith)))
      | inr enough ↦ ap (take 2097152) begins.beginning ∙ take-take 2097152 (length bytes) table enough
    ]

-- so they are what is shown of it where the file is no image
pub shown_short : (fault : Option Reason) (reason : Reason) (table bytes short : List ℕ) → fault ≡ Some reason → BeginsTable table bytes → short ≡ take 2097152 bytes → short ≡ shown_table fault table
shown_short fault reason table bytes short is begins first = first ∙ shortened table bytes begins ∙ ap (λ f. shown_table f table) (sym is)

whole_begins : (table bytes : List ℕ) → bytes ≡ table → BeginsTable table bytes
whole_begins table bytes same =
    let long : length table ≤ length bytes = (let e = ap length same in omega (arith, e)) in
    record { beginning = same ∙ sym (take_all (length bytes) table long); long = grind arith }

part_begins : (table bytes : List ℕ) (n : ℕ) → bytes ≡ take n table → n ≤ length table → min 2097152 (length table) ≤ n → BeginsTable table bytes
part_begins table bytes n part few long =
    let size : length bytes ≡ n = ap length part ∙ length-take-le n table few in
    record { beginning = part ∙ ap (λ k. take k table) (sym size); long = subst (λ k. min 2097152 (length table) ≤ k) (sym size) long }

-- the bytes of a file from a place on, so many, are the first of what stands there
range_is_front : (file : List ℕ) (at n : ℕ) → slice_range file at (at + n) ≡ take n (drop at file)
range_is_front file at n = ap (λ k. take k (drop at file)) (let e : at + n - at ≡ n = omega arith in e)

-- ---- a table after a header

-- a rule breaks in a front
pub front_judged : (file bytes : List ℕ) (h : Header) (at count : ℕ) (reason : Reason) (judged : Judged) → judged.bytes.items ≡ bytes → judged.fault ≡ Some reason
    → bytes ≡ slice_range file at (at + count) → at + count < length file → 2097152 ≤ count → FrontDecides h bytes → front_fault (table_in h bytes) ≡ Some reason
    → IsJudged h (drop at file) judged
front_judged file bytes h at count reason judged are found is short long decides fault =
    let table : List ℕ = drop at file in
    let rest : List ℕ = drop count table in
    let here : bytes ≡ take count table = is ∙ range_is_front file at count in
    let all : table ≡ bytes ++ rest = sym (take-append-drop count table) ∙ ap (λ xs. xs ++ rest) (sym here) in
    let left : length table ≡ length file - at = length-drop at file in
    let behind : length rest ≡ length table - count = length-drop count table in
    let few : count ≤ length table = omega (arith, left, short) in
    let some : 0 < length rest = omega (arith, left, behind, short) in
    record {
      begins = subst (BeginsTable table) (sym are) (part_begins table bytes count here few (grind arith));
      whole = λ none. absurd (let no : Some reason ≡ None = sym found ∙ none in cc);
      fault = found ∙ sym (ap reason_of (ap (table_in h) all ∙ decides rest reason some fault));
    }

-- all of it was read
pub whole_judged : (file bytes : List ℕ) (h : Header) (at len : ℕ) (judged : Judged) → judged.bytes.items ≡ bytes → judged.fault ≡ reason_of (table_in h bytes) → len ≡ length file → at ≤ len
    → bytes ≡ slice_range file at (at + (len - at)) → IsJudged h (drop at file) judged
whole_judged file bytes h at len judged are found size within is =
    let end : at + (len - at) ≡ length file = omega (arith, size, within) in
    let same : bytes ≡ drop at file = is ∙ ap (λ k. slice_range file at k) end ∙ range_to_end file at in
    record {
      begins = whole_begins (drop at file) judged.bytes.items (are ∙ same);
      whole = λ none. are ∙ same;
      fault = found ∙ ap (λ xs. reason_of (table_in h xs)) same;
    }

-- ---- the table of a file

same_header : (read : Result Header Reason) (a b : Header) → read ≡ Ok a → read ≡ Ok b → a ≡ b
same_header read a b one other = cc

is_table_of : (file : List ℕ) (h : Header) (at : ℕ) (judged : Judged) → drop at file ≡ table_bytes file → header_in (slice_range file 0 4096) (length file) ≡ Ok h → IsJudged h (drop at file) judged
    → IsTableOf file judged
is_table_of file h at judged same read is = record {
  begins = subst (λ table. BeginsTable table judged.bytes.items) same is.begins;
  whole = λ none. is.whole none ∙ same;
  fault = λ other also. is.fault ∙ ap (λ table. reason_of (table_in h table)) same ∙ ap (λ g. reason_of (table_in g (table_bytes file))) (same_header (header_in (slice_range file 0 4096) (length file)) h other read also);
}

-- its header is one
pub tables_of : (file : List ℕ) (h : Header) (at : ℕ) (result : Result Judged Stop) → drop at file ≡ table_bytes file → header_in (slice_range file 0 4096) (length file) ≡ Ok h
    → IfOk result (IsJudged h (drop at file)) → IfOk result (IsTableOf file)
tables_of file h at (Ok judged) same read is = is_table_of file h at judged same read is
tables_of file h at (Err stop) same read is = tt

-- its header is none
pub no_table_of : (file bytes : List ℕ) (at n len : ℕ) (reason : Reason) (judged : Judged) → judged.bytes.items ≡ bytes → judged.fault ≡ Some reason → drop at file ≡ table_bytes file
    → len ≡ length file → at ≤ len → n ≡ min 2097152 (len - at) → bytes ≡ slice_range file at (at + n) → header_in (slice_range file 0 4096) (length file) ≡ Err reason → IsTableOf file judged
no_table_of file bytes at n len reason judged are found same size within count is breaks =
    let left : length (drop at file) ≡ length file - at = length-drop at file in
    let few : n ≤ length (drop at file) = grind arith in
    let long : min 2097152 (length (drop at file)) ≤ n = grind arith in
    record {
      begins = subst (λ table. BeginsTable table judged.bytes.items) same (subst (BeginsTable (drop at file)) (sym are) (part_begins (drop at file) bytes n (is ∙ range_is_front file at n) few long));
      whole = λ none. absurd (let no : Some reason ≡ None = sym found ∙ none in cc);
      fault = λ header read. absurd (let no : Ok header ≡ Err reason = sym read ∙ breaks in cc);
    }

-- ---- what is read of an open slot

pub opened_is : (file : List ℕ) (opened : Opened) (judged : Judged) (fault : Option Reason) → opened.front ≡ slice_range file 0 4096 → opened.digest ≡ digest_of_file file → opened.fault ≡ fault
    → IsTableOf file judged → (fault ≡ None → judged.fault ≡ None) → fault ≡ reason_of (file_in file)
    → ((table : List ℕ) → BeginsTable table judged.bytes.items → (fault ≡ None → judged.bytes.items ≡ table) → opened.table.items ≡ shown_table fault table) → OpenSlotIsRead file opened
opened_is file opened judged fault front digest same is kept named shown = record {
  front = front;
  table = shown (table_bytes file) is.begins (λ none. is.whole (kept none)) ∙ ap (λ f. shown_table f (table_bytes file)) named;
  digest = digest;
  fault = same ∙ named;
}
