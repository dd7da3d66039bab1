-- What is read of a slot, what is wrong with it, and its text.
use Rattle.std.proofs.Common.{◌≡◌, ◌≤◌, ◌<◌, ◌+◌, ◌*◌, ℕ, nat_eq, List, [], ◌++◌, Bool, true, false, drop, length, Option, Result, Ok, Err, cond, refl, sym, ◌∙◌, ap, arith, ◌⊎◌, inl, inr}
use Rattle.std.specs.Prelude.{slice_index, slice_range}
use Rattle.std.specs.Result.{IsErrOf}
use Rattle.std.proofs.lemmas.Bool.{cases_lt, cond-true, eq-eqb}
use Rattle.sd_image.specs.declared.header.Header.{Header}
use Rattle.sd_image.specs.declared.reason.Reason.{Reason}
use Rattle.sd_image.specs.declared.reason.Reason.TheVariants.{Digest}
use Rattle.sd_image.specs.Header.{IsHeader}
use Rattle.sd_image.specs.Image.{Image, IsImage, is_open}
use Rattle.sd_image.specs.Reading.{◌>>=◌, breaks_digest, bytes_kept, fields_kept, fields_of, file_in, form_in, form_of, header_in, number_at, table_in}
use Rattle.sd_image.specs.ReasonLaws.{IsFaultyFor, IsReadAs, OneReason}
use Rattle.sd_image.specs.Table.{Listed}
use Rattle.sd_show.specs.declared.opened.Opened.{Opened}
use Rattle.sd_show.specs.declared.state.State.{State}
use Rattle.sd_show.specs.declared.stop.Stop.{Stop}
use Rattle.sd_show.specs.declared.stop.Stop.TheVariants as stop
use Rattle.sd_show.specs.declared.state.State.TheVariants.{Raw, Closed, Open}
use Rattle.sd_show.specs.Slots.{DamagedOrImage, OpenSlotIsRead, bytes_from, is_damaged, or_digest, reason_of, state_in, table_bytes}
use Rattle.sd_show.specs.Texts.{opened_text, slot_line, slot_lines}

-- ---- the state

open_then : (z o : Bool) → cond z Raw (cond o Open Closed) ≡ Open → o ≡ true
open_then true o e = absurd (let no : Raw ≡ Open = e in cc)
open_then false true e = refl
open_then false false e = absurd (let no : Closed ≡ Open = e in cc)

-- a slot whose state is open is open
pub opens : (file : List ℕ) → state_in file ≡ Open → is_open file ≡ true
opens file e = open_then (nat_eq (slice_index file 0) 0) (is_open file) e

-- ---- the fields

-- what two tests and a value give is the value
kept : {X Y : Type 0} (first : Result (Unit {0}) Reason) (x : X) (second : X → Result (Unit {0}) Reason) (value : X → Y) (y : Y)
    → ((first >>= λ _. Ok x) >>= λ form. second form >>= λ _. Ok (value form)) ≡ Ok y → value x ≡ y
kept (Err reason) x second value y is = absurd cc
kept (Ok u) x second value y is = by (second x) is
  where
    by : (s : Result (Unit {0}) Reason) → (s >>= λ _. Ok (value x)) ≡ Ok y → value x ≡ y
    by (Err reason) e = absurd cc
    by (Ok u) e = cc

-- a header that is read has the fields that stand there
pub fields_stand : (bytes : List ℕ) (len : ℕ) (h : Header) → header_in bytes len ≡ Ok h → fields_of (form_of bytes) bytes ≡ h
unfolding header_in form_in
fields_stand bytes len h is = kept (bytes_kept bytes) (form_of bytes) (λ form. fields_kept (fields_of form bytes) len) (λ form. fields_of form bytes) h is

-- where a header is read, the table is all that stands after its data pages
pub table_stands : (file : List ℕ) (h : Header) → header_in (slice_range file 0 4096) (length file) ≡ Ok h → 4096 + 4096 * h.pages + h.table_len ≡ length file
    → table_bytes file ≡ drop (4096 + 4096 * h.pages) file
unfolding fields_of
table_stands file h read fills =
    let stand = fields_stand (slice_range file 0 4096) (length file) h read in
    let pages : number_at 8 48 (slice_range file 0 4096) ≡ h.pages = ap (λ (g : Header). g.pages) stand in
    let long : number_at 8 56 (slice_range file 0 4096) ≡ h.table_len = ap (λ (g : Header). g.table_len) stand in
    ap (λ at. bytes_from at file)
    (cond-true (nat_eq (4096 + 4096 * number_at 8 48 (slice_range file 0 4096) + number_at 8 56 (slice_range file 0 4096)) (length file)) _ _
    (eq-eqb _ _ (omega (arith, pages, long, fills))))
    ∙ ap (λ n. drop (4096 + 4096 * n) file) pages

-- ---- the fault

behind_table : (read : Result (List Listed) Reason) (other : Bool) (h : Header)
    → or_digest (reason_of read) other ≡ reason_of {X = Header × List Listed} (read >>= λ spaces. cond other (Err Digest) (Ok (h, spaces)))
behind_table (Ok spaces) true h = refl
behind_table _ _ h = refl

pub others_named : (file table : List ℕ) (h : Header) (fault : Option Reason) (other : Bool) → header_in (slice_range file 0 4096) (length file) ≡ Ok h
    → IsHeader h (length file) → table ≡ table_bytes file → fault ≡ reason_of (table_in h table) → other ≡ breaks_digest h file → or_digest fault other ≡ reason_of (file_in file)
others_named file table h fault other read is stands found differs =
    let at : table ≡ drop (4096 + 4096 * h.pages) file = stands ∙ table_stands file h read is.fills in
    let whole : reason_of (file_in file) ≡ reason_of {X = Header × List Listed} (table_in h (drop (4096 + 4096 * h.pages) file) >>= λ spaces. cond (breaks_digest h file) (Err Digest) (Ok (h, spaces))) = rw read refl in
    ap (λ f. or_digest f other) (found ∙ ap (λ bytes. reason_of (table_in h bytes)) at) ∙ ap (or_digest _) differs
    ∙ behind_table (table_in h (drop (4096 + 4096 * h.pages) file)) (breaks_digest h file) h ∙ sym whole

-- ---- the text

pub text_of_open : (slot : ℕ) (file : List ℕ) (state : State) (opened : Opened) → state ≡ state_in file → is_open file ≡ true → OpenSlotIsRead file opened
    → slot_line slot state ++ opened_text opened.fault opened.front opened.digest opened.table.items ≡ slot_lines slot file
unfolding slot_lines
text_of_open slot file state opened at opens is = rw (at, opens, is.fault, is.front, is.digest, is.table) refl

pub text_of_shut : (slot : ℕ) (file : List ℕ) (state : State) → state ≡ state_in file → is_open file ≡ false → slot_line slot state ++ [] ≡ slot_lines slot file
unfolding slot_lines
text_of_shut slot file state at shut = rw (at, shut) refl

-- ---- damage

pub told_apart : OneReason → DamagedOrImage
told_apart law file bytes opens = by (law file bytes opens)
  where
    by : ((i : Image) × IsReadAs file i) ⊎ ((r : Reason) × IsFaultyFor file r)
        → ((is_damaged file ≡ true) × ((i : Image) → IsImage file i → ⊥)) ⊎ ((is_damaged file ≡ false) × ((i : Image) × IsImage file i))
    by (inl good) = inr (rw (opens, good.1.read) refl, (good.0, good.1.is))
    by (inr faulty) = inl (rw (opens, faulty.1.found) refl, faulty.1.none)

-- ---- failures

not_device : {T : Type 0} (x : T) → IsErrOf {T = T} {E = Stop} (Ok x) stop.Device → ⊥
not_device x e = cc

-- where a failure would have been the answer, none was counted
pub none_failed : {T : Type 0} (x : T) (before now : ℕ) → before ≤ now → (before < now → IsErrOf {T = T} {E = Stop} (Ok x) stop.Device) → now ≡ before
none_failed x before now later stops = elim (cases_lt before now) [
  | inl less ↦ absurd (not_device x (stops less))
  | inr back ↦ omega (arith, later, back)
]
