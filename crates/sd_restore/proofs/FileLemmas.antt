-- The file of an open slot is the image that was read from it.
use Rattle.std.proofs.Common.{◌≡◌, ◌≢◌, ◌<◌, ◌≤◌, ◌+◌, ◌-◌, ◌*◌, ℕ, true, false, List, [], ◌∷◌, ◌++◌, map, take, drop, length, Some, Ok, Err, refl, sym, ◌∙◌, ap, subst, arith, inl, inr}
use Rattle.std.specs.Prelude.{◌==◌, nat_le, slice_range, slice_index}
use Rattle.std.proofs.lemmas.Bool.{and_from, and_right, eq-eqb, le-leb, ne_eqb}
use Rattle.sd_image.specs.Header.{header_text, IsHeader}
use Rattle.sd_image.specs.Table.{listing_of, table_text, IsTable}
use Rattle.sd_image.specs.Image.{Image, IsImage, OpenImages, is_open}
use Rattle.std.proofs.lemmas.List.{length-drop, length-take-le, take-append-drop}
use Rattle.sd_image.specs.declared.header.Header.{Header}
use Rattle.sd_image.specs.declared.reason.Reason.{Reason}
use Rattle.sd_image.specs.Fronts.{FrontDecides, front_fault}
use Rattle.sd_image.specs.Laws.{FileIsImage}
use Rattle.sd_image.specs.Reading.{header_in, table_in}
use Rattle.sd_image.specs.ReasonLaws.{GoodHeaderHasNoReason}
use Rattle.sd_restore.specs.declared.decoded.Decoded.{Decoded}
use Rattle.sd_restore.specs.Faulty.{IsFaulty}
use Rattle.sd_restore.specs.Reading.{HasDigestOf, HasHeader, IsDecodedAs, table_bytes}
use Rattle.sd_restore.proofs.TakeLemmas.{taken_all}

index_of_first : (file : List ℕ) → slice_index (slice_range file 0 4096) 0 ≡ slice_index file 0
index_of_first file = grind arith

-- whether a file is open is said by its length and its first byte
pub short_is_closed : (file : List ℕ) (len : ℕ) → len ≡ length file → len < 4096 → is_open file ≡ false
short_is_closed file len long short = grind (arith, le-leb)

pub gate_is_open : (file bytes : List ℕ) (len : ℕ) → len ≡ length file → 4096 ≤ len → bytes ≡ slice_range file 0 4096 → slice_index bytes 0 ≡ 165
    → is_open file ≡ true
gate_is_open file bytes len long enough are gate =
    and_from (nat_le 4096 (length file)) (slice_index file 0 == 165) (le-leb 4096 (length file) (subst (λ n. 4096 ≤ n) long enough))
    (eq-eqb (slice_index file 0) 165 (sym (ap (λ xs. slice_index xs 0) are ∙ index_of_first file) ∙ gate))

pub gate_is_closed : (file bytes : List ℕ) → bytes ≡ slice_range file 0 4096 → slice_index bytes 0 ≢ 165 → is_open file ≡ false
gate_is_closed file bytes are gate =
    and_right (nat_le 4096 (length file)) (slice_index file 0 == 165)
    (ne_eqb (slice_index file 0) 165 (subst (λ byte. byte ≢ 165) (ap (λ xs. slice_index xs 0) are ∙ index_of_first file) gate))

-- an open file whose first bytes were read, and this header in them, begins with it
pub has_header : (file : List ℕ) (h : Header) (bytes : List ℕ) (len : ℕ) → is_open file ≡ true → bytes ≡ slice_range file 0 4096 → len ≡ length file
    → (drop 1 bytes ≡ header_text h) × IsHeader h len → HasHeader file h
has_header file h bytes len opens are long found =
    record { opens = opens; spelled = ap (drop 1) (sym are) ∙ found.0; is = subst (IsHeader h) long found.1 }

-- and where no header is read in them, it breaks a rule
pub header_is_faulty : (file : List ℕ) (reason : Reason) (bytes : List ℕ) (len : ℕ) → is_open file ≡ true → bytes ≡ slice_range file 0 4096 → len ≡ length file
    → header_in bytes len ≡ Err reason → IsFaulty file reason
header_is_faulty file reason bytes len opens are long breaks = grind arith

-- the table is all that stands after the data pages
pub table_is_rest : (file : List ℕ) (h : Header) → IsHeader h (length file) → table_bytes h file ≡ drop (4096 + 4096 * h.pages) file
table_is_rest file h is = grind (arith, taken_all, length-drop)

-- such a file is the image that its header and its table say
pub is_decoded : FileIsImage → (file : List ℕ) (decoded : Decoded) → HasHeader file decoded.header
    → table_bytes decoded.header file ≡ table_text (map listing_of decoded.table.spaces.items) → IsTable decoded.header (map listing_of decoded.table.spaces.items)
    → HasDigestOf file decoded.header → IsDecodedAs file decoded
is_decoded law file decoded has spelled table digest =
    let image = law file decoded.header (map listing_of decoded.table.spaces.items) has.opens has.spelled has.is (sym (table_is_rest file decoded.header has.is) ∙ spelled) table digest in
    record { opens = has.opens; image = image.0; spelled = image.1; header = image.2; spaces = image.3 }

-- less than a table leaves something of it
rest_is_left : (file : List ℕ) (h : Header) (len : ℕ) → IsHeader h (length file) → len < h.table_len → 0 < length (drop len (drop (4096 + 4096 * h.pages) file))
rest_is_left file h len is short = let fills = is.fills in grind (arith, length-drop)

-- its header is read in it
pub header_read : GoodHeaderHasNoReason → (file : List ℕ) (h : Header) → HasHeader file h → header_in (slice_range file 0 4096) (length file) ≡ Ok h
header_read law file h has =
    let long : 4096 ≤ length file = omega (arith, has.is.fills) in
    law (slice_range file 0 4096) (length file) h (length-take-le 4096 file long) has.spelled has.is

-- and where its table breaks a rule, so does it
pub table_is_faulty : GoodHeaderHasNoReason → (file : List ℕ) (h : Header) (reason : Reason) → HasHeader file h → table_in h (table_bytes h file) ≡ Err reason
    → IsFaulty file reason
table_is_faulty law file h reason has breaks = grind (arith, header_read, table_is_rest)

-- so where a rule breaks in a front of it
pub front_is_faulty : GoodHeaderHasNoReason → (file : List ℕ) (h : Header) (front : List ℕ) (len : ℕ) (reason : Reason) → HasHeader file h → len < h.table_len
    → front ≡ slice_range file (4096 + 4096 * h.pages) (4096 + 4096 * h.pages + len) → FrontDecides h front → front_fault (table_in h front) ≡ Some reason
    → IsFaulty file reason
front_is_faulty law file h front len reason has short is decides fault =
    let table : List ℕ = drop (4096 + 4096 * h.pages) file in
    let rest : List ℕ = drop len table in
    let here : front ≡ take len table = is ∙ ap (λ n. take n table) (omega arith) in
    let whole : table_bytes h file ≡ front ++ rest = table_is_rest file h has.is ∙ sym (take-append-drop len table) ∙ ap (λ xs. xs ++ rest) (sym here) in
    let some : 0 < length rest = rest_is_left file h len has.is short in
    table_is_faulty law file h reason has (ap (table_in h) whole ∙ decides rest reason some fault)

-- Images of open slots, one slot more.

pub open_more : (files : List (List ℕ)) (images : List Image) (file : List ℕ) (i : Image) → OpenImages files images → is_open file ≡ true → IsImage file i
    → OpenImages (files ++ file ∷ []) (images ++ i ∷ [])
open_more [] images file i none opens is = inr (i, [], ap (λ xs. xs ++ i ∷ []) none, opens, is, refl)
open_more (f ∷ files) images file i (inl was) opens is = inl (was.0, open_more files images file i was.1 opens is)
open_more (f ∷ files) images file i (inr was) opens is =
    inr (was.0, was.1 ++ i ∷ [], ap (λ xs. xs ++ i ∷ []) was.2, was.3, was.4, open_more files was.1 file i was.5 opens is)

pub closed_more : (files : List (List ℕ)) (images : List Image) (file : List ℕ) → OpenImages files images → is_open file ≡ false → OpenImages (files ++ file ∷ []) images
closed_more [] images file none closed = inl (closed, none)
closed_more (f ∷ files) images file (inl was) closed = inl (was.0, closed_more files images file was.1 closed)
closed_more (f ∷ files) images file (inr was) closed = inr (was.0, was.1, was.2, was.3, was.4, closed_more files was.1 file was.5 closed)
