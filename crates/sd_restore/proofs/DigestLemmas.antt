-- The digest of a file: what it is made of, and whether it is right.
use Rattle.std.proofs.Common.{◌≡◌, ◌≢◌, ◌≤◌, ◌+◌, ◌-◌, ◌*◌, ◌/◌, ◌&&◌, ◌==◌, ℕ, zero, suc, Bool, true, false, not, cond, List, [], ◌∷◌, ◌++◌, take, drop, length, Result, Ok, Err, refl, sym, ◌∙◌, ap, arith, inl, inr}
use Rattle.std.specs.Prelude.{slice_range}
use Rattle.std.specs.List.{flat_map}
use Rattle.std.specs.Str.{bytes_eq}
use Rattle.std.specs.Simd.{first_chunks}
use Rattle.std.proofs.Math.Seq.{take-add}
use Rattle.std.proofs.lemmas.Bool.{false_from_ne_true, not-false}
use Rattle.std.proofs.lemmas.List.{drop-drop, length-drop, take-take}
use Rattle.std.proofs.lemmas.Slice.Eq.{bytes_eq-Decides}
use Rattle.sd_image.specs.declared.header.Header.{Header}
use Rattle.sd_image.specs.declared.header.Version.{Version}
use Rattle.sd_image.specs.declared.header.Version.TheVariants.{Two}
use Rattle.sd_image.specs.declared.reason.Reason.{Reason}
use Rattle.sd_image.specs.declared.reason.Reason.TheVariants.{Digest}
use Rattle.sd_image.specs.Header.{header_front, header_text}
use Rattle.sd_image.specs.Reading.{◌>>=◌, breaks_digest, digest_of_file, header_in, table_in}
use Rattle.sd_image.specs.ReasonLaws.{GoodFileHasNoReason, GoodHeaderHasNoReason}
use Rattle.sd_image.specs.Table.{Listed}
use Rattle.sd_image.specs.Words.{number_bytes, version_number, zero_bytes}
use Rattle.sd_restore.specs.Digested.{ClosedIsRightlyDigested, ImageIsRightlyDigested, StoreIsRightlyDigested}
use Rattle.sd_restore.specs.Faulty.{IsFaulty}
use Rattle.sd_restore.specs.Reading.{HasDigestOf, HasHeader, table_bytes}
use Rattle.sd_restore.proofs.FileLemmas.{header_read, table_is_rest}
use Rattle.sd_restore.proofs.TakeLemmas.{taken_all}

-- ---- what a digester is fed

-- two ranges, one after the other, are one
pub range_join : (xs : List ℕ) (a m n : ℕ) → slice_range xs a (a + m) ++ slice_range xs (a + m) (a + m + n) ≡ slice_range xs a (a + m + n)
range_join xs a m n =
    ap (λ k. take k (drop a xs) ++ slice_range xs (a + m) (a + m + n)) (let e : a + m - a ≡ m = omega arith in e)
    ∙ ap (λ k. take m (drop a xs) ++ take k (drop (a + m) xs)) (let e : a + m + n - (a + m) ≡ n = omega arith in e)
    ∙ ap (λ back. take m (drop a xs) ++ take n back) (sym (drop-drop m a xs))
    ∙ sym (take-add m n (drop a xs))
    ∙ ap (λ k. take k (drop a xs)) (let e : m + n ≡ a + m + n - a = omega arith in e)

-- the pages of bytes, one after the other
pub pages_of_bytes : (k : ℕ) (bytes : List ℕ) → flat_map (λ (page : List ℕ). page) (first_chunks 4096 k bytes) ≡ take (k * 4096) bytes
pages_of_bytes zero bytes = refl
pages_of_bytes (suc k) bytes =
    ap (λ (rest : List ℕ). take 4096 bytes ++ rest) (pages_of_bytes k (drop 4096 bytes))
    ∙ sym (take-add 4096 (k * 4096) bytes)
    ∙ ap (λ n. take n bytes) (let e : 4096 + k * 4096 ≡ suc k * 4096 = omega arith in e)

-- all pages of bytes that are whole pages
pub pages_are_bytes : (bytes : List ℕ) (pages : List (List ℕ)) (i : ℕ) → pages ≡ first_chunks 4096 (length bytes / 4096) bytes → length bytes ≡ length bytes / 4096 * 4096
    → length pages ≤ i → flat_map (λ (page : List ℕ). page) (take i pages) ≡ bytes
pages_are_bytes bytes pages i are whole all = grind (arith, taken_all, pages_of_bytes)

-- so many pages more
pub pages_more : (file : List ℕ) (done count len : ℕ) → len ≡ 4096 * count
    → slice_range file 4096 (4096 + 4096 * done) ++ slice_range file (4096 + 4096 * done) (4096 + 4096 * done + len) ≡ slice_range file 4096 (4096 + 4096 * (done + count))
pages_more file done count len long =
    range_join file 4096 (4096 * done) len ∙ ap (slice_range file 4096) (let e : 4096 + 4096 * done + len ≡ 4096 + 4096 * (done + count) = omega (arith, long) in e)

-- bytes 1 to 63 of a file are the front of its header
front_of_text : (h : Header) → take 63 (header_text h) ≡ header_front h
unfolding header_text header_front number_bytes zero_bytes
front_of_text h = refl

front_in_file : (file : List ℕ) → take 63 (drop 1 (take 4096 file)) ≡ take 63 (drop 1 file)
front_in_file [] = refl
front_in_file (x ∷ file) = take-take 63 4095 file (omega arith)

-- the data pages, the table and the header's front are what the digest of their file is made of
pub digested_is : (file : List ℕ) (h : Header) (table : List ℕ) → HasHeader file h → table ≡ table_bytes h file
    → (slice_range file 4096 (4096 + 4096 * h.pages) ++ table) ++ header_front h ≡ drop 4096 file ++ slice_range file 1 64
digested_is file h table has is =
    let behind : slice_range file 4096 (4096 + 4096 * h.pages) ++ table ≡ drop 4096 file =
    ap (λ (bytes : List ℕ). slice_range file 4096 (4096 + 4096 * h.pages) ++ bytes) is
    ∙ range_join file 4096 (4096 * h.pages) h.table_len
    ∙ taken_all (drop 4096 file) (4096 + 4096 * h.pages + h.table_len - 4096) (omega (arith, length-drop 4096 file, has.is.fills)) in
    let front : header_front h ≡ slice_range file 1 64 = sym (front_of_text h) ∙ ap (take 63) (sym has.spelled) ∙ front_in_file file in
    ap (λ (bytes : List ℕ). bytes ++ header_front h) behind ∙ ap (λ (bytes : List ℕ). drop 4096 file ++ bytes) front

-- ---- a wrong digest

wrong_digest : (version : Version) (digest other : List ℕ) → version ≡ Two → digest ≢ other → (version_number version == 2 && not (bytes_eq digest other)) ≡ true
wrong_digest version digest other is differs = grind (arith, false_from_ne_true, bytes_eq-Decides)

breaks_so : (h : Header) (file : List ℕ) → h.version ≡ Two → h.digest ≢ digest_of_file file → breaks_digest h file ≡ true
unfolding breaks_digest
breaks_so h file is differs = wrong_digest h.version h.digest (digest_of_file file) is differs

-- a file whose header and table are good, and its digest wrong
pub digest_is_faulty : GoodHeaderHasNoReason → (file : List ℕ) (h : Header) (spaces : List Listed) → HasHeader file h → table_in h (table_bytes h file) ≡ Ok spaces
    → h.version ≡ Two → h.digest ≢ digest_of_file file → IsFaulty file Digest
digest_is_faulty law file h spaces has table is differs = grind (arith, header_read, table_is_rest, breaks_so)

-- ---- a right digest

right_digest : (version : Version) (digest other : List ℕ) → (version_number version == 2 && not (bytes_eq digest other)) ≡ false → version ≡ Two → digest ≡ other
right_digest version digest other e is = grind (arith, bytes_eq-Decides, not-false)

kept_so : (h : Header) (file : List ℕ) → breaks_digest h file ≡ false → HasDigestOf file h
unfolding breaks_digest
kept_so h file kept is = right_digest h.version h.digest (digest_of_file file) kept is

not_broken : {X Y : Type 0} (spaces : Result X Reason) (broken : Bool) (value : X → Y) (y : Y) → (spaces >>= λ x. cond broken (Err Digest) (Ok (value x))) ≡ Ok y → broken ≡ false
not_broken spaces broken value y is = grind arith

pub image_digested : GoodFileHasNoReason → GoodHeaderHasNoReason → ImageIsRightlyDigested
image_digested good law file i image h has =
    let read : header_in (slice_range file 0 4096) (length file) ≡ Ok h = header_read law file h has in
    let whole = rw read at (good file i image) in
    kept_so h file (not_broken (table_in h (drop (4096 + 4096 * h.pages) file)) (breaks_digest h file) (λ spaces. (h, spaces)) (i.header, i.spaces) whole)

pub closed_digested : ClosedIsRightlyDigested
closed_digested file closed h has = absurd (let no : false ≡ true = sym closed ∙ has.opens in cc)

pub store_digested : ImageIsRightlyDigested → StoreIsRightlyDigested
store_digested law [] images are slot = closed_digested [] refl
store_digested law (file ∷ files) images (inl was) zero = closed_digested file was.0
store_digested law (file ∷ files) images (inl was) (suc slot) = store_digested law files images was.1 slot
store_digested law (file ∷ files) images (inr was) zero = law file was.0 was.4
store_digested law (file ∷ files) images (inr was) (suc slot) = store_digested law files was.1 was.5 slot
