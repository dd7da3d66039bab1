-- A whole file: an image is read as itself, and what is read is an image.
use Rattle.std.proofs.Common.{◌≡◌, ◌⊎◌, ◌<◌, ◌≤◌, ◌+◌, ◌*◌, ◌&&◌, ◌==◌, ℕ, zero, suc, true, false, not, cond, List, [], ◌∷◌, ◌++◌, take, drop, length, slice_index_or, Contains, Result, Ok, Err, refl, sym, ◌∙◌, ap, subst, arith, inl, inr, append_assoc}
use Rattle.std.specs.Prelude.{All, slice_range, slice_index}
use Rattle.std.specs.List.{concat, AllByRecursion}
use Rattle.std.proofs.Math.Seq.{take-add}
use Rattle.std.proofs.lemmas.Bool.{le-leb, not-false, cases_lt}
use Rattle.std.proofs.lemmas.Slice.Eq.{bytes_eq-Decides}
use Rattle.std.specs.Str.{bytes_eq}
use Rattle.sha2.specs.Sha256.{sha256}
use Rattle.std.proofs.lemmas.List.{length-append, take-append-drop, length-take-le, length-drop, drop-drop, take_at, drop_at, get_or_past}
use Rattle.sd_image.specs.declared.header.Header.{Header}
use Rattle.sd_image.specs.declared.header.Version.{Version}
use Rattle.sd_image.specs.declared.header.Version.TheVariants.{Two}
use Rattle.sd_image.specs.declared.reason.Reason.{Reason}
use Rattle.sd_image.specs.declared.reason.Reason.TheVariants as reason
use Rattle.sd_image.specs.Words.{version_number}
use Rattle.sd_image.specs.Header.{header_front, header_text, HasWords, IsHeader}
use Rattle.sd_image.specs.Table.{Listed, table_text, IsTable}
use Rattle.sd_image.specs.Image.{Image, IsImage, OpenImages, digested, image_text, is_open}
use Rattle.sd_image.specs.Reading.{◌>>=◌, breaks_digest, digest_of_file, header_in, table_in, file_in}
use Rattle.sd_image.specs.Laws.{FileIsImage, HeaderFillsFile, TextIsImage}
use Rattle.sd_image.specs.ReasonLaws.{GoodFileHasNoReason, GoodHeaderHasNoReason, GoodStoreHasNoReason, GoodTableHasNoReason, IsFaultyFor, IsReadAs, OneReason}
use Rattle.sd_image.proofs.Steps.{IsBytes, IsBytes-take, IsBytes-drop, bind_ok, guard_ok}
use Rattle.sd_image.proofs.HeaderBytes.{front_of_file}
use Rattle.sd_image.proofs.HeaderRules.{header_again, header_length, header_takes}
use Rattle.sd_image.proofs.TableLaws.{table_again, table_takes}
use Rattle.sd_image.proofs.Members.{contains_front, contains_later}

pub good_header : GoodHeaderHasNoReason
good_header bytes len h long e good = header_again bytes len h long e good

pub good_table : GoodTableHasNoReason
good_table h spaces good = table_again h spaces good

pub times_suc : (n : ℕ) → 4096 * suc n ≡ 4096 + 4096 * n
times_suc n = omega arith

length-pages : (pages : List (List ℕ)) → AllByRecursion (λ page. length page ≡ 4096) pages → length (concat pages) ≡ 4096 * length pages
length-pages [] whole = refl
length-pages (page ∷ pages) whole =
    let first : length page ≡ 4096 = whole.0 in
    let rest = length-pages pages whole.1 in
    let parts : length (page ++ concat pages) ≡ length page + length (concat pages) = length-append page (concat pages) in
    omega (arith, first, rest, parts, times_suc (length pages))

-- an image's text after its header
after_header : (i : Image) → image_text i ≡ header_text i.header ++ (concat i.pages ++ table_text i.spaces)
after_header i = append_assoc (header_text i.header) (concat i.pages) (table_text i.spaces)

header_read : (file : List ℕ) (i : Image) → IsImage file i → header_in (slice_range file 0 4096) (length file) ≡ Ok i.header
header_read file i image =
    let long : 4096 ≤ length file = omega (arith, image.header.fills) in
    let whole : length (take 4096 file) ≡ 4096 = length-take-le 4096 file long in
    let front : take 4095 (image_text i) ≡ header_text i.header =
    ap (take 4095) (after_header i) ∙ take_at (header_text i.header) (concat i.pages ++ table_text i.spaces) 4095 (header_length i.header image.header.words) in
    let text : drop 1 (take 4096 file) ≡ header_text i.header = ap (λ (bytes : List ℕ). drop 1 (take 4096 bytes)) image.spelled ∙ front in
    header_again (take 4096 file) (length file) i.header whole text image.header

table_place : (file : List ℕ) (i : Image) → IsImage file i → drop (4096 + 4096 * i.header.pages) file ≡ table_text i.spaces
table_place file i image = grind (arith, length-pages, length-append, header_length, drop_at)

-- the digest of a file is that of its image
digest_in_file : (file : List ℕ) (i : Image) → HasWords i.header → file ≡ 165 ∷ image_text i → digest_of_file file ≡ sha256 (digested i)
digest_in_file file i words spelled =
    let rest : List ℕ = concat i.pages ++ table_text i.spaces in
    let text : file ≡ 165 ∷ (header_text i.header ++ rest) = spelled ∙ ap (λ (xs : List ℕ). 165 ∷ xs) (after_header i) in
    let body : drop 4096 file ≡ rest = ap (drop 4096) text ∙ drop_at (165 ∷ header_text i.header) rest 4096 (ap suc (header_length i.header words)) in
    let front : take 63 (drop 1 file) ≡ header_front i.header = ap (λ (xs : List ℕ). take 63 (drop 1 xs)) text ∙ front_of_file i.header rest in
    ap (λ (xs : List ℕ). sha256 (xs ++ take 63 (drop 1 file))) body ∙ ap (λ (xs : List ℕ). sha256 (rest ++ xs)) front

digest_is_right : (version : Version) (digest other : List ℕ) → (version ≡ Two → digest ≡ other) → (version_number version == 2 && not (bytes_eq digest other)) ≡ false
digest_is_right version digest other is = grind (arith, bytes_eq-Decides)

digest_was_right : (version : Version) (digest other : List ℕ) → (version_number version == 2 && not (bytes_eq digest other)) ≡ false → version ≡ Two → digest ≡ other
digest_was_right version digest other e is = grind (arith, bytes_eq-Decides, not-false)

digest_kept : (file : List ℕ) (i : Image) → IsImage file i → breaks_digest i.header file ≡ false
unfolding breaks_digest
digest_kept file i image = grind (arith, digest_is_right, digest_in_file)

pub good_file : GoodFileHasNoReason
good_file file i image =
    let table : table_in i.header (drop (4096 + 4096 * i.header.pages) file) ≡ Ok i.spaces =
    ap (table_in i.header) (table_place file i image) ∙ table_again i.header i.spaces image.table in
    rw (header_read file i image, table, digest_kept file i image) refl

-- each open slot of a store is one of its images
pub image_in_slot : (contents : List (List ℕ)) (images : List Image) (slot : ℕ) → OpenImages contents images → is_open (slice_index_or contents slot []) ≡ true
    → (i : Image) × Contains images i × IsImage (slice_index_or contents slot []) i
image_in_slot [] images slot slots opens = absurd (let e : false ≡ true = opens in cc)
image_in_slot (file ∷ contents) images zero (inl was) opens = absurd (let e : false ≡ true = sym was.0 ∙ opens in cc)
image_in_slot (file ∷ contents) images zero (inr was) opens =
    (was.0, subst (λ (xs : List Image). Contains xs was.0) (sym was.2) (contains_front was.0 was.1), was.4)
image_in_slot (file ∷ contents) images (suc slot) (inl was) opens = image_in_slot contents images slot was.1 opens
image_in_slot (file ∷ contents) images (suc slot) (inr was) opens =
    let later = image_in_slot contents was.1 slot was.5 opens in
    (later.0, subst (λ (xs : List Image). Contains xs later.0) (sym was.2) (contains_later was.0 later.0 was.1 later.1), later.2)

pub good_store : GoodStoreHasNoReason
good_store contents images slot slots opens =
    let found = image_in_slot contents images slot slots opens in
    (found.0, found.1, good_file (slice_index_or contents slot []) found.0 found.2)

-- ---- what is read is an image

-- so many pages, cut from the front of bytes
record Cut (n : ℕ) (bytes : List ℕ) : Type 0 where
  pages : List (List ℕ)
  text : concat pages ≡ take (4096 * n) bytes
  many : length pages ≡ n
  whole : AllByRecursion (λ page. length page ≡ 4096) pages

cut : (n : ℕ) (bytes : List ℕ) → 4096 * n ≤ length bytes → Cut n bytes
cut zero bytes long = record { pages = []; text = refl; many = refl; whole = tt }
cut (suc n) bytes long =
    let rest = cut n (drop 4096 bytes) (omega (arith, times_suc n, length-drop 4096 bytes)) in
    record {
      pages = take 4096 bytes ∷ rest.pages;
      text = ap (λ (xs : List ℕ). take 4096 bytes ++ xs) rest.text ∙ sym (take-add 4096 (4096 * n) bytes) ∙ ap (λ (k : ℕ). take k bytes) (sym (times_suc n));
      many = ap suc rest.many;
      whole = (length-take-le 4096 bytes (omega (arith, times_suc n)), rest.whole);
    }

-- a list with this first element
first_is : (bytes first : List ℕ) (b : ℕ) → drop 1 first ≡ bytes → 0 < length first → slice_index first 0 ≡ b → first ≡ b ∷ bytes
first_is bytes first b rest long is = grind arith

first_of_front : (file : List ℕ) → slice_index (take 4096 file) 0 ≡ slice_index file 0
first_of_front file = grind arith

-- the image of a file whose header and table were read
image_read : (file : List ℕ) (h : Header) (spaces : List Listed) → slice_index file 0 ≡ 165
    → drop 1 (take 4096 file) ≡ header_text h → IsHeader h (length file)
    → drop (4096 + 4096 * h.pages) file ≡ table_text spaces → IsTable h spaces → (h.version ≡ Two → h.digest ≡ digest_of_file file)
    → (i : Image) × IsImage file i × (i.header ≡ h) × (i.spaces ≡ spaces)
image_read file h spaces gate header is_header table is_table digest =
    let body : List ℕ = drop 4096 file in
    let long : 4096 ≤ length file = omega (arith, is_header.fills) in
    let stored = cut h.pages body (omega (arith, is_header.fills, length-drop 4096 file)) in
    let front : take 4096 file ≡ 165 ∷ header_text h =
    first_is (header_text h) (take 4096 file) 165 header (omega (arith, length-take-le 4096 file long)) (first_of_front file ∙ gate) in
    let rest : body ≡ concat stored.pages ++ table_text spaces =
    sym (take-append-drop (4096 * h.pages) body)
    ∙ ap (λ (xs : List ℕ). xs ++ drop (4096 * h.pages) body) (sym stored.text)
    ∙ ap (λ (xs : List ℕ). concat stored.pages ++ xs) (drop-drop (4096 * h.pages) 4096 file ∙ table) in
    let spelled : file ≡ 165 ∷ ((header_text h ++ concat stored.pages) ++ table_text spaces) =
    sym (take-append-drop 4096 file)
    ∙ ap (λ (xs : List ℕ). xs ++ body) front
    ∙ ap (λ (xs : List ℕ). 165 ∷ (header_text h ++ xs)) rest
    ∙ ap (λ (xs : List ℕ). 165 ∷ xs) (sym (append_assoc (header_text h) (concat stored.pages) (table_text spaces))) in
    let i : Image = record { header = h; pages = stored.pages; spaces = spaces } in (
      i,
      record {
        spelled = spelled;
        header = is_header;
        table = is_table;
        stored = stored.many;
        whole = stored.whole;
        digest = λ two. digest two ∙ digest_in_file file i is_header.words spelled;
      },
      refl,
      refl,
    )

gate_of_open : (file : List ℕ) → is_open file ≡ true → (4096 ≤ length file) × (slice_index file 0 ≡ 165)
gate_of_open file opens = grind arith

right_digest : (h : Header) (file : List ℕ) → breaks_digest h file ≡ false → h.version ≡ Two → h.digest ≡ digest_of_file file
unfolding breaks_digest
right_digest h file kept = digest_was_right h.version h.digest (digest_of_file file) kept

pub file_takes : (file : List ℕ) (x : Header × List Listed) → IsBytes file → is_open file ≡ true → file_in file ≡ Ok x → (i : Image) × IsImage file i
file_takes file x fits opens e =
    let gate = gate_of_open file opens in
    let front : List ℕ = take 4096 file in
    let a = bind_ok (header_in front (length file)) (λ header. table_in header (drop (4096 + 4096 * header.pages) file) >>= λ spaces. cond (breaks_digest header file) (Err reason.Digest) (Ok (header, spaces))) x e in
    let b = bind_ok (table_in a.0 (drop (4096 + 4096 * a.0.pages) file)) (λ spaces. cond (breaks_digest a.0 file) (Err reason.Digest) (Ok (a.0, spaces))) x a.2 in
    let d = guard_ok (breaks_digest a.0 file) reason.Digest (Ok (a.0, b.0)) x b.2 in
    let header = header_takes front (length file) a.0 (length-take-le 4096 file gate.0) (IsBytes-take 4096 file fits) a.1 in
    let table = table_takes a.0 (drop (4096 + 4096 * a.0.pages) file) b.0 (IsBytes-drop (4096 + 4096 * a.0.pages) file fits) b.1 in
    let read = image_read file a.0 b.0 gate.1 header.0 header.1 table.0 table.1 (right_digest a.0 file d.0) in
    (read.0, read.1)

pub file_is_image_lem : FileIsImage
file_is_image_lem file h spaces opens header is_header table is_table digest =
    image_read file h spaces (gate_of_open file opens).1 header is_header table is_table digest

are_bytes : (file : List ℕ) → All (λ byte. byte < 256) file → IsBytes file
are_bytes file all i = grind (arith, cases_lt, get_or_past)

abbrev Judged : List ℕ → Type 0
Judged file = ((i : Image) × IsReadAs file i) ⊎ ((r : Reason) × IsFaultyFor file r)

abbrev faulty : Reason → Result (Header × List Listed) Reason
faulty r = Err r

err_is : (r q : Reason) → faulty r ≡ faulty q → r ≡ q
err_is r q e = cc

ok_not_err : (x : Header × List Listed) (r : Reason) → Ok x ≡ faulty r → ⊥
ok_not_err x r e = cc

judged : (file : List ℕ) (read : Result (Header × List Listed) Reason) → IsBytes file → is_open file ≡ true → file_in file ≡ read → Judged file
judged file (Ok x) fits opens e =
    let found = file_takes file x fits opens e in
    inl (found.0, record { is = found.1; read = good_file file found.0 found.1 })
judged file (Err r) fits opens e = inr (
  r,
  record {
    found = e;
    only = λ other f. err_is other r (sym f ∙ e);
    none = λ i image. ok_not_err (i.header, i.spaces) r (sym (good_file file i image) ∙ e);
  },
)

pub one_reason_lem : OneReason
one_reason_lem file bytes opens = judged file (file_in file) (are_bytes file bytes) opens refl

-- ---- the text of a complete image

text_length : (i : Image) → HasWords i.header → AllByRecursion (λ page. length page ≡ 4096) i.pages
    → length (165 ∷ image_text i) ≡ 4096 + 4096 * length i.pages + length (table_text i.spaces)
text_length i words whole = grind (arith, length-append, header_length, length-pages)

pub text_is_image_lem : TextIsImage
text_is_image_lem i is =
    let fills : 4096 + 4096 * i.header.pages + i.header.table_len ≡ length (165 ∷ image_text i) =
    omega (arith, text_length i is.words is.whole, is.table_len, is.stored) in
    let long : 4096 ≤ length (165 ∷ image_text i) = omega (arith, fills) in (
      record {
        spelled = refl;
        header = record { words = is.words; serial = is.serial; numbers = is.numbers; checkpoint = is.checkpoint; fills = fills };
        table = is.table;
        stored = is.stored;
        whole = is.whole;
        digest = is.digest;
      },
      ap (λ b. b && true) (le-leb 4096 (length (165 ∷ image_text i)) long),
    )

pub header_fills_file_lem : HeaderFillsFile
header_fills_file_lem bytes len h long all read = header_takes bytes len h long (are_bytes bytes all) read
