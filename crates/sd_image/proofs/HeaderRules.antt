-- The rules of a header: those that hold of what is read, and of what was written.
use Rattle.std.proofs.Common.{◌≡◌, ℕ, ◌≤◌, Bool, true, false, not, List, [], ◌∷◌, length, take, drop, Result, Ok, refl, sym, ap, subst, ◌∙◌, arith}
use Rattle.std.specs.List.{slice_range}
use Rattle.std.proofs.lemmas.Bool.{and_parts, and_from, not-false, leb-true, le-leb}
use Rattle.std.proofs.lemmas.List.{drop_all, drop_more, length-append, length-take-le, length-drop, take_at, drop_at}
use Rattle.std.proofs.lemmas.Slice.Eq.{bytes_eq-Decides}
use Rattle.byteorder.specs.Endian.{little_number}
use Rattle.byteorder.specs.Numbers.{little_number-reads_back}
use Rattle.sd_image.specs.declared.header.Header.{Header}
use Rattle.sd_image.specs.declared.header.Version.{Version}
use Rattle.sd_image.specs.declared.header.Kind.{Kind}
use Rattle.sd_image.specs.declared.reason.Reason.{Reason}
use Rattle.sd_image.specs.declared.reason.Reason.TheVariants as reason
use Rattle.sd_image.specs.Words.{kind_number, version_number, number_bytes, zero_bytes}
use Rattle.sd_image.specs.Header.{magic, header_front, header_text, AreNumbers, HasWords, IsDigest, IsHeader}
use Rattle.sd_image.specs.Reading.{◌>>=◌, rules_kept, number_at, are_zero, has_no_digest, kind_of_number, version_of, breaks_bytes, bytes_kept, form_of, form_in, fields_of, stands_rightly, parent_rightly, fields_kept, header_in}
use Rattle.sd_image.proofs.Steps.{bind_ok, guard_ok, ok_is, IsBytes, piece}
use Rattle.sd_image.proofs.Numbers.{bytes_2, bytes_8, number_fits, zeros_are}

-- a first rule that holds
kept_first : (breaks : Reason → Bool) (rule : Reason) (rules : List Reason) (u : Unit {0}) → rules_kept breaks (rule ∷ rules) ≡ Ok u → (breaks rule ≡ false) × (rules_kept breaks rules ≡ Ok u)
kept_first breaks rule rules u e = guard_ok (breaks rule) rule (rules_kept breaks rules) u e

-- what the bytes are where their rules hold
record AreKept (bytes : List ℕ) : Type 0 where
  magic_is : magic ≡ take 7 (drop 1 bytes)
  version_low : 1 ≤ number_at 2 8 bytes
  version_high : number_at 2 8 bytes ≤ 2
  kind_low : 1 ≤ number_at 2 10 bytes
  kind_high : number_at 2 10 bytes ≤ 3
  reserved : are_zero (take 4 (drop 12 bytes)) ≡ true
  no_digest : has_no_digest (version_of (number_at 2 8 bytes)) (take 32 (drop 64 bytes)) ≡ true
  rest : are_zero (take 4000 (drop 96 bytes)) ≡ true

are_kept : (bytes : List ℕ) (u : Unit {0}) → bytes_kept bytes ≡ Ok u → AreKept bytes
unfolding bytes_kept
are_kept bytes u e =
    let a = kept_first (breaks_bytes bytes) reason.Magic (reason.Version ∷ reason.Kind ∷ reason.Reserved ∷ []) u e in
    let b = kept_first (breaks_bytes bytes) reason.Version (reason.Kind ∷ reason.Reserved ∷ []) u a.1 in
    let k = kept_first (breaks_bytes bytes) reason.Kind (reason.Reserved ∷ []) u b.1 in
    let r = kept_first (breaks_bytes bytes) reason.Reserved [] u k.1 in
    let m : slice_range bytes 1 8 ≡ magic = (bytes_eq-Decides (slice_range bytes 1 8) magic).0 (not-false _ a.0) in
    let vs = and_parts _ _ (not-false _ b.0) in
    let ks = and_parts _ _ (not-false _ k.0) in
    let rs = and_parts _ _ (not-false _ r.0) in
    let ds = and_parts _ _ rs.0 in
    record {
      magic_is = sym m;
      version_low = leb-true _ _ vs.0;
      version_high = leb-true _ _ vs.1;
      kind_low = leb-true _ _ ks.0;
      kind_high = leb-true _ _ ks.1;
      reserved = ds.0;
      no_digest = ds.1;
      rest = rs.1;
    }

version_back : (n : ℕ) → 1 ≤ n → n ≤ 2 → version_number (version_of n) ≡ n
version_back n low high = grind arith

kind_back : (n : ℕ) → 1 ≤ n → n ≤ 3 → kind_number (kind_of_number n) ≡ n
kind_back n low high = grind arith

-- the bytes spell the fields
spelled_so : (bytes : List ℕ) → length bytes ≡ 4096 → IsBytes bytes → AreKept bytes → drop 1 bytes ≡ header_text (fields_of (form_of bytes) bytes)
unfolding header_text header_front fields_of number_bytes zero_bytes
spelled_so bytes long fits kept =
    let end : drop 4096 bytes ≡ [] = drop_all 4096 bytes (omega arith) in
    let p96 = piece 96 4000 4096 bytes (zero_bytes 4000) [] refl (zeros_are 4000 (take 4000 (drop 96 bytes)) (length-take-le 4000 (drop 96 bytes) (omega (arith, length-drop 96 bytes))) kept.rest) end in
    let p64 = piece 64 32 96 bytes (take 32 (drop 64 bytes)) _ refl refl p96 in
    let p56 = piece 56 8 64 bytes _ _ refl (bytes_8 56 bytes fits (omega arith)) p64 in
    let p48 = piece 48 8 56 bytes _ _ refl (bytes_8 48 bytes fits (omega arith)) p56 in
    let p40 = piece 40 8 48 bytes _ _ refl (bytes_8 40 bytes fits (omega arith)) p48 in
    let p32 = piece 32 8 40 bytes _ _ refl (bytes_8 32 bytes fits (omega arith)) p40 in
    let p24 = piece 24 8 32 bytes _ _ refl (bytes_8 24 bytes fits (omega arith)) p32 in
    let p16 = piece 16 8 24 bytes _ _ refl (bytes_8 16 bytes fits (omega arith)) p24 in
    let p12 = piece 12 4 16 bytes (zero_bytes 4) _ refl (zeros_are 4 (take 4 (drop 12 bytes)) (length-take-le 4 (drop 12 bytes) (omega (arith, length-drop 12 bytes))) kept.reserved) p16 in
    let kind : number_bytes 2 (kind_number (kind_of_number (number_at 2 10 bytes))) ≡ take 2 (drop 10 bytes) = ap (number_bytes 2) (kind_back (number_at 2 10 bytes) kept.kind_low kept.kind_high) ∙ bytes_2 10 bytes fits (omega arith) in
    let p10 = piece 10 2 12 bytes _ _ refl kind p12 in
    let version : number_bytes 2 (version_number (version_of (number_at 2 8 bytes))) ≡ take 2 (drop 8 bytes) = ap (number_bytes 2) (version_back (number_at 2 8 bytes) kept.version_low kept.version_high) ∙ bytes_2 8 bytes fits (omega arith) in
    let p8 = piece 8 2 10 bytes _ _ refl version p10 in
    piece 1 7 8 bytes magic _ refl kept.magic_is p8

numbers_are : (kind : Kind) (serial stands_for parent : ℕ) → stands_rightly kind serial stands_for ≡ true → parent_rightly kind serial parent ≡ true → AreNumbers kind serial stands_for parent
numbers_are kind serial stands_for parent s p = grind arith

-- fields whose rules hold, and that fit, are a header's
is_header : (h : Header) (len : ℕ) (u : Unit {0}) → HasWords h → fields_kept h len ≡ Ok u → IsHeader h len
unfolding fields_kept
is_header h len u words e = grind arith

digest_is : (version : Version) (digest : List ℕ) → length digest ≡ 32 → has_no_digest version digest ≡ true → IsDigest version digest
digest_is version digest long none = grind (arith, zeros_are)

have_words : (form : Version × Kind) (bytes : List ℕ) → length bytes ≡ 4096 → IsBytes bytes → has_no_digest form.0 (take 32 (drop 64 bytes)) ≡ true → HasWords (fields_of form bytes)
unfolding fields_of
have_words form bytes long fits none = record {
  serial = number_fits 8 16 bytes fits;
  stands_for = number_fits 8 24 bytes fits;
  parent = number_fits 8 32 bytes fits;
  checkpoint = number_fits 8 40 bytes fits;
  pages = number_fits 8 48 bytes fits;
  table_len = number_fits 8 56 bytes fits;
  digest = digest_is form.0 (take 32 (drop 64 bytes)) (length-take-le 32 (drop 64 bytes) (omega (arith, long, length-drop 64 bytes))) none;
}

-- what is read is spelled so, and is a header
pub header_takes : (bytes : List ℕ) (len : ℕ) (h : Header) → length bytes ≡ 4096 → IsBytes bytes → header_in bytes len ≡ Ok h → (drop 1 bytes ≡ header_text h) × IsHeader h len
unfolding header_in form_in
header_takes bytes len h long fits e =
    let a = bind_ok (form_in bytes) (λ form. fields_kept (fields_of form bytes) len >>= λ _. Ok (fields_of form bytes)) h e in
    let b = bind_ok (fields_kept (fields_of a.0 bytes) len) (λ _. Ok (fields_of a.0 bytes)) h a.2 in
    let k = bind_ok (bytes_kept bytes) (λ _. Ok (form_of bytes)) a.0 a.1 in
    let kept = are_kept bytes k.0 k.1 in
    let form : form_of bytes ≡ a.0 = ok_is _ _ k.2 in
    let text : drop 1 bytes ≡ header_text (fields_of a.0 bytes) = subst (λ (x : Version × Kind). drop 1 bytes ≡ header_text (fields_of x bytes)) form (spelled_so bytes long fits kept) in
    let words : HasWords (fields_of a.0 bytes) = subst (λ (x : Version × Kind). HasWords (fields_of x bytes)) form (have_words (form_of bytes) bytes long fits kept.no_digest) in
    let whole : IsHeader (fields_of a.0 bytes) len = is_header (fields_of a.0 bytes) len b.0 words b.1 in
    subst (λ (x : Header). (drop 1 bytes ≡ header_text x) × IsHeader x len) (ok_is _ _ b.2) (text, whole)

-- ---- what was written is read again

version_again : (version : Version) → version_of (version_number version) ≡ version
version_again version = grind arith

version_fits : (version : Version) → (1 ≤ version_number version) × (version_number version ≤ 2)
version_fits version = grind arith

kind_again : (kind : Kind) → kind_of_number (kind_number kind) ≡ kind
kind_again kind = grind arith

kind_fits : (kind : Kind) → (1 ≤ kind_number kind) × (kind_number kind ≤ 3)
kind_fits kind = grind arith

-- two headers are one where their fields are
same_header : (g h : Header) → g.version ≡ h.version → g.kind ≡ h.kind → g.serial ≡ h.serial → g.stands_for ≡ h.stands_for → g.parent ≡ h.parent → g.checkpoint ≡ h.checkpoint → g.pages ≡ h.pages → g.table_len ≡ h.table_len → g.digest ≡ h.digest → g ≡ h
same_header g h v a b c d e f i j = rw (v, a, b, c, d, e, f, i, j) refl

length-digest : (version : Version) (digest : List ℕ) → IsDigest version digest → length digest ≡ 32
unfolding zero_bytes
length-digest version digest is = grind arith

version_at : (b : ℕ) (h : Header) → number_at 2 8 (b ∷ header_text h) ≡ version_number h.version
unfolding number_at header_text header_front number_bytes
version_at b h = little_number-reads_back 2 (version_number h.version) (drop 10 (b ∷ header_text h)) (omega (arith, version_fits h.version))

kind_at : (b : ℕ) (h : Header) → number_at 2 10 (b ∷ header_text h) ≡ kind_number h.kind
unfolding number_at header_text header_front number_bytes
kind_at b h = little_number-reads_back 2 (kind_number h.kind) (drop 12 (b ∷ header_text h)) (omega (arith, kind_fits h.kind))

digest_at : (b : ℕ) (h : Header) → HasWords h → take 32 (drop 64 (b ∷ header_text h)) ≡ h.digest
unfolding header_text header_front number_bytes zero_bytes
digest_at b h words = take_at h.digest (zero_bytes 4000) 32 (length-digest h.version h.digest words.digest)

fields_again : (b : ℕ) (h : Header) → HasWords h → fields_of (h.version, h.kind) (b ∷ header_text h) ≡ h
unfolding fields_of number_at header_text header_front number_bytes zero_bytes
fields_again b h words =
    let serial : little_number 8 (drop 16 (b ∷ header_text h)) ≡ h.serial = little_number-reads_back 8 h.serial (drop 24 (b ∷ header_text h)) words.serial in
    let stands_for : little_number 8 (drop 24 (b ∷ header_text h)) ≡ h.stands_for = little_number-reads_back 8 h.stands_for (drop 32 (b ∷ header_text h)) words.stands_for in
    let parent : little_number 8 (drop 32 (b ∷ header_text h)) ≡ h.parent = little_number-reads_back 8 h.parent (drop 40 (b ∷ header_text h)) words.parent in
    let checkpoint : little_number 8 (drop 40 (b ∷ header_text h)) ≡ h.checkpoint = little_number-reads_back 8 h.checkpoint (drop 48 (b ∷ header_text h)) words.checkpoint in
    let pages : little_number 8 (drop 48 (b ∷ header_text h)) ≡ h.pages = little_number-reads_back 8 h.pages (drop 56 (b ∷ header_text h)) words.pages in
    let table_len : little_number 8 (drop 56 (b ∷ header_text h)) ≡ h.table_len = little_number-reads_back 8 h.table_len (drop 64 (b ∷ header_text h)) words.table_len in
    same_header _ h refl refl serial stands_for parent checkpoint pages table_len (digest_at b h words)

magic_again : (b : ℕ) (h : Header) → slice_range (b ∷ header_text h) 1 8 ≡ magic
unfolding header_text header_front number_bytes zero_bytes
magic_again b h = refl

none_again : (version : Version) (digest : List ℕ) → IsDigest version digest → has_no_digest version digest ≡ true
unfolding are_zero zero_bytes
none_again version digest is = grind arith

first_again : (b : ℕ) (h : Header) → are_zero (slice_range (b ∷ header_text h) 12 16) ≡ true
unfolding are_zero header_text header_front number_bytes zero_bytes
first_again b h = refl

rest_again : (b : ℕ) (h : Header) → HasWords h → are_zero (slice_range (b ∷ header_text h) 96 4096) ≡ true
unfolding are_zero header_text header_front number_bytes zero_bytes
rest_again b h words =
    ap (λ (rest : List ℕ). are_zero (take 4000 rest)) (drop_at h.digest (zero_bytes 4000) 32 (length-digest h.version h.digest words.digest))

digest_again : (b : ℕ) (h : Header) → HasWords h → has_no_digest (version_of (number_at 2 8 (b ∷ header_text h))) (slice_range (b ∷ header_text h) 64 96) ≡ true
digest_again b h words =
    ap (λ n. has_no_digest (version_of n) (take 32 (drop 64 (b ∷ header_text h)))) (version_at b h)
    ∙ ap (λ (v : Version). has_no_digest v (take 32 (drop 64 (b ∷ header_text h)))) (version_again h.version)
    ∙ ap (has_no_digest h.version) (digest_at b h words)
    ∙ none_again h.version h.digest words.digest

keeps_first : (breaks : Reason → Bool) (rule : Reason) (rules : List Reason) (r : Result (Unit {0}) Reason) → breaks rule ≡ false → rules_kept breaks rules ≡ r → rules_kept breaks (rule ∷ rules) ≡ r
keeps_first breaks rule rules r holds e = rw holds e

abbrev all_kept : Result (Unit {0}) Reason
all_kept = Ok tt

bytes_again : (b : ℕ) (h : Header) → HasWords h → bytes_kept (b ∷ header_text h) ≡ all_kept
unfolding bytes_kept
bytes_again b h words =
    let bytes = b ∷ header_text h in
    let magic_is : breaks_bytes bytes reason.Magic ≡ false = ap not ((bytes_eq-Decides (slice_range bytes 1 8) magic).1 (magic_again b h)) in
    let versions = version_fits h.version in
    let version_is : breaks_bytes bytes reason.Version ≡ false = rw (version_at b h) (ap not (and_from _ _ (le-leb _ _ versions.0) (le-leb _ _ versions.1))) in
    let fits = kind_fits h.kind in
    let kind_is : breaks_bytes bytes reason.Kind ≡ false = rw (kind_at b h) (ap not (and_from _ _ (le-leb _ _ fits.0) (le-leb _ _ fits.1))) in
    let zero_is : breaks_bytes bytes reason.Reserved ≡ false = ap not (and_from _ _ (and_from _ _ (first_again b h) (digest_again b h words)) (rest_again b h words)) in
    keeps_first (breaks_bytes bytes) reason.Magic (reason.Version ∷ reason.Kind ∷ reason.Reserved ∷ []) all_kept magic_is (keeps_first (breaks_bytes bytes) reason.Version (reason.Kind ∷ reason.Reserved ∷ []) all_kept version_is (keeps_first (breaks_bytes bytes) reason.Kind (reason.Reserved ∷ []) all_kept kind_is (keeps_first (breaks_bytes bytes) reason.Reserved [] all_kept zero_is refl)))

stand_again : (kind : Kind) (serial stands_for parent : ℕ) → AreNumbers kind serial stands_for parent → (stands_rightly kind serial stands_for ≡ true) × (parent_rightly kind serial parent ≡ true)
stand_again kind serial stands_for parent n = grind arith

fields_are_kept : (h : Header) (len : ℕ) → IsHeader h len → fields_kept h len ≡ all_kept
unfolding fields_kept
fields_are_kept h len good = grind arith

abbrev found_header : Header → Result Header Reason
found_header h = Ok h

pub text_again : (b : ℕ) (h : Header) (len : ℕ) → IsHeader h len → header_in (b ∷ header_text h) len ≡ found_header h
unfolding header_in form_in
text_again b h len good = grind (arith, kind_at, kind_again, version_at, version_again, bytes_again, fields_again, fields_are_kept)

-- what is spelled so is read
pub header_again : (bytes : List ℕ) (len : ℕ) (h : Header) → length bytes ≡ 4096 → drop 1 bytes ≡ header_text h → IsHeader h len → header_in bytes len ≡ Ok h
header_again bytes len h long e good = grind (arith, drop_more, text_again)

-- ---- one text has one header

pub text_length : (h : Header) → length h.digest ≡ 32 → length (header_text h) ≡ 4095
unfolding header_text header_front number_bytes zero_bytes
text_length h long = grind (arith, length-append)

pub header_length : (h : Header) → HasWords h → length (header_text h) ≡ 4095
header_length h words = text_length h (length-digest h.version h.digest words.digest)

pub header_once : (g h : Header) → HasWords g → HasWords h → header_text g ≡ header_text h → g ≡ h
header_once g h a b e =
    let number : number_at 2 10 (0 ∷ header_text g) ≡ number_at 2 10 (0 ∷ header_text h) = ap (λ (t : List ℕ). number_at 2 10 (0 ∷ t)) e in
    let kind : g.kind ≡ h.kind = sym (kind_again g.kind) ∙ ap kind_of_number (sym (kind_at 0 g) ∙ number ∙ kind_at 0 h) ∙ kind_again h.kind in
    let number_of : number_at 2 8 (0 ∷ header_text g) ≡ number_at 2 8 (0 ∷ header_text h) = ap (λ (t : List ℕ). number_at 2 8 (0 ∷ t)) e in
    let version : g.version ≡ h.version = sym (version_again g.version) ∙ ap version_of (sym (version_at 0 g) ∙ number_of ∙ version_at 0 h) ∙ version_again h.version in
    let fields : fields_of (g.version, g.kind) (0 ∷ header_text g) ≡ fields_of (h.version, h.kind) (0 ∷ header_text h) =
    ap (λ (v : Version). fields_of (v, g.kind) (0 ∷ header_text g)) version ∙ ap (λ (k : Kind). fields_of (h.version, k) (0 ∷ header_text g)) kind
    ∙ ap (λ (t : List ℕ). fields_of (h.version, h.kind) (0 ∷ t)) e in
    sym (fields_again 0 g a) ∙ fields ∙ fields_again 0 h b
