-- The numbers of a stream, and the heads that they make.
use Rattle.std.proofs.Common.{◌≡◌, ℕ, ◌+◌, ◌<◌, ◌≤◌, List, ◌++◌, length, take, drop, replicate, refl, sym, ap, ◌∙◌, append-nil, take-append-drop, arith, get_or, length-take, length-drop}
use Rattle.std.specs.Int.{to_le_bytes, w64}
use Rattle.std.proofs.lemmas.Bool.{cases_lt}
use Rattle.std.proofs.lemmas.List.{length-take-le, take_all, get_or-take, get_or_past}
use Rattle.std.proofs.lemmas.Nat.{le_bytes_8}
use Rattle.byteorder.specs.Endian.{little_number}
use Rattle.byteorder.specs.Numbers.{little_from-take}
use Rattle.std.specs.Prelude.{codes, Option}
use Rattle.sd_stream.specs.declared.base.Base.{Base}
use Rattle.sd_stream.specs.Stream.{magic_text, number_text, record_text, head_text, base_text, base_number, base_digest}

-- the number that is read is the one that stands there
pub number_read : (bytes : List ℕ) (n : ℕ) → 8 ≤ length bytes → ((i : ℕ) → get_or bytes i 0 < 256) → n ≡ little_number 8 bytes → take 8 bytes ≡ number_text n
unfolding number_text
number_read bytes n long fits is =
    let same = little_from-take 0 8 8 bytes (omega arith) in
    let small : (i : ℕ) → get_or (take 8 bytes) i 0 < 256 = λ i. take_small 8 bytes fits i in
    sym (le_bytes_8 (take 8 bytes) n (length-take-le 8 bytes long) small (omega (arith, same)))
  where
    take_small : (k : ℕ) (xs : List ℕ) → ((i : ℕ) → get_or xs i 0 < 256) → (i : ℕ) → get_or (take k xs) i 0 < 256
    take_small k xs h i = grind (arith, cases_lt, get_or-take, get_or_past, length-take)

-- a field written at its place
abbrev pub put_at : ℕ → List ℕ → List ℕ → List ℕ
put_at place field text = take place text ++ field ++ drop (place + length field) text

-- a field written into a text that is known
pub next : (place : ℕ) (field field' text text' now : List ℕ) → now ≡ put_at place field text → field ≡ field' → text ≡ text' → now ≡ put_at place field' text'
next place field field' text text' now e f t = e ∙ ap (λ (x : List ℕ). put_at place x text) f ∙ ap (λ (x : List ℕ). put_at place field' x) t

pub record_written : (kind value : ℕ) → put_at 8 (to_le_bytes w64 value) (put_at 0 (to_le_bytes w64 kind) (replicate 16 0)) ≡ record_text kind value
unfolding record_text number_text
record_written kind value = refl

pub record_read : (head : List ℕ) (kind value : ℕ) → length head ≡ 16 → take 8 (take 8 head) ≡ number_text kind → take 8 (drop 8 head) ≡ number_text value → head ≡ record_text kind value
unfolding record_text
record_read head kind value long first second =
    let front : take 8 (take 8 head) ≡ take 8 head = take_all 8 (take 8 head) (omega (arith, length-take 8 head)) in
    let back : take 8 (drop 8 head) ≡ drop 8 head = take_all 8 (drop 8 head) (omega (arith, length-drop 8 head)) in
    sym (take-append-drop 8 head) ∙ ap (λ (x : List ℕ). x ++ drop 8 head) (sym front ∙ first) ∙ ap (λ (x : List ℕ). number_text kind ++ x) (sym back ∙ second)

abbrev head_front : ℕ → List ℕ
head_front number = put_at 16 (to_le_bytes w64 number) (put_at 8 (to_le_bytes w64 1) (put_at 0 (codes "ckptsend") (replicate 56 0)))

head_fields : (number : ℕ) (digest : List ℕ) → take 24 (head_front number) ++ digest ≡ magic_text ++ number_text 1 ++ (number_text number ++ digest)
unfolding magic_text number_text
head_fields number digest = refl

pub head_written : (base : Option Base) (digest : List ℕ) → digest ≡ base_digest base → length digest ≡ 32 → put_at 24 digest (head_front (base_number base)) ≡ head_text base
unfolding head_text base_text
head_written base digest is long =
    let number = base_number base in
    ap (λ (k : ℕ). (take 24 (head_front number) ++ digest) ++ drop (24 + k) (head_front number)) long
    ∙ append-nil (take 24 (head_front number) ++ digest)
    ∙ head_fields number digest
    ∙ ap (λ (d : List ℕ). magic_text ++ number_text 1 ++ (number_text number ++ d)) is
