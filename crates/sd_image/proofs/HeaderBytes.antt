-- A header written field by field is its text.
use Rattle.std.proofs.Common.{◌≡◌, ℕ, ◌+◌, List, ◌++◌, length, take, drop, replicate, refl}
use Rattle.std.specs.Int.{w16, w64, to_le_bytes}
use Rattle.sd_image.specs.declared.header.Header.{Header}
use Rattle.sd_image.specs.Header.{magic, header_front, header_text}
use Rattle.sd_image.specs.Words.{kind_number, version_number, number_bytes, zero_bytes}

-- a text with a field written at its place
abbrev pub put_at : ℕ → List ℕ → List ℕ → List ℕ
put_at place field text = take place text ++ field ++ drop (place + length field) text

-- with the fields that are numbers
abbrev front_written : Header → List ℕ
front_written h = put_at 55 (to_le_bytes w64 h.table_len) (put_at 47 (to_le_bytes w64 h.pages) (put_at 39 (to_le_bytes w64 h.checkpoint) (put_at 31 (to_le_bytes w64 h.parent) (put_at 23 (to_le_bytes w64 h.stands_for) (put_at 15 (to_le_bytes w64 h.serial) (put_at 9 (to_le_bytes w16 (kind_number h.kind)) (put_at 7 (to_le_bytes w16 (version_number h.version)) (put_at 0 magic (replicate 4095 0)))))))))

pub header_written : (h : Header) → take 63 (front_written h) ++ h.digest ++ drop 95 (front_written h) ≡ header_text h
unfolding header_text header_front number_bytes zero_bytes
header_written h = refl

-- its front is the front of its text, and of all that begins with its text
pub front_of_text : (h : Header) → take 63 (header_text h) ≡ header_front h
unfolding header_text header_front number_bytes zero_bytes
front_of_text h = refl

pub front_of_file : (h : Header) (rest : List ℕ) → take 63 (header_text h ++ rest) ≡ header_front h
unfolding header_text header_front number_bytes zero_bytes
front_of_file h rest = refl
