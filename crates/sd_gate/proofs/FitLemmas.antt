-- A slot's file through the calls on it.
use Rattle.std.proofs.Common.{◌≡◌, ℕ, suc, ◌-◌, ◌<◌, List, [], ◌∷◌, take, refl, ap, arith}
use Rattle.std.proofs.lemmas.Grind.{same_number_lists}
use Rattle.sd_disk.specs.Contents.{file_after_write, Torn, Cut}
use Rattle.sd_image.specs.Image.{gate}
use Rattle.sd_gate.specs.Fits.{IsClosed, IsBodyOf, IsBehindClosed, IsShort}

pub behind_is_closed : (body file : List ℕ) → IsBehindClosed body file → IsClosed file
behind_is_closed body file behind = grind arith

pub closed_is_behind : (body file : List ℕ) → IsBehindClosed body file → IsBodyOf body file
closed_is_behind body file behind = record { first = behind.first; spelled = behind.spelled }

pub open_is_behind : (body file : List ℕ) → file ≡ gate ∷ body → IsBodyOf body file
open_is_behind body file is = record { first = gate; spelled = is }

-- a write after the gate leaves it closed
pub torn_closed : (at n : ℕ) (old new : List ℕ) → 0 < at → IsClosed old → Torn at n old new → IsClosed new
torn_closed at n old new behind closed torn = grind arith

-- and so does a cut to one byte
pub cut_closed : (old new : List ℕ) → IsClosed old → Cut 1 old new → IsClosed new
cut_closed old new closed cut = grind arith

-- a write over the gate leaves the body
pub torn_gate : (first : ℕ) (body new : List ℕ) → Torn 0 1 (first ∷ body) new → IsBodyOf body new
torn_gate first body [] torn = absurd (omega (arith, torn.no_shorter))
torn_gate first body (x ∷ rest) torn = record {
  first = x;
  spelled = ap (λ xs. x ∷ xs) (same_number_lists rest body (omega (arith, torn.no_shorter, torn.no_longer)) (λ i near.
      torn.above (suc i) (omega (arith, torn.no_shorter, torn.no_longer)) (omega arith)));
}

pub torn_behind : (body old new : List ℕ) → IsBodyOf body old → Torn 0 1 old new → IsBodyOf body new
torn_behind body old new behind torn = torn_gate behind.first body new (rw behind.spelled at torn)

-- and a short file short
pub torn_short : (old new : List ℕ) → IsShort old → Torn 0 1 old new → IsShort new
torn_short old new short torn = omega (arith, torn.no_longer)

-- a 0 at the front
pub zeroed_closed : (file : List ℕ) → IsClosed (file_after_write file 0 (0 ∷ []))
zeroed_closed file = record { some = omega arith; shut = λ is_gate. omega (arith, is_gate) }

pub gate_written : (first byte : ℕ) (body : List ℕ) → file_after_write (first ∷ body) 0 (byte ∷ []) ≡ byte ∷ body
gate_written first byte body = refl

pub zeroed_behind : (body file : List ℕ) → IsBodyOf body file → IsBehindClosed body (file_after_write file 0 (0 ∷ []))
zeroed_behind body file behind = record { first = 0; shut = λ is_gate. omega (arith, is_gate); spelled = rw behind.spelled (gate_written behind.first 0 body) }

pub opened : (body file : List ℕ) → IsBodyOf body file → file_after_write file 0 (gate ∷ []) ≡ gate ∷ body
opened body file behind = rw behind.spelled (gate_written behind.first gate body)

-- bytes after the gate are written into the body
pub body_written : (first at : ℕ) (body bytes : List ℕ) → 0 < at → file_after_write (first ∷ body) at bytes ≡ first ∷ file_after_write body (at - 1) bytes
body_written first at body bytes behind = grind arith

pub filled_behind : (at : ℕ) (body bytes file : List ℕ) → 0 < at → IsBehindClosed body file → IsBehindClosed (file_after_write body (at - 1) bytes) (file_after_write file at bytes)
filled_behind at body bytes file behind closed = grind (arith, body_written)

-- the first byte alone
pub cut_bare : (file : List ℕ) → IsClosed file → IsBehindClosed [] (take 1 file)
cut_bare file closed = grind arith

pub written_closed : (at : ℕ) (bytes file : List ℕ) → 0 < at → IsClosed file → IsClosed (file_after_write file at bytes)
written_closed at bytes file behind closed = grind arith
