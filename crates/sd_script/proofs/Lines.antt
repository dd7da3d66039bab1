-- What one line of a script means.
use Rattle.std.proofs.Common.{◌≡◌, ℕ, Bool, true, false, List, length, refl, arith, ◌==◌, ◌||◌, slice_index}
use Rattle.std.specs.Str.{is_utf8, IsUtf8}
use Rattle.std.proofs.lemmas.Str.{IsUtf8-from_is_utf8, is_utf8-from_IsUtf8}
use Rattle.sd_script.specs.Line.{asked_by}
use Rattle.sd_script.specs.Script.{meaning_of, asks_or_unfit, is_skipped, unfit, nothing}

pub meaning_of-broken : (line : List ℕ) → (IsUtf8 line → ⊥) → meaning_of line ≡ unfit
meaning_of-broken line broken = go (is_utf8 line) refl
  where
    go : (b : Bool) → is_utf8 line ≡ b → meaning_of line ≡ unfit
    go true e = absurd (broken (IsUtf8-from_is_utf8 line e))
    go false e = rw e refl

pub meaning_of-skipped : (line : List ℕ) → IsUtf8 line → is_skipped line ≡ true → meaning_of line ≡ nothing
meaning_of-skipped line text skipped = rw (is_utf8-from_IsUtf8 line text, skipped) refl

pub meaning_of-kept : (line : List ℕ) → IsUtf8 line → is_skipped line ≡ false → meaning_of line ≡ asks_or_unfit (asked_by line)
meaning_of-kept line text kept = rw (is_utf8-from_IsUtf8 line text, kept) refl

-- a line is skipped where it is empty or its first byte is `#`
pub is_skipped-tests : (line : List ℕ) → is_skipped line ≡ ((length line == 0) || (slice_index line 0 == 35))
is_skipped-tests line = grind arith

-- the same of a text with the line's bytes, whose tests gave `empty` and `first`
pub is_skipped-by : (line text : List ℕ) (empty first : Bool) → text ≡ line → empty ≡ (length text == 0) → first ≡ (slice_index text 0 == 35)
    → is_skipped line ≡ (empty || first)
is_skipped-by line text empty first same e f = rw (e, f, same) (is_skipped-tests line)

-- an empty one is skipped, whatever the other test would give
pub is_skipped-empty : (line text : List ℕ) (empty : Bool) → text ≡ line → empty ≡ (length text == 0) → empty ≡ true → is_skipped line ≡ true
is_skipped-empty line text empty same e is_true = grind arith
