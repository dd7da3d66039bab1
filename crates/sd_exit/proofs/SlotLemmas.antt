-- The text of a slot's number.
use Rattle.std.proofs.Common.{◌≡◌, ℕ, ◌-◌, ◌^◌, false, [], append-nil, refl, arith, length}
use Rattle.std.specs.Fmt.{decimal, char_count, shown_prefix, padded_integral, format_spec}
use Rattle.sd_exit.specs.Texts.{slot_text}

nothing_less : (n : ℕ) → n - 0 - char_count (shown_prefix (format_spec 32 0 4 3 (2 ^ 64 - 1)) []) ≡ n
unfolding char_count
nothing_less n = let none : char_count (shown_prefix (format_spec 32 0 4 3 (2 ^ 64 - 1)) []) ≡ 0 = refl in omega (arith, none)

-- what `{slot:03}` writes
pub slot_padded : (slot : ℕ) → padded_integral (format_spec 32 0 4 3 (2 ^ 64 - 1)) false [] (decimal slot) ≡ slot_text slot
unfolding padded_integral
slot_padded slot = rw (nothing_less (3 - length (decimal slot)), append-nil (decimal slot))
