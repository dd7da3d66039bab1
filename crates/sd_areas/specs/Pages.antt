-- Pages of 4,096 bytes: ranges of addresses rounded to whole pages.
use Rattle.std.specs.Prelude.{ℕ, zero, suc, ◌+◌, ◌/◌, ◌%◌, ◌^◌, Bool, not, ◌&&◌, ◌||◌, ◌==◌, nat_lt, nat_le, List, []}
use Rattle.std.specs.Prelude.{◌∷◌}

-- the page of an address
abbrev pub page_of : ℕ → ℕ
page_of address = address / 4096

-- how many whole pages hold so many bytes
abbrev pub pages_for : ℕ → ℕ
pages_for bytes = (bytes + 4095) / 4096

-- the numbers of `count` pages from `first` on
unfoldable pub pages_from : ℕ → ℕ → List ℕ
pages_from first zero = []
pages_from first (suc count) = first ∷ pages_from (suc first) count

-- whether a page is one of those
abbrev pub is_within : ℕ → ℕ → ℕ → Bool
is_within first count page = nat_le first page && nat_lt page (first + count)

-- whether a range of addresses has no meaning as whole pages
abbrev pub is_invalid : ℕ → ℕ → Bool
is_invalid address bytes = bytes == 0 || not (address % 4096 == 0)

-- whether its whole pages reach past the last address
abbrev pub is_outside : ℕ → ℕ → Bool
is_outside address bytes = nat_lt (2 ^ 35) (page_of address + pages_for bytes)
