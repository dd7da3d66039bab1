-- What is kept of the receipts so far.
use Rattle.std.specs.Prelude.{◌≡◌, ℕ, ◌<◌, ◌≤◌, List, length, slice_get, Option, Some}
use Rattle.sd_journal.specs.declared.receipt.Receipt.{Receipt}

-- the number is above those of its seat's receipts before it
abbrev pub Rises : List Receipt → Receipt → Type 0
Rises before receipt = (k : ℕ) (earlier : Receipt) → slice_get before k ≡ Some earlier
    → earlier.seat ≡ receipt.seat → earlier.number < receipt.number

-- one of its seat's receipts before it has a number that isn't below
abbrev pub HasNotBelow : List Receipt → Receipt → Type 0
HasNotBelow before receipt = (k : ℕ) × (earlier : Receipt) × (slice_get before k ≡ Some earlier)
    × (earlier.seat ≡ receipt.seat) × (receipt.number ≤ earlier.number)

-- of the receipts so far, the number of the last one of each seat below 1,000
pub record AreNoted (receipts : List Receipt) (last : List (Option ℕ)) : Type 0 where
  pub room : length last ≡ 1000
  -- a seat with a number has a receipt with it, and none with a greater one
  pub has : (seat number : ℕ) → slice_get last seat ≡ Some (Some number)
      → (k : ℕ) × (receipt : Receipt) × (slice_get receipts k ≡ Some receipt) × (receipt.seat ≡ seat)
      × (receipt.number ≡ number)
  pub most : (k : ℕ) (receipt : Receipt) → slice_get receipts k ≡ Some receipt → receipt.seat < 1000
      → (number : ℕ) × (slice_get last receipt.seat ≡ Some (Some number)) × (receipt.number ≤ number)
