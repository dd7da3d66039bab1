-- Ranges of a file's bytes.
use Rattle.std.proofs.Common.{◌≡◌, ◌≤◌, ◌+◌, ◌-◌, ℕ, List, [], ◌∷◌, ◌++◌, take, drop, length, refl, sym, ◌∙◌, ap, subst, arith}
use Rattle.std.specs.Prelude.{slice_range}
use Rattle.std.proofs.Math.Seq.{take-add}
use Rattle.std.proofs.lemmas.List.{drop-drop, length-drop, take-take, take_all}

-- two ranges, one after the other, are one
range_join : (xs : List ℕ) (a m n : ℕ) → slice_range xs a (a + m) ++ slice_range xs (a + m) (a + m + n) ≡ slice_range xs a (a + m + n)
range_join xs a m n =
    ap (λ k. take k (drop a xs) ++ slice_range xs (a + m) (a + m + n)) (let e : a + m - a ≡ m = omega arith in e)
    ∙ ap (λ k. take m (drop a xs) ++ take k (drop (a + m) xs)) (let e : a + m + n - (a + m) ≡ n = omega arith in e)
    ∙ ap (λ back. take m (drop a xs) ++ take n back) (sym (drop-drop m a xs))
    ∙ sym (take-add m n (drop a xs))
    ∙ ap (λ k. take k (drop a xs)) (let e : m + n ≡ a + m + n - a = omega arith in e)

-- so is a range with one that begins where it ends
pub range_then : (xs : List ℕ) (a b n c : ℕ) → a ≤ b → b + n ≡ c → slice_range xs a b ++ slice_range xs b c ≡ slice_range xs a c
range_then xs a b n c less to =
    let at : a + (b - a) ≡ b = omega (arith, less) in
    subst (λ k. slice_range xs a k ++ slice_range xs k c ≡ slice_range xs a c) at
    (subst (λ k. slice_range xs a (a + (b - a)) ++ slice_range xs (a + (b - a)) k ≡ slice_range xs a k) (let e : a + (b - a) + n ≡ c = omega (arith, less, to) in e) (range_join xs a (b - a) n))

-- a range up to the end is all that is left
pub range_to_end : (xs : List ℕ) (a : ℕ) → slice_range xs a (length xs) ≡ drop a xs
range_to_end xs a = take_all (length xs - a) (drop a xs) (omega (arith, length-drop a xs))

-- bytes 1 to 63 are those of the first bytes
pub front_of_front : (xs : List ℕ) → slice_range (slice_range xs 0 4096) 1 64 ≡ slice_range xs 1 64
front_of_front [] = refl
front_of_front (x ∷ xs) = take-take 63 4095 xs (omega arith)
