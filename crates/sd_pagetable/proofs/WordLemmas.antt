-- The word of a page, by its class.
use Rattle.std.proofs.Common.{◌≡◌, ℕ, ◌+◌, ◌^◌, Bool, false, cond, nat_eq, Option, Some, None, ap, arith}
use Rattle.std.specs.Option.{option_map_or}
use Rattle.sd_pagetable.specs.Page.{PageState}
use Rattle.sd_pagetable.specs.Contents.{Contents, page_at, members, word_of_page, word_at}

abbrev class_bit : Option ℕ → ℕ
class_bit o = option_map_or (λ _. 2 ^ 63) o 0

abbrev alone_bit : Contents → Option ℕ → ℕ
alone_bit m o = cond (option_map_or (λ k. nat_eq (members m k) 1) o false) (2 ^ 56) 0

abbrev pub dirty_bit : Bool → ℕ
dirty_bit b = cond b (2 ^ 55) 0

word_class : (m : Contents) (x : PageState) (o : Option ℕ) → x.class ≡ o → word_of_page m x ≡ class_bit o + alone_bit m o + dirty_bit x.soft_dirty
word_class m x o e = ap (λ p. class_bit p + alone_bit m p + dirty_bit x.soft_dirty) e

pub word_none : (m : Contents) (s p : ℕ) (x : PageState) (n : ℕ) → page_at m s p ≡ Some x → x.class ≡ None → n ≡ dirty_bit x.soft_dirty → n ≡ word_at m s p
word_none m s p x n h c e = grind arith

pub word_alone : (m : Contents) (s p : ℕ) (x : PageState) (k n : ℕ) → page_at m s p ≡ Some x → x.class ≡ Some k → members m k ≡ 1 → n ≡ dirty_bit x.soft_dirty → 9295429630892703744 + n ≡ word_at m s p
word_alone m s p x k n h c one e = grind arith

pub word_shared : (m : Contents) (s p : ℕ) (x : PageState) (k n : ℕ) → page_at m s p ≡ Some x → x.class ≡ Some k → (members m k ≡ 1 → ⊥) → n ≡ dirty_bit x.soft_dirty → 9223372036854775808 + n ≡ word_at m s p
word_shared m s p x k n h c more e = grind arith
