-- Parts written one after the other are the text of all of them.
use Rattle.std.proofs.Common.{◌≡◌, ℕ, List, [], ◌∷◌, ◌++◌, refl, ap, ◌∙◌, append_assoc, arith}
use Rattle.std.specs.List.{concat}
use Rattle.std.proofs.lemmas.List.{append-nil}
use Rattle.sd_image.specs.Words.{number_bytes, zero_bytes}

pub zero_4 : number_bytes 4 0 ≡ zero_bytes 4
unfolding number_bytes zero_bytes
zero_4 = refl

pub two_parts : (o o1 o2 a b : List ℕ) → o1 ≡ o ++ a → o2 ≡ o1 ++ b → o2 ≡ o ++ (a ++ b)
two_parts o o1 o2 a b p q = q ∙ ap (λ (x : List ℕ). x ++ b) p ∙ append_assoc o a b

pub four_parts : (o o1 o2 o3 o4 a b c : List ℕ) → o1 ≡ o ++ a → o2 ≡ o1 ++ b → o3 ≡ o2 ++ c → o4 ≡ o3 ++ number_bytes 4 0 → o4 ≡ o ++ concat (a ∷ b ∷ c ∷ zero_bytes 4 ∷ [])
four_parts o o1 o2 o3 o4 a b c p q r s = grind (arith, append-nil, zero_4, two_parts)

pub five_parts : (o o1 o2 o3 o4 o5 a b c d e : List ℕ) → o1 ≡ o ++ a → o2 ≡ o1 ++ b → o3 ≡ o2 ++ c → o4 ≡ o3 ++ d → o5 ≡ o4 ++ e → o5 ≡ o ++ concat (a ∷ b ∷ c ∷ d ∷ e ∷ [])
five_parts o o1 o2 o3 o4 o5 a b c d e p q r s t = grind (arith, append-nil, two_parts)

pub three_parts : (o1 o2 o3 a b c : List ℕ) → o1 ≡ a → o2 ≡ o1 ++ b → o3 ≡ o2 ++ c → o3 ≡ concat (a ∷ b ∷ c ∷ [])
three_parts o1 o2 o3 a b c p q r = grind (arith, append-nil, two_parts)

-- the bytes of a number that is another one by name
pub written_as : (o o1 : List ℕ) (n x y : ℕ) → o1 ≡ o ++ number_bytes n x → x ≡ y → o1 ≡ o ++ number_bytes n y
written_as o o1 n x y e s = e ∙ ap (λ (k : ℕ). o ++ number_bytes n k) s
