-- A page of a segment, read.
use Rattle.std.proofs.Common.{◌≡◌, ◌≤◌, ◌<◌, ◌+◌, ◌-◌, ◌^◌, ℕ, suc, List, ◌++◌, Option, IfSome, Result, OnOk, replicate, take, drop, length, min, refl, sym, ap, ◌∙◌, arith, inl, inr}
use Rattle.std.specs.Prelude.{slice_index}
use Rattle.std.proofs.lemmas.Bool.{cases_lt}
use Rattle.std.proofs.lemmas.List.{drop-replicate, get_or-append_right, length-append, length-replicate, length-take}
use Rattle.std.proofs.lemmas.Bool.Decides.{nat_tests}
use Rattle.std.proofs.lemmas.Grind.{common_steps, elements, pieces}
use Rattle.sd_elf.specs.declared.program_header.ProgramHeader.{ProgramHeader}
use Rattle.sd_elf.specs.Cores.{IsRead, segment_byte}

in_file : (held buffer : List ℕ) (place k : ℕ) → IsRead held place buffer → k < length buffer → slice_index buffer k ≡ slice_index held (place + k)
in_file held buffer place k read less = let same = read.same in let within = read.within in grind (arith, common_steps, elements, pieces)

zero_at : (m k : ℕ) → slice_index (replicate m 0) k ≡ 0
zero_at (suc m) (suc k) = zero_at m k
zero_at _ _ = refl

behind_file : (n m k : ℕ) → slice_index (drop n (replicate m 0)) k ≡ 0
behind_file n m k = ap (λ xs. slice_index xs k) (drop-replicate n m 0) ∙ zero_at (m - n) k

past_file : (held : List ℕ) (s : ProgramHeader) (k : ℕ) → s.p_filesz ≤ k → segment_byte held s k ≡ 0
past_file held s k past = grind (arith, nat_tests)

ends_file : (behind filesz n m k len : ℕ) → n ≡ min (filesz - behind) m → behind < filesz → n ≤ k → k < n + (m - n) → filesz ≤ behind + k
ends_file behind filesz n m k len least some past less = omega (arith, least, some, past, less)

long : (buffer : List ℕ) (n m : ℕ) → length buffer ≡ n → length (buffer ++ drop n (replicate m 0)) ≡ n + (m - n)
long buffer n m e = length-append buffer (drop n (replicate m 0)) ∙ ap (λ x. length buffer + length x) (drop-replicate n m 0) ∙ ap (λ x. length buffer + x) (length-replicate (m - n) 0) ∙ ap (λ x. x + (m - n)) e

pub page_byte : (held buffer : List ℕ) (s : ProgramHeader) (behind n m place : ℕ) → behind < s.p_filesz → n ≡ min (s.p_filesz - behind) m → place ≡ s.p_offset + behind → length buffer ≡ n → IsRead held place buffer
    → (k : ℕ) → k < length (buffer ++ drop n (replicate m 0)) → slice_index (buffer ++ drop n (replicate m 0)) k ≡ segment_byte held s (behind + k)
page_byte held buffer s behind n m place some least at same read k less =
    elim (cases_lt k n) [
      | inl l ↦ (let e = in_file held buffer place k read (omega (arith, l, same)) in grind (arith, common_steps, elements, pieces, nat_tests))
      | inr r ↦
          get_or-append_right buffer (drop n (replicate m 0)) n k 0 same r
          ∙ behind_file n m (k - n)
          ∙ sym (past_file held s (behind + k) (ends_file behind s.p_filesz n m k 0 least some r (let e = long buffer n m same in omega (arith, e, less))))
    ]

-- the page, where the file's bytes are known
pub page_read : (o : Option (List ℕ)) {T E : Type 0} (result : Result T E) (buffer page zeroed : List ℕ) (s : ProgramHeader) (behind n place : ℕ) → behind < s.p_filesz → zeroed ≡ replicate (length page) 0
    → n ≡ min (s.p_filesz - behind) (length zeroed) → place ≡ min (s.p_offset + behind) (2 ^ 64 - 1) → length buffer ≡ length (take n zeroed) → IfSome o (λ held. OnOk result (IsRead held place buffer))
    → IfSome o (λ held. s.p_offset + s.p_filesz < 2 ^ 64 → OnOk result ((k : ℕ) → k < length (buffer ++ drop n zeroed) → slice_index (buffer ++ drop n zeroed) k ≡ segment_byte held s (behind + k)))
page_read o result buffer page zeroed s behind n place some zeros least at same read = grind (arith, length-replicate, length-take, page_byte)
