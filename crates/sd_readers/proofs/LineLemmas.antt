-- A line that is put together in a text of 90 bytes.
use Rattle.std.proofs.Common.{◌≡◌, ◌≤◌, ◌+◌, ℕ, List, [], ◌∷◌, ◌++◌, codes, length, take, drop, replicate, refl, sym, ◌∙◌, ap, arith, append_assoc, append-nil}
use Rattle.std.proofs.Math.Seq.{drop-append_seam, drop-append-add, take-append_seam}
use Rattle.std.proofs.lemmas.List.{drop-append-le, length-append, length-take-le}

-- a part is put in place of as many bytes
replaced : (old front mid back part : List ℕ) (place : ℕ) → old ≡ front ++ (mid ++ back) → length front ≡ place → length mid ≡ length part
    → take place old ++ part ++ drop (place + length part) old ≡ front ++ (part ++ back)
replaced old front mid back part place is at same = grind (arith, take-append_seam, drop-append-add, drop-append_seam, append_assoc)

abbrev pub blanks : ℕ → List ℕ
blanks n = replicate n 32

module _ (zeros : ℕ) (digits shown : List ℕ) (few : zeros ≤ 15) (sixteen : length digits ≡ 16) (long : length shown ≡ 64) where
  all_blank : blanks 90 ≡ blanks 8 ++ (blanks 16 ++ (blanks 1 ++ (blanks 64 ++ blanks 1)))
  all_blank = refl

  first : (t : List ℕ) → t ≡ take 8 (blanks 90) ++ digits ++ drop (8 + length digits) (blanks 90) → t ≡ blanks 8 ++ (digits ++ (blanks 1 ++ (blanks 64 ++ blanks 1)))
  first t is = is ∙ replaced (blanks 90) (blanks 8) (blanks 16) (blanks 1 ++ (blanks 64 ++ blanks 1)) digits 8 all_blank refl (sym sixteen)

  second : (s t : List ℕ) → s ≡ blanks 8 ++ (digits ++ (blanks 1 ++ (blanks 64 ++ blanks 1))) → t ≡ take 25 s ++ shown ++ drop (25 + length shown) s
      → t ≡ (blanks 8 ++ digits ++ blanks 1) ++ (shown ++ blanks 1)
  second s t was is = is ∙ replaced s (blanks 8 ++ digits ++ blanks 1) (blanks 64) (blanks 1) shown 25
      (was ∙ (let e : blanks 8 ++ (digits ++ (blanks 1 ++ (blanks 64 ++ blanks 1))) ≡ (blanks 8 ++ digits ++ blanks 1) ++ (blanks 64 ++ blanks 1) =
      sym (append_assoc (blanks 8) digits (blanks 1 ++ (blanks 64 ++ blanks 1))) ∙ sym (append_assoc (blanks 8 ++ digits) (blanks 1) (blanks 64 ++ blanks 1)) in e))
      (length-append (blanks 8 ++ digits) (blanks 1) ∙ ap (λ n. n + 1) (length-append (blanks 8) digits ∙ ap (λ n. 8 + n) sixteen)) (sym long)

  third : (s t : List ℕ) → s ≡ (blanks 8 ++ digits ++ blanks 1) ++ (shown ++ blanks 1) → t ≡ take 89 s ++ 10 ∷ [] ++ drop (89 + 1) s
      → t ≡ ((blanks 8 ++ digits ++ blanks 1) ++ shown) ++ (10 ∷ [] ++ [])
  third s t was is = is ∙ replaced s ((blanks 8 ++ digits ++ blanks 1) ++ shown) (blanks 1) [] (10 ∷ []) 89
      (was ∙ sym (append_assoc (blanks 8 ++ digits ++ blanks 1) shown (blanks 1)) ∙ ap (λ xs. ((blanks 8 ++ digits ++ blanks 1) ++ shown) ++ xs) (sym (append-nil (blanks 1))))
      (length-append (blanks 8 ++ digits ++ blanks 1) shown
      ∙ ap (λ n. n + length shown) (length-append (blanks 8 ++ digits) (blanks 1) ∙ ap (λ n. n + 1) (length-append (blanks 8) digits ∙ ap (λ n. 8 + n) sixteen))
      ∙ ap (λ n. 25 + n) long) refl

  -- what is after the digits
  abbrev rest : List ℕ
  rest = codes " " ++ (shown ++ 10 ∷ [])

  whole : ((blanks 8 ++ digits ++ blanks 1) ++ shown) ++ (10 ∷ [] ++ []) ≡ blanks 8 ++ (digits ++ rest)
  whole = simp (append_assoc)

  pub line_made : (t1 t2 t3 t4 head : List ℕ) → length head ≡ 8
      → t1 ≡ take 8 (blanks 90) ++ digits ++ drop (8 + length digits) (blanks 90)
      → t2 ≡ take 25 t1 ++ shown ++ drop (25 + length shown) t1
      → t3 ≡ take 89 t2 ++ 10 ∷ [] ++ drop (89 + 1) t2
      → length t3 ≡ 90
      → t4 ≡ take zeros t3 ++ head ++ drop (zeros + 8) t3
      → drop zeros t4 ≡ head ++ drop zeros digits ++ codes " " ++ shown ++ 10 ∷ []
  line_made t1 t2 t3 t4 head eight one two three full four =
      let made : t3 ≡ blanks 8 ++ (digits ++ rest) = third t2 t3 (second t1 t2 (first t1 one) two) three ∙ whole in
      let room = length-take-le zeros t3 (omega (arith, full, few)) in
      let behind : drop (zeros + 8) t3 ≡ drop zeros digits ++ rest =
      ap (drop (zeros + 8)) made
      ∙ ap (λ n. drop n (blanks 8 ++ (digits ++ rest))) (let e : zeros + 8 ≡ length (blanks 8) + zeros = omega arith in e)
      ∙ drop-append-add (blanks 8) (digits ++ rest) zeros
      ∙ drop-append-le zeros digits rest (omega (arith, few, sixteen)) in
      ap (drop zeros) (four ∙ append_assoc (take zeros t3) head (drop (zeros + 8) t3))
      ∙ ap (λ n. drop n (take zeros t3 ++ (head ++ drop (zeros + 8) t3))) (sym room)
      ∙ drop-append_seam (take zeros t3) (head ++ drop (zeros + 8) t3)
      ∙ ap (λ xs. head ++ xs) behind
      ∙ joined head (drop zeros digits)
    where
      joined : (head digits : List ℕ) → head ++ (digits ++ rest) ≡ head ++ digits ++ codes " " ++ shown ++ 10 ∷ []
      joined head digits = simp (append_assoc)
