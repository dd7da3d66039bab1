-- The first rule of a header that is broken, in the order of the reasons, is the least.
use Rattle.std.proofs.Common.{◌≡◌, ◌<◌, ◌≤◌, ◌+◌, ℕ, suc, Bool, true, false, cond, List, [], ◌∷◌, ◌++◌, length, get_or, Result, Ok, Err, refl, sym, ◌∙◌, ap, arith, inl, inr}
use Rattle.std.specs.List.{AllByRecursion}
use Rattle.std.proofs.lemmas.Bool.{cases_lt}
use Rattle.std.proofs.Math.Bool.{or-false}
use Rattle.sd_image.specs.declared.header.Header.{Header}
use Rattle.sd_image.specs.declared.header.Version.{Version}
use Rattle.sd_image.specs.declared.header.Kind.{Kind}
use Rattle.sd_image.specs.declared.reason.Reason.{Reason}
use Rattle.sd_image.specs.declared.reason.Reason.TheVariants as reason
use Rattle.sd_image.specs.Reading.{◌>>=◌, rules_kept, form_of, fields_of, breaks_bytes, breaks_fields, bytes_kept, form_in, fields_kept, header_in}
use Rattle.sd_image.specs.ReasonLaws.{reason_number, IsLeast, breaks_header, LeastHeaderReason}

-- ---- a number names one reason

reason_with : ℕ → Reason
reason_with n = get_or (reason.Magic ∷ reason.Magic ∷ reason.Version ∷ reason.Kind ∷ reason.Reserved ∷ reason.Serial ∷ reason.StandsFor ∷ reason.Parent ∷ reason.Checkpoint ∷ reason.Length ∷ reason.PastEnd ∷ reason.Space ∷ reason.Area ∷ reason.Run ∷ reason.Zero ∷ reason.Coverage ∷ reason.Total ∷ reason.Digest ∷ reason.Chain ∷ reason.DoubleSerial ∷ []) n reason.Magic

number_back : (r : Reason) → reason_with (reason_number r) ≡ r
unfolding reason_with
number_back r = grind arith

pub number_once : (q r : Reason) → reason_number q ≡ reason_number r → q ≡ r
number_once q r e = sym (number_back q) ∙ ap reason_with e ∙ number_back r

none_is_zero : (q : Reason) → reason_number q < 1 → {A : Type 0} → A
unfolding reason_with
none_is_zero q less =
    let none : reason_number q ≡ 0 = omega arith in
    let first : reason.Magic ≡ q = sym (ap reason_with none) ∙ number_back q in
    let one : 1 ≡ reason_number q = ap reason_number first in
    absurd (omega arith)

-- ---- rules whose numbers go up one by one

abbrev CountFrom : ℕ → List Reason → Type 0
CountFrom n [] = Unit {0}
CountFrom n (rule ∷ rules) = (reason_number rule ≡ n) × CountFrom (suc n) rules

abbrev fault : Reason → Result (Unit {0}) Reason
fault r = Err r

err_is : (q r : Reason) → fault q ≡ fault r → q ≡ r
err_is q r e = cc

broken_is_least : (breaks : Reason → Bool) (n : ℕ) (rules : List Reason) (r : Reason) → CountFrom n rules
    → ((q : Reason) → reason_number q < n → breaks q ≡ false) → rules_kept breaks rules ≡ Err r → IsLeast breaks r
broken_is_least breaks n [] r counts before e = absurd cc
broken_is_least breaks n (rule ∷ rules) r counts before e = by_test (breaks rule) refl (λ is. broken_is_least breaks (suc n) rules r counts.1 (before_next is)) e
  where
    before_next : breaks rule ≡ false → (q : Reason) → reason_number q < suc n → breaks q ≡ false
    before_next is q less =
        elim (cases_lt (reason_number q) n) [
          | inl lower ↦ before q lower
          | inr same ↦ ap breaks (number_once q rule (omega (arith, counts.0))) ∙ is
        ]

    by_test : (t : Bool) → breaks rule ≡ t → (breaks rule ≡ false → rules_kept breaks rules ≡ Err r → IsLeast breaks r)
        → cond t (Err rule) (rules_kept breaks rules) ≡ Err r → IsLeast breaks r
    by_test t is later found = grind arith

least_is_broken : (breaks : Reason → Bool) (n : ℕ) (rules : List Reason) (r : Reason) → CountFrom n rules → n ≤ reason_number r
    → ((q : Reason) → n + length rules ≤ reason_number q → breaks q ≡ false) → IsLeast breaks r → rules_kept breaks rules ≡ Err r
least_is_broken breaks n [] r counts from behind least = absurd (let e : true ≡ false = sym least.here ∙ behind r (omega arith) in cc)
least_is_broken breaks n (rule ∷ rules) r counts from behind least =
    elim (cases_lt (reason_number rule) (reason_number r)) [
      | inl lower ↦ rw (least.none_below rule lower)
          (least_is_broken breaks (suc n) rules r counts.1 (omega (arith, counts.0)) (λ q past. behind q (omega arith)) least)
      | inr same ↦
          let is : rule ≡ r = number_once rule r (omega (arith, counts.0)) in
          rw (ap breaks is ∙ least.here) (ap fault is)
    ]

-- ---- a header's rules, in one list

abbrev of_bytes : List Reason
of_bytes = reason.Magic ∷ reason.Version ∷ reason.Kind ∷ reason.Reserved ∷ []

abbrev of_fields : List Reason
of_fields = reason.Serial ∷ reason.StandsFor ∷ reason.Parent ∷ reason.Checkpoint ∷ reason.Length ∷ []

in_order : CountFrom 1 (of_bytes ++ of_fields)
in_order = (refl, (refl, (refl, (refl, (refl, (refl, (refl, (refl, (refl, tt)))))))))

kept_append : (breaks : Reason → Bool) (xs ys : List Reason) → rules_kept breaks (xs ++ ys) ≡ (rules_kept breaks xs >>= λ _. rules_kept breaks ys)
kept_append breaks [] ys = refl
kept_append breaks (x ∷ xs) ys = by_test (breaks x) (kept_append breaks xs ys)
  where
    by_test : (t : Bool) → rules_kept breaks (xs ++ ys) ≡ (rules_kept breaks xs >>= λ _. rules_kept breaks ys)
        → cond t (Err x) (rules_kept breaks (xs ++ ys)) ≡ (cond t (Err x) (rules_kept breaks xs) >>= λ _. rules_kept breaks ys)
    by_test true later = refl
    by_test false later = later

kept_same : (a b : Reason → Bool) (rules : List Reason) → AllByRecursion (λ q. a q ≡ b q) rules → rules_kept a rules ≡ rules_kept b rules
kept_same a b [] same = refl
kept_same a b (rule ∷ rules) same = rw (same.0, kept_same a b rules same.1) refl

bytes_part : (bytes : List ℕ) (len : ℕ) → rules_kept (breaks_header bytes len) of_bytes ≡ bytes_kept bytes
unfolding bytes_kept
bytes_part bytes len = kept_same (breaks_header bytes len) (breaks_bytes bytes) of_bytes
    (or-false (breaks_bytes bytes reason.Magic), (or-false (breaks_bytes bytes reason.Version), (or-false (breaks_bytes bytes reason.Kind), (or-false (breaks_bytes bytes reason.Reserved), tt))))

abbrev header_of : List ℕ → Header
header_of bytes = fields_of (form_of bytes) bytes

fields_part : (bytes : List ℕ) (len : ℕ) → rules_kept (breaks_header bytes len) of_fields ≡ fields_kept (header_of bytes) len
unfolding fields_kept
fields_part bytes len = kept_same (breaks_header bytes len) (breaks_fields (header_of bytes) len) of_fields (refl, (refl, (refl, (refl, (refl, tt)))))

one_after_the_other : (kept : Result (Unit {0}) Reason) (form : Version × Kind) (fields : Version × Kind → Result (Unit {0}) Reason) (made : Version × Kind → Header)
    → ((kept >>= λ _. Ok form) >>= λ k. fields k >>= λ _. Ok (made k)) ≡ ((kept >>= λ _. fields form) >>= λ _. Ok (made form))
one_after_the_other kept form fields made = grind arith

rules_of_header : (bytes : List ℕ) (len : ℕ) → header_in bytes len ≡ (rules_kept (breaks_header bytes len) (of_bytes ++ of_fields) >>= λ _. Ok (header_of bytes))
unfolding header_in form_in
rules_of_header bytes len =
    one_after_the_other (bytes_kept bytes) (form_of bytes) (λ k. fields_kept (fields_of k bytes) len) (λ k. fields_of k bytes)
    ∙ ap (λ (kept : Result (Unit {0}) Reason). kept >>= λ _. Ok (header_of bytes))
    (sym (kept_append (breaks_header bytes len) of_bytes of_fields ∙ rw (bytes_part bytes len, fields_part bytes len) refl))

fails_so : (kept : Result (Unit {0}) Reason) (h : Header) (r : Reason) → (kept >>= λ _. Ok h) ≡ Err r → kept ≡ Err r
fails_so kept h r e = grind arith

after_header : (bytes : List ℕ) (len : ℕ) (q : Reason) → 10 ≤ reason_number q → breaks_header bytes len q ≡ false
after_header bytes len q past = grind arith

pub least_header_reason_lem : LeastHeaderReason
least_header_reason_lem bytes len r = (
  λ e. broken_is_least (breaks_header bytes len) 1 (of_bytes ++ of_fields) r in_order (λ q less. none_is_zero q less)
      (fails_so (rules_kept (breaks_header bytes len) (of_bytes ++ of_fields)) (header_of bytes) r (sym (rules_of_header bytes len) ∙ e)),
  λ least. rules_of_header bytes len ∙ rw (least_is_broken (breaks_header bytes len) 1 (of_bytes ++ of_fields) r in_order
      (elim (cases_lt (reason_number r) 1) [ inl none ↦ none_is_zero r none | inr some ↦ some ]) (after_header bytes len) least) refl,
)
