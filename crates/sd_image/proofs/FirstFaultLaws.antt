-- A table's reason is the least of the first item at which a rule breaks.
use Rattle.std.proofs.Common.{◌≡◌, ◌⊎◌, ◌<◌, ◌≤◌, ℕ, zero, suc, Bool, true, false, not, cond, ◌&&◌, eqb, ltb, leb, List, [], ◌∷◌, take, drop, length, Option, Some, None, Result, Ok, Err, refl, sym, ◌∙◌, ap, arith, inl, inr}
use Rattle.std.proofs.lemmas.Bool.{cases_lt, eq-eqb, ne_eqb}
use Rattle.std.proofs.Math.Bool.{and-false}
use Rattle.sd_areas.specs.declared.area.Area.{Area}
use Rattle.sd_image.specs.declared.header.Header.{Header}
use Rattle.sd_image.specs.declared.header.Kind.{Kind}
use Rattle.sd_image.specs.declared.reason.Reason.{Reason}
use Rattle.sd_image.specs.declared.reason.Reason.TheVariants as reason
use Rattle.sd_image.specs.declared.run.Run.{Run}
use Rattle.sd_image.specs.declared.space_head.SpaceHead.{SpaceHead}
use Rattle.sd_image.specs.Table.{Listed}
use Rattle.sd_image.specs.Reading.{◌>>=◌, number_at, item_value, many, head_at, space_head_of, space_head_at, area_limit, area_of, area_holds, area_from, area_at, run_of, run_holds, run_from, run_at, covers, space_at, ends_rightly, table_in}
use Rattle.sd_image.specs.ReasonLaws.{reason_number, IsLeast}
use Rattle.sd_image.specs.FirstFault.{applies, head_rules, space_head_rules, area_rules, run_rules, ReadsUpTo, here, later, IsSpaceFault, space_head_breaks, area_breaks, run_breaks, space_ends_wrongly, IsTableFault, table_head_breaks, space_breaks, table_ends_wrongly, FirstFaultIsNamed}
use Rattle.sd_image.proofs.LeastReason.{number_once}

-- ---- rules, in the order of their numbers

abbrev fault : Reason → Result (Unit {0}) Reason
fault r = Err r

err_is : (q r : Reason) → fault q ≡ fault r → q ≡ r
err_is q r e = cc

abbrev first_broken : List (Reason × Bool) → Result (Unit {0}) Reason
first_broken [] = Ok tt
first_broken (rule ∷ rules) = cond rule.1 (Err rule.0) (first_broken rules)

abbrev Rising : ℕ → List (Reason × Bool) → Type 0
Rising n [] = Unit {0}
Rising n (rule ∷ rules) = (n ≤ reason_number rule.0) × Rising (suc (reason_number rule.0)) rules

none_low : (n : ℕ) (rules : List (Reason × Bool)) (q : Reason) → Rising n rules → reason_number q < n → applies rules q ≡ false
none_low n [] q rising low = refl
none_low n (rule ∷ rules) q rising low =
    rw (ne_eqb (reason_number rule.0) (reason_number q) (λ e. let le = rising.0 in absurd (omega arith)))
    (none_low (suc (reason_number rule.0)) rules q rising.1 (let le = rising.0 in omega arith))

kept_does_not_apply : (c : Reason) (rules : List (Reason × Bool)) (q : Reason) → applies ((c, false) ∷ rules) q ≡ applies rules q
kept_does_not_apply c rules q = rw (and-false (eqb (reason_number c) (reason_number q))) refl

broken_applies : (c : Reason) (rules : List (Reason × Bool)) → applies ((c, true) ∷ rules) c ≡ true
broken_applies c rules = rw (eq-eqb (reason_number c) (reason_number c) refl) refl

lower_does_not_apply : (c q : Reason) (rules : List (Reason × Bool)) → Rising (suc (reason_number c)) rules → reason_number q < reason_number c
    → applies ((c, true) ∷ rules) q ≡ false
lower_does_not_apply c q rules rising low =
    rw (ne_eqb (reason_number c) (reason_number q) (λ e. absurd (omega arith))) (none_low (suc (reason_number c)) rules q rising (omega arith))

named_step : (c : Reason) (b : Bool) (rules : List (Reason × Bool)) (r : Reason) → Rising (suc (reason_number c)) rules
    → (first_broken rules ≡ Err r → IsLeast (applies rules) r)
    → first_broken ((c, b) ∷ rules) ≡ Err r → IsLeast (applies ((c, b) ∷ rules)) r
named_step c b rules r rising after e = grind (arith, err_is, broken_applies, lower_does_not_apply, kept_does_not_apply)

named_is_least : (n : ℕ) (rules : List (Reason × Bool)) (r : Reason) → Rising n rules → first_broken rules ≡ Err r → IsLeast (applies rules) r
named_is_least n [] r rising e = absurd cc
named_is_least n (rule ∷ rules) r rising e =
    named_step rule.0 rule.1 rules r rising.1 (named_is_least (suc (reason_number rule.0)) rules r rising.1) e

least_step : (c : Reason) (b : Bool) (rules : List (Reason × Bool)) (r : Reason) → Rising (suc (reason_number c)) rules
    → (IsLeast (applies rules) r → first_broken rules ≡ Err r)
    → IsLeast (applies ((c, b) ∷ rules)) r → first_broken ((c, b) ∷ rules) ≡ Err r
least_step c b rules r rising after least = grind (arith, cases_lt, broken_applies, lower_does_not_apply, number_once, kept_does_not_apply)

least_is_named : (n : ℕ) (rules : List (Reason × Bool)) (r : Reason) → Rising n rules → IsLeast (applies rules) r → first_broken rules ≡ Err r
least_is_named n [] r rising least = absurd (let e : false ≡ true = least.here in cc)
least_is_named n (rule ∷ rules) r rising least =
    least_step rule.0 rule.1 rules r rising.1 (least_is_named (suc (reason_number rule.0)) rules r rising.1) least

-- ---- an item

abbrev fails : {A : Type 0} → Result A Reason → Result (Unit {0}) Reason
fails (Ok x) = Ok tt
fails (Err r) = Err r

fails_so : {A : Type 0} (x : Result A Reason) (r : Reason) → fails x ≡ Err r → x ≡ Err r
fails_so x r e = grind arith

abbrev IsJudged : {A : Type 0} → Result A Reason → List (Reason × Bool) → Type 0
IsJudged x rules = (r : Reason) → (x ≡ Err r → IsLeast (applies rules) r) × (IsLeast (applies rules) r → x ≡ Err r)

judged_by : {A : Type 0} (x : Result A Reason) (rules : List (Reason × Bool)) → Rising 0 rules → fails x ≡ first_broken rules → IsJudged x rules
judged_by x rules rising same r = (
  λ e. named_is_least 0 rules r rising (sym same ∙ ap fails e),
  λ least. fails_so x r (same ∙ least_is_named 0 rules r rising least),
)

spelled_fails : {X : Type 0} (holds : Bool) (rule : Reason) (is_zero : Bool) (x : X) (rest : List ℕ)
    → fails {A = X × List ℕ} (cond (not holds) (Err rule) (cond (not is_zero) (Err reason.Zero) (Ok x)) >>= λ y. Ok (y, rest))
    ≡ first_broken ((reason.PastEnd, false) ∷ (rule, not holds) ∷ (reason.Zero, not is_zero) ∷ [])
spelled_fails holds rule is_zero x rest = grind arith

abbrev part : List ℕ → List ℕ → Result (List ℕ × List ℕ) Reason
part item rest = Ok (item, rest)

item_fails : {X : Type 0} (past : Bool) (item rest : List ℕ) (holds : List ℕ → Bool) (rule : Reason) (reserved : List ℕ → ℕ) (made : List ℕ → X)
    → fails {A = X × List ℕ} (cond past (Err reason.PastEnd) (part item rest) >>= λ i. item_value (holds i.0) rule (reserved i.0) (made i.0) >>= λ y. Ok (y, i.1))
    ≡ first_broken ((reason.PastEnd, past) ∷ (rule, not (holds item)) ∷ (reason.Zero, not (eqb (reserved item) 0)) ∷ [])
item_fails past item rest holds rule reserved made = grind arith

head_judged : (bytes : List ℕ) → IsJudged (head_at bytes) (head_rules bytes)
unfolding head_at
head_judged bytes = judged_by _ (head_rules bytes) (omega arith, (omega arith, (omega arith, tt)))
    (item_fails (ltb (length bytes) 8) (take 8 bytes) (drop 8 bytes) (λ item. leb (number_at 4 0 item) 16) reason.Space (λ item. number_at 4 4 item) (λ item. number_at 4 0 item))

area_judged : (before : Option Area) (bytes : List ℕ) → IsJudged (area_at before bytes) (area_rules before bytes)
unfolding area_at area_from
area_judged before bytes = judged_by _ (area_rules before bytes) (omega arith, (omega arith, (omega arith, tt)))
    (item_fails (ltb (length bytes) 24) (take 24 bytes) (drop 24 bytes) (area_holds before) reason.Area (λ item. number_at 4 20 item) area_of)

run_judged : (parent : ℕ) (before : Option Run) (bytes : List ℕ) → IsJudged (run_at parent before bytes) (run_rules parent before bytes)
unfolding run_at run_from
run_judged parent before bytes = judged_by _ (run_rules parent before bytes) (omega arith, (omega arith, (omega arith, tt)))
    (item_fails (ltb (length bytes) 24) (take 24 bytes) (drop 24 bytes) (run_holds parent before) reason.Run (λ item. number_at 4 20 item) run_of)

two_fail : {X : Type 0} (one other : Bool) (x : X)
    → fails (cond (not one) (Err reason.Space) (cond (not other) (Err reason.Area) (Ok x)))
    ≡ first_broken ((reason.PastEnd, false) ∷ (reason.Space, not one) ∷ (reason.Area, not other) ∷ [])
two_fail one other x = grind arith

numbered_fails : {X : Type 0} (past : Bool) (item rest : List ℕ) (one other : List ℕ → Bool) (made : List ℕ → X)
    → fails {A = X × List ℕ} (cond past (Err reason.PastEnd) (part item rest) >>= λ i. cond (not (one i.0)) (Err reason.Space) (cond (not (other i.0)) (Err reason.Area) (Ok (made i.0, i.1))))
    ≡ first_broken ((reason.PastEnd, past) ∷ (reason.Space, not (one item)) ∷ (reason.Area, not (other item)) ∷ [])
numbered_fails past item rest one other made = grind arith

space_head_judged : (kind : Kind) (before : ℕ) (bytes : List ℕ) → IsJudged (space_head_at kind before bytes) (space_head_rules kind before bytes)
unfolding space_head_at
space_head_judged kind before bytes = judged_by _ (space_head_rules kind before bytes) (omega arith, (omega arith, (omega arith, tt)))
    (numbered_fails (ltb (length bytes) 16) (take 16 bytes) (drop 16 bytes)
    (λ item. ltb before (space_head_of item).space && leb (space_head_of item).space 16) (λ item. leb (space_head_of item).areas (area_limit kind)) space_head_of)

-- ---- items one after the other

Failed : {A B : Type 0} → Result A Reason → (A → Result B Reason) → Reason → Type 0
Failed {A} x f r = (x ≡ Err r) ⊎ ((a : A) × (x ≡ Ok a) × (f a ≡ Err r))

bind_err : {A B : Type 0} (x : Result A Reason) (f : A → Result B Reason) (r : Reason) → (x >>= f) ≡ Err r → Failed x f r
unfolding Failed
bind_err (Ok a) f r e = inr (a, refl, e)
bind_err (Err q) f r e = inl (ap Err (err_is q r (ap fails e)))

record Reached {X S : Type 0} (read : S → List ℕ → Result (X × List ℕ) Reason) (after : X → S) (n : ℕ) (state : S) (bytes : List ℕ) (r : Reason) : Type 0 where
  next : S
  place : List ℕ
  reaches : ReadsUpTo read after next place n state bytes
  breaks : read next place ≡ Err r

many_fails : {X S : Type 0} (read : S → List ℕ → Result (X × List ℕ) Reason) (after : X → S) (n : ℕ) (state : S) (bytes : List ℕ) (r : Reason)
    → many read after n state bytes ≡ Err r → Reached read after n state bytes r
unfolding many Failed
many_fails read after zero state bytes r e = absurd cc
many_fails read after (suc n) state bytes r e =
    elim (bind_err (read state bytes) (λ first. many read after n (after first.0) first.1 >>= λ others. Ok (first.0 ∷ others.0, others.1)) r e) [
      | inl broken ↦ record { next = state; place = bytes; reaches = here n; breaks = broken }
      | inr good ↦ elim (bind_err (many read after n (after good.0.0) good.0.1) (λ others. Ok (good.0.0 ∷ others.0, others.1)) r good.2) [
        | inl broken ↦
            let found = many_fails read after n (after good.0.0) good.0.1 r broken in
            record { next = found.next; place = found.place; reaches = later n state bytes good.0.0 good.0.1 good.1 found.reaches; breaks = found.breaks }
        | inr all ↦ absurd (let e = all.2 in cc)
      ]
    ]

many_broken : {X S : Type 0} (read : S → List ℕ → Result (X × List ℕ) Reason) (after : X → S) (next : S) (place : List ℕ) (r : Reason) (n : ℕ) (state : S) (bytes : List ℕ)
    → read next place ≡ Err r → ReadsUpTo read after next place n state bytes → many read after n state bytes ≡ Err r
unfolding many
many_broken read after next place r _ _ _ e (here n) = rw e refl
many_broken read after next place r _ _ _ e (later n state bytes x rest good reaches) = rw (good, many_broken read after next place r n (after x) rest e reaches) refl

-- ---- a space

ends_so : {A : Type 0} (good : Bool) (rule : Reason) (x : A) (r : Reason) → cond good (Ok x) (Err rule) ≡ Err r → (good ≡ false) × (r ≡ rule)
ends_so good rule x r e = grind arith

abbrev made_space : SpaceHead → List Area → List Run × List ℕ → Listed × List ℕ
made_space head areas runs = (record { space = head.space; areas = areas; runs = runs.0 }, runs.1)

abbrev covered : Header → SpaceHead → List Area → List Run × List ℕ → Result (Listed × List ℕ) Reason
covered h head areas runs = cond (covers h.kind areas runs.0) (Ok (made_space head areas runs)) (Err reason.Coverage)

module _ (h : Header) (before : ℕ) (bytes : List ℕ) (r : Reason) where
  runs_fail : (head : SpaceHead × List ℕ) (areas : List Area × List ℕ)
      → space_head_at h.kind before bytes ≡ Ok head → many area_at Some head.0.areas None head.1 ≡ Ok areas
      → (many (run_at h.parent) Some head.0.runs None areas.1 >>= λ runs. covered h head.0 areas.0 runs) ≡ Err r
      → IsSpaceFault h before bytes r
  unfolding Failed
  runs_fail head areas headed listed e =
      elim (bind_err (many (run_at h.parent) Some head.0.runs None areas.1) (λ runs. covered h head.0 areas.0 runs) r e) [
        | inl broken ↦
            let at = many_fails (run_at h.parent) Some head.0.runs None areas.1 r broken in
            run_breaks head.0 head.1 areas.0 areas.1 at.next at.place headed listed at.reaches ((run_judged h.parent at.next at.place r).0 at.breaks)
        | inr runs ↦
            let ends = ends_so (covers h.kind areas.0 runs.0.0) reason.Coverage (made_space head.0 areas.0 runs.0) r runs.2 in
            space_ends_wrongly head.0 head.1 areas.0 areas.1 runs.0.0 runs.0.1 headed listed runs.1 ends.0 ends.1
      ]

  space_fails : space_at h before bytes ≡ Err r → IsSpaceFault h before bytes r
  unfolding space_at Failed
  space_fails e =
      elim (bind_err (space_head_at h.kind before bytes) (λ head. many area_at Some head.0.areas None head.1 >>= λ areas. many (run_at h.parent) Some head.0.runs None areas.1 >>= λ runs. covered h head.0 areas.0 runs) r e) [
        | inl broken ↦ space_head_breaks ((space_head_judged h.kind before bytes r).0 broken)
        | inr head ↦ elim (bind_err (many area_at Some head.0.0.areas None head.0.1) (λ areas. many (run_at h.parent) Some head.0.0.runs None areas.1 >>= λ runs. covered h head.0.0 areas.0 runs) r head.2) [
          | inl broken ↦
              let at = many_fails area_at Some head.0.0.areas None head.0.1 r broken in
              area_breaks head.0.0 head.0.1 at.next at.place head.1 at.reaches ((area_judged at.next at.place r).0 at.breaks)
          | inr areas ↦ runs_fail head.0 areas.0 head.1 areas.1 areas.2
        ]
      ]

  space_broken : IsSpaceFault h before bytes r → space_at h before bytes ≡ Err r
  unfolding space_at
  space_broken (space_head_breaks least) = rw ((space_head_judged h.kind before bytes r).1 least) refl
  space_broken (area_breaks head rest previous place headed reaches least) =
      let broken = many_broken area_at Some previous place r head.areas None rest ((area_judged previous place r).1 least) reaches in
      rw (headed, broken) refl
  space_broken (run_breaks head rest areas behind previous place headed listed reaches least) =
      let broken = many_broken (run_at h.parent) Some previous place r head.runs None behind ((run_judged h.parent previous place r).1 least) reaches in
      rw (headed, listed, broken) refl
  space_broken (space_ends_wrongly head rest areas behind runs end headed listed run wrong is) = rw (headed, listed, run, wrong, is) refl

-- ---- a table

abbrev number_of : Listed → ℕ
number_of s = s.space

module _ (h : Header) (bytes : List ℕ) (r : Reason) where
  table_fails : table_in h bytes ≡ Err r → IsTableFault h bytes r
  unfolding table_in Failed
  table_fails e =
      elim (bind_err (head_at bytes) (λ head. many (space_at h) number_of head.0 0 head.1 >>= λ spaces. cond (ends_rightly h spaces.0 spaces.1) (Ok spaces.0) (Err reason.Total)) r e) [
        | inl broken ↦ table_head_breaks ((head_judged bytes r).0 broken)
        | inr head ↦ elim (bind_err (many (space_at h) number_of head.0.0 0 head.0.1) (λ spaces. cond (ends_rightly h spaces.0 spaces.1) (Ok spaces.0) (Err reason.Total)) r head.2) [
          | inl broken ↦
              let at = many_fails (space_at h) number_of head.0.0 0 head.0.1 r broken in
              space_breaks head.0.0 head.0.1 at.next at.place head.1 at.reaches (space_fails h at.next at.place r at.breaks)
          | inr spaces ↦
              let ends = ends_so (ends_rightly h spaces.0.0 spaces.0.1) reason.Total spaces.0.0 r spaces.2 in
              table_ends_wrongly head.0.0 head.0.1 spaces.0.0 spaces.0.1 head.1 spaces.1 ends.0 ends.1
        ]
      ]

  table_broken : IsTableFault h bytes r → table_in h bytes ≡ Err r
  unfolding table_in
  table_broken (table_head_breaks least) = rw ((head_judged bytes r).1 least) refl
  table_broken (space_breaks count rest before place headed reaches fault) =
      let broken = many_broken (space_at h) number_of before place r count 0 rest (space_broken h before place r fault) reaches in
      rw (headed, broken) refl
  table_broken (table_ends_wrongly count rest spaces end headed listed wrong is) = rw (headed, listed, wrong, is) refl

pub first_fault_is_named_lem : FirstFaultIsNamed
first_fault_is_named_lem h bytes r = (table_fails h bytes r, table_broken h bytes r)
