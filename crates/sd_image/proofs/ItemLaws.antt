-- Areas and runs: what is read is spelled so, and what is spelled so is read.
use Rattle.std.proofs.Common.{◌≡◌, ℕ, ◌+◌, ◌≤◌, Bool, true, not, ◌&&◌, eqb, ltb, leb, cond, List, [], ◌++◌, length, take, drop, Option, Result, Ok, Err, refl, sym, ap, subst, ◌∙◌, arith}
use Rattle.std.proofs.lemmas.Bool.{ltb-false, le-ltb, le-leb, eqb-true, and_from, not-false}
use Rattle.std.proofs.lemmas.List.{drop_all, take-append-drop, length-take-le, length-append, take_at, drop_at}
use Rattle.byteorder.specs.Endian.{little_number}
use Rattle.byteorder.specs.Numbers.{little_number-reads_back}
use Rattle.sd_areas.specs.declared.area.Area.{Area}
use Rattle.sd_areas.specs.Areas.{is_area_after}
use Rattle.sd_areas.specs.Prot.{prot_bits}
use Rattle.sd_image.specs.declared.reason.Reason.{Reason}
use Rattle.sd_image.specs.declared.reason.Reason.TheVariants as reason
use Rattle.sd_image.specs.declared.run.Run.{Run}
use Rattle.sd_image.specs.declared.run.RunKind.{RunKind}
use Rattle.sd_image.specs.Words.{run_kind_number, number_bytes, zero_bytes}
use Rattle.sd_image.specs.Table.{area_text, run_text, is_run_after}
use Rattle.sd_image.specs.Reading.{◌>>=◌, number_at, item_at, item_value, prot_of_number, area_of, area_holds, area_from, area_at, run_kind_of, run_of, run_holds, run_from, run_at}
use Rattle.sd_image.proofs.Steps.{IsBytes, IsBytes-take, IsBytes-drop, bind_ok, guard_ok, ok_is, Takes, piece}
use Rattle.sd_image.proofs.Numbers.{bytes_4, bytes_8}
use Rattle.sd_image.proofs.Written.{zero_4}
use Rattle.sd_image.proofs.Items.{area_item, IsRange, area_range, prot_back, run_item, run_range}

-- what an item is: the next bytes
pub record IsItem (n : ℕ) (bytes item rest : List ℕ) : Type 0 where
  pub takes : Takes bytes item rest
  pub long : length item ≡ n
  pub fits : IsBytes item

pub item_takes : (n : ℕ) (bytes : List ℕ) (x : List ℕ × List ℕ) → IsBytes bytes → item_at n bytes ≡ Ok x → IsItem n bytes x.0 x.1
item_takes n bytes x fits e =
    let g = guard_ok (ltb (length bytes) n) reason.PastEnd (Ok (take n bytes, drop n bytes)) x e in
    let long : n ≤ length bytes = ltb-false _ _ g.0 in
    let here : IsItem n bytes (take n bytes) (drop n bytes) = record {
      takes = record { parts = sym (take-append-drop n bytes); rest_fits = IsBytes-drop n bytes fits };
      long = length-take-le n bytes long;
      fits = IsBytes-take n bytes fits;
    } in
    subst (λ (y : List ℕ × List ℕ). IsItem n bytes y.0 y.1) (ok_is (take n bytes, drop n bytes) x g.1) here

abbrev done : List ℕ → List ℕ → Result (List ℕ × List ℕ) Reason
done item rest = Ok (item, rest)

pub item_again : (n : ℕ) (item rest : List ℕ) → length item ≡ n → item_at n (item ++ rest) ≡ done item rest
item_again n item rest long = grind (arith, le-ltb, length-append, take_at, drop_at)

pub spelled_ok : {X : Type 0} (holds : Bool) (rule : Reason) (reserved : ℕ) (x y : X) → item_value holds rule reserved x ≡ Ok y → (holds ≡ true) × (reserved ≡ 0) × (x ≡ y)
spelled_ok {X} holds rule reserved x y e =
    let a = guard_ok (not holds) rule (cond (not (eqb reserved 0)) (Err reason.Zero) (Ok x)) y e in
    let b = guard_ok (not (eqb reserved 0)) reason.Zero (Ok x) y a.1 in
    (not-false _ a.0, eqb-true _ _ (not-false _ b.0), ok_is x y b.1)

-- the last four bytes of an item, where they have to be zero
pub last_zero : (place next : ℕ) (item : List ℕ) → IsBytes item → next ≡ place + 4 → length item ≡ next → number_at 4 place item ≡ 0 → drop place item ≡ zero_bytes 4 ++ []
last_zero place next item fits n long z =
    let same : zero_bytes 4 ≡ take 4 (drop place item) = sym zero_4 ∙ ap (number_bytes 4) (sym z) ∙ bytes_4 place item fits (omega arith) in
    piece place 4 next item (zero_bytes 4) [] n same (drop_all next item (omega arith))

prot_number : (n : ℕ) → n ≤ 7 → prot_bits (prot_of_number n) ≡ n
unfolding prot_of_number
prot_number n h = grind arith

area_spelled : (item : List ℕ) → length item ≡ 24 → IsBytes item → number_at 4 16 item ≤ 7 → number_at 4 20 item ≡ 0 → item ≡ area_text (area_of item)
unfolding area_of
area_spelled item long fits prot z =
    let p20 = last_zero 20 24 item fits refl long z in
    let p16 = piece 16 4 20 item _ _ refl (ap (number_bytes 4) (prot_number (number_at 4 16 item) prot) ∙ bytes_4 16 item fits (omega arith)) p20 in
    let p8 = piece 8 8 16 item _ _ refl (bytes_8 8 item fits (omega arith)) p16 in
    piece 0 8 8 item _ _ refl (bytes_8 0 item fits (omega arith)) p8

pub area_takes : (before : Option Area) (bytes : List ℕ) (x : Area × List ℕ) → IsBytes bytes → area_at before bytes ≡ Ok x → Takes bytes (area_text x.0) x.1 × (is_area_after before x.0 ≡ true)
unfolding area_at area_from
area_takes before bytes x fits e =
    let a = bind_ok (item_at 24 bytes) (λ item. area_from before item.0 >>= λ area. Ok (area, item.1)) x e in
    let b = bind_ok (area_from before a.0.0) (λ area. Ok (area, a.0.1)) x a.2 in
    let i = item_takes 24 bytes a.0 fits a.1 in
    let s = spelled_ok (area_holds before a.0.0) reason.Area (number_at 4 20 a.0.0) (area_of a.0.0) b.0 b.1 in
    let h = area_item before a.0.0 s.0 in
    let text : a.0.0 ≡ area_text (area_of a.0.0) = area_spelled a.0.0 i.long i.fits h.prot s.1 in
    let takes : Takes bytes (area_text (area_of a.0.0)) a.0.1 = subst (λ (t : List ℕ). Takes bytes t a.0.1) text i.takes in
    let made : Takes bytes (area_text b.0) a.0.1 × (is_area_after before b.0 ≡ true) = subst (λ (area : Area). Takes bytes (area_text area) a.0.1 × (is_area_after before area ≡ true)) s.2 (takes, h.after) in
    subst (λ (y : Area × List ℕ). Takes bytes (area_text y.0) y.1 × (is_area_after before y.0 ≡ true)) (ok_is (b.0, a.0.1) x b.2) made

kind_number_back : (n : ℕ) → 1 ≤ n → n ≤ 3 → run_kind_number (run_kind_of n) ≡ n
kind_number_back n low high = grind arith

run_spelled : (item : List ℕ) → length item ≡ 24 → IsBytes item → 1 ≤ number_at 4 16 item → number_at 4 16 item ≤ 3 → number_at 4 20 item ≡ 0 → item ≡ run_text (run_of item)
unfolding run_of
run_spelled item long fits low high z =
    let p20 = last_zero 20 24 item fits refl long z in
    let p16 = piece 16 4 20 item _ _ refl (ap (number_bytes 4) (kind_number_back (number_at 4 16 item) low high) ∙ bytes_4 16 item fits (omega arith)) p20 in
    let p8 = piece 8 8 16 item _ _ refl (bytes_8 8 item fits (omega arith)) p16 in
    piece 0 8 8 item _ _ refl (bytes_8 0 item fits (omega arith)) p8

pub run_takes : (parent : ℕ) (before : Option Run) (bytes : List ℕ) (x : Run × List ℕ) → IsBytes bytes → run_at parent before bytes ≡ Ok x → Takes bytes (run_text x.0) x.1 × (is_run_after parent before x.0 ≡ true)
unfolding run_at run_from
run_takes parent before bytes x fits e =
    let a = bind_ok (item_at 24 bytes) (λ item. run_from parent before item.0 >>= λ run. Ok (run, item.1)) x e in
    let b = bind_ok (run_from parent before a.0.0) (λ run. Ok (run, a.0.1)) x a.2 in
    let i = item_takes 24 bytes a.0 fits a.1 in
    let s = spelled_ok (run_holds parent before a.0.0) reason.Run (number_at 4 20 a.0.0) (run_of a.0.0) b.0 b.1 in
    let h = run_item parent before a.0.0 s.0 in
    let text : a.0.0 ≡ run_text (run_of a.0.0) = run_spelled a.0.0 i.long i.fits h.low h.high s.1 in
    let takes : Takes bytes (run_text (run_of a.0.0)) a.0.1 = subst (λ (t : List ℕ). Takes bytes t a.0.1) text i.takes in
    let made : Takes bytes (run_text b.0) a.0.1 × (is_run_after parent before b.0 ≡ true) = subst (λ (run : Run). Takes bytes (run_text run) a.0.1 × (is_run_after parent before run ≡ true)) s.2 (takes, h.after) in
    subst (λ (y : Run × List ℕ). Takes bytes (run_text y.0) y.1 × (is_run_after parent before y.0 ≡ true)) (ok_is (b.0, a.0.1) x b.2) made

-- ---- what was written is read again

prot_small : (read write execute : Bool) → prot_bits (record { read = read; write = write; execute = execute }) ≤ 7
prot_small read write execute = grind arith

same_area : (a b : Area) → a.first ≡ b.first → a.count ≡ b.count → a.prot ≡ b.prot → a ≡ b
same_area a b f n p = rw (f, n, p) refl

pub same_run : (a b : Run) → a.first ≡ b.first → a.count ≡ b.count → a.kind ≡ b.kind → a ≡ b
same_run a b f n k = rw (f, n, k) refl

area_fields : (a : Area) → IsRange a.first a.count → (area_of (area_text a) ≡ a) × (number_at 4 16 (area_text a) ≡ prot_bits a.prot) × (number_at 4 20 (area_text a) ≡ 0)
unfolding area_of number_at number_bytes zero_bytes
area_fields a range =
    let small = prot_small a.prot.read a.prot.write a.prot.execute in
    let first : little_number 8 (drop 0 (area_text a)) ≡ a.first = little_number-reads_back 8 a.first (drop 8 (area_text a)) (omega (arith, range.inside)) in
    let count : little_number 8 (drop 8 (area_text a)) ≡ a.count = little_number-reads_back 8 a.count (drop 16 (area_text a)) (omega (arith, range.inside)) in
    let prot : little_number 4 (drop 16 (area_text a)) ≡ prot_bits a.prot = little_number-reads_back 4 (prot_bits a.prot) (drop 20 (area_text a)) (omega (arith, small)) in
    let whole = same_area _ a first count (ap prot_of_number prot ∙ prot_back a.prot) in
    (whole, prot, refl)

area_length : (a : Area) → length (area_text a) ≡ 24
unfolding number_bytes zero_bytes
area_length a = refl

area_holds_again : (before : Option Area) (a : Area) → is_area_after before a ≡ true → area_holds before (area_text a) ≡ true
unfolding area_holds
area_holds_again before a good =
    let fields = area_fields a (area_range before a good) in
    let small = prot_small a.prot.read a.prot.write a.prot.execute in
    let prot : leb (number_at 4 16 (area_text a)) 7 ≡ true = le-leb _ _ (omega (arith, fields.1, small)) in
    and_from (leb (number_at 4 16 (area_text a)) 7) (is_area_after before (area_of (area_text a))) prot (ap (is_area_after before) fields.0 ∙ good)

pub area_again : (before : Option Area) (a : Area) (rest : List ℕ) → is_area_after before a ≡ true → area_at before (area_text a ++ rest) ≡ Ok (a, rest)
unfolding area_at area_from
area_again before a rest good =
    let fields = area_fields a (area_range before a good) in
    let holds = area_holds_again before a good in
    let read : item_at 24 (area_text a ++ rest) ≡ done (area_text a) rest = item_again 24 (area_text a) rest (area_length a) in
    rw (read, holds, fields.2, fields.0) refl

kind_back : (kind : RunKind) → run_kind_of (run_kind_number kind) ≡ kind
kind_back kind = grind arith

kind_small : (kind : RunKind) → (1 ≤ run_kind_number kind) × (run_kind_number kind ≤ 3)
kind_small kind = grind arith

run_fields : (r : Run) → IsRange r.first r.count → (run_of (run_text r) ≡ r) × (number_at 4 16 (run_text r) ≡ run_kind_number r.kind) × (number_at 4 20 (run_text r) ≡ 0)
unfolding run_of number_at number_bytes zero_bytes
run_fields r range = grind arith

run_length : (r : Run) → length (run_text r) ≡ 24
unfolding number_bytes zero_bytes
run_length r = refl

run_holds_again : (parent : ℕ) (before : Option Run) (r : Run) → is_run_after parent before r ≡ true → run_holds parent before (run_text r) ≡ true
unfolding run_holds
run_holds_again parent before r good =
    let fields = run_fields r (run_range parent before r good) in
    let small = kind_small r.kind in
    let low : leb 1 (number_at 4 16 (run_text r)) ≡ true = le-leb _ _ (omega (arith, fields.1, small.0)) in
    let high : leb (number_at 4 16 (run_text r)) 3 ≡ true = le-leb _ _ (omega (arith, fields.1, small.1)) in
    and_from (leb 1 (number_at 4 16 (run_text r)) && leb (number_at 4 16 (run_text r)) 3) (is_run_after parent before (run_of (run_text r))) (and_from _ _ low high) (ap (is_run_after parent before) fields.0 ∙ good)

pub run_again : (parent : ℕ) (before : Option Run) (r : Run) (rest : List ℕ) → is_run_after parent before r ≡ true → run_at parent before (run_text r ++ rest) ≡ Ok (r, rest)
unfolding run_at run_from
run_again parent before r rest good =
    let fields = run_fields r (run_range parent before r good) in
    let holds = run_holds_again parent before r good in
    let read : item_at 24 (run_text r ++ rest) ≡ done (run_text r) rest = item_again 24 (run_text r) rest (run_length r) in
    rw (read, holds, fields.2, fields.0) refl
