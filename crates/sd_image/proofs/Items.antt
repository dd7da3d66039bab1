-- Items of a table: what their bytes are.
use Rattle.std.proofs.Common.{◌≡◌, ℕ, ◌+◌, ◌^◌, ◌<◌, ◌≤◌, Bool, true, false, ◌&&◌, ◌⊎◌, leb, List, Option, Ok, Err, refl, sym, ap, ◌∙◌, arith, inl, inr}
use Rattle.std.proofs.lemmas.Bool.{leb-true, le-leb, and_parts, and_from, and_right, false_from_ne_true}
use Rattle.std.specs.Prelude.{MatchOption, IsSome, IfSome}
use Rattle.sd_areas.specs.declared.prot.Prot.{Prot}
use Rattle.sd_areas.specs.Prot.{prot_bits}
use Rattle.sd_areas.specs.declared.area.Area.{Area}
use Rattle.sd_areas.specs.Areas.{is_area_after}
use Rattle.sd_image.specs.declared.reason.Reason.{Reason}
use Rattle.sd_image.specs.declared.run.Run.{Run}
use Rattle.sd_image.specs.declared.run.RunKind.{RunKind}
use Rattle.sd_image.specs.Table.{is_run_after}
use Rattle.sd_image.specs.Reading.{number_at, item_at, prot_of_number, area_of, area_holds, area_from, area_at, run_kind_of, run_of, run_holds, run_from, run_at}

-- permissions are those of their number
prot_made : (read write execute : Bool) → prot_of_number (prot_bits (record { read = read; write = write; execute = execute })) ≡ record { read = read; write = write; execute = execute }
unfolding prot_of_number
prot_made read write execute = grind arith

pub prot_back : (prot : Prot) → prot_of_number (prot_bits prot) ≡ prot
prot_back prot = prot_made prot.read prot.write prot.execute

pub prot_is : (r : Option Prot) (n : ℕ) → n ≤ 7 → (n ≤ 7 → IsSome r) → IfSome r (λ prot. prot_bits prot ≡ n) → MatchOption r (7 < n) (λ prot. (n ≤ 7) × (prot ≡ prot_of_number n))
prot_is r n le some value = grind (arith, prot_back)

-- ---- areas

-- what holds of an item that is an area
pub record IsAreaItem (before : Option Area) (item : List ℕ) : Type 0 where
  pub prot : number_at 4 16 item ≤ 7
  pub after : is_area_after before (area_of item) ≡ true

pub area_item : (before : Option Area) (item : List ℕ) → area_holds before item ≡ true → IsAreaItem before item
unfolding area_holds
area_item before item e = let parts = and_parts (leb (number_at 4 16 item) 7) _ e in record { prot = leb-true _ _ parts.0; after = parts.1 }

-- what holds of an area after another
pub record IsRange (first count : ℕ) : Type 0 where
  pub some : 0 < count
  pub inside : first + count ≤ 2 ^ 35

pub area_range : (before : Option Area) (area : Area) → is_area_after before area ≡ true → IsRange area.first area.count
area_range before area e = grind arith

pub first_past : (before : Option Area) (item : List ℕ) (first : ℕ) → first ≡ number_at 8 0 item → (first < 2 ^ 35 → ⊥) → area_holds before item ≡ false
unfolding area_of
first_past before item first is past = false_from_ne_true (area_holds before item) (λ e.
    let range = area_range before (area_of item) (area_item before item e).after in
    past (omega (arith, range.some, range.inside)))

pub prot_past : (before : Option Area) (item : List ℕ) (number : ℕ) → number ≡ number_at 4 16 item → 7 < number → area_holds before item ≡ false
prot_past before item number is past = false_from_ne_true (area_holds before item) (λ e. absurd (omega (arith, (area_item before item e).prot)))

abbrev pub area_made : ℕ → ℕ → Prot → Area
area_made first count prot = record { first = first; count = count; prot = prot }

pub area_is : (item : List ℕ) (first count number : ℕ) (prot : Prot) → first ≡ number_at 8 0 item → count ≡ number_at 8 8 item → number ≡ number_at 4 16 item → prot ≡ prot_of_number number → area_made first count prot ≡ area_of item
unfolding area_of
area_is item first count number prot f n p q = rw (f, n, q, p) refl

pub not_after : (before : Option Area) (item : List ℕ) (area : Area) (r : Bool) → area ≡ area_of item → r ≡ is_area_after before area → r ≡ false → area_holds before item ≡ false
unfolding area_holds
not_after before item area r a e f = and_right (leb (number_at 4 16 item) 7) (is_area_after before (area_of item)) (ap (is_area_after before) (sym a) ∙ sym e ∙ f)

pub is_after : (before : Option Area) (item : List ℕ) (area : Area) (r : Bool) (number : ℕ) → area ≡ area_of item → r ≡ is_area_after before area → r ≡ true → number ≡ number_at 4 16 item → number ≤ 7 → area_holds before item ≡ true
unfolding area_holds
is_after before item area r number a e t n le = and_from (leb (number_at 4 16 item) 7) (is_area_after before (area_of item)) (le-leb _ _ (omega arith)) (ap (is_area_after before) (sym a) ∙ sym e ∙ t)

-- ---- runs

pub record IsRunItem (parent : ℕ) (before : Option Run) (item : List ℕ) : Type 0 where
  pub low : 1 ≤ number_at 4 16 item
  pub high : number_at 4 16 item ≤ 3
  pub after : is_run_after parent before (run_of item) ≡ true

pub run_item : (parent : ℕ) (before : Option Run) (item : List ℕ) → run_holds parent before item ≡ true → IsRunItem parent before item
unfolding run_holds
run_item parent before item e = grind arith

pub run_range : (parent : ℕ) (before : Option Run) (run : Run) → is_run_after parent before run ≡ true → IsRange run.first run.count
run_range parent before run e = grind arith

pub run_first_past : (parent : ℕ) (before : Option Run) (item : List ℕ) (first : ℕ) → first ≡ number_at 8 0 item → (first < 2 ^ 35 → ⊥) → run_holds parent before item ≡ false
unfolding run_of
run_first_past parent before item first is past = false_from_ne_true (run_holds parent before item) (λ e.
    let range = run_range parent before (run_of item) (run_item parent before item e).after in
    past (omega (arith, range.some, range.inside)))

pub kind_past : (parent : ℕ) (before : Option Run) (item : List ℕ) (number : ℕ) → number ≡ number_at 4 16 item → (number < 1) ⊎ (3 < number) → run_holds parent before item ≡ false
kind_past parent before item number is (inl low) = false_from_ne_true (run_holds parent before item) (λ e. absurd (omega (arith, (run_item parent before item e).low)))
kind_past parent before item number is (inr high) = false_from_ne_true (run_holds parent before item) (λ e. absurd (omega (arith, (run_item parent before item e).high)))

abbrev pub run_made : ℕ → ℕ → RunKind → Run
run_made first count kind = record { first = first; count = count; kind = kind }

pub run_is : (item : List ℕ) (first count number : ℕ) (kind : RunKind) → first ≡ number_at 8 0 item → count ≡ number_at 8 8 item → number ≡ number_at 4 16 item → kind ≡ run_kind_of number → run_made first count kind ≡ run_of item
unfolding run_of
run_is item first count number kind f n p q = rw (f, n, q, p) refl

pub run_not_after : (parent : ℕ) (before : Option Run) (item : List ℕ) (run : Run) (r : Bool) → run ≡ run_of item → r ≡ is_run_after parent before run → r ≡ false → run_holds parent before item ≡ false
unfolding run_holds
run_not_after parent before item run r a e f = and_right (leb 1 (number_at 4 16 item) && leb (number_at 4 16 item) 3) (is_run_after parent before (run_of item)) (ap (is_run_after parent before) (sym a) ∙ sym e ∙ f)

pub run_is_after : (parent : ℕ) (before : Option Run) (item : List ℕ) (run : Run) (r : Bool) (number : ℕ) → run ≡ run_of item → r ≡ is_run_after parent before run → r ≡ true → number ≡ number_at 4 16 item → 1 ≤ number → number ≤ 3 → run_holds parent before item ≡ true
unfolding run_holds
run_is_after parent before item run r number a e t n low high = and_from (leb 1 (number_at 4 16 item) && leb (number_at 4 16 item) 3) (is_run_after parent before (run_of item)) (and_from (leb 1 (number_at 4 16 item)) (leb (number_at 4 16 item) 3) (le-leb 1 (number_at 4 16 item) (omega arith)) (le-leb (number_at 4 16 item) 3 (omega arith))) (ap (is_run_after parent before) (sym a) ∙ sym e ∙ t)

-- ---- an item, and what it spells

pub area_read : (before : Option Area) (bytes item rest : List ℕ) (area : Area) → item_at 24 bytes ≡ Ok (item, rest) → area_from before item ≡ Ok area → area_at before bytes ≡ Ok (area, rest)
unfolding area_at
area_read before bytes item rest area e f = rw (e, f) refl

pub area_short : (before : Option Area) (bytes : List ℕ) (reason : Reason) → item_at 24 bytes ≡ Err reason → area_at before bytes ≡ Err reason
unfolding area_at
area_short before bytes reason e = rw e refl

pub area_wrong : (before : Option Area) (bytes item rest : List ℕ) (reason : Reason) → item_at 24 bytes ≡ Ok (item, rest) → area_from before item ≡ Err reason → area_at before bytes ≡ Err reason
unfolding area_at
area_wrong before bytes item rest reason e f = rw (e, f) refl

pub run_read : (parent : ℕ) (before : Option Run) (bytes item rest : List ℕ) (run : Run) → item_at 24 bytes ≡ Ok (item, rest) → run_from parent before item ≡ Ok run → run_at parent before bytes ≡ Ok (run, rest)
unfolding run_at
run_read parent before bytes item rest run e f = rw (e, f) refl

pub run_short : (parent : ℕ) (before : Option Run) (bytes : List ℕ) (reason : Reason) → item_at 24 bytes ≡ Err reason → run_at parent before bytes ≡ Err reason
unfolding run_at
run_short parent before bytes reason e = rw e refl

pub run_wrong : (parent : ℕ) (before : Option Run) (bytes item rest : List ℕ) (reason : Reason) → item_at 24 bytes ≡ Ok (item, rest) → run_from parent before item ≡ Err reason → run_at parent before bytes ≡ Err reason
unfolding run_at
run_wrong parent before bytes item rest reason e f = rw (e, f) refl
