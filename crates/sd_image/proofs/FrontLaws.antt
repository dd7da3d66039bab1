-- The front of a table: a rule that breaks in it breaks in all that begins so.
use Rattle.std.proofs.Common.{◌≡◌, ◌⊎◌, ◌<◌, ℕ, zero, suc, Bool, true, false, not, cond, ◌&&◌, ltb, leb, List, ◌∷◌, ◌++◌, length, Option, Some, None, Result, Ok, Err, refl, sym, ◌∙◌, ap, arith, inl, inr}
use Rattle.std.proofs.lemmas.Bool.{cases_lt, cases_eq}
use Rattle.std.proofs.lemmas.List.{take-append-le, drop-append-le, length-append}
use Rattle.sd_areas.specs.declared.area.Area.{Area}
use Rattle.sd_image.specs.declared.header.Header.{Header}
use Rattle.sd_image.specs.declared.header.Kind.{Kind}
use Rattle.sd_image.specs.declared.reason.Reason.{Reason}
use Rattle.sd_image.specs.declared.reason.Reason.TheVariants as reason
use Rattle.sd_image.specs.declared.run.Run.{Run}
use Rattle.sd_image.specs.declared.space_head.SpaceHead.{SpaceHead}
use Rattle.sd_image.specs.Table.{Listed}
use Rattle.sd_image.specs.Fronts.{FrontDecides, front_fault}
use Rattle.sd_image.specs.Reading.{◌>>=◌, number_at, item_at, item_value, many, head_at, space_head_of, space_head_at, area_limit, area_from, area_at, run_from, run_at, covers, space_at, ends_rightly, table_in}
use Rattle.sd_image.proofs.Steps.{bind_ok}

abbrev Reader : Type 0 → Type 0
Reader X = List ℕ → Result (X × List ℕ) Reason

-- What is read of bytes is read of more bytes that begin so, and so is a rule that breaks, but for the end.
record ReadsOn {X : Type 0} (read : Reader X) (more : List ℕ) : Type 0 where
  reads : (bytes : List ℕ) (x : X × List ℕ) → read bytes ≡ Ok x → read (bytes ++ more) ≡ Ok (x.0, x.1 ++ more)
  breaks : (bytes : List ℕ) (r : Reason) → read bytes ≡ Err r → (r ≡ reason.PastEnd → ⊥) → read (bytes ++ more) ≡ Err r

Failed : {A B : Type 0} → Result A Reason → (A → Result B Reason) → Reason → Type 0
Failed {A} x f r = (x ≡ Err r) ⊎ ((a : A) × (x ≡ Ok a) × (f a ≡ Err r))

abbrev fault : Reason → Result (Unit {0}) Reason
fault r = Err r

abbrev fails : {A : Type 0} → Result A Reason → Result (Unit {0}) Reason
fails (Ok a) = Ok tt
fails (Err r) = Err r

err_is : (q r : Reason) → fault q ≡ fault r → q ≡ r
err_is q r e = cc

bind_err : {A B : Type 0} (x : Result A Reason) (f : A → Result B Reason) (r : Reason) → (x >>= f) ≡ Err r → Failed x f r
unfolding Failed
bind_err (Ok a) f r e = inr (a, refl, e)
bind_err (Err q) f r e = inl (ap Err (err_is q r (ap fails e)))

-- one reader and then another
then_on : {X Y : Type 0} (read : Reader X) (next : X → Reader Y) (more : List ℕ) → ReadsOn read more → ((x : X) → ReadsOn (next x) more)
    → ReadsOn (λ bytes. read bytes >>= λ x. next x.0 x.1) more
unfolding Failed
then_on read next more first second = record {
  reads = λ bytes y e.
      let x = bind_ok (read bytes) (λ x. next x.0 x.1) y e in
      rw (first.reads bytes x.0 x.1) ((second x.0.0).reads x.0.1 y x.2);
  breaks = λ bytes r e known. elim (bind_err (read bytes) (λ x. next x.0 x.1) r e) [
    | inl broken ↦ rw (first.breaks bytes r broken known) refl
    | inr x ↦ rw (first.reads bytes x.0 x.1) ((second x.0.0).breaks x.0.1 r x.2 known)
  ];
}

-- a value that doesn't depend on the bytes after it
value_on : {X : Type 0} (value : Result X Reason) (more : List ℕ) → ReadsOn (λ rest. value >>= λ x. Ok (x, rest)) more
value_on (Ok x) more = record { reads = λ bytes y e. cc; breaks = λ bytes r e known. absurd cc }
value_on (Err q) more = record { reads = λ bytes y e. absurd cc; breaks = λ bytes r e known. cc }

item_on : (n : ℕ) (more : List ℕ) → ReadsOn (item_at n) more
item_on n more = record {
  reads = λ bytes x e. grind (arith, cases_lt, take-append-le, drop-append-le, length-append);
  breaks = λ bytes r e known. grind (arith, cases_lt);
}

many_on : {X S : Type 0} (read : S → Reader X) (after : X → S) (more : List ℕ) → ((state : S) → ReadsOn (read state) more)
    → (n : ℕ) (state : S) → ReadsOn (many read after n state) more
unfolding many
many_on read after more on zero state = record { reads = λ bytes y e. cc; breaks = λ bytes r e known. absurd cc }
many_on read after more on (suc n) state =
    then_on (read state) (λ x rest. many read after n (after x) rest >>= λ others. Ok (x ∷ others.0, others.1)) more (on state)
    (λ x. then_on (many read after n (after x)) (λ others rest. Ok (x ∷ others, rest)) more (many_on read after more on n (after x)) (λ others. value_on (Ok (x ∷ others)) more))

guards_on : {X : Type 0} (one other : Bool) (q r : Reason) (x : X) (more : List ℕ) → ReadsOn (λ rest. cond one (Err q) (cond other (Err r) (Ok (x, rest)))) more
guards_on true other q r x more = record { reads = λ bytes y e. absurd cc; breaks = λ bytes s e known. cc }
guards_on false true q r x more = record { reads = λ bytes y e. absurd cc; breaks = λ bytes s e known. cc }
guards_on false false q r x more = record { reads = λ bytes y e. cc; breaks = λ bytes s e known. absurd cc }

ends_on : {X : Type 0} (good : Bool) (r : Reason) (x : X) (more : List ℕ) → ReadsOn (λ rest. cond good (Ok (x, rest)) (Err r)) more
ends_on true r x more = record { reads = λ bytes y e. cc; breaks = λ bytes s e known. absurd cc }
ends_on false r x more = record { reads = λ bytes y e. absurd cc; breaks = λ bytes s e known. cc }

-- ---- each item

head_on : (more : List ℕ) → ReadsOn head_at more
unfolding head_at
head_on more =
    then_on (item_at 8) (λ item rest. item_value (leb (number_at 4 0 item) 16) reason.Space (number_at 4 4 item) (number_at 4 0 item) >>= λ n. Ok (n, rest)) more
    (item_on 8 more) (λ item. value_on (item_value (leb (number_at 4 0 item) 16) reason.Space (number_at 4 4 item) (number_at 4 0 item)) more)

area_on : (more : List ℕ) (before : Option Area) → ReadsOn (area_at before) more
unfolding area_at
area_on more before =
    then_on (item_at 24) (λ item rest. area_from before item >>= λ area. Ok (area, rest)) more (item_on 24 more) (λ item. value_on (area_from before item) more)

run_on : (parent : ℕ) (more : List ℕ) (before : Option Run) → ReadsOn (run_at parent before) more
unfolding run_at
run_on parent more before =
    then_on (item_at 24) (λ item rest. run_from parent before item >>= λ run. Ok (run, rest)) more (item_on 24 more) (λ item. value_on (run_from parent before item) more)

space_head_on : (kind : Kind) (before : ℕ) (more : List ℕ) → ReadsOn (space_head_at kind before) more
unfolding space_head_at
space_head_on kind before more =
    then_on (item_at 16) (λ item rest. cond (not (ltb before (space_head_of item).space && leb (space_head_of item).space 16)) (Err reason.Space)
    (cond (not (leb (space_head_of item).areas (area_limit kind))) (Err reason.Area) (Ok (space_head_of item, rest)))) more (item_on 16 more)
    (λ item. guards_on (not (ltb before (space_head_of item).space && leb (space_head_of item).space 16)) (not (leb (space_head_of item).areas (area_limit kind)))
    reason.Space reason.Area (space_head_of item) more)

abbrev made : SpaceHead → List Area → List Run → Listed
made head areas runs = record { space = head.space; areas = areas; runs = runs }

space_on : (h : Header) (more : List ℕ) (before : ℕ) → ReadsOn (space_at h before) more
unfolding space_at
space_on h more before =
    then_on (space_head_at h.kind before)
    (λ head rest. many area_at Some head.areas None rest >>= λ areas. many (run_at h.parent) Some head.runs None areas.1 >>= λ runs. cond (covers h.kind areas.0 runs.0) (Ok (made head areas.0 runs.0, runs.1)) (Err reason.Coverage))
    more (space_head_on h.kind before more)
    (λ head. then_on (many area_at Some head.areas None)
    (λ areas rest. many (run_at h.parent) Some head.runs None rest >>= λ runs. cond (covers h.kind areas runs.0) (Ok (made head areas runs.0, runs.1)) (Err reason.Coverage))
    more (many_on area_at Some more (area_on more) head.areas None)
    (λ areas. then_on (many (run_at h.parent) Some head.runs None)
    (λ runs rest. cond (covers h.kind areas runs) (Ok (made head areas runs, rest)) (Err reason.Coverage))
    more (many_on (run_at h.parent) Some more (run_on h.parent more) head.runs None)
    (λ runs. ends_on (covers h.kind areas runs) reason.Coverage (made head areas runs) more)))

-- ---- the table

abbrev number_of : Listed → ℕ
number_of s = s.space

abbrev spaces_in : Header → Reader (List Listed)
spaces_in h bytes = head_at bytes >>= λ head. many (space_at h) number_of head.0 0 head.1

abbrev ended : Header → List Listed × List ℕ → Result (List Listed) Reason
ended h spaces = cond (ends_rightly h spaces.0 spaces.1) (Ok spaces.0) (Err reason.Total)

bind_assoc : {A B C : Type 0} (x : Result A Reason) (f : A → Result B Reason) (g : B → Result C Reason) → (x >>= λ a. f a >>= g) ≡ ((x >>= f) >>= g)
bind_assoc (Ok a) f g = refl
bind_assoc (Err q) f g = refl

parts : (h : Header) (bytes : List ℕ) → table_in h bytes ≡ (spaces_in h bytes >>= ended h)
unfolding table_in
parts h bytes = bind_assoc (head_at bytes) (λ head. many (space_at h) number_of head.0 0 head.1) (ended h)

total_of : (good : Bool) (spaces : List Listed) (r : Reason) → front_fault (cond good (Ok spaces) (Err reason.Total)) ≡ Some r → r ≡ reason.Total
total_of true spaces r e = cc
total_of false spaces r e = cc

not_ended : (h : Header) (spaces : List Listed) (rest more : List ℕ) → 0 < length more → ends_rightly h spaces (rest ++ more) ≡ false
unfolding ends_rightly
not_ended h spaces rest more some = grind (arith, cases_eq, length-append)

known_of : (q r : Reason) → front_fault (Err q) ≡ Some r → (q ≡ reason.PastEnd → ⊥) × (q ≡ r)
known_of q r e = grind arith

decided : (h : Header) (more : List ℕ) (x y : Result (List Listed × List ℕ) Reason) (r : Reason) → 0 < length more
    → ((spaces : List Listed × List ℕ) → x ≡ Ok spaces → y ≡ Ok (spaces.0, spaces.1 ++ more))
    → ((q : Reason) → x ≡ Err q → (q ≡ reason.PastEnd → ⊥) → y ≡ Err q)
    → front_fault (x >>= ended h) ≡ Some r → (y >>= ended h) ≡ Err r
decided h more (Ok spaces) y r some reads breaks e =
    let total : r ≡ reason.Total = total_of (ends_rightly h spaces.0 spaces.1) spaces.0 r e in
    let over : ends_rightly h spaces.0 (spaces.1 ++ more) ≡ false = not_ended h spaces.0 spaces.1 more some in
    rw (reads spaces refl, over, total) refl
decided h more (Err q) y r some reads breaks e =
    let known = known_of q r e in
    rw (breaks q refl known.0, known.1) refl

pub front_decides : (h : Header) (front : List ℕ) → FrontDecides h front
front_decides h front more r some e =
    let on : ReadsOn (spaces_in h) more = then_on head_at (λ n. many (space_at h) number_of n 0) more (head_on more) (λ n. many_on (space_at h) number_of more (space_on h more) n 0) in
    parts h (front ++ more)
    ∙ decided h more (spaces_in h front) (spaces_in h (front ++ more)) r some (on.reads front) (on.breaks front) (sym (ap front_fault (parts h front)) ∙ e)
