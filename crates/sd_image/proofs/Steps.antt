-- Steps of reading: what a step that did not fail says.
use Rattle.std.proofs.Common.{◌≡◌, ℕ, ◌+◌, ◌<◌, Bool, true, false, cond, List, ◌++◌, get_or, take, drop, Result, Ok, Err, sym, ap, subst, ◌∙◌, append_assoc, arith}
use Rattle.std.proofs.lemmas.Bool.{cases_lt}
use Rattle.std.proofs.lemmas.List.{take-append-drop, drop-drop, length-take, get_or-drop, get_or-take, get_or_past}
use Rattle.sd_image.specs.declared.reason.Reason.{Reason}
use Rattle.sd_image.specs.Reading.{◌>>=◌}

-- the value of a step that did not fail
pub bind_ok : {A B : Type 0} (r : Result A Reason) (f : A → Result B Reason) (y : B) → (r >>= f) ≡ Ok y → (x : A) × (r ≡ Ok x) × (f x ≡ Ok y)
bind_ok r f y e = grind arith

-- a test that did not fail
pub guard_ok : {A : Type 0} (b : Bool) (d : Reason) (r : Result A Reason) (y : A) → cond b (Err d) r ≡ Ok y → (b ≡ false) × (r ≡ Ok y)
guard_ok b d r y e = grind arith

pub guard_ends : {A : Type 0} (b : Bool) (d : Reason) (r : Result A Reason) (y : A) → cond b r (Err d) ≡ Ok y → (b ≡ true) × (r ≡ Ok y)
guard_ends b d r y e = grind arith

abbrev done : {A : Type 0} → A → Result A Reason
done x = Ok x

pub ok_is : {A : Type 0} (x y : A) → done x ≡ done y → x ≡ y
ok_is x y e = cc

-- bytes, each below 256
abbrev pub IsBytes : List ℕ → Type 0
IsBytes bytes = (i : ℕ) → get_or bytes i 0 < 256

pub IsBytes-drop : (n : ℕ) (bytes : List ℕ) → IsBytes bytes → IsBytes (drop n bytes)
IsBytes-drop n bytes h i = rw get_or-drop (h (n + i))

pub IsBytes-take : (n : ℕ) (bytes : List ℕ) → IsBytes bytes → IsBytes (take n bytes)
IsBytes-take n bytes h i = grind (arith, cases_lt, get_or-take, get_or_past, length-take)

-- what a reader took from the front
pub record Takes (bytes text rest : List ℕ) : Type 0 where
  pub parts : bytes ≡ text ++ rest
  pub rest_fits : IsBytes rest

pub Takes-then : (a x b y c : List ℕ) → Takes a x b → Takes b y c → Takes a (x ++ y) c
Takes-then a x b y c p q = record { parts = p.parts ∙ ap (λ (t : List ℕ). x ++ t) q.parts ∙ sym (append_assoc x y c); rest_fits = q.rest_fits }

-- a text goes on by what stands at its place
pub piece : (place n next : ℕ) (bytes text tail : List ℕ) → next ≡ place + n → text ≡ take n (drop place bytes) → drop next bytes ≡ tail → drop place bytes ≡ text ++ tail
piece place n next bytes text tail e t d =
    let whole : take n (drop place bytes) ++ drop (place + n) bytes ≡ drop place bytes = rw (← drop-drop n place bytes) (take-append-drop n (drop place bytes)) in
    let d' : drop (place + n) bytes ≡ tail = subst (λ (k : ℕ). drop k bytes ≡ tail) e d in
    sym whole ∙ ap (λ (x : List ℕ). x ++ drop (place + n) bytes) (sym t) ∙ ap (λ (x : List ℕ). text ++ x) d'
