-- The writes of data pages that are out: one more, and one less, and what they make of a body.
use Rattle.std.proofs.Common.{◌≡◌, ◌≢◌, ◌⊎◌, ℕ, zero, suc, ◌<◌, true, false, List, [], ◌∷◌, drop, Option, Some, None, slice_get, slice_set, refl, sym, ◌∙◌, ap, subst, inl, inr, arith}
use Rattle.std.proofs.lemmas.Bool.{both_ways}
use Rattle.std.proofs.lemmas.Option.{same_Some}
use Rattle.sd_gate.specs.Laws.{WritesCommute}
use Rattle.sd_gate.specs.Phases.{body_after}
use Rattle.sd_gate.specs.Requests.{Asked}
use Rattle.sd_gate.specs.Plans.{Planned}
use Rattle.sd_rounds.specs.declared.stage.Stage.{Stage}
use Rattle.sd_rounds.specs.Making.{is_passing, plan_of}
use Rattle.sd_gate.specs.Lanes.{is_any_out}
use Rattle.sd_rounds.specs.Writes.{no_writes}
use Rattle.sd_crash_safety.specs.LiveImages.{ArePagesOf, IsPageOf, body_written, ids_of, lanes_of}
use Rattle.sd_crash_safety.specs.View.{page_lane}

-- ---- lanes of pages among all lanes

-- the lanes of the workers are others
pub lanes_beside : (asked : List (Option Asked)) (worker : ℕ) (x : Option Asked) → worker < 3 → lanes_of (slice_set asked worker x) ≡ lanes_of asked
lanes_beside asked worker x few = grind arith

set_far : (asked : List (Option Asked)) (lane : ℕ) (x : Option Asked) → lanes_of (slice_set asked (suc (suc (suc lane))) x) ≡ slice_set (lanes_of asked) lane x
set_far asked lane x = grind arith

far : (lane : ℕ) → page_lane lane ≡ suc (suc (suc lane))
far lane = omega arith

-- a lane of a worker, or one of pages
pub lane_cases : (lane : ℕ) → (lane < 3) ⊎ ((k : ℕ) × (lane ≡ page_lane k))
lane_cases (suc (suc (suc k))) = inr (k, omega arith)
lane_cases _ = inl (omega arith)

pub lanes_set : (asked : List (Option Asked)) (lane : ℕ) (x : Option Asked) → lanes_of (slice_set asked (page_lane lane) x) ≡ slice_set (lanes_of asked) lane x
lanes_set asked lane x = ap (λ k. lanes_of (slice_set asked k x)) (far lane) ∙ set_far asked lane x

get_far : {X : Type 0} (xs : List X) (lane : ℕ) → slice_get (drop 3 xs) lane ≡ slice_get xs (suc (suc (suc lane)))
get_far xs lane = grind arith

pub lanes_get : {X : Type 0} (xs : List X) (lane : ℕ) → slice_get (drop 3 xs) lane ≡ slice_get xs (page_lane lane)
lanes_get xs lane = get_far xs lane ∙ sym (ap (slice_get xs) (far lane))

pub lanes_ids : (asked : List (Option Asked)) → ids_of (lanes_of asked) ≡ drop 3 (ids_of asked)
lanes_ids asked = grind arith

-- ---- no write is out

none_out : (body : List ℕ) (lanes : List (Option Asked)) → is_any_out (ids_of lanes) ≡ false → body_written body lanes ≡ body
none_out body [] none = refl
none_out body (None ∷ lanes) none = none_out body lanes none
none_out body (Some r ∷ lanes) none = absurd (both_ways true none refl)

pub body_still : (body : List ℕ) (lanes : List (Option Asked)) → ids_of lanes ≡ no_writes → body_written body lanes ≡ body
body_still body lanes none = none_out body lanes (ap is_any_out none)

none_at : (lanes : List (Option Asked)) (lane : ℕ) (request : Asked) → is_any_out (ids_of lanes) ≡ false → slice_get lanes lane ≡ Some (Some request) → ⊥
none_at [] lane request none is = let no : None ≡ Some (Some request) = is in cc
none_at (None ∷ lanes) zero request none is = let no : Some None ≡ Some (Some request) = is in cc
none_at (None ∷ lanes) (suc lane) request none is = none_at lanes lane request none is
none_at (Some r ∷ lanes) lane request none is = both_ways true none refl

pub no_pages : (slot : ℕ) (lanes : List (Option Asked)) → ids_of lanes ≡ no_writes → ArePagesOf slot lanes
no_pages slot lanes none = grind (arith, none_at)

-- ---- writes of different pages may be made in either order

pub commute : WritesCommute → (slot : ℕ) (body : List ℕ) (a b : Asked) → IsPageOf slot a → IsPageOf slot b → a.id.call ≢ b.id.call
    → body_after (body_after body a.id.call a.bytes) b.id.call b.bytes ≡ body_after (body_after body b.id.call b.bytes) a.id.call a.bytes
commute law slot body a b one other apart = grind arith

-- a write of another page than those
abbrev pub IsOther : Asked → List (Option Asked) → Type 0
IsOther request lanes = (lane : ℕ) (other : Asked) → slice_get lanes lane ≡ Some (Some other) → request.id.call ≢ other.id.call

rest_pages : (slot : ℕ) (first : Option Asked) (lanes : List (Option Asked)) → ArePagesOf slot (first ∷ lanes) → ArePagesOf slot lanes
rest_pages slot first lanes are = record {
  each = λ lane request is. are.each (suc lane) request is;
  apart = λ one other a b is too same. let e : suc one ≡ suc other = are.apart (suc one) (suc other) a b is too same in omega (arith, e);
}

first_other : (slot : ℕ) (first : Asked) (lanes : List (Option Asked)) → ArePagesOf slot (Some first ∷ lanes) → IsOther first lanes
first_other slot first lanes are lane other is same = let e : zero ≡ suc lane = are.apart zero (suc lane) first other refl is same in omega (arith, e)

written_last : WritesCommute → (slot : ℕ) (body : List ℕ) (lanes : List (Option Asked)) (request : Asked) → ArePagesOf slot lanes → IsPageOf slot request → IsOther request lanes
    → body_written (body_after body request.id.call request.bytes) lanes ≡ body_after (body_written body lanes) request.id.call request.bytes
written_last law slot body [] request are page other = refl
written_last law slot body (None ∷ lanes) request are page other =
    written_last law slot body lanes request (rest_pages slot None lanes are) page (λ lane r is. other (suc lane) r is)
written_last law slot body (Some first ∷ lanes) request are page other =
    ap (λ b. body_written b lanes) (commute law slot body request first page (are.each zero first refl) (other zero first refl))
    ∙ written_last law slot (body_after body first.id.call first.bytes) lanes request (rest_pages slot (Some first) lanes are) page (λ lane r is. other (suc lane) r is)

-- one more is asked for
pub written_more : WritesCommute → (slot : ℕ) (body : List ℕ) (lanes : List (Option Asked)) (lane : ℕ) (request : Asked) → ArePagesOf slot lanes → IsPageOf slot request
    → IsOther request lanes → slice_get lanes lane ≡ Some None
    → body_written body (slice_set lanes lane (Some request)) ≡ body_after (body_written body lanes) request.id.call request.bytes
written_more law slot body [] lane request are page other is = absurd (let no : None ≡ Some None = is in cc)
written_more law slot body (None ∷ lanes) zero request are page other is =
    written_last law slot body lanes request (rest_pages slot None lanes are) page (λ lane r at. other (suc lane) r at)
written_more law slot body (None ∷ lanes) (suc lane) request are page other is =
    written_more law slot body lanes lane request (rest_pages slot None lanes are) page (λ k r at. other (suc k) r at) is
written_more law slot body (Some first ∷ lanes) zero request are page other is = absurd (let no : Some (Some first) ≡ Some None = is in cc)
written_more law slot body (Some first ∷ lanes) (suc lane) request are page other is =
    written_more law slot (body_after body first.id.call first.bytes) lanes lane request (rest_pages slot (Some first) lanes are) page (λ k r at. other (suc k) r at) is

-- one is done: the body has it from then on
pub written_less : WritesCommute → (slot : ℕ) (body : List ℕ) (lanes : List (Option Asked)) (lane : ℕ) (request : Asked) → ArePagesOf slot lanes → slice_get lanes lane ≡ Some (Some request)
    → body_written (body_after body request.id.call request.bytes) (slice_set lanes lane None) ≡ body_written body lanes
written_less law slot body [] lane request are is = absurd (let no : None ≡ Some (Some request) = is in cc)
written_less law slot body (None ∷ lanes) zero request are is = absurd (let no : Some None ≡ Some (Some request) = is in cc)
written_less law slot body (None ∷ lanes) (suc lane) request are is = written_less law slot body lanes lane request (rest_pages slot None lanes are) is
written_less law slot body (Some first ∷ lanes) zero request are is =
    let own : first ≡ request = same_Some first request (same_Some (Some first) (Some request) is) in
    sym (ap (λ (r : Asked). body_written (body_after body r.id.call r.bytes) lanes) own)
written_less law slot body (Some first ∷ lanes) (suc lane) request are is =
    ap (λ b. body_written b (slice_set lanes lane None)) (commute law slot body request first (are.each (suc lane) request is) (are.each zero first refl)
    (λ same. first_other slot first lanes are lane request is (sym same)))
    ∙ written_less law slot (body_after body first.id.call first.bytes) lanes lane request (rest_pages slot (Some first) lanes are) is

-- ---- the lanes then

pub put_cases : (lanes : List (Option Asked)) (lane other : ℕ) (x : Option Asked) (r : Asked) → slice_get (slice_set lanes lane x) other ≡ Some (Some r)
    → ((other ≢ lane) × (slice_get lanes other ≡ Some (Some r))) ⊎ ((other ≡ lane) × (x ≡ Some r))
put_cases [] lane other x r is = absurd (let no : None ≡ Some (Some r) = is in cc)
put_cases (a ∷ lanes) zero zero x r is = inr (refl, same_Some x (Some r) is)
put_cases (a ∷ lanes) (suc lane) (suc other) x r is = elim (put_cases lanes lane other x r is) [
  | inl was ↦ inl ((λ same. was.0 (omega (arith, same))), was.1)
  | inr here ↦ inr (ap suc here.0, here.1)
]
put_cases (a ∷ lanes) _ _ x r is = inl ((λ same. omega (arith, same)), is)

pub pages_more : (slot : ℕ) (lanes : List (Option Asked)) (lane : ℕ) (request : Asked) → ArePagesOf slot lanes → IsPageOf slot request → IsOther request lanes
    → ArePagesOf slot (slice_set lanes lane (Some request))
pages_more slot lanes lane request are page other = record {
  each = λ k r is. elim (put_cases lanes lane k (Some request) r is) [
    | inl was ↦ are.each k r was.1
    | inr here ↦ subst (IsPageOf slot) (same_Some request r here.1) page
  ];
  apart = λ one two a b first second same. by one two a b same (put_cases lanes lane one (Some request) a first) (put_cases lanes lane two (Some request) b second);
}
  where
    by : (one two : ℕ) (a b : Asked) → a.id.call ≡ b.id.call → ((one ≢ lane) × (slice_get lanes one ≡ Some (Some a))) ⊎ ((one ≡ lane) × (Some request ≡ Some a))
        → ((two ≢ lane) × (slice_get lanes two ≡ Some (Some b))) ⊎ ((two ≡ lane) × (Some request ≡ Some b)) → one ≡ two
    by one two a b same (inl first) (inl second) = are.apart one two a b first.1 second.1 same
    by one two a b same (inl first) (inr here) = absurd (other one a first.1 (ap (λ (r : Asked). r.id.call) (same_Some request b here.1) ∙ sym same))
    by one two a b same (inr here) (inl second) = absurd (other two b second.1 (ap (λ (r : Asked). r.id.call) (same_Some request a here.1) ∙ same))
    by one two a b same (inr here) (inr there) = here.0 ∙ sym there.0

pub pages_less : (slot : ℕ) (lanes : List (Option Asked)) (lane : ℕ) → ArePagesOf slot lanes → ArePagesOf slot (slice_set lanes lane None)
pages_less slot lanes lane are = record {
  each = λ k r is. are.each k r (still k r is);
  apart = λ one two a b first second same. are.apart one two a b (still one a first) (still two b second) same;
}
  where
    still : (k : ℕ) (r : Asked) → slice_get (slice_set lanes lane None) k ≡ Some (Some r) → slice_get lanes k ≡ Some (Some r)
    still k r is = elim (put_cases lanes lane k None r is) [
      | inl was ↦ was.1
      | inr here ↦ absurd (let no : None ≡ Some r = here.1 in cc)
    ]

-- ---- a plan is made outside the pass

pub plan_outside : (stage : Stage) (plan : Planned) → plan_of stage ≡ Some plan → is_passing stage ≡ false
plan_outside stage plan is = grind arith
