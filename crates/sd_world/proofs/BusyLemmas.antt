-- How many lanes keep something.
use Rattle.std.proofs.Common.{◌≡◌, ℕ, zero, suc, ◌+◌, false, List, [], ◌∷◌, Some, None, slice_get, refl, sym, ◌∙◌, subst, arith}
use Rattle.std.proofs.lemmas.List.Sums.{sum_by-cons}
use Rattle.std.proofs.lemmas.Option.{same_Some}
use Rattle.sd_gate.specs.declared.worker.Worker.{Worker}
use Rattle.sd_world.specs.declared.call_state.CallState.{CallState}
use Rattle.sd_world.specs.declared.kept.Kept.{Kept}
use Rattle.sd_world.specs.declared.kept.Kept.TheVariants.{Nothing, Request, Outcome}
use Rattle.sd_world.specs.View.{IsNowhere, busy_count, busy_of, id_in, is_asked}

pub busy_cons : (k : Kept) (kept : List Kept) → busy_count (k ∷ kept) ≡ busy_of k + busy_count kept
busy_cons k kept = sum_by-cons busy_of k kept

-- where none is counted nothing is kept
pub none_busy : (kept : List Kept) (lane : ℕ) (k : Kept) → busy_count kept ≡ 0 → slice_get kept lane ≡ Some k → k ≡ Nothing
none_busy [] lane k none is = absurd cc
none_busy (x ∷ kept) zero k none is = sym (same_Some x k is) ∙ nothing x (let e = busy_cons x kept in omega (arith, e, none))
  where
    nothing : (one : Kept) → busy_of one ≡ 0 → one ≡ Nothing
    nothing Nothing idle = refl
    nothing (Request request) idle = absurd (let no : 1 ≡ 0 = idle in cc)
    nothing (Outcome made) idle = absurd (let no : 1 ≡ 0 = idle in cc)
none_busy (x ∷ kept) (suc lane) k none is = none_busy kept lane k (let e = busy_cons x kept in omega (arith, e, none)) is

none_in : (state : CallState) → id_in state Nothing ≡ None
none_in state = grind arith

pub idle_nowhere : (kept : List Kept) (state : CallState) (worker : Worker) (place : ℕ) → busy_count kept ≡ 0 → IsNowhere kept state worker place
idle_nowhere kept state worker place none lane at = grind (arith, none_busy, none_in)

pub idle_unasked : (kept : List Kept) (worker : Worker) → busy_count kept ≡ 0 → is_asked kept worker ≡ false
idle_unasked [] worker none = refl
idle_unasked (k ∷ kept) worker none =
    let gone : k ≡ Nothing = none_busy (k ∷ kept) 0 k none refl in
    subst (λ one. is_asked (one ∷ kept) worker ≡ false) (sym gone) (idle_unasked kept worker (let e = busy_cons k kept in omega (arith, e, none)))
