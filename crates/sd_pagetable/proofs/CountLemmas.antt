-- The spaces have together no more pages than are mapped.
use Rattle.std.proofs.Common.{◌≡◌, ◌≢◌, ℕ, zero, suc, ◌≤◌, false, nat_eq, Option, unwrap_or, refl, ◌∙◌, ap, arith}
use Rattle.std.specs.Option.{option_map_or}
use Rattle.std.specs.FinMap as finmap
use Rattle.std.proofs.lemmas.Bool.{cond-false}
use Rattle.std.proofs.lemmas.Bool.Decides.{nat_tests}
use Rattle.sd_pagetable.specs.Nested.{Table, Nested, inside, total, total_within}
use Rattle.sd_pagetable.specs.Law.{pages_below, PageLimitLaw}
use Rattle.sd_pagetable.proofs.TableLemmas.{get_removed}
use Rattle.sd_pagetable.proofs.TotalLemmas.{total-remove, total-empty}
use Rattle.sd_pagetable.proofs.ForkCalls.{len_total}

len_inside : {X : Type 0} (found : Option (Table X)) → finmap.len (unwrap_or found finmap.empty) ≡ option_map_or (total (λ _. 1)) found 0
len_inside found = grind (arith, len_total, total-empty)

kept : {X : Type 0} (nested : Nested X) (k n : ℕ) → k ≢ n → finmap.get (finmap.remove nested n) k ≡ finmap.get nested k
kept nested k n differs = get_removed nested n k ∙ cond-false _ _ _ (let e : nat_eq k n ≡ false = grind (arith, nat_tests) in e)

below_kept : {X : Type 0} (nested : Nested X) (m n : ℕ) → m ≤ n → pages_below (finmap.remove nested n) m ≡ pages_below nested m
below_kept nested zero n le = refl
below_kept nested (suc m) n le =
    let here : finmap.len (inside (finmap.remove nested n) m) ≡ finmap.len (inside nested m) = ap (λ o. finmap.len (unwrap_or o finmap.empty)) (kept nested m n (λ e. omega (arith, e, le))) in
    omega (arith, here, below_kept nested m n (omega (arith, le)))

within_total : {X : Type 0} (nested : Nested X) (n : ℕ) → pages_below nested n ≤ total_within (λ _. 1) nested
unfolding total_within
within_total nested zero = omega arith
within_total nested (suc n) =
    omega (
      arith,
      within_total (finmap.remove nested n) n,
      below_kept nested n n (omega arith),
      len_inside (finmap.get nested n),
      total-remove (total (λ _. 1)) nested n,
    )

pub few_below : PageLimitLaw
few_below contents sound n = omega (arith, within_total contents.spaces n, sound.few)
