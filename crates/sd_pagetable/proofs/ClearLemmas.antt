-- What a clear does to each page.
use Rattle.std.proofs.Common.{◌≡◌, ℕ, true, false, ◌&&◌, nat_eq, Some, arith}
use Rattle.std.proofs.lemmas.Bool.{cond-false, cond-true}
use Rattle.std.proofs.lemmas.Bool.Decides.{nat_tests}
use Rattle.sd_pagetable.specs.Page.{PageState, cleared_page}
use Rattle.sd_pagetable.specs.Contents.{Contents, page_at, put_page}
use Rattle.sd_pagetable.specs.Tracking.{is_page}
use Rattle.sd_pagetable.specs.Law.{IsClearedAt, ClearLaw}
use Rattle.sd_pagetable.proofs.NestedLemmas.{value_at-put, alive-put_same, alive_at}

same_pair : (s p : ℕ) → (nat_eq s s && nat_eq p p) ≡ true
same_pair s p = grind (arith, nat_tests)

turned : (s p q r : ℕ) → is_page s p q r ≡ false → (nat_eq q s && nat_eq r p) ≡ false
turned s p q r apart = grind (arith, nat_tests)

cleared_here : (old new : Contents) (space number : ℕ) (page : PageState) → page_at old space number ≡ Some page → new ≡ put_page old space number (cleared_page page)
    → IsClearedAt space number old new
cleared_here old new space number page was is = grind (arith, alive-put_same, alive_at, value_at-put, cond-true, same_pair, cond-false, turned)

pub clear_changes_one_page : ClearLaw
clear_changes_one_page old new space number step = cleared_here old new space number step.0 step.1 step.2
