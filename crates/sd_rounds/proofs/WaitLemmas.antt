-- When an outcome is awaited before the next step.
use Rattle.std.proofs.Common.{◌≡◌, ℕ, ◌+◌, Bool, true, false, ◌&&◌, ◌||◌, nat_eq, not, length, Option, Some, None, is_none, is_some, refl, sym, ◌∙◌, ap, arith}
use Rattle.std.specs.Option.{option_map}
use Rattle.std.proofs.lemmas.Bool.Decides.{nat_tests}
use Rattle.sd_areas.specs.PlainMemory.{PlainMemory}
use Rattle.sd_pagetable.specs.Contents.{Contents, plain_of}
use Rattle.sd_pagetable.specs.Law.{PlainLaw}
use Rattle.sd_pagetable.specs.Order.{IsNextPage}
use Rattle.sd_rounds.specs.declared.stage.Stage.TheVariants.{Pass as PassStage}
use Rattle.sd_rounds.specs.Left.{pages_ahead}
use Rattle.sd_rounds.specs.Making.{Making, out_of}
use Rattle.sd_rounds.specs.Pass.{Pass}
use Rattle.sd_writing.specs.Entries.{Place}
use Rattle.sd_rounds.specs.Waits.{is_over, maker_must_wait}
use Rattle.sd_gate.specs.Lanes.{is_any_out}
use Rattle.sd_rounds.specs.Writes.{are_all_out, no_writes}
use Rattle.sd_rounds.proofs.AheadLemmas.{next_ahead, none_ahead}
use Rattle.sd_rounds.proofs.WriteLemmas.{no_write}

some_more : (n m : ℕ) → n ≡ m + 1 → nat_eq n 0 ≡ false
some_more n m e = grind (arith, nat_tests)

pub bool_flip : {X : Type 0} (o : Option X) (b : Bool) → is_some o ≡ not b → b ≡ is_none o
bool_flip o b e = grind arith

pub free_taking : {X Y : Type 0} (f : X → Y) (o : Option X) → is_some o ≡ false → is_none (option_map f o) ≡ true
free_taking f o e = grind arith

-- no page is ahead exactly where there is no next one
none_next : PlainLaw → (contents : Contents) (after : Option Place) (found : Option Place) → IsNextPage contents.spaces after found
    → is_none found ≡ nat_eq (pages_ahead after (plain_of contents)) 0
none_next law contents after None next = sym (ap (λ n. nat_eq n 0) (none_ahead law contents after next))
none_next law contents after (Some at) next = sym (some_more _ _ (next_ahead law contents after at next))

pub over_is : PlainLaw → (contents : Contents) (pass : Pass) (found : Option Place) → is_none pass.taking ≡ true → IsNextPage contents.spaces pass.after found
    → is_none found ≡ is_over pass (plain_of contents)
over_is law contents pass found free next = none_next law contents pass.after found next ∙ sym (ap (λ b. b && nat_eq (pages_ahead pass.after (plain_of contents)) 0) free)

-- in the pass
pub pass_waits : (image : Making) (memory : PlainMemory) (all any over : Bool) → image.stage ≡ PassStage → are_all_out image.writes ≡ all → is_any_out image.writes ≡ any
    → is_over image.pass memory ≡ over → (all || (any && over)) ≡ maker_must_wait image memory
pass_waits image memory all any over stage a n o = grind arith

-- ---- where no outcome is awaited

or_none : (a b c : Bool) → (a || b || c) ≡ false → (a ≡ false) × (b ≡ false) × (c ≡ false)
or_none a b c e = grind arith

-- where the pass is over all writes are done
pub all_written : PlainLaw → (image : Making) (contents : Contents) → maker_must_wait image (plain_of contents) ≡ false → length image.writes ≡ 8 → image.pass.taking ≡ None
    → IsNextPage contents.spaces image.pass.after None → image.writes ≡ no_writes
all_written law image contents e count free next = no_write image.writes count (by (is_any_out image.writes) refl)
  where
    over : is_over image.pass (plain_of contents) ≡ true
    over = sym (over_is law contents image.pass None (ap is_none free) next)

    by : (b : Bool) → is_any_out image.writes ≡ b → b ≡ false
    by false is = refl
    by true is = ap (λ b. b) (sym (ap (λ b. b && is_over image.pass (plain_of contents)) is ∙ over)) ∙ (or_none (is_some (out_of image.stage)) (are_all_out image.writes) _ e).2
