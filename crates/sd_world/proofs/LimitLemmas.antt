-- A memory within the limits is refused for lack of frames alone.
use Rattle.std.proofs.Common.{◌≡◌, ℕ, ◌+◌, ◌<◌, ◌≤◌, ◌||◌, nat_lt, Bool, true, false, cond, List, [], ◌∷◌, length, sum_by, Some, None, Contains, suc, refl, sym, ◌∙◌, ap, subst, arith}
use Rattle.std.proofs.lemmas.Bool.{le-ltb, ltb-true, ne_eqb}
use Rattle.std.specs.List.{fold, list_any}
use Rattle.std.specs.FinMap as finmap
use Rattle.sd_areas.specs.PlainMemory.{Page, PlainMemory, Space}
use Rattle.sd_pagetable.specs.declared.access_error.AccessError.{AccessError}
use Rattle.sd_pagetable.specs.declared.access_error.AccessError.TheVariants.{Refused}
use Rattle.sd_pagetable.specs.declared.memory_refusal.MemoryRefusal.TheVariants.{NoFrame, Enomem}
use Rattle.sd_pagetable.specs.Contents.{page_count}
use Rattle.sd_pagetable.specs.RefusalOrder.{prots_in}
use Rattle.sd_pagetable.specs.Loaded.{is_over_in_space, is_over_limits, nonzero_pages, snapshot_refusal}
use Rattle.sd_pagetable.specs.Nested.{map_entries, map_values, total, total_within}
use Rattle.sd_image.specs.Shows.{Shows}
use Rattle.sd_restore.specs.Fits.{IsSpaceWithin, IsWithinLimits, ShownIsWithinLimits, prots_in as prots_of}
use Rattle.sd_world.specs.declared.open_fault.OpenFault.{OpenFault}
use Rattle.sd_world.specs.declared.open_fault.OpenFault.TheVariants.{NoFrame as NoFrameFault}
use Rattle.sd_world.specs.Opens.{HasNoFrame, IsLackOf}

none_any : {X : Type 0} (p : X → Bool) (xs : List X) → ((x : X) → Contains xs x → p x ≡ false) → list_any p xs ≡ false
none_any p [] each = refl
none_any p (x ∷ xs) each = ap (λ b. b || list_any p xs) (each x (0, omega arith, refl))
    ∙ none_any p xs (λ y c. each y (suc c.0, (let within = c.1 in omega (arith, within)), c.2))

folds_alike : {X : Type 0} (f g : X → ℕ) (xs : List X) (m n : ℕ) → m ≡ n → ((x : X) → f x ≡ g x)
    → fold (λ a x. a + f x) m xs ≡ fold (λ a x. a + g x) n xs
folds_alike f g [] m n same alike = same
folds_alike f g (x ∷ xs) m n same alike =
    folds_alike f g xs (m + f x) (n + g x) (ap (λ k. k + f x) same ∙ ap (λ k. n + k) (alike x)) alike

sums_alike : {X : Type 0} (f g : X → ℕ) (xs : List X) → ((x : X) → f x ≡ g x) → sum_by f xs ≡ sum_by g xs
sums_alike f g xs alike = folds_alike f g xs 0 0 refl alike

fold_ones : {X : Type 0} (xs : List X) (n : ℕ) → fold (λ a (x : X). a + 1) n xs ≡ n + length xs
fold_ones [] n = omega arith
fold_ones (x ∷ xs) n = let rest = fold_ones xs (n + 1) in rest ∙ omega arith

sum_ones : {X : Type 0} (xs : List X) → sum_by (λ _. 1) xs ≡ length xs
sum_ones xs = fold_ones xs 0 ∙ omega arith

same_prots : (space : Space) → prots_in space ≡ prots_of space
unfolding map_values map_entries
same_prots space = refl

counted : (memory : PlainMemory) → page_count memory ≡ sum_by (λ (entry : ℕ × Space). finmap.len entry.1) (finmap.entries memory)
unfolding total total_within
counted memory = sums_alike (λ (entry : ℕ × Space). sum_by (λ (e : ℕ × Page). 1) (finmap.entries entry.1)) (λ (entry : ℕ × Space). finmap.len entry.1) (finmap.entries memory)
    (λ entry. sum_ones (finmap.entries entry.1) ∙ sym (finmap.len-entries entry.1))

space_fits : (number : ℕ) (space : Space) → IsSpaceWithin number space → is_over_in_space (number, space) ≡ false
space_fits number space within = grind (arith, ne_eqb, le-ltb, same_prots)

pub limits_fit : (memory : PlainMemory) → IsWithinLimits memory → is_over_limits memory ≡ false
limits_fit memory within =
    ap (λ b. b || nat_lt 65536 (page_count memory)) (none_any is_over_in_space (finmap.entries memory) (λ entry there. space_fits entry.0 entry.1 (within.spaces entry.0 entry.1 there)))
    ∙ le-ltb 65536 (page_count memory) (subst (λ n. n ≤ 65536) (sym (counted memory)) within.pages)

-- what is refused for another reason is over the limits
pub due_is_frames : (frames : ℕ) (memory : PlainMemory) (why : AccessError) → is_over_limits memory ≡ false → snapshot_refusal frames memory ≡ Some why
    → frames < nonzero_pages memory
due_is_frames frames memory why fits due = go (nat_lt frames (nonzero_pages memory)) refl
  where
    go : (b : Bool) → nat_lt frames (nonzero_pages memory) ≡ b → frames < nonzero_pages memory
    go true is = ltb-true frames (nonzero_pages memory) is
    go false is =
        let none : None ≡ Some why =
        ap (λ b. cond b (Some (Refused Enomem)) None) (sym fits)
        ∙ ap (λ b. cond b (Some (Refused NoFrame)) (cond (is_over_limits memory) (Some (Refused Enomem)) None)) (sym is) ∙ due in
        absurd cc

pub no_frame : ShownIsWithinLimits → (contents : List (List ℕ)) (frames number : ℕ) (memory : PlainMemory) (fault : OpenFault) → fault ≡ NoFrameFault
    → IsLackOf frames memory fault → Shows contents (Some (number, memory)) → HasNoFrame contents frames
no_frame within contents frames number memory fault is want shows =
    let wanted = subst (IsLackOf frames memory) is want in
    record {
      number = number;
      memory = memory;
      shows = shows;
      few = due_is_frames frames memory wanted.0 (limits_fit memory (within contents number memory shows)) wanted.1;
    }
