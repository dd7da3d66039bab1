use Rattle.std.proofs.Common.{◌≡◌, ◌≢◌, ◌⊎◌, ◌≤◌, ℕ, Bool, true, nat_lt, ◌||◌, List, length, ap, ◌∙◌, sym, subst, inl, inr, arith}
use Rattle.std.specs.Prelude.{Result, Err, IfErr}
use Rattle.std.proofs.lemmas.Bool.{ne_eqb, le-ltb}
use Rattle.std.proofs.lemmas.Result.{err_from_is_err_and}
use Rattle.sd_areas.specs.declared.snapshot_page.SnapshotPage.{SnapshotPage}
use Rattle.sd_areas.specs.declared.errno.AreaError.{AreaError}
use Rattle.sd_areas.specs.Areas.{PageMap, areas_of}
use Rattle.sd_areas.specs.Calls as area_calls
use Rattle.sd_areas.specs.Calls.{within_areas}
use Rattle.sd_areas.specs.Memory.{space_of, snapshot_prots}
use Rattle.sd_pagetable.specs.declared.access_error.AccessError.TheVariants.{Refused}
use Rattle.sd_pagetable.specs.declared.memory_refusal.MemoryRefusal.TheVariants.{Enomem}
use Rattle.sd_pagetable.specs.declared.memory_error.MemoryError.{MemoryError}
use Rattle.sd_pagetable.specs.declared.memory_error.MemoryError.TheVariants.{Denied as DeniedError, OutOfMemory}
use Rattle.sd_pagetable.specs.AreaErrors.{error_of}
use Rattle.sd_pagetable.specs.RefusalOrder.{prots_in}
use Rattle.sd_pagetable.specs.Loaded.{is_over_in_space}
use Rattle.sd_pagetable.proofs.SnapshotLemmas.{same_prots, within_ok, within_err}
use Rattle.sd_pagetable.proofs.loading.areas_in.Goals as goal

-- within the numbers of spaces only the areas can be too many
by_areas : (space : ℕ) (es : List (ℕ × SnapshotPage)) (many : Bool) → space ≢ 0 → space ≤ 16 → nat_lt 1024 (length (areas_of (snapshot_prots es))) ≡ many → is_over_in_space (space, space_of es) ≡ many
by_areas space es many some least h =
    ap (λ b. b || nat_lt 16 space || nat_lt 1024 (length (areas_of (prots_in (space_of es))))) (ne_eqb space 0 some)
    ∙ ap (λ b. b || nat_lt 1024 (length (areas_of (prots_in (space_of es))))) (le-ltb 16 space least)
    ∙ ap (λ (pages : PageMap). nat_lt 1024 (length (areas_of pages))) (sym (same_prots es)) ∙ h

Errs : {T : Type 0} → Result T MemoryError → List (ℕ × SnapshotPage) → Type 0
Errs {T} r es = (e : MemoryError) × (r ≡ Err e) × ((e ≡ OutOfMemory) ⊎ ((e ≡ DeniedError (Refused Enomem)) × (nat_lt 1024 (length (areas_of (snapshot_prots es))) ≡ true)))

errs : {T : Type 0} (r : Result T MemoryError) (es : List (ℕ × SnapshotPage)) (area : AreaError) (e : MemoryError) → r ≡ Err e → e ≡ error_of area → area_calls.RefusesInOrder (within_areas (snapshot_prots es)) area → Errs r es
unfolding Errs
errs r es area e h g a = (e, h, subst (λ (x : MemoryError). (x ≡ OutOfMemory) ⊎ ((x ≡ DeniedError (Refused Enomem)) × (nat_lt 1024 (length (areas_of (snapshot_prots es))) ≡ true))) (sym g) (within_err (snapshot_prots es) area a))

over_if : {T : Type 0} (r : Result T MemoryError) (es : List (ℕ × SnapshotPage)) → Errs r es → r ≡ Err (DeniedError (Refused Enomem)) → nat_lt 1024 (length (areas_of (snapshot_prots es))) ≡ true
unfolding Errs
over_if r es (e, h, inl memory) g = absurd (let f : ◌≡◌ {A = Result _ MemoryError} (Err OutOfMemory) (Err (DeniedError (Refused Enomem))) = ap Err (sym memory) ∙ sym h ∙ g in cc)
over_if r es (e, h, inr many) g = many.1

these_errors : {T : Type 0} (r : Result T MemoryError) (es : List (ℕ × SnapshotPage)) → Errs r es → IfErr r (λ e. (e ≡ OutOfMemory) ⊎ (e ≡ DeniedError (Refused Enomem)))
unfolding Errs
these_errors r es (e, h, inl memory) = rw h (inl memory)
these_errors r es (e, h, inr many) = rw h (inr many.0)

pub returns-in_err-from_pages-clause-over : goal.returns-in_err-from_pages-clause-over
returns-in_err-from_pages-clause-over c = λ is.
    let p = err_from_is_err_and c.from_residual.result c.from_residual.ensures.1 in
    by_areas c.args.space c.args.pages.now.entries true (λ n. c.if-number-eq0.false (c.number.ensures ∙ n)) (subst (λ n. n ≤ 16) c.number-else-number-eq0.ensures c.if-number-gt-SPACE_LIMIT.false)
    (over_if c.from_residual.result c.args.pages.now.entries (errs c.from_residual.result c.args.pages.now.entries _ p.0 p.1 p.2 c.in_err-from_pages.ensures.refused) is)

pub returns-in_err-from_pages-clause-errors : goal.returns-in_err-from_pages-clause-errors
returns-in_err-from_pages-clause-errors c =
    let p = err_from_is_err_and c.from_residual.result c.from_residual.ensures.1 in
    these_errors c.from_residual.result c.args.pages.now.entries (errs c.from_residual.result c.args.pages.now.entries _ p.0 p.1 p.2 c.in_err-from_pages.ensures.refused)

pub returns-clause-ok : goal.returns-clause-ok
returns-clause-ok c = grind (arith, within_ok, same_prots, by_areas)
