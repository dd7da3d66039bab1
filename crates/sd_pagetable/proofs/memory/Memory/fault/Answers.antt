use Rattle.std.proofs.Common.{◌≡◌, ℕ, ap, ◌∙◌, sym, subst, refl, true, Option, None, arith}
use Rattle.sd_areas.specs.Pages.{page_of}
use Rattle.sd_pagetable.specs.Nested.{is_alive, value_at}
use Rattle.sd_pagetable.specs.Contents.{Contents, page_at, plain_of}
use Rattle.sd_pagetable.specs.Kept.{HasAreas}
use Rattle.sd_pagetable.proofs.MemoryLemmas.{either_result, fault_dead, fault_stopped, fault_goes, answers_err, write_there, plain_made_writable, areas_made_writable}
use Rattle.std.specs.Prelude.{Result, Err}
use Rattle.sd_tables.specs.declared.entry.Entry.{Entry}
use Rattle.sd_pagetable.specs.declared.access.Access.TheVariants.{Write}
use Rattle.sd_pagetable.specs.declared.access_error.AccessError.{AccessError}
use Rattle.sd_pagetable.specs.declared.memory_error.MemoryError.{MemoryError}
use Rattle.sd_pagetable.specs.declared.memory_error.MemoryError.TheVariants.{Denied as DeniedError, OutOfMemory}
use Rattle.std.proofs.lemmas.Result.{err_from_is_err_and}
use Rattle.sd_pagetable.specs.RefusalOrder.{Answers, page_refusal, frame_refusal, fault_refusal}
use Rattle.sd_pagetable.proofs.memory.Memory.fault.Goals as goal

pub returns-then-not-is_alive-clause-due : goal.returns-then-not-is_alive-clause-due
returns-then-not-is_alive-clause-due c = answers_err (fault_refusal c.args.self.now c.args.space c.args.address) _ c.into.result (Err c.into.result) (fault_dead c.args.self.now c.args.space c.args.address (ap (λ (m : Contents). is_alive m.spaces c.args.space) (sym c.self.view_is) ∙ sym c.is_alive.ensures ∙ c.if-not-is_alive.true)) c.into.ensures refl

pub returns-in_err-page-clause-due : goal.returns-in_err-page-clause-due
returns-in_err-page-clause-due c = grind (arith, err_from_is_err_and, answers_err, fault_stopped)

pub make_writable-requires-clause-permitted : goal.make_writable-requires-clause-permitted
make_writable-requires-clause-permitted c = let x = write_there c.args.self.now c.self.inside.paging c.args.space (page_of c.args.address) c.in_ok-page.page c.self.view_is c.in_ok-page.ensures.page c.in_ok-page.ensures.ok in rw x.1 x.2

-- the refusal at the page is the only one
page_alone : (m n : Contents) (s address page : ℕ) → n ≡ m → page ≡ page_of address → is_alive n.spaces s ≡ true → page_refusal Write (value_at (plain_of m) s (page_of address)) ≡ None
    → frame_refusal n (page_at n s page) ≡ fault_refusal m s address
page_alone m n s address page v e alive ok =
    ap (λ p. frame_refusal n (page_at n s p)) e
    ∙ ap (λ (z : Contents). frame_refusal z (page_at z s (page_of address))) v
    ∙ sym (fault_goes m s address (ap (λ (z : Contents). is_alive z.spaces s) (sym v) ∙ alive) ok)

-- an error is handed on
handed : (due : Option AccessError) (e : MemoryError) → Answers {T = Entry} due (Err e) → Answers {T = Unit {0}} due (Err e)
handed due (DeniedError denied) h = h
handed due OutOfMemory h = tt

fails : (due : Option AccessError) (made : Result Entry MemoryError) (e f : MemoryError) (r : Result (Unit {0}) MemoryError) → Answers due made → made ≡ Err e → r ≡ Err f → f ≡ e → Answers due r
fails due made e f r h was is same =
    subst (λ (x : Result (Unit {0}) MemoryError). Answers due x) (sym (is ∙ ap Err same)) (handed due e (subst (λ (x : Result Entry MemoryError). Answers due x) was h))

error_is : (a b : MemoryError) → ◌≡◌ {A = Result (Unit {0}) MemoryError} (Err a) (Err b) → a ≡ b
error_is a b e = cc

pub returns-in_err-make_writable-clause-due : goal.returns-in_err-make_writable-clause-due
returns-in_err-make_writable-clause-due c = grind (arith, err_from_is_err_and, page_alone, fails)

pub returns-in_err-make_writable-clause-tested : goal.returns-in_err-make_writable-clause-tested
returns-in_err-make_writable-clause-tested c = grind (arith, err_from_is_err_and, page_alone, error_is)

pub returns-clause-due : goal.returns-clause-due
returns-clause-due c = grind (arith, page_alone)

pub returns-clause-memory : goal.returns-clause-memory
returns-clause-memory c = either_result c.make_writable.result _ _ _ c.make_writable.ensures.writable c.make_writable.ensures.err
    (λ o. plain_made_writable c.self.inside.paging c.make_writable.new.self c.args.space c.in_ok-page.page o ∙ ap plain_of c.self.view_is) (λ e. ap plain_of (e ∙ c.self.view_is))

pub invariant_of-self : goal.invariant_of-self
invariant_of-self c = either_result c.make_writable.result _ _ _ c.make_writable.ensures.writable c.make_writable.ensures.err
    (λ o. areas_made_writable c.self.inside.areas c.self.inside.paging c.make_writable.new.self c.args.space c.in_ok-page.page (λ b. b) c.self.invariant o) (λ e. subst (HasAreas c.self.inside.areas) (sym e) c.self.invariant)

pub invariant_of-self-2 : goal.invariant_of-self-2
invariant_of-self-2 c = either_result c.make_writable.result _ _ _ c.make_writable.ensures.writable c.make_writable.ensures.err
    (λ o. areas_made_writable c.self.inside.areas c.self.inside.paging c.make_writable.new.self c.args.space c.in_ok-page.page (λ b. b) c.self.invariant o) (λ e. subst (HasAreas c.self.inside.areas) (sym e) c.self.invariant)
