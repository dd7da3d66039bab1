use Rattle.std.proofs.Common.{◌≡◌, ℕ, List, subst, ap, ◌∙◌, sym, Some, None, false, refl}
use Rattle.std.specs.Prelude.{Result, OnOk}
use Rattle.std.specs.Option.{IfSome}
use Rattle.sd_areas.specs.PlainMemory as plain
use Rattle.sd_pagetable.specs.Page.{PageState, fresh_page}
use Rattle.sd_pagetable.specs.Contents.{Contents, page_at, put_page, is_full}
use Rattle.sd_pagetable.specs.Loaded.{is_zero_page, Loads, GivesFrame}
use Rattle.sd_pagetable.proofs.MemoryLemmas.{at_put_here}
use Rattle.sd_pagetable.proofs.LoadedLemmas.{same_full, loads_zero, loads_some}
use Rattle.sd_pagetable.proofs.paging.Paging.load.Goals as goal

there : (m n : Contents) (s p : ℕ) (x : PageState) → n ≡ put_page m s p x → page_at n s p ≡ Some x
there m n s p x e = ap (λ (z : Contents). page_at z s p) e ∙ at_put_here m s p x

pub returns-then-is_zero : goal.returns-then-is_zero
returns-then-is_zero c = loads_zero c.args.self.now c.add.new.self c.args.space c.args.page _ c.requires.hole c.in_ok-add.ensures.ok (sym c.deref.ensures ∙ c.is_zero.ensures.zeros c.if-is_zero.true) (ap is_zero_page (sym c.deref.ensures) ∙ sym c.is_zero.ensures.value ∙ c.if-is_zero.true)

pub put_bytes-requires-clause-there : goal.put_bytes-requires-clause-there
put_bytes-requires-clause-there c = rw (there c.args.self.now c.add.new.self c.args.space c.args.page _ c.in_ok-add.ensures.ok) refl

pub put_bytes-requires-clause-fresh : goal.put_bytes-requires-clause-fresh
put_bytes-requires-clause-fresh c = rw (there c.args.self.now c.add.new.self c.args.space c.args.page _ c.in_ok-add.ensures.ok) (refl, refl)

pub put_bytes-requires-clause-room : goal.put_bytes-requires-clause-room
put_bytes-requires-clause-room c = ap is_full c.in_ok-add.ensures.ok ∙ same_full c.args.self.now c.args.space c.args.page _ c.requires.hole refl ∙ c.requires.room (ap is_zero_page (sym c.deref.ensures) ∙ sym c.is_zero.ensures.value ∙ c.if-is_zero.false)

loaded_so : {E : Type 0} (m n new : Contents) (s p : ℕ) (page : plain.Page) (r : Result (Unit {0}) E) → page_at m s p ≡ None → n ≡ put_page m s p (fresh_page page.prot) → is_zero_page page.bytes ≡ false
    → OnOk r (IfSome (page_at n s p) (λ (before : PageState). GivesFrame n s p before page.bytes new)) → OnOk r (Loads m s p page new)
loaded_so m n new s p page (Result.Ok u) hole added some h = loads_some m n s p page hole added new some (rw (there m n s p (fresh_page page.prot) added) at h)
loaded_so m n new s p page (Result.Err e) hole added some h = tt

pub returns : goal.returns
returns c =
    loaded_so c.args.self.now c.add.new.self c.put_bytes.new.self c.args.space c.args.page _ c.put_bytes.result c.requires.hole c.in_ok-add.ensures.ok (ap is_zero_page (sym c.deref.ensures) ∙ sym c.is_zero.ensures.value ∙ c.if-is_zero.false)
    (subst (λ (bytes : List ℕ). OnOk c.put_bytes.result (IfSome (page_at c.add.new.self c.args.space c.args.page) (λ (before : PageState). GivesFrame c.add.new.self c.args.space c.args.page before bytes c.put_bytes.new.self))) c.deref-2.ensures c.put_bytes.ensures)
