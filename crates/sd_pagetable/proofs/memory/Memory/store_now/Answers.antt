use Rattle.std.proofs.Common.{◌≡◌, ℕ, ◌%◌, ap, sym, subst, is_some, List}
use Rattle.std.specs.Option.{IfSome}
use Rattle.sd_areas.specs.Pages.{page_of}
use Rattle.sd_pagetable.specs.Page.{PageState, stored_page}
use Rattle.sd_pagetable.specs.Contents.{Contents, page_at, put_page, plain_of}
use Rattle.sd_pagetable.specs.Access.{stored_at}
use Rattle.sd_pagetable.specs.Effects.{after_store}
use Rattle.sd_pagetable.specs.Kept.{HasAreas}
use Rattle.sd_pagetable.proofs.MemoryLemmas.{either_result, write_there, writable_there, stored_after, areas_made_writable, areas_stored}
use Rattle.sd_pagetable.specs.Tracking.{MakesWritable}
use Rattle.sd_pagetable.proofs.memory.Memory.store_now.Goals as goal

pub make_writable-requires-clause-permitted : goal.make_writable-requires-clause-permitted
make_writable-requires-clause-permitted c = let x = write_there c.args.self.now c.self.inside.paging c.args.space (page_of c.args.address) c.in_ok-place.place.page c.self.view_is c.in_ok-place.ensures.page c.in_ok-place.ensures.permitted in rw x.1 x.2

stored : (m n l : Contents) (s address p offset : ℕ) (bytes : List ℕ) → p ≡ page_of address → offset ≡ address % 4096 → MakesWritable m s p (λ b. b) n
    → IfSome (page_at n s p) (λ (before : PageState). l ≡ put_page n s p (stored_page before (stored_at before.bytes offset bytes)))
    → MakesWritable m s (page_of address) (λ before. stored_at before (address % 4096) bytes) l × (plain_of l ≡ after_store (plain_of m) s address bytes)
stored m n l s address p offset bytes pe oe o h = stored_after m n l s address bytes (subst (λ q. MakesWritable m s q (λ b. b) n) pe o)
    (subst (λ q. IfSome (page_at n s q) (λ (before : PageState). l ≡ put_page n s q (stored_page before (stored_at before.bytes (address % 4096) bytes)))) pe
    (subst (λ f. IfSome (page_at n s p) (λ (before : PageState). l ≡ put_page n s p (stored_page before (stored_at before.bytes f bytes)))) oe h))

pub returns-clause-step : goal.returns-clause-step
returns-clause-step c = (stored c.args.self.now c.make_writable.new.self c.write.new.self c.args.space c.args.address c.in_ok-place.place.page c.in_ok-place.place.offset c.args.bytes.now c.in_ok-place.ensures.page c.in_ok-place.ensures.offset
    (subst (λ (m : Contents). MakesWritable m c.args.space c.in_ok-place.place.page (λ b. b) c.make_writable.new.self) c.self.view_is c.in_ok-entry.ensures.writable) c.write.ensures).0

pub returns-clause-memory : goal.returns-clause-memory
returns-clause-memory c = (stored c.args.self.now c.make_writable.new.self c.write.new.self c.args.space c.args.address c.in_ok-place.place.page c.in_ok-place.place.offset c.args.bytes.now c.in_ok-place.ensures.page c.in_ok-place.ensures.offset
    (subst (λ (m : Contents). MakesWritable m c.args.space c.in_ok-place.place.page (λ b. b) c.make_writable.new.self) c.self.view_is c.in_ok-entry.ensures.writable) c.write.ensures).1

pub invariant_of-self : goal.invariant_of-self
invariant_of-self c = either_result c.make_writable.result _ _ _ c.make_writable.ensures.writable c.make_writable.ensures.err
    (λ o. areas_made_writable c.self.inside.areas c.self.inside.paging c.make_writable.new.self c.args.space c.in_ok-place.place.page (λ b. b) c.self.invariant o) (λ e. subst (HasAreas c.self.inside.areas) (sym e) c.self.invariant)

pub invariant_of-self-2 : goal.invariant_of-self-2
invariant_of-self-2 c =
    let o = areas_made_writable c.self.inside.areas c.self.inside.paging c.make_writable.new.self c.args.space c.in_ok-place.place.page (λ b. b) c.self.invariant c.in_ok-entry.ensures.writable in
    let x = writable_there c.self.inside.paging c.make_writable.new.self c.args.space c.in_ok-place.place.page c.in_ok-entry.ensures.writable in
    areas_stored c.self.inside.areas c.make_writable.new.self c.write.new.self c.args.space c.in_ok-place.place.page (λ b. stored_at b c.in_ok-place.place.offset c.args.bytes.now) o (ap is_some x.1) c.write.ensures
