use Rattle.std.proofs.Common.{◌≡◌, ℕ, ap, ◌∙◌, sym, subst, refl, Option, Some, true, inl, inr, arith}
use Rattle.std.specs.Option.{IfSome}
use Rattle.sd_tables.specs.declared.entry.Entry.{Entry}
use Rattle.sd_pagetable.specs.Nested.{Nested, value_at, put_at}
use Rattle.sd_pagetable.specs.Page.{PageState}
use Rattle.sd_pagetable.specs.Contents.{Contents, page_at, IsSound}
use Rattle.sd_frames.specs.Frames.{Pool, IsExhausted, HasFree}
use Rattle.sd_pagetable.specs.View.{contents_of, IsKept}
use Rattle.sd_pagetable.proofs.ViewLemmas.{entry_there, entry_seen, put_seen}
use Rattle.sd_pagetable.proofs.MemoryLemmas.{writable_already, none_due}
use Rattle.sd_pagetable.proofs.KeptLemmas.{frame_counted}
use Rattle.std.specs.Prelude.{Result, Err}
use Rattle.std.proofs.lemmas.Result.{err_from_is_err_and}
use Rattle.sd_pagetable.specs.declared.memory_error.MemoryError.{MemoryError}
use Rattle.sd_pagetable.specs.declared.memory_error.MemoryError.TheVariants.{Denied as DeniedError, OutOfMemory}
use Rattle.sd_pagetable.specs.declared.access_error.AccessError.{AccessError}
use Rattle.sd_pagetable.specs.declared.access_error.AccessError.TheVariants.{Refused}
use Rattle.sd_pagetable.specs.declared.memory_refusal.MemoryRefusal.TheVariants.{NoFrame}
use Rattle.sd_pagetable.specs.RefusalOrder.{Answers}
use Rattle.sd_pagetable.specs.Owning.{FailsToTake}
use Rattle.sd_pagetable.specs.Tracking.{MakesWritable}
use Rattle.sd_pagetable.proofs.FullLemmas.{due_room, due_full, needs_is, makes_page_writable}
use Rattle.sd_pagetable.proofs.paging.Paging.make_writable.Goals as goal

pub own_frame-requires : goal.own_frame-requires
own_frame-requires c = λ frame is. frame_counted c.self.inside.frames c.self.inside.tables c.self.inside.mapped c.args.space c.args.page c.args.entry frame c.self.invariant (entry_seen c.self.inside.frames c.self.inside.tables c.args.self.now c.args.space c.args.page c.args.entry c.self.view_is c.requires.there) is

refused : (due : Option AccessError) (error : MemoryError) (pool : Pool) (r : Result Entry MemoryError) → r ≡ Err error → (IsExhausted pool → due ≡ Some (Refused NoFrame)) → FailsToTake pool error → Answers due r
refused due error pool r e h (inl memory) = subst (λ (x : Result Entry MemoryError). Answers due x) (sym (e ∙ ap Err memory.0)) tt
refused due error pool r e h (inr full) = subst (λ (x : Result Entry MemoryError). Answers due x) (sym (e ∙ ap Err full.0)) (h full.1)

-- no memory for a free frame
left : (error : MemoryError) (pool : Pool) (r : Result Entry MemoryError) → r ≡ Err error → r ≡ Err OutOfMemory → FailsToTake pool error → HasFree pool
left error pool r e is (inl memory) = memory.1
left error pool r e is (inr full) = absurd (let f : ◌≡◌ {A = Result Entry MemoryError} (Err (DeniedError (Refused NoFrame))) (Err OutOfMemory) = sym (e ∙ ap Err full.0) ∙ is in cc)

pub returns-in_err-frame-clause-due : goal.returns-in_err-frame-clause-due
returns-in_err-frame-clause-due c = grind (arith, err_from_is_err_and, refused, due_full, entry_seen)

pub returns-in_err-frame-clause-needed : goal.returns-in_err-frame-clause-needed
returns-in_err-frame-clause-needed c = λ _.
    needs_is c.self.inside.frames c.self.inside.tables c.self.inside.mapped c.self.invariant c.args.space c.args.page c.args.entry (entry_seen c.self.inside.frames c.self.inside.tables c.args.self.now c.args.space c.args.page c.args.entry c.self.view_is c.requires.there) c.args.self.now c.self.view_is c.in_err-frame.ensures.shared

pub returns-in_err-frame-clause-tested : goal.returns-in_err-frame-clause-tested
returns-in_err-frame-clause-tested c = grind (arith, err_from_is_err_and, due_room, entry_seen, left)

write_here : (pool : Pool) (tables : Nested Entry) (m : Contents) (s p : ℕ) (e : Entry) → contents_of pool tables ≡ m → value_at tables s p ≡ Some e → IfSome (page_at m s p) (λ (before : PageState). before.prot.write ≡ true) → e.prot.write ≡ true
write_here pool tables m s p e v h w = rw (entry_there pool tables s p e h) at (subst (λ (n : Contents). IfSome (page_at n s p) (λ (before : PageState). before.prot.write ≡ true)) (sym v) w)

pub replace-requires : goal.replace-requires
replace-requires c = rw (entry_seen c.self.inside.frames c.self.inside.tables c.args.self.now c.args.space c.args.page c.args.entry c.self.view_is c.requires.there) refl

pub invariant_of-self-2 : goal.invariant_of-self-2
invariant_of-self-2 c =
    let write = write_here c.self.inside.frames c.self.inside.tables c.args.self.now c.args.space c.args.page c.args.entry c.self.view_is (entry_seen c.self.inside.frames c.self.inside.tables c.args.self.now c.args.space c.args.page c.args.entry c.self.view_is c.requires.there) c.requires.permitted in
    subst (λ (t : Nested Entry). IsKept c.own_frame.new.frames t c.self.inside.mapped) (sym (c.replace.ensures ∙ ap (put_at c.self.inside.tables c.args.space c.args.page) c.made_writable-made.ensures))
    (makes_page_writable c.self.inside.frames c.self.inside.tables c.self.inside.mapped c.self.invariant c.args.space c.args.page c.args.entry (entry_seen c.self.inside.frames c.self.inside.tables c.args.self.now c.args.space c.args.page c.args.entry c.self.view_is c.requires.there) c.args.self.now c.self.view_is c.own_frame.new.frames c.in_ok-frame.frame write c.in_ok-frame.ensures.owns).0

pub returns-clause-writable : goal.returns-clause-writable
returns-clause-writable c =
    let write = write_here c.self.inside.frames c.self.inside.tables c.args.self.now c.args.space c.args.page c.args.entry c.self.view_is (entry_seen c.self.inside.frames c.self.inside.tables c.args.self.now c.args.space c.args.page c.args.entry c.self.view_is c.requires.there) c.requires.permitted in
    subst (λ (t : Nested Entry). MakesWritable c.args.self.now c.args.space c.args.page (λ bytes. bytes) (contents_of c.own_frame.new.frames t)) (sym (c.replace.ensures ∙ ap (put_at c.self.inside.tables c.args.space c.args.page) c.made_writable-made.ensures))
    (makes_page_writable c.self.inside.frames c.self.inside.tables c.self.inside.mapped c.self.invariant c.args.space c.args.page c.args.entry (entry_seen c.self.inside.frames c.self.inside.tables c.args.self.now c.args.space c.args.page c.args.entry c.self.view_is c.requires.there) c.args.self.now c.self.view_is c.own_frame.new.frames c.in_ok-frame.frame write c.in_ok-frame.ensures.owns).1

pub returns-clause-due : goal.returns-clause-due
returns-clause-due c = due_room c.self.inside.frames c.self.inside.tables c.self.inside.mapped c.self.invariant c.args.space c.args.page c.args.entry (entry_seen c.self.inside.frames c.self.inside.tables c.args.self.now c.args.space c.args.page c.args.entry c.self.view_is c.requires.there) c.args.self.now c.self.view_is c.in_ok-frame.ensures.room

pub returns-then-entry-clause-writable : goal.returns-then-entry-clause-writable
returns-then-entry-clause-writable c = writable_already c.args.self.now c.args.space c.args.page c.args.entry (subst IsSound c.self.view_is c.self.invariant.sound) c.requires.there c.if-entry.true

pub returns-then-entry-clause-due : goal.returns-then-entry-clause-due
returns-then-entry-clause-due c = none_due c.args.self.now c.args.space c.args.page c.args.entry (subst IsSound c.self.view_is c.self.invariant.sound) c.requires.there c.if-entry.true

pub returns-clause-entry : goal.returns-clause-entry
returns-clause-entry c = grind (arith, put_seen)
