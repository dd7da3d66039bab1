use Rattle.std.proofs.Common.{◌≡◌, ℕ, ◌<◌, ◌^◌, ap, ◌∙◌, sym, subst, refl, arith}
use Rattle.sd_tables.specs.declared.entry.Entry.{Entry}
use Rattle.sd_pagetable.specs.Nested.{Nested, is_alive}
use Rattle.sd_pagetable.specs.Page.{fresh_page}
use Rattle.sd_pagetable.specs.Contents.{Contents, page_at, put_page, page_count}
use Rattle.sd_frames.specs.Frames.{Pool}
use Rattle.sd_pagetable.specs.View.{page_of_entry, contents_of, IsKept}
use Rattle.sd_pagetable.proofs.NestedLemmas.{alive-map}
use Rattle.sd_pagetable.proofs.ViewLemmas.{view_put, same_pool}
use Rattle.sd_pagetable.proofs.KeptLemmas.{kept_added}
use Rattle.sd_pagetable.proofs.paging.Paging.add.Goals as goal

pub insert-requires : goal.insert-requires
insert-requires c = sym (alive-map (page_of_entry c.self.inside.frames) c.self.inside.tables c.args.space) ∙ ap (λ (m : Contents). is_alive m.spaces c.args.space) c.self.view_is ∙ c.requires.alive

few_mapped : (pool : Pool) (tables : Nested Entry) (n : ℕ) (m : Contents) → IsKept pool tables n → contents_of pool tables ≡ m → page_count m.spaces < 65536 → n < 65536
few_mapped pool tables n m kept v l = subst (λ k. k < 65536) (sym (kept.mapped ∙ ap (λ (z : Contents). page_count z.spaces) v)) l

pub overflow_add-self : goal.overflow_add-self
overflow_add-self c = (let l = few_mapped c.self.inside.frames c.self.inside.tables c.self.inside.mapped c.args.self.now c.self.invariant c.self.view_is c.requires.few in omega (arith, l))

pub invariant_of-self-2 : goal.invariant_of-self-2
invariant_of-self-2 c =
    let alive = sym (alive-map (page_of_entry c.self.inside.frames) c.self.inside.tables c.args.space) ∙ ap (λ (m : Contents). is_alive m.spaces c.args.space) c.self.view_is ∙ c.requires.alive in
    rw c.in_ok-insert.ensures.ok (kept_added c.self.inside.frames c.self.inside.tables c.self.inside.mapped c.args.space c.args.page c.fresh.result c.self.invariant alive
    (ap (λ (m : Contents). page_at m c.args.space c.args.page) c.self.view_is ∙ c.requires.hole) (subst (λ n. n < 2 ^ 35) c.number-number.ensures.value c.number-number.ensures.within)
    (few_mapped c.self.inside.frames c.self.inside.tables c.self.inside.mapped c.args.self.now c.self.invariant c.self.view_is c.requires.few)
    (ap (λ (e : Entry). e.frame) c.fresh.ensures) (ap (λ (e : Entry). e.writable) c.fresh.ensures))

pub returns-clause-ok : goal.returns-clause-ok
returns-clause-ok c =
    let alive = sym (alive-map (page_of_entry c.self.inside.frames) c.self.inside.tables c.args.space) ∙ ap (λ (m : Contents). is_alive m.spaces c.args.space) c.self.view_is ∙ c.requires.alive in
    ap (contents_of c.self.inside.frames) c.in_ok-insert.ensures.ok
    ∙ view_put c.self.inside.frames c.self.inside.frames c.self.inside.tables c.args.space c.args.page refl alive (same_pool c.self.inside.frames c.self.inside.tables c.args.space c.args.page) c.fresh.result
    ∙ ap (λ (e : Entry). put_page (contents_of c.self.inside.frames c.self.inside.tables) c.args.space c.args.page (page_of_entry c.self.inside.frames e)) c.fresh.ensures
    ∙ ap (λ (m : Contents). put_page m c.args.space c.args.page (fresh_page c.args.prot)) c.self.view_is
