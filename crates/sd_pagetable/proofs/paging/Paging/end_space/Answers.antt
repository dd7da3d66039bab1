use Rattle.std.proofs.Common.{◌≡◌, ◌+◌, ◌-◌, sym, ap, ◌∙◌, arith}
use Rattle.std.specs.FinMap as finmap
use Rattle.sd_pagetable.specs.Nested.{inside, is_alive}
use Rattle.sd_pagetable.specs.Contents.{Contents}
use Rattle.sd_pagetable.specs.View.{page_of_entry}
use Rattle.sd_pagetable.proofs.NestedLemmas.{alive-map}
use Rattle.sd_pagetable.proofs.ExitLemmas.{kept_any, ended_view, ended_count, ended_kept}
use Rattle.sd_pagetable.proofs.paging.Paging.end_space.Goals as goal

pub release_all-requires-clause-alive : goal.release_all-requires-clause-alive
release_all-requires-clause-alive c = sym (alive-map (page_of_entry c.self.inside.frames) c.self.inside.tables c.args.space) ∙ ap (λ (m : Contents). is_alive m.spaces c.args.space) c.self.view_is ∙ c.requires

pub release_all-requires-clause-kept : goal.release_all-requires-clause-kept
release_all-requires-clause-kept c = kept_any c.self.inside.frames c.self.inside.tables c.self.inside.mapped c.self.invariant

pub overflow_sub-self : goal.overflow_sub-self
overflow_sub-self c = grind (arith, ended_count)

pub invariant_of-self : goal.invariant_of-self
invariant_of-self c =
    let count = ended_count c.self.inside.frames c.release_all.new.frames c.self.inside.tables c.self.inside.mapped c.args.space c.self.invariant c.release_all.ensures.kept c.release_all.ensures.value in
    let pages = c.pages_in.ensures in
    let is : c.self.inside.mapped ≡ c.self.inside.mapped - c.pages_in.result + finmap.len (inside c.self.inside.tables c.args.space) = omega (arith, count, pages) in
    rw c.remove_space.ensures (ended_kept c.self.inside.frames c.release_all.new.frames c.self.inside.tables c.self.inside.mapped c.args.space c.self.invariant c.release_all.ensures.kept c.release_all.ensures.value
    (c.self.inside.mapped - c.pages_in.result) is)

pub returns : goal.returns
returns c = grind (arith, ended_view)
