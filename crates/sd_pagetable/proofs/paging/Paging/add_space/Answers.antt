use Rattle.std.proofs.Common.{◌≡◌, ap, ◌∙◌, sym, subst}
use Rattle.std.specs.Prelude.{Result, Ok, Err, OnOk, OnErr}
use Rattle.std.specs.declared.alloc.AllocError.{AllocError}
use Rattle.std.specs.FinMap as finmap
use Rattle.sd_tables.specs.declared.entry.Entry.{Entry}
use Rattle.sd_pagetable.specs.Nested.{Nested, is_alive}
use Rattle.sd_pagetable.specs.Contents.{Contents}
use Rattle.sd_pagetable.specs.View.{contents_of, IsKept}
use Rattle.sd_pagetable.proofs.SpaceLemmas.{kept_space, view_space}
use Rattle.std.proofs.lemmas.Result.{on_ok_weaker}
use Rattle.sd_pagetable.proofs.paging.Paging.add_space.Goals as goal

either_way : (r : Result (Unit {0}) AllocError) (P : Nested Entry → Type 0) (old added new : Nested Entry) → OnOk r (new ≡ added) → OnErr r (new ≡ old) → P old → P added → P new
either_way (Ok x) P old added new a b p q = subst P (sym a) q
either_way (Err e) P old added new a b p q = subst P (sym b) p

pub invariant_of-self : goal.invariant_of-self
invariant_of-self c = either_way c.add_space.result (λ (t : Nested Entry). IsKept c.self.inside.frames t c.self.inside.mapped) c.self.inside.tables (finmap.insert c.self.inside.tables c.args.space finmap.empty) c.add_space.new.self c.add_space.ensures.ok c.add_space.ensures.err c.self.invariant
    (kept_space c.self.inside.frames c.self.inside.tables c.self.inside.mapped c.args.space c.self.invariant (ap (λ (m : Contents). is_alive m.spaces c.args.space) c.self.view_is ∙ c.requires.fresh) c.requires.least c.requires.greatest)

pub returns-clause-ok : goal.returns-clause-ok
returns-clause-ok c = on_ok_weaker c.add_space.result (λ e. ap (contents_of c.self.inside.frames) e ∙ view_space c.self.inside.frames c.self.inside.tables c.args.space
    ∙ ap (λ (m : Contents). record { pool = m.pool; spaces = finmap.insert m.spaces c.args.space finmap.empty }) c.self.view_is) c.add_space.ensures.ok
