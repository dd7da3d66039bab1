use Rattle.std.proofs.Common.{◌^◌, ℕ, List, length, sym, ◌∙◌, subst}
use Rattle.std.specs.Prelude.{OnOk}
use Rattle.sd_diff.specs.Difference.{Adds}
use Rattle.sd_diff.specs.Held.{AreRising, held_at}
use Rattle.sd_diff.specs.Spaces.{ArePagesOf, held_of}
use Rattle.sd_diff.proofs.LaidLemmas.{pages_of_space}
use Rattle.sd_diff.proofs.spaces.diff_in.Goals as goal

pub diff_space-requires-clause-old : goal.diff_space-requires-clause-old
diff_space-requires-clause-old g c = subst (ArePagesOf (length (g.D.Disk.contents c.args.disk.now))) (sym (c.deref.ensures.value ∙ c.in_ok-old.ensures))
    (pages_of_space (length (g.D.Disk.contents c.args.disk.now)) c.args.space c.args.old.now c.requires.old)

pub diff_space-requires-clause-new : goal.diff_space-requires-clause-new
diff_space-requires-clause-new g c = subst (ArePagesOf (length (g.D.Disk.contents c.args.disk.now))) (sym (c.deref-2.ensures.value ∙ c.in_ok-new.ensures))
    (pages_of_space (length (g.D.Disk.contents c.args.disk.now)) c.args.space c.args.new.now c.requires.new)

pub returns-clause-adds : goal.returns-clause-adds
returns-clause-adds g c = λ honest old_rising new_rising.
    let contents : List (List ℕ) = g.D.Disk.contents c.args.disk.now in
    let space : ℕ = c.args.space in
    let old = c.deref.ensures.value ∙ c.in_ok-old.ensures in
    let new = c.deref-2.ensures.value ∙ c.in_ok-new.ensures in
    subst (λ runs. OnOk c.diff_space.result (Adds contents space 0 (2 ^ 35) (held_at runs) (held_of c.args.new.now space) c.args.into.now c.diff_space.new.into)) old
    (subst (λ runs. OnOk c.diff_space.result (Adds contents space 0 (2 ^ 35) (held_at c.deref.result.now) (held_at runs) c.args.into.now c.diff_space.new.into)) new
    (c.diff_space.ensures.adds honest (subst AreRising (sym old) (old_rising space)) (subst AreRising (sym new) (new_rising space))))
