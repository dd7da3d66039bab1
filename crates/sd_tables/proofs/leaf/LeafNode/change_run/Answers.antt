use Rattle.std.proofs.Common.{◌≡◌, ◌+◌, refl, subst, arith}
use Rattle.sd_tables.specs.Radix.{leaf_at}
use Rattle.sd_tables.specs.Runs.{ChangesRun}
use Rattle.sd_tables.proofs.RunLemmas.{changes-none, changes-both, changes-seen}
use Rattle.sd_tables.proofs.leaf.LeafNode.change_run.Goals as goal

pub loop-page-init : goal.loop-page-init
loop-page-init c = changes-none c.args.change (leaf_at c.args.self.now.used.words c.args.self.now.entries) c.args.from

pub returns-then-not-change-clause-run : goal.returns-then-not-change-clause-run
returns-then-not-change-clause-run c = changes-seen c.args.change _ _ _ _ c.args.from c.loop-page.page (λ q. refl) (c.if-not-change.ensures.same refl) c.loop-page.invariant

pub loop-page-preserved : goal.loop-page-preserved
loop-page-preserved c = changes-both c.args.change _ _ _ c.args.from c.loop-page.page (c.loop-page.page + 1) c.loop-page.auto.page (omega arith) c.loop-page.invariant (c.if-not-change.ensures.changed refl)

pub returns-clause-run : goal.returns-clause-run
returns-clause-run c =
    let all : c.loop-page.page ≡ c.mapped_to-end.result = omega arith in
    subst (ChangesRun c.args.change (leaf_at c.args.self.now.used.words c.args.self.now.entries) (leaf_at c.loop-page.self.used.words c.loop-page.self.entries) c.args.from) all c.loop-page.invariant
