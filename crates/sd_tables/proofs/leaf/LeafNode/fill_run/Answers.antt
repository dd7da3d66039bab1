use Rattle.std.proofs.Common.{◌≡◌, ◌∙◌, IsSome, is_some, None, ap, sym, subst, inl, inr, arith}
use Rattle.std.proofs.lemmas.Bool.{cases_lt}
use Rattle.sd_tables.specs.Radix.{leaf_at}
use Rattle.sd_tables.specs.Runs.{FillsRun}
use Rattle.sd_tables.proofs.RunLemmas.{fills-none, fills-more}
use Rattle.sd_tables.proofs.TableLemmas.{not_none, none_of}
use Rattle.sd_tables.proofs.leaf.LeafNode.fill_run.Goals as goal

pub loop-page-init : goal.loop-page-init
loop-page-init c = fills-none c.args.entry (leaf_at c.args.self.now.used.words c.args.self.now.entries) c.args.from

pub returns-then-is_some-clause-more : goal.returns-then-is_some-clause-more
returns-then-is_some-clause-more c = λ none. elim (cases_lt c.args.from c.loop-page.page) [
  | inl less ↦ less
  | inr reached ↦
      let begun = c.loop-page.auto.page in
      let same : c.args.from ≡ c.loop-page.page = omega arith in
      let there : IsSome (leaf_at c.loop-page.self.used.words c.loop-page.self.entries c.loop-page.page) = ap is_some (sym c.get.ensures) ∙ sym c.is_some.ensures ∙ c.if-is_some.true in
      let hole : leaf_at c.loop-page.self.used.words c.loop-page.self.entries c.args.from ≡ None = c.loop-page.invariant.others c.args.from (inr reached) ∙ none in
      absurd (not_none (leaf_at c.loop-page.self.used.words c.loop-page.self.entries c.loop-page.page) (ap (leaf_at c.loop-page.self.used.words c.loop-page.self.entries) (sym same) ∙ hole) there)
]

pub returns-then-is_some-clause-run : goal.returns-then-is_some-clause-run
returns-then-is_some-clause-run c = c.loop-page.invariant

pub loop-page-preserved : goal.loop-page-preserved
loop-page-preserved c =
    let hole : leaf_at c.loop-page.self.used.words c.loop-page.self.entries c.loop-page.page ≡ None = none_of _ (ap is_some (sym c.get.ensures) ∙ sym c.is_some.ensures ∙ c.if-is_some.false) in
    fills-more c.args.entry _ _ (leaf_at c.put.new.self.used.words c.put.new.self.entries) c.args.from c.loop-page.page c.loop-page.auto.page c.loop-page.invariant hole c.put.ensures

pub returns-clause-run : goal.returns-clause-run
returns-clause-run c =
    let all : c.loop-page.page ≡ c.min-end.result = omega arith in
    subst (FillsRun c.args.entry (leaf_at c.args.self.now.used.words c.args.self.now.entries) (leaf_at c.loop-page.self.used.words c.loop-page.self.entries) c.args.from) all c.loop-page.invariant
