use Rattle.std.proofs.Common.{◌∙◌, ap, arith}
use Rattle.sd_tables.specs.Copies.{bare_entry}
use Rattle.sd_tables.proofs.CopyLemmas.{leaf-next}
use Rattle.sd_tables.proofs.leaf.Leaf.put_bare.Goals as goal

pub loop-place-preserved : goal.loop-place-preserved
loop-place-preserved c = record {
  within = (let n = c.in-Some.ensures.1 in omega arith);
  so = leaf-next c.args.other.now.used.words c.args.other.now.entries _ _ c.loop-place.from c.in-Some.place _ c.fresh.result (let n = c.in-Some.ensures.1 in omega arith) c.in-Some.ensures c.loop-place.invariant.so
      (c.fresh.ensures ∙ ap bare_entry c.entry-entry.ensures) c.put.ensures;
}
