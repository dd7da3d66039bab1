use Rattle.std.proofs.Common.{◌≡◌, ◌∙◌, subst}
use Rattle.sd_procfs.proofs.ClearSteps.{ClearsAfter, tested, one_more}
use Rattle.sd_procfs.proofs.ClearHistory.{HasHistoryAfter, longer_history}
use Rattle.sd_procfs.proofs.clearing.clear_pages.Goals as goal

pub loop-cursor-preserved : goal.loop-cursor-preserved
loop-cursor-preserved c =
    let clear = c.test_and_clear.ensures in
    let cleared = tested c.clear_law.ensures c.test_and_clear.result c.args.space c.in-Some.page c.loop-cursor.memory c.test_and_clear.new.self clear.bit clear.step clear.none in
    let behind = subst (λ cursor. ClearsAfter cursor c.args.space c.args.memory.now c.loop-cursor.memory) c.in-Some.is c.loop-cursor.invariant.behind in
    let history = subst (λ cursor. HasHistoryAfter cursor c.args.space c.args.memory.now c.loop-cursor.memory) c.in-Some.is c.loop-cursor.invariant.history in
    record {
      behind = one_more c.args.space c.in-Some.page c.args.memory.now c.loop-cursor.memory c.test_and_clear.new.self
          behind cleared c.next_in-cursor.result c.next_in-cursor.ensures;
      history = longer_history c.args.space c.in-Some.page c.args.memory.now c.loop-cursor.memory c.test_and_clear.new.self c.next_in-cursor.result
          behind cleared c.next_in-cursor.ensures c.test_and_clear.result clear.bit clear.step clear.none history;
      memory = clear.memory ∙ c.loop-cursor.invariant.memory;
    }
