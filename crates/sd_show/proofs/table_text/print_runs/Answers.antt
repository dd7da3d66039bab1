use Rattle.std.proofs.Common.{◌∙◌, ◌<◌, ◌+◌, ℕ, List, [], drop, length, get_or, Option, sym, ap, subst}
use Rattle.std.specs.Io.KnownBytes.{Appends}
use Rattle.sd_show.specs.Items.{place_after_run, place_after_runs}
use Rattle.sd_show.specs.Texts.{run_line, runs_text}
use Rattle.sd_show.proofs.PrintLemmas.{all_printed, behind_done, behind_more, part_printed, runs_done, runs_more}
use Rattle.sd_show.proofs.table_text.print_runs.Goals as goal

pub loop-run-preserved : goal.loop-run-preserved
loop-run-preserved g c =
    let runs : List (List ℕ) = c.args.runs.now in
    let i : ℕ = c.loop-run.run-index in
    let less : i < length runs = c.loop-run-test.true in
    let run : List ℕ = get_or runs i [] in
    let next : Option ℕ = c.loop-run.next in
    let from = g.W.Write.contents c.loop-run.out in
    let to = g.W.Write.contents c.print_run.new.out in
    record {
      text = λ after rest. c.loop-run.invariant.text after
          (part_printed from to after (run_line next run) (runs_text (place_after_run next run) (drop (i + 1) runs)) (runs_text next (drop i runs)) (runs_more next runs i less)
          c.in_ok-print_run.ensures (subst (λ at. Appends to after (runs_text at (drop (i + 1) runs))) c.place_after_run-next.ensures rest));
      behind = ap (λ at. place_after_runs at (drop (i + 1) runs)) c.place_after_run-next.ensures ∙ behind_more next runs i less ∙ c.loop-run.invariant.behind;
    }

pub returns-clause-text : goal.returns-clause-text
returns-clause-text g c =
    let to = g.W.Write.contents c.loop-run.out in
    c.loop-run.invariant.text to (all_printed to _ (runs_done c.loop-run.next c.args.runs.now c.loop-run.run-index c.loop-run-test.false))

pub returns-clause-behind : goal.returns-clause-behind
returns-clause-behind g c = sym (behind_done c.loop-run.next c.args.runs.now c.loop-run.run-index c.loop-run-test.false) ∙ c.loop-run.invariant.behind
