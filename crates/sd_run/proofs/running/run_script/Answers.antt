-- With status 0 the run came to its end.
use Rattle.std.proofs.Common.{◌≡◌, ◌∷◌, true, List, Some, Err, inl, refl, sym, subst}
use Rattle.sd_disk.specs.Reads.{nothing_read}
use Rattle.sd_script.specs.Script.{first_unfit_line}
use Rattle.sd_script.specs.declared.line.Line.{Line}
use Rattle.sd_script.specs.declared.line.Line.TheVariants as asked
use Rattle.sd_exit.specs.declared.stop.Stop.{Stop}
use Rattle.sd_exit.specs.Ending.{Exits, OnWriter, end_status, end_text}
use Rattle.sd_exit.proofs.EndingLemmas.{on_writer, printed_at_its_end}
use Rattle.sd_run.specs.Promise.{Promise, PromiseToExit}
use Rattle.sd_run.specs.Whole.{IsWholeRun}
use Rattle.sd_run.proofs.EndLemmas.{blamed_line, never_writer, unfit_is_seen, unfit_why, why_run}
use Rattle.sd_run.proofs.LineLemmas.{promised_still, run_still}
use Rattle.sd_run.proofs.StrictLemmas.{plain_goes_on}
use Rattle.sd_run.proofs.running.run_script.Goals as goal

pub returns-in-Ok-clause-whole : goal.returns-in-Ok-clause-whole
returns-in-Ok-clause-whole g c = λ zero.
    let ran = c.run_lines-disk in
    let from = g.W.Write.contents c.args.out.now.writer in
    let lines : List Line = asked.Reopen ∷ c.in-Ok.script.lines.items in
    subst (λ asks. IsWholeRun g.D.Disk (asked.Reopen ∷ asks) c.args.disk ran.result.0 from (g.W.Write.contents c.exit.new.out.writer)) c.in-Ok.ensures.requests
    (printed_at_its_end (g.W.Write.contents ran.new.out.writer) (g.W.Write.contents c.exit.new.out.writer) c.exit.new.out.refused c.exit.result
    (IsWholeRun g.D.Disk lines c.args.disk ran.result.0 from) (run_still g.D.Disk lines c.args.disk ran.result.0 from) ran.result.1 c.exit.ensures.exits ran.ensures.whole zero)

pub returns-in-Ok-clause-promise : goal.returns-in-Ok-clause-promise
returns-in-Ok-clause-promise g c = λ zero honest.
    let ran = c.run_lines-disk in
    let from = g.W.Write.contents c.args.out.now.writer in
    let new = ran.result.0 in
    let lines : List Line = asked.Reopen ∷ c.in-Ok.script.lines.items in
    subst (λ asks. Promise g.D.Disk (asked.Reopen ∷ asks) c.args.disk new from (g.W.Write.contents c.exit.new.out.writer)) c.in-Ok.ensures.requests
    (printed_at_its_end (g.W.Write.contents ran.new.out.writer) (g.W.Write.contents c.exit.new.out.writer) c.exit.new.out.refused c.exit.result
    (λ now. g.D.Disk.is_honest new → Promise g.D.Disk lines c.args.disk new from now) (λ a b none is h. promised_still g.D.Disk lines c.args.disk new from a b none (is h))
    ran.result.1 c.exit.ensures.exits ran.ensures.promise zero honest)

pub returns-in-Ok-clause-so_far : goal.returns-in-Ok-clause-so_far
returns-in-Ok-clause-so_far g c = λ honest.
    let ran = c.run_lines-disk in
    let from = g.W.Write.contents c.args.out.now.writer in
    let to = g.W.Write.contents c.exit.new.out.writer in
    subst (λ asks. PromiseToExit g.D.Disk (λ number. first_unfit_line c.args.script.now ≡ Some number) (asked.Reopen ∷ asks) c.args.disk ran.result.0 from to c.exit.new.out.refused c.exit.result) c.in-Ok.ensures.requests (record {
      ended = ran.result.1;
      printed = g.W.Write.contents ran.new.out.writer;
      so_far = ran.ensures.so_far honest;
      why = why_run (λ number. first_unfit_line c.args.script.now ≡ Some number) (g.D.Disk.contents c.args.disk) (g.D.Disk.failed c.args.disk) (g.D.Disk.failed ran.result.0) ran.result.1 (ran.ensures.why honest (λ refused. plain_goes_on (ran.ensures.strict refused).run.answers.answers ⊥ (ran.ensures.strict refused).ends));
      writer = on_writer ran.result.1 c.exit.ensures.kept ran.ensures.writer;
      exits = c.exit.ensures.exits;
    })

pub returns-in-Err-clause-refused : goal.returns-in-Err-clause-refused
returns-in-Err-clause-refused g c = λ some zero.
    let done = c.exit-in-Err in
    let from = g.W.Write.contents c.args.out.now.writer in
    let to = g.W.Write.contents done.new.out.writer in
    unfit_is_seen c.in-Err.error from to done.new.out.refused done.result
    (subst (λ (why : Stop). Exits from to done.new.out.refused (end_text (Err why)) (end_status (Err why)) done.result) c.unfit.ensures done.ensures.exits) zero

pub returns-in-Err-clause-blamed : goal.returns-in-Err-clause-blamed
returns-in-Err-clause-blamed g c =
    let done = c.exit-in-Err in
    let from = g.W.Write.contents c.args.out.now.writer in
    let to = g.W.Write.contents done.new.out.writer in
    blamed_line c.in-Err.error from to done.new.out.refused done.result (first_unfit_line c.args.script.now)
    (subst (λ (why : Stop). Exits from to done.new.out.refused (end_text (Err why)) (end_status (Err why)) done.result) c.unfit.ensures done.ensures.exits) c.in-Err.ensures.unfit

pub returns-in-Err-clause-so_far : goal.returns-in-Err-clause-so_far
returns-in-Err-clause-so_far g c = λ honest.
    let done = c.exit-in-Err in
    let from = g.W.Write.contents c.args.out.now.writer in
    let to = g.W.Write.contents done.new.out.writer in
    record {
      ended = Err c.unfit.result;
      printed = from;
      so_far = inl (nothing_read g.D.Disk c.args.disk, refl);
      why = unfit_why (λ number. first_unfit_line c.args.script.now ≡ Some number) (g.D.Disk.contents c.args.disk) (g.D.Disk.failed c.args.disk) (g.D.Disk.failed c.args.disk) c.in-Err.error c.unfit.result c.unfit.ensures c.in-Err.ensures.unfit;
      writer = subst (λ (why : Stop). OnWriter (Err why) (done.new.out.refused ≡ true)) (sym c.unfit.ensures) (never_writer (done.new.out.refused ≡ true) c.in-Err.error);
      exits = done.ensures.exits;
    }
