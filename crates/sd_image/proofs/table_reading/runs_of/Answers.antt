use Rattle.std.proofs.Common.{◌≡◌, ◌++◌, ◌∷◌, [], ◌-◌, ◌+◌, List, Option, None, Some, ap, sym, subst, ◌∙◌}
use Rattle.std.specs.Prelude.{option_copied}
use Rattle.std.proofs.lemmas.Result.{err_from_is_err_and}
use Rattle.sd_image.specs.declared.run.Run.{Run}
use Rattle.sd_image.specs.Reading.{many, run_from, run_at}
use Rattle.sd_image.proofs.Items.{run_read, run_short, run_wrong}
use Rattle.sd_image.proofs.Many.{with_front, last_of, last_push, goes_on, ends, is_done}
use Rattle.sd_image.proofs.table_reading.runs_of.Goals as goal

pub returns-in_err-item : goal.returns-in_err-item
returns-in_err-item c =
    let p = err_from_is_err_and c.from_residual.result c.from_residual.ensures.1 in
    let total = many (run_at c.args.parent) Some c.args.count None c.args.bytes.now in
    let short = run_short c.args.parent (last_of c.loop.runs.items) c.loop.rest.now c.in_err-item.field-0.0 c.in_err-item.ensures.read in
    rw (p.1, p.2) (ends (run_at c.args.parent) Some c.loop.runs.items c.args.count c.loop.counter (last_of c.loop.runs.items) c.loop.rest.now c.in_err-item.field-0.0 total c.loop-test.true short c.loop.invariant)

pub returns-in_err-run : goal.returns-in_err-run
returns-in_err-run c =
    let p = err_from_is_err_and c.from_residual-in_err-run.result c.from_residual-in_err-run.ensures.1 in
    let total = many (run_at c.args.parent) Some c.args.count None c.args.bytes.now in
    let item = c.in_ok-item.item.now in
    let last : option_copied c.last.result ≡ last_of c.loop.runs.items = c.last.ensures.value ∙ ap last_of c.deref.ensures.value in
    let fails = ap (λ (o : Option Run). run_from c.args.parent o item) (sym last) ∙ sym c.in_err-run.ensures in
    let wrong = run_wrong c.args.parent (last_of c.loop.runs.items) c.loop.rest.now item c.in_ok-item.after.now c.in_err-run.field-0.0 c.in_ok-item.ensures.read fails in
    rw (p.1, p.2) (ends (run_at c.args.parent) Some c.loop.runs.items c.args.count c.loop.counter (last_of c.loop.runs.items) c.loop.rest.now c.in_err-run.field-0.0 total c.loop-test.true wrong c.loop.invariant)

pub loop-preserved : goal.loop-preserved
loop-preserved c =
    let total = many (run_at c.args.parent) Some c.args.count None c.args.bytes.now in
    let item = c.in_ok-item.item.now in
    let after = c.in_ok-item.after.now in
    let x = c.in_ok-run.run' in
    let front = c.loop.runs.items in
    let last : option_copied c.last.result ≡ last_of front = c.last.ensures.value ∙ ap last_of c.deref.ensures.value in
    let gives = ap (λ (o : Option Run). run_from c.args.parent o item) (sym last) ∙ sym c.in_ok-run.ensures in
    let one = run_read c.args.parent (last_of front) c.loop.rest.now item after x c.in_ok-item.ensures.read gives in
    let next = goes_on (run_at c.args.parent) Some front c.args.count c.loop.counter (last_of front) c.loop.rest.now x after total c.loop-test.true one c.loop.invariant in
    let same = subst (λ (o : Option Run). with_front (front ++ x ∷ []) (many (run_at c.args.parent) Some (c.args.count - (c.loop.counter + 1)) o after) ≡ total) (sym (last_push front x)) next in
    subst (λ (xs : List Run). with_front xs (many (run_at c.args.parent) Some (c.args.count - (c.loop.counter + 1)) (last_of xs) after) ≡ total) (sym c.in_ok-push.ensures.items) same

pub returns : goal.returns
returns c = is_done (run_at c.args.parent) Some c.loop.runs.items c.args.count c.loop.counter (last_of c.loop.runs.items) c.loop.rest.now (many (run_at c.args.parent) Some c.args.count None c.args.bytes.now) c.loop-test.false c.loop.invariant
