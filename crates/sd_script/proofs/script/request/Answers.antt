-- A line is broken, skipped or parsed.
use Rattle.std.proofs.Common.{◌≡◌, ◌∙◌, ap, lit<, false, refl}
use Rattle.sd_script.proofs.Lines.{meaning_of-broken, meaning_of-skipped, meaning_of-kept, is_skipped-empty, is_skipped-by}
use Rattle.sd_script.specs.Script.{asks_or_unfit, is_skipped}
use Rattle.sd_script.proofs.script.request.Goals.{then-is_empty-via-then-is_empty, then-is_empty-via-else-is_empty+then-starts_with}
use Rattle.sd_script.proofs.script.request.Goals as goal

pub returns-in_default : goal.returns-in_default
returns-in_default c = meaning_of-broken c.args.bytes.now c.in_default.ensures.cases.0

pub returns-then-is_empty : goal.returns-then-is_empty
returns-then-is_empty c =
    let text = c.in-Ok.ensures.cases in
    meaning_of-skipped c.args.bytes.now text.1 (elim c.then-is_empty.branch [
      | then-is_empty-via-then-is_empty w ↦
          is_skipped-empty c.args.bytes.now c.in-Ok.text.now c.is_empty.result text.0 c.is_empty.ensures w.if-is_empty.true
      | then-is_empty-via-else-is_empty+then-starts_with w ↦
          let byte = w.starts_with.ensures.byte (lit< tt) (lit< tt) (λ w o h. h) in
          is_skipped-by c.args.bytes.now c.in-Ok.text.now c.is_empty.result w.starts_with.result text.0 c.is_empty.ensures byte
          ∙ rw (w.if-is_empty.false, w.if-starts_with.true) refl
    ])

pub returns : goal.returns
returns c =
    let text = c.in-Ok.ensures.cases in
    let byte = c.starts_with.ensures.byte (lit< tt) (lit< tt) (λ w o h. h) in
    let skipped : is_skipped c.args.bytes.now ≡ false =
    is_skipped-by c.args.bytes.now c.in-Ok.text.now c.is_empty.result c.starts_with.result text.0 c.is_empty.ensures byte
    ∙ rw (c.if-is_empty.false, c.if-starts_with.false) refl in
    let gives = rw text.0 at c.in_ok-parse.ensures in
    meaning_of-kept c.args.bytes.now text.1 skipped ∙ ap asks_or_unfit gives
