use Rattle.std.proofs.Common.{◌≡◌, ◌++◌, take, sym, ◌∙◌, ap, arith, subst}
use Rattle.std.specs.List.{flat_map, range_with_len}
use Rattle.sd_readers.specs.Texts.{page_text, part_text}
use Rattle.sd_readers.proofs.PageLemmas.{parts_more}
use Rattle.sd_readers.proofs.page_text.put_page.Goals as goal

pub loop-number-preserved : goal.loop-number-preserved
loop-number-preserved c =
    let lines = part_text c.args.address c.args.page.now in
    record {
      within = omega (arith, c.loop-number.invariant.within, c.put_part-end.ensures.within);
      lines = c.put_part-end.ensures.text ∙ ap (λ l. l ++ lines c.loop-number.number) c.loop-number.invariant.lines
          ∙ sym (parts_more lines c.loop-number.number);
    }

pub returns-clause-text : goal.returns-clause-text
unfolding page_text
returns-clause-text c =
    let all : c.loop-number.number ≡ 128 = (let over = c.loop-number-test.false in let within = c.loop-number.auto.number-end in omega (arith, over, within)) in
    subst (λ n. take c.loop-number.end c.loop-number.text ≡ flat_map (part_text c.args.address c.args.page.now) (range_with_len 0 n)) all c.loop-number.invariant.lines
