use Rattle.std.proofs.Common.{◌≡◌, ◌+◌, ◌-◌, ◌++◌, ◌∷◌, [], map, ap, sym, ◌∙◌, arith, rules}
use Rattle.std.specs.List.{range_with_len}
use Rattle.std.proofs.lemmas.List.FromFn.{map-range_with_len_more}
use Rattle.sd_pagetable.specs.Contents.{word_at}
use Rattle.sd_run.proofs.page_words.words_from.Goals as goal

pub loop-number-preserved : goal.loop-number-preserved
loop-number-preserved c =
    let memory = c.args.memory.now in
    let first = c.args.first in
    let number = c.loop-number.number in
    let words = map (word_at memory c.args.space) in
    let page : c.unwrap.result ≡ number = search rules in
    record {
      so_far = c.in_ok-push.ensures.items
          ∙ ap (λ front. front ++ c.word.result ∷ []) c.loop-number.invariant.so_far
          ∙ ap (λ w. words (range_with_len first (number - first)) ++ w ∷ []) (c.word.ensures ∙ ap (word_at memory c.args.space) page)
          ∙ sym (ap (λ n. words (range_with_len first n)) (let e : number + 1 - first ≡ number - first + 1 = omega (arith, c.loop-number.auto.number) in e)
          ∙ map-range_with_len_more (word_at memory c.args.space) first (number - first) number (omega (arith, c.loop-number.auto.number)));
    }
