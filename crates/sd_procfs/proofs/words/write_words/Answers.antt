use Rattle.std.proofs.Common.{◌≡◌, ◌+◌, ◌*◌, List, ℕ, sym, ◌∙◌, ap, arith}
use Rattle.std.proofs.lemmas.List.{take_all}
use Rattle.std.specs.Int.{bytes_low_first}
use Rattle.sd_pagetable.specs.Contents.{word_at}
use Rattle.sd_procfs.proofs.WordLemmas.{no_words, written_more}
use Rattle.sd_procfs.proofs.words.write_words.Goals as goal

pub loop-index-init : goal.loop-index-init
loop-index-init c = record { written = sym (no_words c.args.memory.now c.args.space c.args.first) }

pub loop-index-preserved : goal.loop-index-preserved
loop-index-preserved c =
    let i = c.loop-index.index in
    let room = c.loop-index.auto.words in
    let within = c.loop-index-test.true in
    let long = c.requires in
    let memory = c.args.memory.now in
    let word : c.word_of-word.result ≡ word_at memory c.args.space (c.args.first + i) = c.word_of-word.ensures ∙ ap (λ first. word_at memory c.args.space (first + i)) c.number.ensures.value in
    record {
      written = written_more memory c.args.space c.args.first i _ c.loop-index.words _ c.loop-index.invariant.written (omega (arith, room, within, long))
          (c.copy_from_slice.ensures.after ∙ c.to_le_bytes.ensures ∙ ap (bytes_low_first 0 8) word);
    }
