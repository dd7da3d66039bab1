use Rattle.std.proofs.Common.{◌≡◌, ◌-◌, map}
use Rattle.std.specs.List.{range_with_len}
use Rattle.sd_pagetable.specs.Contents.{word_at}
use Rattle.sd_run.proofs.page_words.words_from.Given as goal

-- the words so far
abbrev pub invariant-loop-number : goal.invariant-loop-number
invariant-loop-number l = record {
  so_far : l.words.items ≡ map (word_at l.memory l.space) (range_with_len l.first (l.number - l.first));
}
