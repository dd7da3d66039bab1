use Rattle.std.proofs.Common.{◌≡◌, ◌*◌, take}
use Rattle.sd_procfs.specs.Words.{words_text}
use Rattle.sd_procfs.proofs.words.write_words.Given as goal

-- the words so far were written
abbrev pub invariant-loop-index : goal.invariant-loop-index
invariant-loop-index l = record {
  written : take (8 * l.index) l.words ≡ words_text l.memory l.space l.first l.index;
}
