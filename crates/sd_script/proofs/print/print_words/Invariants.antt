-- The words so far are printed.
use Rattle.std.proofs.Common.{◌++◌, codes, take}
use Rattle.std.specs.List.{flat_map}
use Rattle.std.specs.Io.KnownBytes.{Appends}
use Rattle.sd_script.specs.Texts.{word_text}
use Rattle.sd_script.proofs.print.print_words.Given as goal

abbrev pub invariant-loop-word : goal.invariant-loop-word
invariant-loop-word g l = Appends (g.W.Write.contents l.fn.out) (g.W.Write.contents l.out)
    (codes "words" ++ flat_map word_text (take l.word-index l.words))
