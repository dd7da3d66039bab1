use Rattle.std.proofs.Common.{ℕ, List, Option, Some}
use Rattle.std.specs.Io.KnownBytes.{Appends}
use Rattle.sd_show.specs.Items.{spaces_in}
use Rattle.sd_show.specs.Texts.{spaces_text}
use Rattle.sd_show.proofs.table_text.print_spaces.Given as goal

-- what is printed of the spaces that are left makes the text of all whole
abbrev pub invariant-loop-left : goal.invariant-loop-left
invariant-loop-left g l = (after : Option (List ℕ)) → Appends (g.W.Write.contents l.out) after (spaces_text l.at (spaces_in l.left l.rest))
    → Appends (g.W.Write.contents l.fn.out) after (spaces_text (Some 4096) (spaces_in l.count l.bytes))

abbrev pub decreases-loop-left : goal.decreases-loop-left
decreases-loop-left g l = l.left
