-- The digits so far are read.
use Rattle.sd_script.proofs.Numerals.{Reads}
use Rattle.sd_script.proofs.field_values.numeral.Given as goal

abbrev pub invariant-loop-byte : goal.invariant-loop-byte
invariant-loop-byte l = Reads l.radix l.digits l.byte-index l.number
