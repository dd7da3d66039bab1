-- The table has the value of each byte.
use Rattle.std.proofs.Common.{arith, refl, unwrap_or}
use Rattle.std.specs.Prelude.{min}
use Rattle.std.specs.Char.{digit_value}
use Rattle.hex.specs.Hex.{hex_digit_value}
use Rattle.sd_script.proofs.Pairs.{digit_read, values_from}
use Rattle.sd_script.proofs.digits.digit.Goals as goal

pub returns-clause-hex : goal.returns-clause-hex
returns-clause-hex c = digit_read (λ byte. unwrap_or (hex_digit_value byte) 16) (values_from 0 256) refl c.args.byte (omega arith)

pub returns-clause-value : goal.returns-clause-value
returns-clause-value c = digit_read (λ byte. min (digit_value byte) 16) (values_from 0 256) refl c.args.byte (omega arith)
