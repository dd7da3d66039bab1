-- A line with another number of arguments is unfit.
use Rattle.std.proofs.Common.{arith, sym}
use borrow.Author.Tests.{ltb-true, ltb-false}
use Rattle.sd_script.proofs.Fields.{perform_at_of-other}
use Rattle.sd_script.proofs.line.perform_at.Goals.{in_default-via-then-arguments-lt2, in_default-via-else-arguments-lt2+else-arguments-lt3}
use Rattle.sd_script.proofs.line.perform_at.Goals as goal

pub returns-in_default : goal.returns-in_default
returns-in_default c =
    sym (perform_at_of-other c.args.arguments.now (λ e. elim c.in_default.branch [
      | in_default-via-then-arguments-lt2 w ↦ omega (arith, ltb-true)
      | in_default-via-else-arguments-lt2+else-arguments-lt3 w ↦ omega (arith, ltb-false)
    ]))
