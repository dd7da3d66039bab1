-- A line with another number of arguments is unfit.
use Rattle.std.proofs.Common.{arith, sym}
use borrow.Author.Tests.{ltb-true, ltb-false}
use Rattle.sd_script.proofs.Fields.{finish_of-other}
use Rattle.sd_script.proofs.line.finish.Goals.{in_default-via-then-arguments-lt1, in_default-via-else-arguments-lt1+else-arguments-lt2}
use Rattle.sd_script.proofs.line.finish.Goals as goal

pub returns-in_default : goal.returns-in_default
returns-in_default c =
    sym (finish_of-other c.args.arguments.now (λ e. elim c.in_default.branch [
      | in_default-via-then-arguments-lt1 w ↦ omega (arith, ltb-true)
      | in_default-via-else-arguments-lt1+else-arguments-lt2 w ↦ omega (arith, ltb-false)
    ]))
