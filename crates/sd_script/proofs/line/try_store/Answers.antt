-- A line with another number of arguments is unfit.
use Rattle.std.proofs.Common.{arith}
use borrow.Author.Tests.{ltb-true, ltb-false}
use Rattle.sd_script.proofs.Fields.{try_of-other}
use Rattle.sd_script.proofs.line.try_store.Goals.{in_default-via-then-arguments-lt3, in_default-via-else-arguments-lt3+else-arguments-lt4}
use Rattle.sd_script.proofs.line.try_store.Goals as goal

pub returns-in_default : goal.returns-in_default
returns-in_default c =
    try_of-other c.args.arguments.now (λ e. elim c.in_default.branch [
      | in_default-via-then-arguments-lt3 w ↦ omega (arith, ltb-true)
      | in_default-via-else-arguments-lt3+else-arguments-lt4 w ↦ omega (arith, ltb-false)
    ])
