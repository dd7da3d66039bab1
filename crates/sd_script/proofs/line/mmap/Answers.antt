-- A line with another number of arguments is unfit.
use Rattle.std.proofs.Common.{arith, sym}
use borrow.Author.Tests.{ltb-true, ltb-false}
use Rattle.sd_script.proofs.Fields.{mmap_of-other}
use Rattle.sd_script.proofs.line.mmap.Goals.{in_default-via-then-arguments-lt4, in_default-via-else-arguments-lt4+else-arguments-lt5}
use Rattle.sd_script.proofs.line.mmap.Goals as goal

pub returns-in_default : goal.returns-in_default
returns-in_default c =
    sym (mmap_of-other c.args.arguments.now (λ e. elim c.in_default.branch [
      | in_default-via-then-arguments-lt4 w ↦ omega (arith, ltb-true)
      | in_default-via-else-arguments-lt4+else-arguments-lt5 w ↦ omega (arith, ltb-false)
    ]))
