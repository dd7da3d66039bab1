-- The replies of a merge of a whole store.
use Rattle.std.proofs.Common.{◌≡◌, ℕ, false, Option, arith}
use Rattle.sd_command.specs.declared.reply.Reply.{Reply}
use Rattle.sd_command.specs.declared.reply.Reply.TheVariants as reply
use Rattle.sd_run.specs.Merging.{is_reopened}

pub not_reopened : (answer : Reply) → ((m : Option ℕ) → answer ≡ reply.Reopened m → ⊥) → is_reopened answer ≡ false
not_reopened answer other = grind arith
