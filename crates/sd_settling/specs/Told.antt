-- What a seat is answered to its command.
use Rattle.std.specs.Prelude.{ℕ, Result, Ok, Err}
use Rattle.sd_command.specs.declared.refusal.Refusal.{Refusal}
use Rattle.sd_command.specs.declared.reply.Reply.{Reply}
use Rattle.sd_journal.specs.declared.receipt.Receipt.{Receipt}

-- the number and the reply of a receipt
abbrev pub told : Result Receipt Refusal → Result (ℕ × Reply) Refusal
told (Ok receipt) = Ok (receipt.number, receipt.reply)
told (Err why) = Err why
