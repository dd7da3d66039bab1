-- The lines that answers are printed as.
use Rattle.std.specs.Prelude.{ℕ, ◌<◌, List, [], ◌∷◌, ◌++◌, codes, length, Some, None}
use Rattle.std.specs.Fmt.{decimal}
use Rattle.std.specs.Int.{to_be_bytes, w64}
use Rattle.std.specs.List.{flat_map}
use Rattle.hex.specs.Hex.{encode_lower}
use Rattle.sd_pagetable.specs.Refusals.{segv_name}
use Rattle.sd_command.specs.Refusals.{refusal_text}
use Rattle.sd_command.specs.declared.reply.Reply.{Reply}
use Rattle.sd_command.specs.declared.reply.Reply.TheVariants.{Done, Bytes, Child, NeedsFault, Segv, Begun, Worked}
use Rattle.sd_command.specs.declared.reply.Reply.TheVariants.{Acked, Cancelled, Merged, Trimmed, Reopened, Refused}
use Rattle.sd_script.specs.declared.answer.Answer.{Answer}
use Rattle.sd_script.specs.declared.answer.Answer.TheVariants as answer

abbrev pub reply_text : Reply → List ℕ
reply_text Done = codes "done"
reply_text (Bytes bytes) = codes "bytes " ++ encode_lower bytes
reply_text (Child space) = codes "child " ++ decimal space
reply_text NeedsFault = codes "needs-fault"
reply_text (Segv why) = codes "segv " ++ segv_name why
reply_text (Begun n) = codes "begun " ++ decimal n
reply_text Worked = codes "worked"
reply_text (Acked n) = codes "acked " ++ decimal n
reply_text (Cancelled n) = codes "cancelled " ++ decimal n
reply_text (Merged serial) = codes "merged " ++ decimal serial
reply_text (Trimmed count) = codes "trimmed " ++ decimal count
reply_text (Reopened (Some n)) = codes "reopened " ++ decimal n
reply_text (Reopened None) = codes "reopened none"
reply_text (Refused why) = codes "refused " ++ refusal_text why

-- a word of a page: a space, and the digits of its eight bytes, the highest first
abbrev pub word_text : ℕ → List ℕ
word_text word = codes " " ++ encode_lower (to_be_bytes w64 word)

-- the line that a reply is printed as, with its newline
abbrev pub reply_line : Reply → List ℕ
reply_line reply = reply_text reply ++ 10 ∷ []

-- the line that an answer is printed as, with its newline
abbrev pub answer_line : Answer → List ℕ
answer_line (answer.Reply reply) = reply_line reply
answer_line (answer.Words words) = codes "words" ++ flat_map word_text words.items ++ 10 ∷ []

-- the answer has none of the short lines, which are those of a load of up to 64 bytes and of the replies `done` and
-- `needs-fault`
abbrev pub HasNoShortLine : Answer → Type 0
HasNoShortLine (answer.Reply Done) = ⊥
HasNoShortLine (answer.Reply NeedsFault) = ⊥
HasNoShortLine (answer.Reply (Bytes bytes)) = 64 < length bytes
HasNoShortLine _ = Unit {0}
