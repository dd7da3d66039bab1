use Rattle.std.proofs.Common.{ℕ, List, ◌++◌}
use Rattle.std.specs.Prelude.{flat_map}
use Rattle.sha2.specs.Sha256.{sha256}
use Rattle.sd_stream.specs.Stream.{digested_text, group_text, record_text, stream_text}
use Rattle.sd_stream.proofs.LawLemmas.{spread_stream}
use Rattle.sd_stream.proofs.NextLemmas.{bytes_left, head_read_again, item_read}
use Rattle.sd_stream.proofs.laws.streams_are_read.Goals as goal

pub returns-clause-head : goal.returns-clause-head
returns-clause-head c = λ base groups error good fault.
    let digest : List ℕ = sha256 (digested_text base groups) in
    head_read_again base (flat_map group_text groups ++ (record_text 3 0 ++ digest)) (stream_text base groups) error good.0 (spread_stream base groups digest) fault

pub returns-clause-items : goal.returns-clause-items
returns-clause-items c = λ tally p base groups rest error good same taken left fault. item_read tally p base groups rest error good taken left same fault

pub returns-clause-bytes : goal.returns-clause-bytes
returns-clause-bytes c = λ tally p base groups rest good same taken. bytes_left p tally.last tally.left tally.waiting base groups rest good taken.order same
