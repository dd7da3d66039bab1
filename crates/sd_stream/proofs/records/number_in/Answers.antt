use Rattle.std.proofs.Common.{arith}
use Rattle.sd_stream.proofs.RecordLemmas.{number_read}
use Rattle.sd_stream.proofs.records.number_in.Goals as goal

pub returns : goal.returns
returns c = number_read c.args.bytes.now c.read_u64.result c.requires (λ i. omega (arith, c.type_inv.bytes i)) c.read_u64.ensures
