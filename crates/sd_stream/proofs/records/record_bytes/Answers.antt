use Rattle.std.proofs.Common.{◌∙◌, refl}
use Rattle.sd_stream.proofs.RecordLemmas.{next, record_written}
use Rattle.sd_stream.proofs.records.record_bytes.Goals as goal

pub returns : goal.returns
returns c =
    let first = next 0 _ _ _ _ _ c.put.ensures.text c.to_le_bytes.ensures refl in
    next 8 _ _ _ _ _ c.put-2.ensures.text c.to_le_bytes-2.ensures first ∙ record_written c.args.kind c.args.value
