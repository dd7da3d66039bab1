use Rattle.std.proofs.Common.{ap, ◌∙◌, refl}
use Rattle.std.specs.Int.{to_le_bytes, w64}
use Rattle.sd_stream.proofs.RecordLemmas.{next, head_written}
use Rattle.sd_stream.proofs.records.head_bytes.Goals as goal

pub returns-clause-text : goal.returns-clause-text
returns-clause-text c =
    let t1 = c.put.ensures.text in
    let t2 = next 8 _ _ _ _ _ c.put-2.ensures.text c.to_le_bytes.ensures t1 in
    let t3 = next 16 _ _ _ _ _ c.put-3.ensures.text (c.to_le_bytes-2.ensures ∙ ap (to_le_bytes w64) c.number_of.ensures) t2 in
    next 24 _ _ _ _ _ c.put-4.ensures.text refl t3 ∙ head_written c.args.base.now c.digest_of.result c.digest_of.ensures.digest c.digest_of.ensures.length
