use Rattle.std.proofs.Common.{ℕ, List, take, ap, sym, ◌∙◌}
use Rattle.sd_stream.proofs.RecordLemmas.{record_read}
use Rattle.sd_stream.proofs.records.record_in.Goals as goal

pub returns : goal.returns
returns c =
    record_read c.args.head.now c.number_in.result c.number_in-2.result c.requires
    (ap (λ (x : List ℕ). take 8 x) (sym c.split_at.ensures.front) ∙ c.number_in.ensures)
    (ap (λ (x : List ℕ). take 8 x) (sym c.split_at.ensures.back) ∙ c.number_in-2.ensures)
