use Rattle.std.proofs.Common.{◌≡◌, nat_eq, length, take, replicate, ◌∙◌, ap}
use Rattle.std.specs.Cmp.Lexicographic.{pointwise}
use Rattle.std.proofs.lemmas.List.{take-replicate}
use Rattle.sd_rounds.proofs.ClearLemmas.{as_zeros}
use Rattle.sd_rounds.proofs.page_copy.is_zero.Goals as goal

pub returns : goal.returns
returns c =
    let zeros : take (length c.args.bytes.now) (replicate 4096 0) ≡ replicate (length c.args.bytes.now) 0 = take-replicate (length c.args.bytes.now) 4096 0 c.requires in
    c.eq.ensures ∙ ap (λ l. pointwise nat_eq c.args.bytes.now l) zeros ∙ as_zeros c.args.bytes.now
