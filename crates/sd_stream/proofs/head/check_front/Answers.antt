use Rattle.std.proofs.Common.{rules, ◌≡◌, List, ℕ, take, ap, ◌∙◌, arith}
use Rattle.sd_stream.specs.Stream.{magic_text, number_text}
use Rattle.sd_stream.proofs.HeadLemmas.{two_halves}
use Rattle.sd_stream.proofs.head.check_front.Goals as goal

pub returns-then-not-are_same-clause-fault : goal.returns-then-not-are_same-clause-fault
unfolding magic_text
returns-then-not-are_same-clause-fault c = λ same. c.are_same.ensures.no (search rules) (c.split_at.ensures.front ∙ same)

pub returns-then-version-ne-VERSION-clause-fault : goal.returns-then-version-ne-VERSION-clause-fault
unfolding magic_text
returns-then-version-ne-VERSION-clause-fault c = (
  two_halves c.args.front.now _ _ magic_text _ c.requires c.split_at.ensures.front c.split_at.ensures.back (ap (λ (x : List ℕ). take 8 x) (c.are_same.ensures.yes (search rules)))
      c.number_in-version.ensures,
  search rules,
  omega arith,
)

pub returns-clause-ok : goal.returns-clause-ok
unfolding magic_text
returns-clause-ok c =
    let one : c.number_in-version.result ≡ 1 = search rules in
    two_halves c.args.front.now _ _ magic_text _ c.requires c.split_at.ensures.front c.split_at.ensures.back (ap (λ (x : List ℕ). take 8 x) (c.are_same.ensures.yes (search rules)))
    (c.number_in-version.ensures ∙ ap number_text one)
