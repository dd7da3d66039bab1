use Rattle.std.proofs.Common.{◌/◌, sym, ◌∙◌, inl, inr, arith}
use Rattle.std.proofs.lemmas.Bool.{cases_lt}
use Rattle.sd_tables.proofs.UsedLemmas.{next_more, next_found, past_none}
use Rattle.sd_tables.proofs.used_places.UsedPlaces.next.Goals as goal

pub loop-word-preserved : goal.loop-word-preserved
loop-word-preserved c = next_more c.args.self.now.words c.loop-word.word c.args.from c.loop-word.invariant c.next_in_word-found.result (sym c.is_some.ensures ∙ c.if-is_some.false) c.next_in_word-found.ensures

pub returns-then-is_some : goal.returns-then-is_some
returns-then-is_some c = next_found c.args.self.now.words c.loop-word.word c.args.from c.loop-word.invariant c.next_in_word-found.result (sym c.is_some.ensures ∙ c.if-is_some.true) c.loop-word-test.true c.next_in_word-found.ensures

pub returns : goal.returns
returns c = λ place l. elim (cases_lt (place / 64) 8) [
  | inl b ↦ c.loop-word.invariant place l (omega arith)
  | inr g ↦ past_none c.args.self.now.words place (omega arith)
]
