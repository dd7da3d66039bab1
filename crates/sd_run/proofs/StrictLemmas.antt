-- Where a strict run ends.
use Rattle.std.proofs.Common.{◌≡◌, ◌≢◌, true, false, ℕ, List, [], ◌∷◌, ◌++◌, Option, Result, Ok, Err, IfErr, OnOk, refl, ap, subst, arith}
use Rattle.std.specs.List.{AllByRecursion}
use Rattle.std.specs.Io.KnownBytes.{Appends}
use Rattle.sd_exit.specs.declared.stop.Stop.{Stop}
use Rattle.sd_exit.specs.declared.stop.Stop.TheVariants as stop
use Rattle.sd_script.specs.declared.answer.Answer.{Answer}
use Rattle.sd_script.specs.Texts.{answer_line}
use Rattle.sd_run.specs.declared.rule.Rule.{Rule}
use Rattle.sd_run.specs.declared.rule.Rule.TheVariants.{Plain, Strict}
use Rattle.sd_run.specs.Ending.{IsUnprinted, IsWhyRun}
use Rattle.sd_run.specs.Strict.{ChecksAnswer, EndsStrictly, IsEndOfLines, Passes, is_failure}

-- an answer that isn't printed ends no run strictly
pub unprinted_checks : (rule : Rule) (given : Answer) (ended : Result Unit Stop) (before now : Option (List ℕ)) → OnOk ended ⊥ → IfErr ended IsUnprinted
    → ChecksAnswer rule given ended before now
unprinted_checks rule given (Ok _) before now never is = absurd never
unprinted_checks rule given (Err why) before now never is = record {
  passes = tt;
  fails = λ same. absurd (let refused : why ≡ stop.Refused = cc same in subst IsUnprinted refused is);
}

-- one that was printed is looked at by the rule
pub checked : (rule : Rule) (given : Answer) (ended : Result Unit Stop) (before now : Option (List ℕ)) → Appends before now (answer_line given)
    → IfErr ended (λ why. (why ≡ stop.Refused) × (rule ≡ Strict) × (is_failure given ≡ true))
    → OnOk ended (rule ≡ Strict → is_failure given ≡ false) → ChecksAnswer rule given ended before now
checked rule given (Ok _) before now printed ends passes = record {
  passes = λ strict. (passes strict, tt);
  fails = λ same. absurd (let no : Ok tt ≡ Err stop.Refused = same in cc no);
}
checked rule given (Err why) before now printed ends passes = record { passes = tt; fails = λ same. (ends.1, ends.2, printed) }

pub all_more : (P : Answer → Type 0) (answers : List Answer) (given : Answer) → AllByRecursion P answers → P given
    → AllByRecursion P (answers ++ given ∷ [])
all_more P [] given all one = (one, tt)
all_more P (a ∷ answers) given all one = (all.0, all_more P answers given all.1 one)

-- one answer more
pub passes_more : (rule : Rule) (answers : List Answer) (given : Answer) → Passes rule answers → Passes rule (given ∷ [])
    → Passes rule (answers ++ given ∷ [])
passes_more rule answers given all one strict = all_more (λ a. is_failure a ≡ false) answers given (all strict) (one strict).0

-- one answer before the others
pub passes_before : (rule : Rule) (given : Answer) (answers : List Answer) → Passes rule (given ∷ []) → Passes rule answers
    → Passes rule (given ∷ answers)
passes_before rule given answers one all strict = ((one strict).0, all strict)

-- the next answer ends it
pub ends_at : (rule : Rule) (answers : List Answer) (given : Answer) → Passes rule answers → rule ≡ Strict → is_failure given ≡ true
    → EndsStrictly rule (answers ++ given ∷ [])
ends_at rule answers given all strict fails =
    record { strict = strict; passed = answers; last = given; are = refl; passes = all strict; fails = fails }

-- one answer is given before it ends
pub ends_before : (rule : Rule) (given : Answer) (answers : List Answer) → Passes rule (given ∷ []) → EndsStrictly rule answers
    → EndsStrictly rule (given ∷ answers)
ends_before rule given answers one ends = record {
  strict = ends.strict;
  passed = given ∷ ends.passed;
  last = ends.last;
  are = ap (λ others. given ∷ others) ends.are;
  passes = ((one ends.strict).0, ends.passes);
  fails = ends.fails;
}

-- a plain run never ends so
pub plain_goes_on : (answers : List Answer) (fact : Type 0) → EndsStrictly Plain answers → fact
plain_goes_on answers fact ends = absurd (let no : Plain ≡ Strict = ends.strict in cc)

-- why lines end early is why a run ends, but for the end of a strict one
pub lines_why : (blames : ℕ → Type 0) (contents : List (List ℕ)) (failed now : ℕ) (rule : Rule) (ended : Result Unit Stop) → ended ≢ Err stop.Refused
    → IfErr ended (IsEndOfLines rule) → IfErr ended (IsWhyRun blames contents failed now)
lines_why blames contents failed now rule ended other stops = grind arith
