-- A trim changes the base and the journal alone, or nothing.
use Rattle.std.proofs.Common.{◌≡◌, ◌⊎◌, ℕ, ◌++◌, length, Option, Some, None, Result, Ok, Err, MatchResult, refl, ◌∙◌, ap, inl, inr, arith}
use Rattle.std.proofs.lemmas.List.{length-reverse}
use Rattle.sd_command.specs.declared.refusal.Refusal.{Refusal}
use Rattle.sd_command.specs.declared.refusal.Refusal.TheVariants.{Idle}
use Rattle.sd_command.specs.declared.reply.Reply.{Reply}
use Rattle.sd_command.specs.declared.reply.Reply.TheVariants as reply
use Rattle.sd_journal.specs.History.{last}
use Rattle.sd_journal.specs.Marked.{Marked, entries_of}
use Rattle.sd_journal.specs.Trimming.{IsFolded}
use Rattle.sd_receipts.specs.declared.folded.Folded.{Folded}
use Rattle.sd_crash_safety.specs.Trims.{trimmed}
use Rattle.sd_crash_safety.specs.View.{CoreView, history_of}
use Rattle.sd_core.specs.Trims.{Trims, TrimsFront, unfolded}
use Rattle.sd_world.specs.Trims.{TrimsFrontTo, TrimsJournal}

-- what is handed out is answered by its length
front_to : (n : ℕ) (old : CoreView) (kept front : Marked) (result : Result Folded Refusal) (new : CoreView) (answer : Reply)
    → MatchResult result (λ folded. answer ≡ reply.Trimmed (length folded.entries.items)) (λ refusal. answer ≡ reply.Refused refusal)
    → TrimsFront n old kept front result new → TrimsFrontTo n old kept front answer new
front_to n old kept front result new answer told does = grind (arith, length-reverse)

pub trims_journal : (old : CoreView) (result : Result Folded Refusal) (new : CoreView) (answer : Reply)
    → MatchResult result (λ folded. answer ≡ reply.Trimmed (length folded.entries.items)) (λ refusal. answer ≡ reply.Refused refusal)
    → (unfolded (last old.base (history_of old)) old.base.number ≡ None → (result ≡ Err Idle) × (new ≡ old))
    → ((n : ℕ) → unfolded (last old.base (history_of old)) old.base.number ≡ Some n → Trims n old result new) → TrimsJournal old answer new
trims_journal old result new answer told idle trims = record {
  idle = λ none. let i = idle none in (refused result i.0 told, i.1);
  trims = λ n some. let t = trims n some in
      record { kept = t.kept; front = t.front; parts = t.parts; ended = t.ended; does = front_to n old t.kept t.front result new answer told t.does };
}
  where
    refused : (r : Result Folded Refusal) → r ≡ Err Idle
        → MatchResult r (λ folded. answer ≡ reply.Trimmed (length folded.entries.items)) (λ refusal. answer ≡ reply.Refused refusal) → answer ≡ reply.Refused Idle
    refused (Ok folded) is tells = absurd (let no : Ok folded ≡ Err Idle = is in cc)
    refused (Err refusal) is tells = tells ∙ ap reply.Refused (same refusal is)
      where
        same : (refusal : Refusal) → ◌≡◌ {A = Result Folded Refusal} (Err refusal) (Err Idle) → refusal ≡ Idle
        same refusal e = cc

-- ---- what it leaves

-- the front is gone
pub record LeavesFront (old : CoreView) (answer : Reply) (new : CoreView) : Type 0 where
  pub n : ℕ
  pub kept : Marked
  pub front : Marked
  pub parts : old.items ≡ kept ++ front
  pub ended : IsFolded n front
  pub answered : answer ≡ reply.Trimmed (length (entries_of front))
  pub is : new ≡ trimmed old n kept front

-- or it was refused
pub record LeavesAll (old : CoreView) (answer : Reply) (new : CoreView) : Type 0 where
  pub refusal : Refusal
  pub answered : answer ≡ reply.Refused refusal
  pub is : new ≡ old

front_cases : (n : ℕ) (old : CoreView) (kept front : Marked) (answer : Reply) (new : CoreView) → old.items ≡ kept ++ front → IsFolded n front
    → TrimsFrontTo n old kept front answer new → LeavesFront old answer new ⊎ LeavesAll old answer new
front_cases n old kept front answer new parts ended does = grind arith

pub trim_cases : (old : CoreView) (answer : Reply) (new : CoreView) → TrimsJournal old answer new → LeavesFront old answer new ⊎ LeavesAll old answer new
trim_cases old answer new trims = by (unfolded (last old.base (history_of old)) old.base.number) refl
  where
    by : (o : Option ℕ) → unfolded (last old.base (history_of old)) old.base.number ≡ o → LeavesFront old answer new ⊎ LeavesAll old answer new
    by None none = let i = trims.idle none in inr (record { refusal = Idle; answered = i.0; is = i.1 })
    by (Some n) some = let t = trims.trims n some in front_cases n old t.kept t.front answer new t.parts t.ended t.does

-- what it leaves as it was
pub trim_phases : (old : CoreView) (answer : Reply) (new : CoreView) → TrimsJournal old answer new → new.phases ≡ old.phases
trim_phases old answer new trims = elim (trim_cases old answer new trims) [
  | inl gone ↦ ap (λ (v : CoreView). v.phases) gone.is
  | inr all ↦ ap (λ (v : CoreView). v.phases) all.is
]

pub trim_outs : (old : CoreView) (answer : Reply) (new : CoreView) → TrimsJournal old answer new → new.outs ≡ old.outs
trim_outs old answer new trims = elim (trim_cases old answer new trims) [
  | inl gone ↦ ap (λ (v : CoreView). v.outs) gone.is
  | inr all ↦ ap (λ (v : CoreView). v.outs) all.is
]
