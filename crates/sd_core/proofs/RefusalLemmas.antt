-- What is so where a call isn't refused.
use Rattle.std.proofs.Common.{◌≡◌, ◌≢◌, ◌<◌, ◌==◌, ◌&&◌, ◌||◌, true, false, not, is_none, is_some, Option, Some, None, slice_get, sym, ◌∙◌, ap, inl, inr, arith}
use Rattle.std.proofs.lemmas.Bool.Decides.{eqb_tells}
use Rattle.std.proofs.lemmas.Bool.{or_parts, not-true, not-false}
use Rattle.sd_command.specs.declared.refusal.Refusal.TheVariants as refusal
use Rattle.sd_journal.specs.History.{pending}
use Rattle.sd_gate.specs.Lanes.{is_any_out}
use Rattle.sd_crash_safety.specs.declared.standing.Standing.TheVariants as standing
use Rattle.sd_crash_safety.specs.OpenerSteps.{nobody}
use Rattle.sd_crash_safety.specs.View.{CoreView, history_of}
use Rattle.sd_core.specs.Beginning.{free_entries}
use Rattle.sd_core.specs.Refusals.{are_resting, cancel_refusal, is_store_busy, is_page_out, is_store_open, reopen_refusal, needs_entry}
use Rattle.sd_core.specs.Sound.{IsCore, Parts}
use Rattle.sd_core.proofs.BeginLemmas.{first_no, none_some}
use Rattle.sd_core.proofs.OutsLemmas.{nobody_of}

-- ---- Booleans

pub none_true : {X : Type 0} (one : Option X) → one ≡ None → is_none one ≡ true
none_true one is = grind arith

some_false : {X : Type 0} (one : Option X) → one ≡ None → is_some one ≡ false
some_false one is = grind arith

-- ---- requests that are out

pub nobody_rests : (core : Parts) → IsCore core → are_resting core.outs ≡ true → core.outs ≡ nobody
nobody_rests core sound is = nobody_of core.outs sound.outs_are.count (not-true (is_any_out core.outs) is)

-- ---- a checkpoint that can be cancelled

pub record MayCancel (core : CoreView) : Type 0 where
  pub some : core.dumper.running ≡ None → pending (history_of core) ≡ None → ⊥
  pub closed : core.opener ≡ None
  pub rests : slice_get core.outs 0 ≡ Some None
  pub pages : is_page_out core.outs ≡ false
  pub sure : core.committing ≡ false

pub may_cancel_now : (core : CoreView) → cancel_refusal core ≡ None → MayCancel core
may_cancel_now core is = grind arith

-- ---- a store that can be opened again

pub record MayReopen (core : CoreView) : Type 0 where
  pub closed : core.standing ≢ standing.Open
  pub none : core.opener ≡ None
  pub rest : are_resting core.outs ≡ true
  pub free : pending (history_of core) ≡ None → 0 < free_entries core

pub may_reopen : (core : CoreView) → reopen_refusal core ≡ None → MayReopen core
may_reopen core is =
    let one = first_no (is_store_busy core) refusal.Busy _ is in
    let two = first_no (needs_entry core) refusal.JournalFull _ one.1 in
    let out = or_parts (is_store_open core.standing || is_some core.opener) (not (are_resting core.outs)) one.0 in
    let open_is = or_parts (is_store_open core.standing) (is_some core.opener) out.0 in
    record {
      closed = λ stands. let no : true ≡ false = ap is_store_open (sym stands) ∙ open_is.0 in cc;
      none = none_some core.opener open_is.1;
      rest = not-false (are_resting core.outs) out.1;
      free = λ none. some_free (ap (λ b. b && (free_entries core == 0)) (sym (none_true (pending (history_of core)) none)) ∙ two.0);
    }
  where
    some_free : (free_entries core == 0) ≡ false → 0 < free_entries core
    some_free other = elim (eqb_tells (free_entries core) 0) [
      | inl one ↦ absurd (let no : true ≡ false = sym one.0 ∙ other in cc)
      | inr more ↦ (let many = more.1 in omega (arith, many))
    ]
