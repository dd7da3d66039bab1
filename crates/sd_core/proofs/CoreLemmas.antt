-- What is so of every core, while its opener works.
use Rattle.std.proofs.Common.{◌≡◌, ◌≢◌, ℕ, zero, suc, ◌<◌, true, false, List, ◌∷◌, length, Option, Some, None, IfSome, slice_get, slice_set, refl, sym, ◌∙◌, ap, subst, inl, arith}
use Rattle.sd_gate.specs.declared.phase.Phase.{Phase}
use Rattle.sd_gate.specs.Requests.{Made}
use Rattle.sd_gate.specs.declared.request_id.RequestId.{RequestId}
use Rattle.sd_gate.specs.declared.worker.Worker.TheVariants.{Opener}
use Rattle.sd_journal.specs.Kept.{JournalView}
use Rattle.sd_merge.specs.Merger as merger
use Rattle.sd_opener.specs.Looking.{IsDoneAsAsked, Looking}
use Rattle.sd_rounds.specs.Dumper.{Running}
use Rattle.sd_rounds.specs.Writes.{no_writes}
use Rattle.sd_crash_safety.specs.declared.standing.Standing.{Standing}
use Rattle.sd_crash_safety.specs.declared.standing.Standing.TheVariants.{Open}
use Rattle.sd_crash_safety.specs.OpenerSteps.{nobody, opener_alone}
use Rattle.sd_core.specs.Opening.{LetsGo, OpenerGoesOn, TeachesOpener}
use Rattle.sd_core.specs.Sound.{AreOuts, IsCore, IsOpening, Parts, held_for, out_of_opener, worker_of_lane}
use Rattle.sd_core.proofs.OutsLemmas.{no_write}

pub held_opening : (frozen : Option ℕ) (running : Option Running) (opener : Looking) → running ≡ None → held_for frozen running (Some opener) ≡ 1
held_opening frozen running opener none = grind arith

pub held_idle : (running : Option Running) → running ≡ None → held_for None running None ≡ 0
held_idle running none = ap (λ r. held_for None r None) none

-- once the opener let go of its entry, a pending checkpoint's is held
pub held_let_go : (frozen : Option ℕ) (running : Option Running) (opener : Looking) (old new : JournalView) → running ≡ None
    → old.held ≡ held_for frozen running (Some opener) → LetsGo frozen old new → new.held ≡ held_for frozen running None
held_let_go frozen running opener old new none held gone = grind arith

-- whatever opener there is
if_any : {X : Type 0} (P : Type 0) (one : Option X) → P → IfSome one (λ any. P)
if_any P one is = grind arith

any_is : {X : Type 0} (P : Type 0) (one : Option X) (x : X) → one ≡ Some x → IfSome one (λ any. P) → P
any_is P None x is all = absurd (let no : None ≡ Some x = is in cc)
any_is P (Some y) x is all = all

-- an opener that runs and rests leaves nobody out
pub nobody_is : (core : Parts) (looking : Looking) → IsCore core → core.opener ≡ Some looking → out_of_opener core.opener ≡ None → core.outs ≡ nobody
nobody_is core looking sound is rests =
    any_is (core.outs ≡ None ∷ None ∷ out_of_opener core.opener ∷ no_writes) core.opener looking is sound.outs_are.opening ∙ ap (λ o. None ∷ None ∷ o ∷ no_writes) rests

-- a request of the opener that is out is the only one
pub alone_is : (core : Parts) (id : RequestId) → IsCore core → slice_get core.outs 2 ≡ Some (Some id) → (out_of_opener core.opener ≡ Some id) × (core.outs ≡ opener_alone id)
alone_is core id sound out = by core.opener refl
  where
    last_of : (o : Option RequestId) → Some o ≡ Some (Some id) → o ≡ Some id
    last_of o e = cc

    by : (opener : Option Looking) → core.opener ≡ opener → (out_of_opener core.opener ≡ Some id) × (core.outs ≡ opener_alone id)
    by opener is = grind arith

-- no worker has a request out, and no job runs
pub none_out : (stands : Standing) (outs : List (Option RequestId)) (phases : List Phase) (running : Option Running) (merge : Option merger.Running) (opener : Option Looking)
    → running ≡ None → merge ≡ None → out_of_opener opener ≡ None → outs ≡ nobody → AreOuts stands outs phases running merge opener
none_out stands outs phases running merge opener none unmerged rests is = grind arith

-- the opener's alone is
pub one_out : (stands : Standing) (outs : List (Option RequestId)) (phases : List Phase) (running : Option Running) (merge : Option merger.Running) (opener : Option Looking)
    (looking : Looking) (id : RequestId) → stands ≢ Open → opener ≡ Some looking → out_of_opener opener ≡ Some id
    → outs ≡ opener_alone id → id.slot < length phases → id.worker ≡ Opener → AreOuts stands outs phases running merge opener
one_out stands outs phases running merge opener looking id closed runs own is within whose = record {
  count = ap length is;
  jobs = λ stands_open. absurd (closed stands_open);
  opening = if_any (outs ≡ None ∷ None ∷ out_of_opener opener ∷ no_writes) opener (is ∙ ap (λ o. None ∷ None ∷ o ∷ no_writes) (sym own));
  none = λ not_open idle. absurd (let no : None ≡ Some looking = sym idle ∙ runs in cc);
  two = λ idle. absurd (let no : None ≡ Some looking = sym idle ∙ runs in cc);
  within = λ lane other out. subst (λ (i : RequestId). i.slot < length phases) (sym (its other lane (ap (λ all. slice_get all lane) (sym is) ∙ out)).1) within;
  whose = λ lane other out. (let it = its other lane (ap (λ all. slice_get all lane) (sym is) ∙ out) in ap (λ (i : RequestId). i.worker) it.1 ∙ whose ∙ sym (ap worker_of_lane it.0));
  apart = λ one other a b out at same. inl ((its a one (ap (λ all. slice_get all one) (sym is) ∙ out)).0 ∙ sym (its b other (ap (λ all. slice_get all other) (sym is) ∙ at)).0);
}
  where
    its : (other : RequestId) (lane : ℕ) → slice_get (opener_alone id) lane ≡ Some (Some other) → (lane ≡ 2) × (other ≡ id)
    its other zero e = absurd (let no : Some None ≡ Some (Some other) = e in cc)
    its other (suc zero) e = absurd (let no : Some None ≡ Some (Some other) = e in cc)
    its other (suc (suc zero)) e = (refl, cc)
    its other (suc (suc (suc k))) e = absurd (no_write k other e)

pub set_alone : (outs : List (Option RequestId)) (id : RequestId) → outs ≡ nobody → slice_set outs 2 (Some id) ≡ opener_alone id
set_alone outs id none = ap (λ all. slice_set all 2 (Some id)) none

pub set_nobody : (outs : List (Option RequestId)) (id : RequestId) → outs ≡ opener_alone id → slice_set outs 2 None ≡ nobody
set_nobody outs id alone = ap (λ all. slice_set all 2 None) alone

-- ---- outcomes

pub set_count : (phases : List Phase) (at : ℕ) (phase : Phase) → length (slice_set phases at phase) ≡ length phases
set_count (p ∷ phases) (suc at) phase = ap suc (set_count phases at phase)
set_count _ _ phase = refl

-- an opener that goes on was there, and is
pub record IsTaughtOn (old : Option Looking) (made : Made) (new : Option Looking) : Type 0 where
  pub opener : Looking
  pub next : Looking
  pub was : old ≡ Some opener
  pub is : new ≡ Some next
  pub goes_on : OpenerGoesOn opener made next

pub taught_opener : (old : Option Looking) (made : Made) (new : Option Looking) → TeachesOpener old made true new → IsTaughtOn old made new
taught_opener old made new taught = grind arith

-- an opener that doesn't go on wasn't answered as it asked
pub not_taught : (old : Option Looking) (made : Made) (new : Option Looking) → TeachesOpener old made false new → out_of_opener old ≡ Some made.request.id
    → IsDoneAsAsked made → ⊥
not_taught old made new taught out as_asked = grind arith

-- an opener whose request is out runs while the store isn't open
pub closed_by : (opener : Option Looking) (id : RequestId) (standing : Standing) (phases : List Phase) → IfSome opener (IsOpening standing phases) → out_of_opener opener ≡ Some id
    → standing ≢ Open
closed_by opener id standing phases opening out = grind arith
