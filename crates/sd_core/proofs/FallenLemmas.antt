-- A call failed: the jobs have ended, and the calls of the others are still out.
use Rattle.std.proofs.Common.{◌≡◌, ◌≢◌, ℕ, zero, suc, ◌<◌, ◌-◌, true, false, List, [], ◌∷◌, length, Option, Some, None, IfSome, slice_get, slice_set, sym, ◌∙◌, ap, subst, inl, inr, arith}
use Rattle.std.proofs.lemmas.Bool.{both_ways}
use Rattle.sd_gate.specs.declared.phase.Phase.{Phase}
use Rattle.sd_gate.specs.declared.request_id.RequestId.{RequestId}
use Rattle.sd_gate.specs.declared.worker.Worker.{Worker}
use Rattle.sd_gate.specs.declared.worker.Worker.TheVariants.{Dumper, Merger, Opener}
use Rattle.sd_merge.specs.Merger as merger
use Rattle.sd_opener.specs.Left.{looking_left, slots_left}
use Rattle.sd_opener.specs.Looking.{Looking}
use Rattle.sd_journal.specs.Kept.{JournalView}
use Rattle.sd_rounds.specs.Dumper.{Dumping, Running}
use Rattle.sd_crash_safety.specs.Calls.{IsFree}
use Rattle.sd_crash_safety.specs.declared.standing.Standing.{Standing}
use Rattle.sd_crash_safety.specs.declared.standing.Standing.TheVariants.{NotOpen, Open, Down}
use Rattle.sd_crash_safety.specs.View.{CoreView}
use Rattle.sd_core.specs.Grown.{AreFlags, IsGated}
use Rattle.sd_core.specs.Dumping.{LetsGoOfTwo}
use Rattle.sd_core.specs.LittleWork.{HasLittle}
use Rattle.sd_core.specs.Merging.{EndsCheckpoint}
use Rattle.sd_core.specs.Refusals.{is_idle}
use Rattle.sd_core.specs.Working.{fallen}
use Rattle.sd_core.specs.Sound.{AreInPages, AreOuts, AreSoundNumbers, AreTwo, CheckpointRuns, IsCore, IsOpening, MergeRuns, Parts, held_for, out_of_opener}
use Rattle.sd_core.proofs.JournalLemmas.{same_journal}
use Rattle.sd_core.proofs.OutsLemmas.{lanes_count}

-- what is out without one worker's was out
pub less_out : (outs : List (Option RequestId)) (place worker : ℕ) (id : RequestId) → slice_get (slice_set outs place None) worker ≡ Some (Some id)
    → slice_get outs worker ≡ Some (Some id)
less_out (o ∷ outs) zero zero id at = absurd (let no : Some None ≡ Some (Some id) = at in cc)
less_out (o ∷ outs) (suc place) (suc worker) id at = less_out outs place worker id at
less_out _ _ _ id at = at

two_left : (outs : List (Option RequestId)) (place : ℕ) → AreTwo outs → AreTwo (slice_set outs place None)
two_left outs place two = grind arith

-- in a store that is down
pub fallen_outs : (stands : Standing) (outs : List (Option RequestId)) (phases new : List Phase) (running now : Option Running) (merge next : Option merger.Running)
    (opener : Option Looking) (place : ℕ) → AreOuts stands outs phases running merge opener → opener ≡ None → length new ≡ length phases
    → AreOuts Down (slice_set outs place None) new now next None
fallen_outs stands outs phases new running now merge next opener place are closed count = record {
  count = lanes_count outs place None ∙ are.count;
  jobs = λ open_. absurd (let no : Down ≡ Open = open_ in cc);
  opening = tt;
  none = λ not_open idle. absurd (let no : Down ≡ NotOpen = not_open in cc);
  two = λ idle. two_left outs place (are.two closed);
  within = λ worker id at. subst (λ n. id.slot < n) (sym count) (are.within worker id (less_out outs place worker id at));
  whose = λ worker id at. are.whose worker id (less_out outs place worker id at);
  apart = λ one other a b at its. are.apart one other a b (less_out outs place one a at) (less_out outs place other b its);
}

-- where one is handed in, what is out on its slot then writes other data pages, as it does
pub apart_after : (stands : Standing) (outs : List (Option RequestId)) (phases : List Phase) (running : Option Running) (merge : Option merger.Running) (opener : Option Looking)
    (place : ℕ) (id : RequestId) → AreOuts stands outs phases running merge opener → slice_get outs place ≡ Some (Some id)
    → (lane : ℕ) (other : RequestId) → slice_get (slice_set outs place None) lane ≡ Some (Some other) → other.slot ≡ id.slot → AreInPages place lane id other
apart_after stands outs phases running merge opener place id are own lane other at same =
    elim (are.apart place lane id other own (less_out outs place lane other at) (sym same)) [
      | inl one ↦ absurd (gone outs place other (ap (slice_get (slice_set outs place None)) one ∙ at))
      | inr pages ↦ pages
    ]
  where
    gone : (outs : List (Option RequestId)) (place : ℕ) (other : RequestId) → slice_get (slice_set outs place None) place ≡ Some (Some other) → ⊥
    gone [] place other at = (let no : None ≡ Some (Some other) = at in cc)
    gone (o ∷ outs) zero other at = (let no : Some None ≡ Some (Some other) = at in cc)
    gone (o ∷ outs) (suc place) other at = gone outs place other at

-- where that is no write of a data page, none is
pub free_after : (stands : Standing) (outs : List (Option RequestId)) (phases : List Phase) (running : Option Running) (merge : Option merger.Running) (opener : Option Looking)
    (place : ℕ) (id : RequestId) → AreOuts stands outs phases running merge opener → slice_get outs place ≡ Some (Some id) → place < 3 → IsFree (slice_set outs place None) id.slot
free_after stands outs phases running merge opener place id are own few lane other at same =
    let far = (apart_after stands outs phases running merge opener place id are own lane other at same).first in omega (arith, few, far)

-- the entries of the checkpoint that ended are let go, but that of a pending one
pub let_go_two : (frozen : Option ℕ) (running : Option Running) (now : Running) (old new : JournalView) → running ≡ Some now → old.held ≡ held_for frozen running None → LetsGoOfTwo frozen old new
    → new.held ≡ held_for frozen None None
let_go_two frozen running now old new is held goes = grind arith

-- those of the one that ended with the merger's call
pub let_go_all : (frozen : Option ℕ) (running : Option Running) (old new : JournalView) → old.held ≡ held_for frozen running None → EndsCheckpoint running frozen old new → new.held ≡ held_for frozen None None
let_go_all frozen running old new held ends = grind arith

-- a core whose store is down
pub fallen_core : (core : Parts) (journal : JournalView) (stands : Standing) (phases : List Phase) (outs : List (Option RequestId)) (dumper : Dumping) (merge : Option merger.Running) (room place : ℕ)
    → IsCore core → core.opener ≡ None → journal.items ≡ core.journal.items → journal.first ≡ core.journal.first → journal.limit ≡ core.journal.limit
    → journal.held ≡ held_for core.frozen None None → stands ≡ Down → length phases ≡ length core.phases → outs ≡ slice_set core.outs place None → dumper.running ≡ None → merge ≡ None
    → IsCore (record core { journal = journal; standing = stands; phases = phases; outs = outs; dumper = dumper; merger = merge; room = room })
fallen_core core journal stands phases outs dumper merge room place sound closed items first limit held is_down count are idle none = record {
  journal_is = same_journal core.base core.journal journal core.memory core.frozen core.newest first items limit sound.journal_is;
  held = held ∙ ap (λ r. held_for core.frozen r None) (sym idle) ∙ ap (held_for core.frozen dumper.running) (sym closed);
  outs_are = subst (λ st. AreOuts st outs phases dumper.running merge core.opener) (sym is_down) (subst (λ o. AreOuts Down o phases dumper.running merge core.opener) (sym are)
      (subst (λ one. AreOuts Down (slice_set core.outs place None) phases dumper.running merge one) (sym closed)
      (fallen_outs core.standing core.outs core.phases phases core.dumper.running dumper.running core.merger merge core.opener place sound.outs_are closed count)));
  opening = subst (λ o. IfSome o (IsOpening stands phases)) (sym closed) tt;
  numbers_are = subst (λ all. AreSoundNumbers core.base all core.frozen core.newest core.numbers) (sym items) sound.numbers_are;
  counted = sound.counted;
  rests = λ resting open_. absurd (let no : Down ≡ Open = sym is_down ∙ open_ in cc);
  visited_is = sound.visited_is;
  flags_are = subst (λ all. AreFlags core.base all core.swept core.grows core.committing) (sym items) sound.flags_are;
  gated = subst (λ r. IfSome r (IsGated core.swept)) (sym idle) tt;
  work = subst (λ r. IfSome r (CheckpointRuns core.base journal.items core.frozen stands phases core.places merge core.opener core.numbers)) (sym idle) tt;
  little = subst (λ r. IfSome r (HasLittle core.base journal.items core.memory)) (sym idle) tt;
  merging = subst (λ m. IfSome m (MergeRuns stands phases core.places core.opener core.numbers room dumper.running)) (sym none) tt;
}

-- ---- all jobs have ended

pub by_worker : (P : Worker → Type 0) → P Dumper → P Merger → P Opener → (one : Worker) → P one
by_worker P dumper merger opener Dumper = dumper
by_worker P dumper merger opener Merger = merger
by_worker P dumper merger opener Opener = opener

-- one whose job had ended has nothing left to lower
pub none_busy : {P : Type 0} (core : CoreView) (worker : Worker) → is_idle core worker ≡ true → is_idle core worker ≡ false → P
none_busy core worker idle busy = absurd (both_ways (is_idle core worker) busy idle)

pub fallen_same : (stands : Standing) → stands ≢ Open → stands ≡ fallen stands
fallen_same stands closed = grind arith

-- an opener has something left
pub opener_left_some : (opener : Looking) → 0 < looking_left opener
opener_left_some opener = by (opener.slots - length opener.told)
  where
    by : (n : ℕ) → 0 < slots_left n opener.stage
    by zero = omega arith
    by (suc n) = omega arith

-- one of whom a request is out runs
pub runs_by : (opener : Option Looking) (id : RequestId) → out_of_opener opener ≡ Some id → (looking : Looking) × (opener ≡ Some looking)
runs_by opener id out = grind arith
