-- What a core believes stays where the store does.
use Rattle.std.proofs.Common.{◌≡◌, ℕ, Bool, List, ◌∷◌, Option, Some, None, refl, sym, ◌∙◌, ap, subst, arith}
use Rattle.sd_image.specs.Image.{Image}
use Rattle.sd_command.specs.declared.command.Command.{Command}
use Rattle.sd_command.specs.declared.reply.Reply.{Reply}
use Rattle.sd_command.specs.Events.{event_of}
use Rattle.sd_gate.specs.declared.phase.Phase.{Phase}
use Rattle.sd_gate.specs.Requests.{Asked}
use Rattle.sd_journal.specs.declared.entry.Entry.TheVariants.{Applied}
use Rattle.sd_journal.specs.History.{Base, History, pending}
use Rattle.sd_journal.specs.Marked.{entries_of}
use Rattle.sd_pagetable.specs.Contents.{Contents, IsSound}
use Rattle.sd_pagetable.specs.Tracking.{Step}
use Rattle.sd_rounds.specs.Dumper.{Running}
use Rattle.sd_rounds.specs.Keeps.{Chain, ChainWithin, KeepsLaws}
use Rattle.sd_rounds.specs.Making.{Making}
use Rattle.sd_rounds.specs.MakingLaws.{MakingLaws}
use Rattle.sd_store_laws.specs.Beliefs.{Belief}
use Rattle.sd_store_laws.specs.Store.{Store}
use Rattle.sd_crash_safety.specs.declared.standing.Standing.TheVariants.{Open}
use Rattle.sd_crash_safety.specs.Believes.{Believes, HasStore}
use Rattle.sd_crash_safety.specs.CoreSteps.{CoreSteps, IsCommanded, JournalsCommand, SameCore, SameStore}
use Rattle.sd_crash_safety.specs.LiveImages.{IsAtWork, IsImageOn, IsLiveOn, chain_of}
use Rattle.sd_crash_safety.specs.Knows.{Knows}
use Rattle.sd_crash_safety.specs.Merges.{IsLiveMerge}
use Rattle.sd_crash_safety.specs.StoreSteps.{QuietSteps}
use Rattle.sd_crash_safety.specs.View.{CoreView, history_of}
use Rattle.sd_crash_safety.proofs.NoClear.{no_clear}

-- ---- the same fields

-- what is known of a store that is open, in another core with the same store
module _ (old new : CoreView) (same : SameStore old new) (asked : List (Option Asked)) (bodies files : List (List ℕ)) (store : Store) (dump : Option Image) (beliefs : List Belief) where
  open_in : (history : History) (memory : Contents)
      → IsLiveOn old.base history old.catalog old.grows memory old.phases asked bodies old.numbers.serial store dump beliefs old.dumper.running
      → IsLiveOn new.base history new.catalog new.grows memory new.phases asked bodies new.numbers.serial store dump beliefs new.dumper.running
  open_in history memory u =
      subst (λ x. IsLiveOn x history new.catalog new.grows memory new.phases asked bodies new.numbers.serial store dump beliefs new.dumper.running) (sym same.base)
      (subst (λ x. IsLiveOn old.base history x new.grows memory new.phases asked bodies new.numbers.serial store dump beliefs new.dumper.running) (sym same.catalog)
      (subst (λ x. IsLiveOn old.base history old.catalog x memory new.phases asked bodies new.numbers.serial store dump beliefs new.dumper.running) (sym same.grows)
      (subst (λ x. IsLiveOn old.base history old.catalog old.grows memory x asked bodies new.numbers.serial store dump beliefs new.dumper.running) (sym same.phases)
      (subst (λ x. IsLiveOn old.base history old.catalog old.grows memory old.phases asked bodies x store dump beliefs new.dumper.running) (sym same.serial)
      (ap_running history memory u)))))
    where
      ap_running : (h : History) (m : Contents)
          → IsLiveOn old.base h old.catalog old.grows m old.phases asked bodies old.numbers.serial store dump beliefs old.dumper.running
          → IsLiveOn old.base h old.catalog old.grows m old.phases asked bodies old.numbers.serial store dump beliefs new.dumper.running
      ap_running h m = subst (λ d. IsLiveOn old.base h old.catalog old.grows m old.phases asked bodies old.numbers.serial store dump beliefs d.running) (sym same.dumper)

  merging_in : IsLiveMerge old.phases asked bodies old.numbers.serial store beliefs old.dumper.running old.merger
      → IsLiveMerge new.phases asked bodies new.numbers.serial store beliefs new.dumper.running new.merger
  merging_in m = grind arith

  knows_in : ((stands : old.standing ≡ Open) → IsLiveOn old.base (history_of new) old.catalog old.grows new.memory old.phases asked bodies old.numbers.serial store dump beliefs old.dumper.running)
      → Knows old asked bodies files store dump beliefs → Knows new asked bodies files store dump beliefs
  knows_in is_live knows = grind arith

  has_in : (history : History) → HasStore old.base history old.phases asked bodies store dump beliefs → HasStore new.base history new.phases asked bodies store dump beliefs
  has_in history has = grind arith

same_lem : (old new : CoreView) (asked : List (Option Asked)) (bodies files : List (List ℕ)) → SameCore old new
    → Believes old asked bodies files → Believes new asked bodies files
same_lem old new asked bodies files s b = grind arith

-- ---- a command

within_itself : (chain : Chain) → ChainWithin chain chain
within_itself chain at bytes below = below

module _ (keeps : KeepsLaws) (making : MakingLaws) (base : Base) (history : History) (seat : ℕ) (command : Command) (told : Reply) (before after : Contents)
    (phases : List Phase) (asked : List (Option Asked)) (bodies : List (List ℕ)) (last : ℕ) (store : Store) (dump : Option Image) (beliefs : List Belief) where
  abbrev then : History
  then = Applied seat command told ∷ history

  -- none is pending: no image is of a memory that is frozen
  module _ (sound : IsSound before) (step : Step before (event_of command told) after) (pends : pending history ≡ None) where
    image_calls : (parent number : ℕ) (image : Option Making) → IsImageOn base history before phases asked bodies last store dump beliefs parent number image
        → IsImageOn base then after phases asked bodies last store dump beliefs parent number image
    image_calls parent number None m = record {
      rests = λ some. keeps.still_rests (chain_of store parent) (chain_of store parent) before after (event_of command told) sound step (no_clear command told)
          (within_itself (chain_of store parent)) (m.rests some);
      none = m.none;
      alone = m.alone;
    }
    image_calls parent number (Some image) m = record {
      pages = m.pages;
      keeps = making.calls m.pages (chain_of store parent) (chain_of store parent) image before after (event_of command told) sound step (no_clear command told)
          (within_itself (chain_of store parent)) m.keeps;
      files = m.files;
      frozen = λ is. absurd (let no : None ≡ Some number = sym pends ∙ (m.frozen is).pends in cc);
      serial = m.serial;
      fresh = m.fresh;
      low = m.low;
      others = m.others;
      phase = m.phase;
      phase_is = m.phase_is;
      belief = m.belief;
      belief_is = m.belief_is;
      request = m.request;
      own = m.own;
      asked_at = m.asked_at;
      rests = m.rests;
      writing = m.writing;
      slot_is = m.slot_is;
    }

    work_calls : (grows : Bool) (running : Option Running) → IsAtWork base history grows before phases asked bodies last store dump beliefs running
        → IsAtWork base then grows after phases asked bodies last store dump beliefs running
    work_calls grows None w = record {
      gives = λ grown tip is. keeps.still_rests (chain_of store tip.header.stands_for) (chain_of store tip.header.stands_for) before after (event_of command told) sound step (no_clear command told)
          (within_itself (chain_of store tip.header.stands_for)) (w.gives grown tip is);
      none = w.none;
      alone = w.alone;
      idle = w.idle;
    }
    work_calls grows (Some running) w = record {
      some = w.some;
      chain = w.chain;
      newest = w.newest;
      within = w.within;
      unneeded = w.unneeded;
      apart = w.apart;
      image = image_calls running.parent running.number running.image w.image;
    }

  -- one is pending: the memory is as before
  image_waits : (parent number : ℕ) (image : Option Making) → IsImageOn base history before phases asked bodies last store dump beliefs parent number image
      → IsImageOn base then before phases asked bodies last store dump beliefs parent number image
  image_waits parent number None m = m
  image_waits parent number (Some image) m = record {
    pages = m.pages;
    keeps = m.keeps;
    files = m.files;
    frozen = λ is. let f = m.frozen is in record { cut = f.cut; pends = f.pends; shown = f.shown; still = f.still; dumps = f.dumps; areas = f.areas };
    serial = m.serial;
    fresh = m.fresh;
    low = m.low;
    others = m.others;
    phase = m.phase;
    phase_is = m.phase_is;
    belief = m.belief;
    belief_is = m.belief_is;
    request = m.request;
    own = m.own;
    asked_at = m.asked_at;
    rests = m.rests;
    writing = m.writing;
    slot_is = m.slot_is;
  }

  work_waits : (grows : Bool) (running : Option Running) → IsAtWork base history grows before phases asked bodies last store dump beliefs running
      → IsAtWork base then grows before phases asked bodies last store dump beliefs running
  work_waits grows None w = w
  work_waits grows (Some running) w = record {
    some = w.some;
    chain = w.chain;
    newest = w.newest;
    within = w.within;
    unneeded = w.unneeded;
    apart = w.apart;
    image = image_waits running.parent running.number running.image w.image;
  }

  work_on : (waiting : Option ℕ) → waiting ≡ pending history → IsCommanded waiting command told before after → (grows : Bool) (running : Option Running)
      → IsAtWork base history grows before phases asked bodies last store dump beliefs running
      → IsAtWork base then grows after phases asked bodies last store dump beliefs running
  work_on None is done grows running w = work_calls done.0 done.1 (sym is) grows running w
  work_on (Some n) is done grows running w =
      subst (λ m. IsAtWork base then grows m phases asked bodies last store dump beliefs running) (sym done) (work_waits grows running w)

applied_lem : QuietSteps → KeepsLaws → MakingLaws → (old new : CoreView) (seat : ℕ) (command : Command) (told : Reply) (asked : List (Option Asked)) (bodies files : List (List ℕ))
    → JournalsCommand old seat command told new → Believes old asked bodies files → Believes new asked bodies files
applied_lem quiet keeps making old new seat command told asked bodies files a b =
    let history : history_of new ≡ Applied seat command told ∷ history_of old = ap entries_of a.items in
    record {
      store = b.store;
      dump = b.dump;
      beliefs = b.beliefs;
      has = has_in old new a.store asked bodies files b.store b.dump b.beliefs (history_of new)
          (subst (λ h. HasStore old.base h old.phases asked bodies b.store b.dump b.beliefs) (sym history)
          (quiet.applied old.base (history_of old) old.phases asked bodies b.store b.dump b.beliefs seat command told b.has));
      knows = knows_in old new a.store asked bodies files b.store b.dump b.beliefs
          (λ stands. subst (λ h. IsLiveOn old.base h old.catalog old.grows new.memory old.phases asked bodies old.numbers.serial b.store b.dump b.beliefs old.dumper.running) (sym history)
          (let u = b.knows.is_live stands in record {
            catalog = u.catalog;
            grows_is = u.grows_is;
            used = u.used;
            exact = u.exact;
            writes = u.writes;
            job = work_on keeps making old.base (history_of old) seat command told old.memory new.memory old.phases asked bodies old.numbers.serial b.store b.dump b.beliefs
                (pending (history_of old)) refl a.memory old.grows old.dumper.running u.job;
          })) b.knows;
    }

pub core_steps_lem : QuietSteps → KeepsLaws → MakingLaws → CoreSteps
core_steps_lem quiet keeps making = record { same = same_lem; applied = applied_lem quiet keeps making }
