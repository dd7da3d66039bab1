-- The steps of an image in its pass, and the freeze.
use Rattle.std.proofs.Common.{◌≡◌, ℕ, if◌then◌else◌, List, ◌∷◌, Option, Some, refl, sym, ◌∙◌, ap, subst, arith}
use Rattle.std.proofs.lemmas.Bool.{eq-eqb, false≢true}
use Rattle.sd_disk.specs.Contents.{file_at}
use Rattle.sd_image.specs.Image.{Image}
use Rattle.sd_gate.specs.declared.phase.Phase.{Phase}
use Rattle.sd_gate.specs.Requests.{Asked}
use Rattle.sd_journal.specs.declared.entry.Entry.TheVariants.{Freeze}
use Rattle.sd_journal.specs.History.{Base, History, at_freeze, memory_after}
use Rattle.sd_journal.specs.Marked.{entries_of}
use Rattle.sd_pagetable.specs.Contents.{Contents}
use Rattle.sd_rounds.specs.declared.image_step.ImageStep.{ImageStep}
use Rattle.sd_rounds.specs.declared.image_step.ImageStep.TheVariants.{Frozen}
use Rattle.sd_rounds.specs.declared.stage.Stage.TheVariants.{Pass as PassStage}
use Rattle.sd_rounds.specs.Dumper.{Running, writes_of_image}
use Rattle.sd_rounds.specs.Files.{IsFiledIn}
use Rattle.sd_rounds.specs.Making.{Making, Steps, is_past_freeze}
use Rattle.sd_rounds.specs.MakingLaws.{DumpsImage, KeepsImage, MakingLaws, pages_after}
use Rattle.sd_writing.specs.Files.{Pages}
use Rattle.sd_store_laws.specs.Beliefs.{Belief}
use Rattle.sd_store_laws.specs.Store.{Store}
use Rattle.sd_crash_safety.specs.Believes.{Believes}
use Rattle.sd_crash_safety.specs.DumperSteps.{FreezesMemory, IsOnPages, WorksOnMemory}
use Rattle.sd_crash_safety.specs.LiveImages.{IsImageOn, IsLiveOn, IsMakingOn, IsRunningOn, IsSlotFor, chain_of, body_written, lanes_of}
use Rattle.sd_crash_safety.specs.StoreSteps.{QuietSteps}
use Rattle.sd_crash_safety.specs.View.{CoreView, history_of}
use Rattle.sd_crash_safety.proofs.MergeStays.{merge_beside, spares_on}
use Rattle.sd_crash_safety.proofs.OpenCore.{believes_parts}

-- a running checkpoint whose image is another one, with the same slots
pub running_with : (base : Base) (history later : History) (memory after : Contents) (phases : List Phase) (asked now : List (Option Asked)) (bodies : List (List ℕ)) (last : ℕ) (store : Store) (dump : Option Image)
    (beliefs : List Belief) (running : Running) (image : Making) → IsRunningOn base history memory phases asked bodies last store dump beliefs running
    → IsMakingOn base later after phases now bodies last store dump beliefs running.parent running.number image
    → IsRunningOn base later after phases now bodies last store dump beliefs (record running { image = Some image })
running_with base history later memory after phases asked now bodies last store dump beliefs running image w making = record {
  some = w.some;
  chain = w.chain;
  newest = w.newest;
  within = λ k r. w.within k (record { place = r.place; from = r.from; is = r.is });
  unneeded = λ k i r. w.unneeded k i (record { place = r.place; from = r.from; is = r.is });
  apart = w.apart;
  image = making;
}

-- ---- a visit, and a copy

-- such a step is one of the pass
in_pass : (number : ℕ) (old : Making) (before : Contents) (step : ImageStep) (new : Making) (after : Contents) → IsOnPages step → Steps number old before step new after
    → (old.stage ≡ PassStage) × (new ≡ record old { pass = new.pass })
in_pass number old before step new after on steps = grind arith

no_pages : (step : ImageStep) (pages : Pages) → IsOnPages step → pages_after step pages ≡ pages
no_pages step pages on = grind arith

pub works_lem : MakingLaws → (old new : CoreView) (running : Running) (image next : Making) (number : ℕ) (step : ImageStep) (asked : List (Option Asked)) (bodies files : List (List ℕ))
    → IsOnPages step → WorksOnMemory old running image number step next new → Believes old asked bodies files → Believes new asked bodies files
works_lem making old new running image next number step asked bodies files on s b =
    let u : IsLiveOn old.base (history_of old) old.catalog old.grows old.memory old.phases asked bodies old.numbers.serial b.store b.dump b.beliefs (Some running) =
    subst (λ r. IsLiveOn old.base (history_of old) old.catalog old.grows old.memory old.phases asked bodies old.numbers.serial b.store b.dump b.beliefs r) s.was (b.knows.is_live s.rest.stands) in
    let w : IsRunningOn old.base (history_of old) old.memory old.phases asked bodies old.numbers.serial b.store b.dump b.beliefs running = u.job in
    let m : IsMakingOn old.base (history_of old) old.memory old.phases asked bodies old.numbers.serial b.store b.dump b.beliefs running.parent running.number image =
    subst (λ i. IsImageOn old.base (history_of old) old.memory old.phases asked bodies old.numbers.serial b.store b.dump b.beliefs running.parent running.number i) s.making w.image in
    let pass = in_pass number image old.memory step next new.memory on s.steps in
    let nxt : Making = record image { pass = next.pass } in
    let chain = chain_of b.store running.parent in
    let keeps : KeepsImage m.pages chain nxt new.memory = subst (λ p. KeepsImage p chain nxt new.memory) (no_pages step m.pages on)
    (subst (λ i. KeepsImage (pages_after step m.pages) chain i new.memory) pass.1 (making.steps number m.pages chain image next old.memory new.memory step s.steps m.keeps)) in
    believes_parts new old.base (history_of old) old.catalog old.grows new.memory old.phases old.numbers.serial (Some (record running { image = Some nxt })) old.merger
    (record {
      base_is = s.rest.base;
      history_is = s.history;
      places_is = s.catalog;
      grows_is = s.rest.grows;
      memory_is = refl;
      phases_is = s.phases;
      last_is = s.serial;
      running_is = s.is ∙ ap (λ x. Some (record running { image = Some x })) pass.1;
      merger_is = s.rest.merger;
      closed = s.rest.closed;
    })
    asked bodies files b.store b.dump b.beliefs (λ is. b.knows.sure (sym s.committing ∙ is)) b.knows.count (b.knows.out ∙ sym s.outs) b.has
    (record {
      catalog = u.catalog;
      grows_is = u.grows_is;
      used = u.used;
      exact = u.exact;
      writes = u.writes ∙ ap writes_of_image s.making;
      job = running_with old.base (history_of old) (history_of old) old.memory new.memory old.phases asked asked bodies old.numbers.serial b.store b.dump b.beliefs running nxt w (record {
        pages = m.pages;
        keeps = keeps;
        files = subst (λ st. IsFiledIn st image.order next.pass m.pages) (sym pass.0) tt;
        frozen = λ is. let f = m.frozen is in record {
          cut = f.cut;
          pends = f.pends;
          shown = f.shown;
          still = s.plain ∙ f.still;
          dumps = subst (λ p. DumpsImage f.cut p chain nxt new.memory) (no_pages step m.pages on)
              (subst (λ i. DumpsImage f.cut (pages_after step m.pages) chain i new.memory) pass.1
              (making.dumps number f.cut m.pages chain image next old.memory new.memory step s.steps (ap is_past_freeze pass.0) s.rising m.keeps f.dumps));
          areas = f.areas;
        };
        serial = m.serial;
        fresh = m.fresh;
        low = m.low;
        others = m.others;
        phase = m.phase;
        phase_is = m.phase_is;
        belief = m.belief;
        belief_is = m.belief_is;
        request = m.request;
        own = m.own;
        asked_at = m.asked_at;
        rests = m.rests;
        writing = m.writing;
        slot_is = m.slot_is;
      });
    })
    (merge_beside old asked asked bodies files running nxt old.numbers.serial s.rest.stands s.was refl (spares_on old.numbers.serial running image nxt s.making refl) b)

-- ---- the freeze

pub freezes_lem : QuietSteps → MakingLaws → (old new : CoreView) (running : Running) (image next : Making) (number : ℕ) (asked : List (Option Asked)) (bodies files : List (List ℕ))
    → FreezesMemory old running image number next new → Believes old asked bodies files → Believes new asked bodies files
freezes_lem quiet making old new running image next number asked bodies files s b =
    let u : IsLiveOn old.base (history_of old) old.catalog old.grows old.memory old.phases asked bodies old.numbers.serial b.store b.dump b.beliefs (Some running) =
    subst (λ r. IsLiveOn old.base (history_of old) old.catalog old.grows old.memory old.phases asked bodies old.numbers.serial b.store b.dump b.beliefs r) s.was (b.knows.is_live s.rest.stands) in
    let w : IsRunningOn old.base (history_of old) old.memory old.phases asked bodies old.numbers.serial b.store b.dump b.beliefs running = u.job in
    let m : IsMakingOn old.base (history_of old) old.memory old.phases asked bodies old.numbers.serial b.store b.dump b.beliefs running.parent running.number image =
    subst (λ i. IsImageOn old.base (history_of old) old.memory old.phases asked bodies old.numbers.serial b.store b.dump b.beliefs running.parent running.number i) s.making w.image in
    let freezes = s.steps.0 in
    let nxt : Making = record image { stage = PassStage } in
    let chain = chain_of b.store running.parent in
    let later = Freeze running.number ∷ history_of old in
    let to_old = sym s.memory in
    let keeps : KeepsImage m.pages chain nxt old.memory = subst (KeepsImage m.pages chain nxt) s.memory
    (subst (λ i. KeepsImage m.pages chain i new.memory) freezes.is (making.steps number m.pages chain image next old.memory new.memory Frozen s.steps m.keeps)) in
    believes_parts new old.base later old.catalog old.grows old.memory old.phases old.numbers.serial (Some (record running { image = Some nxt })) old.merger
    (record {
      base_is = s.rest.base;
      history_is = ap entries_of s.items;
      places_is = s.catalog;
      grows_is = s.rest.grows;
      memory_is = s.memory;
      phases_is = s.phases;
      last_is = s.serial;
      running_is = s.is ∙ ap (λ x. Some (record running { image = Some x })) freezes.is;
      merger_is = s.rest.merger;
      closed = s.rest.closed;
    })
    asked bodies files b.store b.dump b.beliefs (λ is. b.knows.sure (sym s.committing ∙ is)) b.knows.count (b.knows.out ∙ sym s.outs)
    (quiet.froze old.base (history_of old) old.phases asked bodies b.store b.dump b.beliefs running.number s.legal b.has)
    (record {
      catalog = u.catalog;
      grows_is = u.grows_is;
      used = u.used;
      exact = u.exact;
      writes = u.writes ∙ ap writes_of_image s.making;
      job = running_with old.base (history_of old) later old.memory old.memory old.phases asked asked bodies old.numbers.serial b.store b.dump b.beliefs running nxt w (record {
        pages = m.pages;
        keeps = keeps;
        files = tt;
        frozen = λ is. record {
          cut = old.memory;
          pends = refl;
          shown = ap (λ t. if t then Some (memory_after old.base (history_of old)) else at_freeze old.base (history_of old) running.number) (eq-eqb running.number running.number refl) ∙ ap Some (sym s.made);
          still = refl;
          dumps = subst (DumpsImage old.memory m.pages chain nxt) s.memory
              (subst (λ i. DumpsImage old.memory m.pages chain i new.memory) freezes.is (making.freezes number m.pages chain image next old.memory new.memory s.steps));
          areas = tt;
        };
        serial = m.serial;
        fresh = m.fresh;
        low = m.low;
        others = m.others;
        phase = m.phase;
        phase_is = m.phase_is;
        belief = m.belief;
        belief_is = m.belief_is;
        request = m.request;
        own = m.own;
        asked_at = m.asked_at;
        rests = λ outside. absurd (false≢true (sym outside));
        writing = m.writing;
        slot_is = subst (λ st. IsSlotFor st image.order m.pages m.phase (body_written (file_at bodies image.order.slot) (lanes_of asked)) m.request m.belief b.dump) freezes.stage m.slot_is;
      });
    })
    (merge_beside old asked asked bodies files running nxt old.numbers.serial s.rest.stands s.was refl (spares_on old.numbers.serial running image nxt s.making refl) b)
