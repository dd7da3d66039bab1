-- What is believed goes by the pairs of a journal, and these are the same once its front is folded.
use Rattle.std.proofs.Common.{◌≡◌, ℕ, Bool, List, ◌++◌, Option, Some, None, IfSome, ◌∙◌, ap, subst, arith}
use Rattle.sd_gate.specs.declared.phase.Phase.{Phase}
use Rattle.sd_gate.specs.Requests.{Asked}
use Rattle.sd_image.specs.Image.{Image}
use Rattle.sd_chain.specs.Catalog.{Places}
use Rattle.sd_journal.specs.History.{Base, History}
use Rattle.sd_journal.specs.Legal.{IsLegal}
use Rattle.sd_journal.specs.Marked.{Marked, entries_of}
use Rattle.sd_journal.specs.Trimming.{IsEnded, IsFolded, MarkedTrimLaws, TrimLaws, base_after}
use Rattle.sd_pagetable.specs.Contents.{Contents, plain_of}
use Rattle.sd_rounds.specs.Dumper.{Running}
use Rattle.sd_rounds.specs.Keeps.{Chain}
use Rattle.sd_rounds.specs.Making.{Making}
use Rattle.sd_writing.specs.Files.{Pages}
use Rattle.sd_store_laws.specs.Beliefs.{Belief}
use Rattle.sd_store_laws.specs.Store.{Store}
use Rattle.sd_crash_safety.specs.Believes.{Believes, HasStore, ShowsLast, ShowsPending}
use Rattle.sd_crash_safety.specs.LiveImages.{IsAtWork, IsFrozenAs, IsImageOn, IsLiveOn, IsMakingOn, chain_of}
use Rattle.sd_crash_safety.specs.Trims.{trimmed}
use Rattle.sd_crash_safety.specs.View.{CoreView, history_of}

module _ (laws : TrimLaws) (base : Base) (kept folded : History) (n : ℕ) (legal : IsLegal base (kept ++ folded)) (ended : IsEnded n folded) where
  shows_last : (images : List Image) → ShowsLast base (kept ++ folded) images → ShowsLast (base_after base n folded) kept images
  shows_last images s = record { shown = s.shown; is = (laws.last_pair base kept folded n s.shown legal ended).1 s.is; shows = s.shows }

  shows_pending : (images : List Image) → ShowsPending base (kept ++ folded) images → ShowsPending (base_after base n folded) kept images
  shows_pending images s = record { shown = s.shown; is = (laws.pending_pair base kept folded n s.shown legal ended).1 s.is; shows = s.shows }

  next_shown : (images : Image → List Image) (dump : Option Image) → IfSome dump (λ image. ShowsPending base (kept ++ folded) (images image))
      → IfSome dump (λ image. ShowsPending (base_after base n folded) kept (images image))
  next_shown images dump s = grind arith

  frozen_as : (number : ℕ) (memory : Contents) (pages : Pages) (chain : Chain) (image : Making) → IsFrozenAs base (kept ++ folded) number memory pages chain image
      → IsFrozenAs (base_after base n folded) kept number memory pages chain image
  frozen_as number memory pages chain image f =
      let pair = (laws.pending_pair base kept folded n (Some (number, plain_of f.cut)) legal ended).1 (f.pends, f.shown) in
      record { cut = f.cut; pends = pair.0; shown = pair.1; still = f.still; dumps = f.dumps; areas = f.areas }

  module _ (memory : Contents) (phases : List Phase) (asked : List (Option Asked)) (bodies : List (List ℕ)) (last : ℕ) (store : Store) (dump : Option Image)
      (beliefs : List Belief) where
    pub has_store : HasStore base (kept ++ folded) phases asked bodies store dump beliefs → HasStore (base_after base n folded) kept phases asked bodies store dump beliefs
    has_store h = grind arith

    making_on : (parent number : ℕ) (image : Making) → IsMakingOn base (kept ++ folded) memory phases asked bodies last store dump beliefs parent number image
        → IsMakingOn (base_after base n folded) kept memory phases asked bodies last store dump beliefs parent number image
    making_on parent number image m = record {
      pages = m.pages;
      keeps = m.keeps;
      files = m.files;
      frozen = λ is. frozen_as number memory m.pages (chain_of store parent) image (m.frozen is);
      serial = m.serial;
      fresh = m.fresh;
      low = m.low;
      others = m.others;
      phase = m.phase;
      phase_is = m.phase_is;
      belief = m.belief;
      belief_is = m.belief_is;
      request = m.request;
      own = m.own;
      asked_at = m.asked_at;
      rests = m.rests;
      writing = m.writing;
      slot_is = m.slot_is;
    }

    image_on : (parent number : ℕ) (image : Option Making) → IsImageOn base (kept ++ folded) memory phases asked bodies last store dump beliefs parent number image
        → IsImageOn (base_after base n folded) kept memory phases asked bodies last store dump beliefs parent number image
    image_on parent number None i = i
    image_on parent number (Some image) i = making_on parent number image i

    at_work : (grows : Bool) (running : Option Running) → IsAtWork base (kept ++ folded) grows memory phases asked bodies last store dump beliefs running
        → IsAtWork (base_after base n folded) kept grows memory phases asked bodies last store dump beliefs running
    at_work grows None w = w
    at_work grows (Some running) w = record {
      some = w.some;
      chain = w.chain;
      newest = w.newest;
      within = w.within;
      unneeded = w.unneeded;
      apart = w.apart;
      image = image_on running.parent running.number running.image w.image;
    }

    pub in_use_on : (places : Places) (grows : Bool) (running : Option Running) → IsLiveOn base (kept ++ folded) places grows memory phases asked bodies last store dump beliefs running
        → IsLiveOn (base_after base n folded) kept places grows memory phases asked bodies last store dump beliefs running
    in_use_on places grows running u = record {
      catalog = u.catalog;
      grows_is = u.grows_is;
      used = u.used;
      exact = u.exact;
      writes = u.writes;
      job = at_work grows running u.job;
    }

pub believes_trimmed : TrimLaws → MarkedTrimLaws → (core : CoreView) (n : ℕ) (kept folded : Marked) (asked : List (Option Asked)) (bodies files : List (List ℕ))
    → core.items ≡ kept ++ folded → IsLegal core.base (history_of core) → IsFolded n folded
    → Believes core asked bodies files → Believes (trimmed core n kept folded) asked bodies files
believes_trimmed laws marks core n kept folded asked bodies files parts was f b =
    let all : history_of core ≡ entries_of kept ++ entries_of folded = ap entries_of parts ∙ marks.entries kept folded in
    let legal : IsLegal core.base (entries_of kept ++ entries_of folded) = subst (IsLegal core.base) all was in
    record {
      store = b.store;
      dump = b.dump;
      beliefs = b.beliefs;
      has = has_store laws core.base (entries_of kept) (entries_of folded) n legal f.ended core.memory core.phases asked bodies core.numbers.serial b.store b.dump b.beliefs
          (subst (λ h. HasStore core.base h core.phases asked bodies b.store b.dump b.beliefs) all b.has);
      knows = record {
        count = b.knows.count;
        out = b.knows.out;
        sees = b.knows.sees;
        sure = b.knows.sure;
        is_live = λ stands. in_use_on laws core.base (entries_of kept) (entries_of folded) n legal f.ended core.memory core.phases asked bodies core.numbers.serial b.store b.dump b.beliefs
            core.catalog core.grows core.dumper.running
            (subst (λ h. IsLiveOn core.base h core.catalog core.grows core.memory core.phases asked bodies core.numbers.serial b.store b.dump b.beliefs core.dumper.running) all
            (b.knows.is_live stands));
        merging = b.knows.merging;
      };
    }
