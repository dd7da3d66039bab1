-- A checkpoint is cancelled.
use Rattle.std.proofs.Common.{◌≡◌, ◌↔◌, ℕ, ◌+◌, true, false, List, ◌∷◌, length, Option, Some, None, IfSome, slice_get, refl, sym, ◌∙◌, ap, subst, inl, arith}
use Rattle.std.proofs.lemmas.List.Elements.{Contains-append_right}
use Rattle.sd_chain.specs.Catalog.{Opened, Places, place_of}
use Rattle.sd_gate.specs.Requests.{Asked}
use Rattle.sd_journal.specs.declared.entry.Entry.TheVariants.{Cancelled}
use Rattle.sd_journal.specs.Marked.{entries_of}
use Rattle.sd_store_laws.specs.Beliefs.{Belief}
use Rattle.sd_store_laws.specs.LiveImages.{IsLiveCatalog}
use Rattle.sd_store_laws.specs.Makers.{IsAboveStore}
use Rattle.sd_store_laws.specs.Needs.{NeedsNoMore}
use Rattle.sd_store_laws.specs.Steps.{cancelled}
use Rattle.sd_store_laws.specs.Store.{Store}
use Rattle.sd_crash_safety.specs.Believes.{Believes, HasStore}
use Rattle.sd_crash_safety.specs.CheckpointSteps.{CancellingIsBelieved, CancelsCheckpoint}
use Rattle.sd_crash_safety.specs.GateSteps.{GateSteps}
use Rattle.sd_crash_safety.specs.Knows.{SeesStore}
use Rattle.sd_crash_safety.specs.StoreSteps.{QuietSteps}
use Rattle.sd_crash_safety.specs.View.{CoreView, history_of}
use Rattle.sd_crash_safety.proofs.MergeStays.{LeavesMerge, holds_same, merge_then, slots_at}
use Rattle.sd_crash_safety.proofs.OpenCore.{HasParts, in_use_parts, merging_parts}
use Rattle.sd_crash_safety.proofs.Places.{free_there}

same_images : (old new : Places) (beliefs : List Belief) → ((serial : ℕ) (o : Opened) → place_of new serial ≡ Some (Some o) ↔ place_of old serial ≡ Some (Some o))
    → IsLiveCatalog old beliefs → IsLiveCatalog new beliefs
same_images old new beliefs same u = record {
  image = λ serial o at. u.image serial o ((same serial o).0 at);
  opened = λ slot i has. (let o = u.opened slot i has in (o.0, (same i.header.serial o.0).1 o.1, o.2, o.3));
}

above_idle : (store : Store) (number : ℕ) → IsAboveStore store number → IsAboveStore (cancelled store) number
above_idle store number is = record {
  serials = is.serials;
  stands = is.stands;
  parents = is.parents;
  jobs = λ asked member. is.jobs asked (Contains-append_right store.chain store.work asked member);
  source = is.source;
}

module _ (quiet : QuietSteps) (gates : GateSteps) (needs : NeedsNoMore) (old new : CoreView) (n : ℕ) (asked : List (Option Asked)) (bodies files : List (List ℕ))
    (s : CancelsCheckpoint old n new) (b : Believes old asked bodies files) where
  has_none : HasStore old.base (history_of old) old.phases asked bodies b.store None b.beliefs
  has_none = subst (λ d. HasStore old.base (history_of old) old.phases asked bodies b.store d b.beliefs) (b.knows.sure s.sure) b.has

  has_then : HasStore old.base (Cancelled n ∷ history_of old) old.phases asked bodies (cancelled b.store) None b.beliefs
  has_then = (gates old.base (Cancelled n ∷ history_of old) old.phases asked bodies).cancels b.store b.beliefs
      (quiet.cancelled old.base (history_of old) old.phases asked bodies b.store b.beliefs n has_none)

  parts : HasParts new old.base (Cancelled n ∷ history_of old) new.catalog false old.memory old.phases old.numbers.serial None old.merger
  parts = grind arith

  beside : LeavesMerge old.numbers.serial b.store old.dumper.running (slots_at old.phases bodies b.beliefs) old.numbers.serial (cancelled b.store) None (slots_at old.phases bodies b.beliefs)
  beside = record {
    count = refl;
    same = λ slot spared. record { phase = refl; body = refl; belief = refl };
    spares = λ slot spared. tt;
    last_is = omega arith;
    source = refl;
    work = refl;
    needs = λ slot i spared has needed. needs.cancels b.store i b.has.sound needed;
    still = λ source is. holds_same b.store.catalog source;
    makes = λ serial low other. tt;
    images = λ slot j has. inl has;
    opening = λ slot j opens. inl opens;
  }

  cancels_lem : Believes new asked bodies files
  cancels_lem = record {
    store = cancelled b.store;
    dump = None;
    beliefs = b.beliefs;
    has = subst (λ x. HasStore x (history_of new) new.phases asked bodies (cancelled b.store) None b.beliefs) (sym s.base)
        (subst (λ h. HasStore old.base h new.phases asked bodies (cancelled b.store) None b.beliefs) (sym (ap entries_of s.items))
        (subst (λ p. HasStore old.base (Cancelled n ∷ history_of old) p asked bodies (cancelled b.store) None b.beliefs) (sym s.phases) has_then));
    knows = record {
      count = b.knows.count ∙ ap length (sym s.phases);
      out = b.knows.out ∙ sym s.outs;
      sees = subst (λ o. IfSome o (SeesStore files new.phases asked)) (sym s.closed) tt;
      sure = λ is. refl;
      is_live = λ stands. in_use_parts new old.base (Cancelled n ∷ history_of old) new.catalog false old.memory old.phases old.numbers.serial None old.merger
          parts
          asked bodies files (cancelled b.store) None b.beliefs
          (let u = b.knows.is_live (sym s.standing ∙ stands) in record {
            catalog = same_images old.catalog new.catalog b.beliefs s.images u.catalog;
            grows_is = refl;
            used = record { above = above_idle b.store (old.numbers.serial + 1) u.used.above; slots = u.used.slots };
            exact = u.exact;
            writes = u.writes ∙ s.written;
            job = record {
              gives = λ grows. absurd (let no : false ≡ true = grows in cc);
              none = free_there asked 0 (ap (λ ids. slice_get ids 0) b.knows.out ∙ s.free);
              alone = refl;
              idle = refl;
            };
          });
      merging = λ stands. merging_parts new old.base (Cancelled n ∷ history_of old) new.catalog false old.memory old.phases old.numbers.serial None old.merger
          parts asked bodies files (cancelled b.store) None b.beliefs
          (let m = b.knows.merging (sym s.standing ∙ stands) in
          merge_then old.numbers.serial b.store old.dumper.running (slots_at old.phases bodies b.beliefs) old.numbers.serial (cancelled b.store) None (slots_at old.phases bodies b.beliefs)
          beside asked asked refl old.merger m.spelled m);
    };
  }

pub cancelling_lem : QuietSteps → GateSteps → NeedsNoMore → CancellingIsBelieved
cancelling_lem quiet gates needs old new n asked bodies files s b = cancels_lem quiet gates needs old new n asked bodies files s b
