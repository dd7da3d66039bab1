-- A store that was read is believed to show what it shows.
use Rattle.std.proofs.Common.{◌≡◌, ℕ, suc, List, [], ◌∷◌, drop, length, map, None, IfSome, refl, sym, ◌∙◌, ap, subst}
use Rattle.sd_gate.specs.Laws.{found_phase}
use Rattle.sd_store_laws.specs.GateSteps.{FilesAreBelieved, FoundIsExact}
use Rattle.sd_store_laws.specs.LiveImages.{CatalogIsFound}
use Rattle.sd_crash_safety.proofs.FoundLive.{found_in_use, found_merging}
use Rattle.sd_store_laws.specs.Gates.{AreBelieved}
use Rattle.sd_store_laws.specs.Opens.{OpenedIsSound}
use Rattle.sd_store_laws.specs.SlotSteps.{SlotsAreFound}
use Rattle.sd_store_laws.specs.Steps.{found_store}
use Rattle.sd_crash_safety.specs.Knows.{SeesStore}
use Rattle.sd_crash_safety.specs.Laws.{FoundIsBelieved}

same_count : (files : List (List ℕ)) → length (map (drop {A = ℕ} 1) files) ≡ length (map found_phase files)
same_count [] = refl
same_count (file ∷ files) = ap suc (same_count files)

count_found : (files : List (List ℕ)) → length files ≡ length (map found_phase files)
count_found [] = refl
count_found (file ∷ files) = ap suc (count_found files)

pub found_lem : FilesAreBelieved → FoundIsExact → CatalogIsFound → OpenedIsSound → SlotsAreFound → FoundIsBelieved
found_lem files_are exact catalog_is is_sound slots_are core asked files shown phases closed none out open_as shows last =
    let slots = slots_are files shows.images shows.store in
    record {
      store = found_store shows.images;
      dump = None;
      beliefs = slots.0;
      has = record {
        sound = is_sound files shows.images shows.store;
        slots = slots.2;
        believed = subst (λ all. AreBelieved all (map (drop {A = ℕ} 1) files) slots.0) (sym phases) (files_are files slots.0 slots.1);
        stored = same_count files ∙ ap length (sym phases);
        waiting = λ worker request out. absurd (none worker request out);
        last = record { shown = shown; is = last; shows = shows.newest };
        next = tt;
      };
      knows = record {
        count = count_found files ∙ ap length (sym phases);
        out = out;
        sees = subst (λ opener. IfSome opener (SeesStore files core.phases asked)) (sym closed) tt;
        sure = λ is. refl;
        is_live = λ is. found_in_use exact catalog_is core asked files shows.images slots.0 phases none out (open_as is) slots.1 slots.2;
        merging = λ is. found_merging core asked files shows.images slots.0 out (open_as is) slots.1 slots.2;
      };
    }
