-- A core as it starts.
use Rattle.std.proofs.Common.{◌≡◌, ℕ, true, zero, suc, ◌<◌, ◌≤◌, List, [], ◌∷◌, if◌then◌else◌, Option, Some, None, IfSome, slice_get, sym, ap, subst, arith}
use Rattle.std.specs.List.{list_any}
use Rattle.sd_areas.specs.PlainMemory.{PlainMemory}
use Rattle.std.specs.Option.{option_map}
use Rattle.std.proofs.lemmas.Option.{same_Some}
use Rattle.sd_gate.specs.Requests.{Asked}
use Rattle.sd_journal.specs.declared.origin.Origin.{Origin}
use Rattle.sd_journal.specs.declared.origin.Origin.TheVariants as origins
use Rattle.sd_journal.specs.Allowed.{IsLastPair}
use Rattle.sd_journal.specs.History.{Base}
use Rattle.sd_journal.specs.Kept.{JournalView}
use Rattle.sd_journal.specs.Legal.{IsAbove}
use Rattle.sd_journal.specs.Marked.{Marked, entries_of, must_dump, is_of, is_opened}
use Rattle.sd_pagetable.specs.Contents.{Contents, plain_of}
use Rattle.sd_pagetable.specs.Tracking.{IsBeginning, clears, is_dirty, since, touches}
use Rattle.sd_core.specs.declared.numbers.Numbers.{Numbers}
use Rattle.sd_core.specs.Sound.{AreSoundNumbers, IsJournal}
use Rattle.sd_crash_safety.specs.LiveImages.{id_of, ids_of}
use Rattle.sd_core.specs.Starts.{nothing_asked, shown_base, started}
use Rattle.sd_core.proofs.OutsLemmas.{nobody_out}

-- in no lane was anything asked for
pub none_of : (lane : ℕ) (one : Asked) → slice_get nothing_asked lane ≡ Some (Some one) → ⊥
none_of lane one is = nobody_out lane one.id (id_there nothing_asked lane one is)
  where
    id_there : (asked : List (Option Asked)) (at : ℕ) (request : Asked) → slice_get asked at ≡ Some (Some request) → slice_get (ids_of asked) at ≡ Some (Some request.id)
    id_there [] at request is = absurd (let no : None ≡ Some (Some request) = is in cc)
    id_there (a ∷ asked) zero request is = ap (λ o. Some (option_map id_of o)) (same_Some a (Some request) is)
    id_there (a ∷ asked) (suc at) request is = id_there asked at request is

-- the base is the last pair of a journal without entries
pub base_is_last : (number : Option ℕ) (base : PlainMemory) → IsLastPair (record { number = number; memory = base; origin = origins.Opened; folded = 0 }) [] (shown_base number base)
base_is_last number base = grind arith

-- ---- its invariant

due_at_first : (base : Base) → base.origin ≡ origins.Opened → (space page : ℕ) → must_dump base [] space page ≡ true
due_at_first base opened space page =
    ap (λ (o : Origin). if is_opened o then is_dirty [] space page else list_any (touches space page) (since (clears space page) [])) opened

pub start_journal : (base : Base) (journal : JournalView) (memory : Contents) (number : Option ℕ) → base.origin ≡ origins.Opened → IsBeginning memory → plain_of memory ≡ base.memory → base.number ≡ number → base.folded ≡ 0
    → journal.items ≡ [] → journal.first ≡ 0 → journal.limit ≡ 1048576 → IsJournal base journal memory None number
start_journal base journal memory number opened begins same own none_folded items first limit = grind arith

pub begun_from : (number : Option ℕ) (numbers : Numbers) → numbers ≡ started number → IfSome number (λ n. n ≡ numbers.begun)
begun_from None numbers is = tt
begun_from (Some n) numbers is = sym (ap (λ (m : Numbers). m.begun) is)

pub start_numbers : (base : Base) (items : Marked) (number : Option ℕ) (numbers : Numbers) → base.number ≡ number → items ≡ [] → IfSome number (λ n. n ≡ numbers.begun)
    → numbers.checkpoint ≡ numbers.begun → numbers.serial ≡ 0 → numbers.given ≡ 0 → AreSoundNumbers base items None number numbers
start_numbers base items number numbers own none begun checkpoint serial given = record {
  used = λ n above. subst (λ all. IsAbove base (entries_of all) n) (sym none) (subst (λ b. IfSome b (λ own. own < n)) (sym own) (below number n begun above));
  newest_used = newest number begun;
  frozen_used = tt;
  marks = λ s above. ap (list_any (is_of s)) none;
  checkpoints = omega (arith, checkpoint);
  serials = omega (arith, serial, given);
}
  where
    below : (number : Option ℕ) (n : ℕ) → IfSome number (λ m. m ≡ numbers.begun) → numbers.begun < n → IfSome number (λ own. own < n)
    below None n is above = tt
    below (Some m) n is above = omega (arith, is, above)

    newest : (number : Option ℕ) → IfSome number (λ m. m ≡ numbers.begun) → IfSome number (λ m. m ≤ numbers.begun)
    newest number is = grind arith
