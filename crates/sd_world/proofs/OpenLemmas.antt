-- Slots that are synced and looked at, one after the other.
use Rattle.std.proofs.Common.{◌≡◌, ℕ, ◌+◌, ◌<◌, List, [], length, Some, None, slice_get, replicate, zero, suc, sym, subst, arith}
use Rattle.std.proofs.lemmas.List.{ext_get_or}
use Rattle.std.proofs.lemmas.Option.{same_Some}
use Rattle.sd_areas.specs.PlainMemory.{PlainMemory}
use Rattle.sd_disk.specs.Contents.{file_at}
use Rattle.sd_disk.specs.Crash.{OnlyAt, Within}
use Rattle.sd_gate.specs.Requests.{Asked, Made}
use Rattle.sd_world.specs.declared.kept.Kept.{Kept}
use Rattle.sd_world.specs.declared.kept.Kept.TheVariants.{Nothing, Outcome}
use Rattle.sd_world.specs.Consistent.{AreInPlace}
use Rattle.sd_world.specs.View.{asked_of, nothing_kept}
use Rattle.sd_world.specs.declared.open_fault.OpenFault.{OpenFault}
use Rattle.sd_world.specs.Opens.{AreSynced, IsFaultOf, IsLackOf}

-- one slot more is synced
pub synced_more : (contents : List (List ℕ)) (slot : ℕ) (old new : List (List ℕ) → Type 0) → AreSynced slot contents old → Within new old
    → OnlyAt slot (file_at contents slot) new → AreSynced (slot + 1) contents new
synced_more contents slot old new before crash now other within c may = grind arith

-- or by memory alone
pub fault_of_want : (contents : List (List ℕ)) (before now frames : ℕ) (memory : PlainMemory) (fault : OpenFault) → IsLackOf frames memory fault
    → IsFaultOf contents before now fault
fault_of_want contents before now frames memory fault is = grind arith

-- ---- a world in which nothing is out

at_replicate : (count : ℕ) (lane : ℕ) (k : Kept) → slice_get (replicate count Nothing) lane ≡ Some k → k ≡ Nothing
at_replicate zero lane k at = absurd (let no : None ≡ Some k = at in cc)
at_replicate (suc count) zero k at = same_Some k Nothing (sym at)
at_replicate (suc count) (suc lane) k at = at_replicate count lane k at

nothing_out : (lane : ℕ) (k : Kept) (request : Asked) → slice_get nothing_kept lane ≡ Some k → asked_of k ≡ Some request → ⊥
nothing_out lane k request at has = grind arith

pub nobody_places : (slots : ℕ) → AreInPlace nothing_kept slots
nobody_places slots = grind arith

pub nothing_made : (lane : ℕ) (made : Made) → slice_get nothing_kept lane ≡ Some (Outcome made) → ⊥
nothing_made lane made at = grind arith

-- where every slot was synced, a crash leaves the contents
pub all_synced : (contents c : List (List ℕ)) (may_leave : List (List ℕ) → Type 0) → AreSynced (length contents) contents may_leave
    → length c ≡ length contents → may_leave c → c ≡ contents
all_synced contents c may_leave synced count may = ext_get_or [] c contents count (λ slot within. synced slot (subst (λ n. slot < n) count within) c may)
