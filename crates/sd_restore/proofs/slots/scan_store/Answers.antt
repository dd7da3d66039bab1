use Rattle.std.proofs.Common.{rules, List, ℕ, inl}
use Rattle.sd_restore.specs.Faulty.{FaultNames, IsFirstFaulty}
use Rattle.sd_restore.proofs.GoodLemmas.{no_damage}
use Rattle.sd_restore.proofs.ScanLemmas.{names_more}
use Rattle.sd_restore.proofs.slots.scan_store.Goals as goal

pub returns-in_err-scanned-clause-good : goal.returns-in_err-scanned-clause-good
returns-in_err-scanned-clause-good g c = λ honest images store.
    let contents : List (List ℕ) = g.D.Disk.contents c.args.disk.now in
    let named : FaultNames (λ slot reason. ⊥) c.in_err-scanned.field-0.0 =
    names_more (IsFirstFaulty contents) (λ slot reason. ⊥) c.in_err-scanned.field-0.0
    (λ slot reason is. no_damage c.good_store_has_no_reason.ensures c.one_image.ensures contents images slot reason store (inl is)) (c.in_err-scanned.ensures.faulty honest) in
    search rules
