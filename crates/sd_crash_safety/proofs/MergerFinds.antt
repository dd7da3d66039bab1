-- The source of a merge is always there to be read.
use Rattle.std.proofs.Common.{◌≡◌, ℕ, List, Option, Some, Contains, sym, ◌∙◌, ap, subst, inl}
use Rattle.sd_image.specs.Image.{Image}
use Rattle.sd_image.proofs.Members.{contains_at}
use Rattle.sd_chain.specs.Catalog.{Places}
use Rattle.sd_chain.specs.Recorded.{CatalogLists}
use Rattle.sd_gate.specs.Requests.{Asked}
use Rattle.sd_merge.specs.Copying.{Copying, IsLost}
use Rattle.sd_merge.specs.Merger.{copying}
use Rattle.sd_merge.specs.Merger as merger
use Rattle.sd_merge.specs.Merging.{IsSourceAt, MergeLaws}
use Rattle.sd_store_laws.specs.Beliefs.{Kept}
use Rattle.sd_store_laws.specs.LiveImages.{IsLiveCatalog}
use Rattle.sd_crash_safety.specs.declared.standing.Standing.TheVariants.{Open}
use Rattle.sd_crash_safety.specs.Believes.{Believes}
use Rattle.sd_crash_safety.specs.Merges.{IsCopyOfSource, IsMergeAt, IsMergeOn}
use Rattle.sd_crash_safety.specs.View.{CoreView}
use Rattle.sd_crash_safety.proofs.MergerSource.{KnowsCatalog, source_in}

-- so no page of it is lost
pub finds_lem : MergeLaws → (places : Places) → KnowsCatalog places → (core : CoreView) (merge : merger.Running) (made : Copying) (asked : List (Option Asked)) (bodies files : List (List ℕ))
    → core.catalog ≡ places → core.standing ≡ Open → core.merger ≡ Some merge → merge.doing ≡ copying made → Believes core asked bodies files → IsLost places made → ⊥
finds_lem merge_laws places knows core merge made asked bodies files its_catalog stands was doing b lost =
    let k : IsCopyOfSource core.phases asked bodies core.numbers.serial b.store b.beliefs core.dumper.running merge.slot merge.source made =
    subst (IsMergeAt core.phases asked bodies core.numbers.serial b.store b.beliefs core.dumper.running merge.slot merge.source) doing
    (subst (λ m. IsMergeOn core.phases asked bodies core.numbers.serial b.store b.beliefs core.dumper.running m) was (b.knows.merging stands).is) in
    let x = k.repeats.source in
    let source : Image = k.repeats.image in
    let there : Contains b.store.catalog source = (b.has.slots.catalog source).1 (inl (contains_at b.beliefs x.slot (Kept source) x.kept)) in
    let told : CatalogLists places b.store.catalog = knows.tells b.store b.dump b.beliefs b.has.slots (subst (λ p. IsLiveCatalog p b.beliefs) its_catalog (b.knows.is_live stands).catalog) in
    let at : IsSourceAt places b.store.catalog made.order.source.serial source = subst (λ n. IsSourceAt places b.store.catalog n source) (sym x.serial ∙ ap (λ o. o.serial) (sym k.order.0))
    (source_in places knows b.store.catalog (b.knows.merging stands).spelled b.has.sound.fall told source there) in
    merge_laws.finds places b.store.catalog source k.copy.pages made at x.held k.copy.keeps lost
