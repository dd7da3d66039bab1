-- Which page is next, and where the catalog has it.
use Rattle.std.proofs.Common.{◌≡◌, Bool, true, false, IsTrue, ℕ, ◌+◌, ◌*◌, ◌<◌, ◌≤◌, ◌^◌, Option, Some, None, Contains, refl, sym, ◌∙◌, ap, subst, inl, inr, arith}
use Rattle.std.proofs.lemmas.List.Elements.{All-contains}
use Rattle.sd_image.specs.declared.run.RunKind.TheVariants.{Data}
use Rattle.sd_image.specs.Laws.{FewPages}
use Rattle.sd_image.specs.Shows.{pages_of}
use Rattle.sd_image.specs.Table.{IsTable}
use Rattle.sd_chain.specs.declared.found.Found.{Found}
use Rattle.sd_chain.specs.declared.found.Found.TheVariants as found
use Rattle.sd_chain.specs.Catalog.{IsSoundCatalog, Opened, Places, images, place_of}
use Rattle.sd_chain.specs.Passes.{IsAfterPlace, IsNextPageOfImage}
use Rattle.sd_chain.specs.Ways.{AreImages, LiesAt, LiesBySerial}
use Rattle.sd_merge.proofs.LeftLemmas.{within_list}
use Rattle.sd_merge.proofs.MergingLemmas.{no_zero, offsets}
use Rattle.sd_gate.specs.Sequences.{data_place}
use Rattle.sd_writing.specs.Entries.{Place, last_of}
use Rattle.sd_merge.specs.declared.merge_step.MergeStep.{MergeStep}
use Rattle.sd_merge.specs.declared.stage.Stage.TheVariants.{Pass as PassStage}
use Rattle.sd_gate.specs.declared.worker.Worker.TheVariants.{Merger}
use Rattle.sd_gate.specs.PlanUse.{IsAskedBy}
use Rattle.sd_merge.specs.Copying.{Copying, IsLost, IsNextAt, ReadsPage, Steps, TakesZero, WritesTable, cursor}
use Rattle.sd_merge.specs.PlanSteps.{IsReadCallOf, IsTableCallOf, IsZeroStep}

-- ---- where a page lies

-- it has one of the numbers that an image's data pages have
abbrev HasNumber : ℕ → Type 0
HasNumber offset = (place : ℕ) × (offset ≡ data_place place) × (place < 2 ^ 39)

numbered_at : FewPages → (places : Places) → AreImages places → (page : ℕ × ℕ) (slot offset : ℕ) (there : Found) (i : Opened) → there ≡ found.Data slot offset
    → Contains (images places) i → LiesAt places page there i → HasNumber offset
numbered_at few places are page slot offset there _ is member (LiesAt.by_data i place has e) =
    let table : IsTable i.header i.spaces = All-contains (λ (i : Opened). IsTable i.header i.spaces) (images places) i are.tables member in
    let within = within_list (pages_of Data i.spaces) place page has in
    let most = few i.header i.spaces Data table in
    (place, offsets slot offset i.slot (4096 + 4096 * place) (sym is ∙ e), omega (arith, within, most))
numbered_at few places are page slot offset there _ is member (LiesAt.by_zero i has e) = absurd (no_zero slot offset (sym is ∙ e))
numbered_at few places are page slot offset there _ is member (LiesAt.by_parent i parent has names lies) =
    numbered_at few places are page slot offset there parent is names.member lies

numbered : FewPages → (places : Places) → IsSoundCatalog places → AreImages places → (serial : ℕ) (page : ℕ × ℕ) (slot offset : ℕ) → LiesBySerial places serial page (found.Data slot offset) → HasNumber offset
numbered few places sound are serial page slot offset lies =
    numbered_at few places are page slot offset (found.Data slot offset) lies.0 refl (sound.member serial lies.0 lies.1) lies.2

-- ---- the next page

-- a page that is next is after the last
next_behind : (places : Places) (serial : ℕ) (after : Option Place) (at : Place) → IsNextPageOfImage places serial after (Some at) → IsAfterPlace after at
next_behind places serial after at next = by (place_of places serial) refl
  where
    some_none : true ≡ false → ⊥
    some_none e = cc

    by : (there : Option (Option Opened)) → place_of places serial ≡ there → IsAfterPlace after at
    by (Some (Some i)) e = (next.0 i e).behind
    by (Some None) e = absurd (some_none (next.1 (λ i f. absurd (let g : ◌≡◌ {A = Option (Option Opened)} (Some None) (Some (Some i)) = sym e ∙ f in cc))))
    by None e = absurd (some_none (next.1 (λ i f. absurd (let g : ◌≡◌ {A = Option (Option Opened)} None (Some (Some i)) = sym e ∙ f in cc))))

-- what was asked of the catalog, as it is seen
pub next_of : (places : Places) (inside old : Copying) (after next : Option Place) → inside ≡ old → after ≡ last_of None inside.entries
    → IsNextPageOfImage places inside.order.source.serial after next → IsNextPageOfImage places old.order.source.serial (cursor old) next
next_of places inside old after next is last page = grind arith

-- ---- the steps

pub zero_step : (ticket : ℕ) (places : Places) (old new : Copying) (step : MergeStep) (at : Place) → (AreImages places → IsNextAt places old at found.Zero)
    → IsZeroStep step × TakesZero at old new → Steps ticket places old step new
zero_step ticket places old new step at next is = grind arith

pub read_step : (ticket : ℕ) (places : Places) (old new : Copying) (step : MergeStep) (at : Place) (slot place : ℕ) → (AreImages places → IsNextAt places old at (found.Data slot (data_place place)))
    → IsReadCallOf (λ request. ReadsPage at slot place old request new × IsAskedBy Merger ticket request) step → Steps ticket places old step new
read_step ticket places old new step at slot place next is = grind arith

pub table_step : (ticket : ℕ) (places : Places) (old new : Copying) (step : MergeStep) → (AreImages places → IsNextPageOfImage places old.order.source.serial (cursor old) None)
    → IsTableCallOf (λ request. WritesTable places old request new × IsAskedBy Merger ticket request) step → Steps ticket places old step new
table_step ticket places old new step over is = grind arith

-- where the page lies, by the number of its data page
pub placed : FewPages → (places : Places) → IsSoundCatalog places → (old : Copying) (at : Place) (slot offset place : ℕ) → ((number : ℕ) → offset ≡ data_place number → place ≡ number)
    → IsNextPageOfImage places old.order.source.serial (cursor old) (Some at) → AreImages places → LiesBySerial places old.order.source.serial at (found.Data slot offset)
    → IsNextAt places old at (found.Data slot (data_place place))
placed few places sound old at slot offset place own next are lies =
    let n = numbered few places sound are old.order.source.serial at slot offset lies in
    record {
      next = next;
      lies = subst (λ k. LiesBySerial places old.order.source.serial at (found.Data slot k)) (n.1 ∙ ap data_place (sym (own n.0 n.1))) lies;
    }

-- ---- what is lost

pub lost_ahead : (places : Places) (old : Copying) (at : Place) → old.stage ≡ PassStage → old.taking ≡ None
    → (AreImages places → IsNextPageOfImage places old.order.source.serial (cursor old) (Some at)) → old.ahead ≡ 0 → IsLost places old
lost_ahead places old at stage free next none = record {
  stage = stage;
  free = free;
  why = λ are. inr (at, record { next = next are; lost = inl none });
}

pub lost_behind : (places : Places) (old : Copying) (at : Place) (tested : Bool) → old.stage ≡ PassStage → old.taking ≡ None
    → (AreImages places → IsNextPageOfImage places old.order.source.serial (cursor old) (Some at)) → (IsAfterPlace (cursor old) at → IsTrue tested) → tested ≡ false → IsLost places old
lost_behind places old at tested stage free next test off = grind arith

pub lost_chain : (places : Places) (old : Copying) (at : Place) → old.stage ≡ PassStage → old.taking ≡ None
    → (AreImages places → IsNextPageOfImage places old.order.source.serial (cursor old) (Some at))
    → (AreImages places → (there : Found) → LiesBySerial places old.order.source.serial at there → ⊥) → IsLost places old
lost_chain places old at stage free next none = record {
  stage = stage;
  free = free;
  why = λ are. inr (at, record { next = next are; lost = inr (none are) });
}

-- a page of the catalog is never beyond the numbers that a data page has
pub never_beyond : FewPages → (places : Places) → IsSoundCatalog places → (old : Copying) (at : Place) (slot offset place : ℕ) → old.stage ≡ PassStage → old.taking ≡ None
    → ((number : ℕ) → offset ≡ data_place number → place ≡ number)
    → (AreImages places → LiesBySerial places old.order.source.serial at (found.Data slot offset)) → 2 ^ 39 ≤ place → IsLost places old
never_beyond few places sound old at slot offset place stage free own lies beyond = record {
  stage = stage;
  free = free;
  why = λ are. let n = numbered few places sound are old.order.source.serial at slot offset (lies are) in absurd (let e : place ≡ n.0 = own n.0 n.1 in let l = n.2 in omega (arith, l));
}

pub never_there : (result : Option Found) (there : Found) → result ≡ None → result ≡ Some there → ⊥
never_there result there none some = (let e : ◌≡◌ {A = Option Found} None (Some there) = sym none ∙ some in cc)
