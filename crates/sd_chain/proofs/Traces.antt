-- What following a page comes to, by the one way in which each table has it.
use Rattle.std.proofs.Common.{◌≡◌, ◌⊎◌, ◌<◌, ◌+◌, ◌*◌, ◌-◌, ◌^◌, ℕ, min, Contains, Some, None, refl, sym, ◌∙◌, ap, subst, inl, inr, arith}
use Rattle.std.specs.Prelude.{◌↔◌}
use Rattle.std.proofs.lemmas.List.Elements.{All-contains}
use Rattle.std.proofs.lemmas.Option.{none-some, same_Some, slice_get_within}
use Rattle.sd_image.specs.declared.run.RunKind.TheVariants.{Data}
use Rattle.sd_image.specs.Laws.{FewPages}
use Rattle.sd_image.specs.Table.{IsTable}
use Rattle.sd_image.specs.Shows.{pages_of}
use Rattle.sd_chain.specs.declared.found.Found.{Found}
use Rattle.sd_chain.specs.declared.found.Found.TheVariants as found
use Rattle.sd_chain.specs.declared.trace.Trace.{Trace}
use Rattle.sd_chain.specs.declared.trace.Trace.TheVariants as trace
use Rattle.sd_chain.specs.declared.way.Way.{Way}
use Rattle.sd_chain.specs.declared.way.Way.TheVariants as way
use Rattle.sd_chain.specs.Catalog.{Opened, Places, place_of, images, Names}
use Rattle.sd_chain.specs.Ways.{HasPage, LiesAt, by_data, by_zero, by_parent, LiesBySerial, BreaksAt, here, beyond, IsUnlisted, IsTraceOf, found_in, AreImages}
use Rattle.sd_chain.specs.Chains.{IsTraced}
use Rattle.sd_chain.proofs.Ways.{IsExact}
use Rattle.sd_chain.proofs.Lies.{never_lies, data_lies, zero_lies, parent_lies, IsResolved}

-- The walk that began at one image has come to another; it comes to this where that one doesn't list the page.
pub record IsWalked (places : Places) (page : ℕ × ℕ) (start i : Opened) (unlisted : Trace) : Type 0 where
  pub member : Contains (images places) i
  pub never : (there : Found) → unlisted ≡ trace.Found there → ⊥
  pub found : (there : Found) → LiesAt places page there start ↔ LiesAt places page there i
  pub broken : (slot : ℕ) → BreaksAt places page slot start ↔ ((IsUnlisted page i × (unlisted ≡ trace.Broken slot)) ⊎ BreaksAt places page slot i)
  pub absent : IsUnlisted page start ↔ (IsUnlisted page i × (unlisted ≡ trace.Absent))

found_is_no_absence : (there : Found) → trace.Found there ≡ trace.Absent → ⊥
found_is_no_absence there e = absurd cc

found_is_no_break : (there : Found) (slot : ℕ) → trace.Found there ≡ trace.Broken slot → ⊥
found_is_no_break there slot e = absurd cc

break_is_no_absence : (slot : ℕ) → trace.Broken slot ≡ trace.Absent → ⊥
break_is_no_absence slot e = absurd cc

break_is_not_found : (slot : ℕ) (there : Found) → trace.Broken slot ≡ trace.Found there → ⊥
break_is_not_found slot there e = absurd cc

absence_is_no_find : (there : Found) → trace.Absent ≡ trace.Found there → ⊥
absence_is_no_find there e = absurd cc

same_break : (slot other : ℕ) → trace.Broken slot ≡ trace.Broken other → slot ≡ other
same_break slot other e = cc

same_find : (there other : Found) → trace.Found there ≡ trace.Found other → there ≡ other
same_find there other e = cc

has_parent : (places : Places) (page : ℕ × ℕ) (slot : ℕ) (i : Opened) → BreaksAt places page slot i → HasPage i.spaces page way.Parent
has_parent places page slot i (here _ has none is) = has
has_parent places page slot i (beyond _ parent has named breaks) = has

pub walk_begins : (places : Places) (page : ℕ × ℕ) (i : Opened) → Contains (images places) i → IsWalked places page i i trace.Absent
walk_begins places page i member = grind arith

-- ---- an image that doesn't list the page

pub ends_unlisted : (places : Places) (page : ℕ × ℕ) (start i : Opened) (unlisted : Trace) → IsWalked places page start i unlisted → IsExact i.spaces page None → IsTraceOf places page start unlisted
ends_unlisted places page start i unlisted walk exact =
    let none : IsUnlisted page i = λ w has. none-some w ((exact w).1 has) in
    record {
      found = λ there. (
        λ e. absurd (walk.never there e),
        λ lies. absurd (never_lies places page there i none ((walk.found there).0 lies)),
      );
      broken = λ slot. (
        λ e. (walk.broken slot).1 (inl (none, e)),
        λ breaks. elim ((walk.broken slot).0 breaks) [ inl x ↦ x.1 | inr b ↦ absurd (none way.Parent (has_parent places page slot i b)) ],
      );
      absent = (λ e. walk.absent.1 (none, e), λ unlisted. (walk.absent.0 unlisted).1);
    }

-- ---- an image that has it itself

pub ends_found : (places : Places) (page : ℕ × ℕ) (start i : Opened) (unlisted : Trace) (w : Way) (there : Found) → IsWalked places page start i unlisted
    → HasPage i.spaces page w → (HasPage i.spaces page way.Parent → ⊥) → LiesAt places page there i → ((other : Found) → LiesAt places page other i → other ≡ there)
    → IsTraceOf places page start (trace.Found there)
ends_found places page start i unlisted w there walk has other lies only = grind (arith, same_find, found_is_no_break, has_parent, found_is_no_absence)

pub ends_with_data : FewPages → (places : Places) (page : ℕ × ℕ) (start i : Opened) (unlisted : Trace) (place offset : ℕ) → IsTable i.header i.spaces
    → IsWalked places page start i unlisted → IsExact i.spaces page (Some (way.Data place))
    → offset ≡ min (min (place * 4096) (2 ^ 64 - 1) + 4096) (2 ^ 64 - 1) → IsTraceOf places page start (trace.Found (found.Data i.slot offset))
ends_with_data few places page start i unlisted place offset table walk exact sum =
    let has : HasPage i.spaces page (way.Data place) = (exact (way.Data place)).0 refl in
    let within = slice_get_within (pages_of Data i.spaces) place page has in
    let room = few i.header i.spaces Data table in
    let plain : offset ≡ 4096 + 4096 * place = omega (arith, sum, within, room) in
    let is : found.Data i.slot offset ≡ found.Data i.slot (4096 + 4096 * place) = ap (found.Data i.slot) plain in
    ends_found places page start i unlisted (way.Data place) (found.Data i.slot offset) walk has
    (λ parent. let e = same_Some (way.Data place) way.Parent ((exact way.Parent).1 parent) in absurd cc)
    (by_data i place has is) (λ other lies. data_lies places page other i place exact lies ∙ sym is)

pub ends_with_zero : (places : Places) (page : ℕ × ℕ) (start i : Opened) (unlisted : Trace) → IsWalked places page start i unlisted → IsExact i.spaces page (Some way.Zero)
    → IsTraceOf places page start (trace.Found found.Zero)
ends_with_zero places page start i unlisted walk exact =
    let has : HasPage i.spaces page way.Zero = (exact way.Zero).0 refl in
    ends_found places page start i unlisted way.Zero found.Zero walk has
    (λ parent. let e = same_Some way.Zero way.Parent ((exact way.Parent).1 parent) in absurd cc)
    (by_zero i has refl) (λ other lies. zero_lies places page other i exact lies)

-- ---- an image that has it in its parent

pub ends_without_parent : (places : Places) (page : ℕ × ℕ) (start i : Opened) (unlisted : Trace) → AreImages places → IsWalked places page start i unlisted
    → IsExact i.spaces page (Some way.Parent) → (i.header.parent < i.header.stands_for → (p : Opened) → Names places i.header.parent p → ⊥)
    → IsTraceOf places page start (trace.Broken i.slot)
ends_without_parent places page start i unlisted good walk exact no_parent =
    let has : HasPage i.spaces page way.Parent = (exact way.Parent).0 refl in
    let none : (p : Opened) → Names places i.header.parent p → ⊥ =
    no_parent (All-contains (λ (k : Opened). k.header.parent < k.header.stands_for) (images places) i good.fall walk.member) in
    record {
      found = λ there. (
        λ e. absurd (break_is_not_found i.slot there e),
        λ lies. let more = parent_lies places page there i exact ((walk.found there).0 lies) in absurd (none more.0 more.1),
      );
      broken = λ slot. (
        λ e. (walk.broken slot).1 (inr (here i has (λ p named. absurd (none p named)) (sym (same_break i.slot slot e)))),
        λ breaks. elim ((walk.broken slot).0 breaks) [ inl x ↦ absurd (x.0 way.Parent has) | inr b ↦ ap trace.Broken (slot_of b) ],
      );
      absent = (λ e. absurd (break_is_no_absence i.slot e), λ gone. absurd ((walk.absent.0 gone).0 way.Parent has));
    }
  where
    slot_of : {slot : ℕ} → BreaksAt places page slot i → i.slot ≡ slot
    slot_of (here _ has never is) = sym is
    slot_of (beyond _ parent has named breaks) =
        absurd (no_parent (All-contains (λ (k : Opened). k.header.parent < k.header.stands_for) (images places) i good.fall walk.member) parent named)

pub walk_goes_on : (places : Places) (page : ℕ × ℕ) (start i parent : Opened) (unlisted : Trace) → ((p q : Opened) → Names places i.header.parent p → Names places i.header.parent q → p ≡ q)
    → IsWalked places page start i unlisted → IsExact i.spaces page (Some way.Parent) → Names places i.header.parent parent
    → IsWalked places page start parent (trace.Broken i.slot)
walk_goes_on places page start i parent unlisted one walk exact named =
    let has : HasPage i.spaces page way.Parent = (exact way.Parent).0 refl in
    record {
      member = named.member;
      never = break_is_not_found i.slot;
      found = λ there. (
        (λ lies.
            let more = parent_lies places page there i exact ((walk.found there).0 lies) in
            subst (LiesAt places page there) (one more.0 parent more.1 named) more.2),
        λ lies. (walk.found there).1 (by_parent i parent has named lies),
      );
      broken = λ slot. (
        λ breaks. elim ((walk.broken slot).0 breaks) [ inl x ↦ absurd (x.0 way.Parent has) | inr b ↦ next b ],
        λ either. elim either [
          | inl x ↦ (walk.broken slot).1 (inr (here i has (λ p name. subst (IsUnlisted page) (one parent p named name) x.0) (sym (same_break i.slot slot x.1))))
          | inr b ↦ (walk.broken slot).1 (inr (beyond i parent has named b))
        ],
      );
      absent = (λ none. absurd ((walk.absent.0 none).0 way.Parent has), λ both. absurd (break_is_no_absence i.slot both.1));
    }
  where
    next : {slot : ℕ} → BreaksAt places page slot i → (IsUnlisted page parent × (trace.Broken i.slot ≡ trace.Broken slot)) ⊎ BreaksAt places page slot parent
    next (here _ has none is) = inl (none parent named, ap trace.Broken (sym is))
    next (beyond _ q has name breaks) = inr (subst (BreaksAt places page _) (one q parent name named) breaks)

-- ---- by serial

pub traced_none : (places : Places) (serial : ℕ) (page : ℕ × ℕ) → ((i : Opened) → place_of places serial ≡ Some (Some i) → ⊥) → IsTraced places serial page trace.Absent
traced_none places serial page none = grind arith

pub traced_some : (places : Places) (serial : ℕ) (page : ℕ × ℕ) (i : Opened) (answer : Trace) → place_of places serial ≡ Some (Some i) → IsTraceOf places page i answer → IsTraced places serial page answer
traced_some places serial page i answer there is = record {
  found = λ place. (λ e. (i, there, (is.found place).0 e), λ lies. (is.found place).1 (subst (LiesAt places page place) (same lies.0 lies.1) lies.2));
  broken = λ slot. (λ e. (i, there, (is.broken slot).0 e), λ breaks. (is.broken slot).1 (subst (BreaksAt places page slot) (same breaks.0 breaks.1) breaks.2));
  absent = (λ e k at. subst (IsUnlisted page) (sym (same k at)) (is.absent.0 e), λ gone. is.absent.1 (gone i there));
}
  where
    same : (k : Opened) → place_of places serial ≡ Some (Some k) → k ≡ i
    same k at = let both : Some (Some k) ≡ Some (Some i) = sym at ∙ there in cc

-- where a trace found the page
found_is : (answer : Trace) (there : Found) → (found_in answer ≡ Some there) ↔ (answer ≡ trace.Found there)
found_is answer there = grind arith

pub resolved_by : (places : Places) (serial : ℕ) (page : ℕ × ℕ) (answer : Trace) → ((there : Found) → (answer ≡ trace.Found there) ↔ LiesBySerial places serial page there) → IsResolved places serial page (found_in answer)
resolved_by places serial page answer traced there =
    (λ e. (traced there).0 ((found_is answer there).0 e), λ lies. (found_is answer there).1 ((traced there).1 lies))
