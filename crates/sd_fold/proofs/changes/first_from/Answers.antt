use Rattle.std.proofs.Common.{ℕ, ap, ◌∙◌, sym, subst, IsSome, nat_le, refl, inl, inr}
use Rattle.std.proofs.lemmas.Bool.{cases_Bool}
use Rattle.std.specs.Option.{option_map}
use Rattle.std.specs.Ordering.{nat_cmp}
use Rattle.std.specs.Prelude.{Option, IfSome, slice_get}
use Rattle.std.specs.declared.ops.Bound.TheVariants.{Included, Unbounded}
use Rattle.std.specs.BTreeMap.Range.{IsEntryInRange, IsLeBy}
use Rattle.sd_areas.specs.declared.snapshot_page.SnapshotPage.{SnapshotPage}
use Rattle.sd_fold.proofs.OverLemmas.{get_changes, change_of}
use Rattle.sd_fold.proofs.Tables.{not_none, from_start, is_from_start, le_by, some_within}
use Rattle.sd_fold.proofs.changes.first_from.Goals as goal

pub returns-in_err-page : goal.returns-in_err-page
returns-in_err-page c = rw c.from_residual.ensures (λ page some. elim (cases_Bool (nat_le c.args.start page)) [
  | inl t ↦ absurd (not_none _ (get_changes c.args.changes.now.entries page ∙ ap (option_map change_of) ((c.range.ensures.in_range tt).5 c.in_err-page.ensures.steps.0 page (from_start c.args.start page t, tt))) some)
  | inr f ↦ f
])

pub returns : goal.returns
returns c =
    let h = c.range.ensures.in_range tt in
    let e : IfSome (slice_get c.range.result 0) (IsEntryInRange nat_cmp (Included c.args.start) Unbounded c.args.changes.now) = h.1 in
    let first = rw c.in_ok-page.ensures.steps at e in (
      subst IsSome (ap (option_map change_of) (sym first.1) ∙ sym (get_changes c.args.changes.now.entries c.in_ok-page.page.now)) refl,
      is_from_start c.args.start c.in_ok-page.page.now first.0.0,
      λ page some t.
          let f : IfSome (slice_get c.range.result 0) (λ (e : ℕ × Option SnapshotPage). IsLeBy nat_cmp e.0 page) =
          h.2 page (from_start c.args.start page t, tt) (some_within change_of _ (subst IsSome (get_changes c.args.changes.now.entries page) some)) in
          le_by c.in_ok-page.page.now page (rw c.in_ok-page.ensures.steps at f),
    )
