use Rattle.std.proofs.Common.{ℕ, List, Vec, Global, length, get_or, min, ◌+◌, ◌-◌, ◌^◌, Some, None, refl, sym, subst, ap, ◌≡◌, ◌==◌, ◌<◌, ◌∙◌, arith}
use Rattle.std.specs.List.{position, slice_get}
use Rattle.std.proofs.lemmas.Option.{none-some, slice_get-get_or}
use Rattle.sd_image.specs.declared.run.Run.{Run}
use Rattle.sd_image.specs.declared.table.SpaceTable.{SpaceTable}
use Rattle.sd_image.specs.Table.{Listed, IsTable}
use Rattle.sd_chain.specs.declared.way.Way.TheVariants as way
use Rattle.sd_chain.specs.Ways.{HasPage}
use Rattle.sd_chain.proofs.Runs.{HasNone, HasWithin, within_high, within_low}
use Rattle.sd_chain.proofs.Ways.{alike_data, alike_in_parent, alike_zeros, left_some, no_run, no_space, place_there, row_is, row_there, run_at, space_there}
use Rattle.sd_chain.proofs.placed.PlacedTable.stretch.Goals as goal

pub returns-in_err-index-clause-none : goal.returns-in_err-index-clause-none
returns-in_err-index-clause-none c = λ h table none w has.
    let items : List SpaceTable = c.self.inside.table.spaces.items in
    let spaces_are : c.deref.result.now ≡ items = c.deref.ensures.value in
    let missing : position (λ (s : SpaceTable). s.space == c.args.space) items ≡ None =
    ap (position (λ (s : SpaceTable). s.space == c.args.space)) (sym spaces_are) ∙ c.in_err-index.ensures.none refl in
    let exact = no_space items c.args.space c.args.page None refl missing in
    none-some w ((exact w).1 (subst (λ (spaces : List Listed). HasPage spaces (c.args.space, c.args.page) w) (sym c.self.view_is) has))

pub returns-in_err-at-clause-none : goal.returns-in_err-at-clause-none
returns-in_err-at-clause-none c = λ h table gone w has.
    let items : List SpaceTable = c.self.inside.table.spaces.items in
    let spaces_are : c.deref.result.now ≡ items = c.deref.ensures.value in
    let low_space : c.in_ok-index.index < length items = subst (λ (spaces : List SpaceTable). c.in_ok-index.index < length spaces) spaces_are c.in_ok-index.ensures.place in
    let got : slice_get items c.in_ok-index.index ≡ Some c.index.result.now = space_there items c.in_ok-index.index c.index.result.now low_space c.index.ensures in
    let number : c.index.result.now.space ≡ c.args.space =
    subst (λ (spaces : List SpaceTable). (s : SpaceTable) → slice_get spaces c.in_ok-index.index ≡ Some s → s.space ≡ c.args.space) spaces_are c.in_ok-index.ensures.space c.index.result.now got in
    let runs_are : c.deref-2.result.now ≡ c.index.result.now.runs.items = c.deref-2.ensures.value in
    let none : HasNone c.index.result.now.runs.items c.args.page = subst (λ (runs : List Run). HasNone runs c.args.page) runs_are (λ parent good. c.in_err-at.ensures.none parent good refl) in
    let exact = no_run h items c.in_ok-index.index c.index.result.now c.args.space c.args.page None refl (subst (IsTable h) (sym c.self.view_is) table) got number none in
    none-some w ((exact w).1 (subst (λ (spaces : List Listed). HasPage spaces (c.args.space, c.args.page) w) (sym c.self.view_is) has))

pub overflow_sub-within : goal.overflow_sub-within
overflow_sub-within c =
    let items : List SpaceTable = c.self.inside.table.spaces.items in
    let spaces_are : c.deref.result.now ≡ items = c.deref.ensures.value in
    let low_space : c.in_ok-index.index < length items = subst (λ (spaces : List SpaceTable). c.in_ok-index.index < length spaces) spaces_are c.in_ok-index.ensures.place in
    let got : slice_get items c.in_ok-index.index ≡ Some c.index.result.now = space_there items c.in_ok-index.index c.index.result.now low_space c.index.ensures in
    let number : c.index.result.now.space ≡ c.args.space =
    subst (λ (spaces : List SpaceTable). (s : SpaceTable) → slice_get spaces c.in_ok-index.index ≡ Some s → s.space ≡ c.args.space) spaces_are c.in_ok-index.ensures.space c.index.result.now got in
    let runs_are : c.deref-2.result.now ≡ c.index.result.now.runs.items = c.deref-2.ensures.value in
    let low : c.in_ok-at.at < length c.index.result.now.runs.items = subst (λ (runs : List Run). c.in_ok-at.at < length runs) runs_are c.in_ok-at.ensures.place in
    let within : HasWithin c.index.result.now.runs.items c.in_ok-at.at c.args.page = subst (λ (runs : List Run). HasWithin runs c.in_ok-at.at c.args.page) runs_are c.in_ok-at.ensures.run in
    let found = run_at items c.in_ok-index.index c.in_ok-at.at c.index.result.now c.index-run.result.now c.args.space c.args.page got number low within c.index-run.ensures in
    omega (arith, within_low c.index-run.result.now c.args.page found.within, c.number.ensures.value, c.number-2.ensures.value)

pub overflow_sub-count : goal.overflow_sub-count
overflow_sub-count c =
    let items : List SpaceTable = c.self.inside.table.spaces.items in
    let spaces_are : c.deref.result.now ≡ items = c.deref.ensures.value in
    let low_space : c.in_ok-index.index < length items = subst (λ (spaces : List SpaceTable). c.in_ok-index.index < length spaces) spaces_are c.in_ok-index.ensures.place in
    let got : slice_get items c.in_ok-index.index ≡ Some c.index.result.now = space_there items c.in_ok-index.index c.index.result.now low_space c.index.ensures in
    let number : c.index.result.now.space ≡ c.args.space =
    subst (λ (spaces : List SpaceTable). (s : SpaceTable) → slice_get spaces c.in_ok-index.index ≡ Some s → s.space ≡ c.args.space) spaces_are c.in_ok-index.ensures.space c.index.result.now got in
    let runs_are : c.deref-2.result.now ≡ c.index.result.now.runs.items = c.deref-2.ensures.value in
    let low : c.in_ok-at.at < length c.index.result.now.runs.items = subst (λ (runs : List Run). c.in_ok-at.at < length runs) runs_are c.in_ok-at.ensures.place in
    let within : HasWithin c.index.result.now.runs.items c.in_ok-at.at c.args.page = subst (λ (runs : List Run). HasWithin runs c.in_ok-at.at c.args.page) runs_are c.in_ok-at.ensures.run in
    let found = run_at items c.in_ok-index.index c.in_ok-at.at c.index.result.now c.index-run.result.now c.args.space c.args.page got number low within c.index-run.ensures in
    omega (arith, within_high c.index-run.result.now c.args.page found.within, within_low c.index-run.result.now c.args.page found.within, c.number.ensures.value, c.number-2.ensures.value)

pub bounds-rows-index : goal.bounds-rows-index
bounds-rows-index c =
    let items : List SpaceTable = c.self.inside.table.spaces.items in
    let spaces_are : c.deref.result.now ≡ items = c.deref.ensures.value in
    let low_space : c.in_ok-index.index < length items = subst (λ (spaces : List SpaceTable). c.in_ok-index.index < length spaces) spaces_are c.in_ok-index.ensures.place in
    let got : slice_get items c.in_ok-index.index ≡ Some c.index.result.now = space_there items c.in_ok-index.index c.index.result.now low_space c.index.ensures in
    let number : c.index.result.now.space ≡ c.args.space =
    subst (λ (spaces : List SpaceTable). (s : SpaceTable) → slice_get spaces c.in_ok-index.index ≡ Some s → s.space ≡ c.args.space) spaces_are c.in_ok-index.ensures.space c.index.result.now got in
    let rows_are : c.as_slice-rows.result.now ≡ c.self.inside.places.items = c.as_slice-rows.ensures.value in
    subst (λ (rows : List (Vec ℕ Global)). c.in_ok-index.index < length rows) (sym rows_are)
    (row_there (λ (row : Vec ℕ Global). row.items) c.self.inside.places.items items c.in_ok-index.index c.index.result.now c.self.invariant got)

pub bounds-row-at : goal.bounds-row-at
bounds-row-at c =
    let items : List SpaceTable = c.self.inside.table.spaces.items in
    let spaces_are : c.deref.result.now ≡ items = c.deref.ensures.value in
    let low_space : c.in_ok-index.index < length items = subst (λ (spaces : List SpaceTable). c.in_ok-index.index < length spaces) spaces_are c.in_ok-index.ensures.place in
    let got : slice_get items c.in_ok-index.index ≡ Some c.index.result.now = space_there items c.in_ok-index.index c.index.result.now low_space c.index.ensures in
    let number : c.index.result.now.space ≡ c.args.space =
    subst (λ (spaces : List SpaceTable). (s : SpaceTable) → slice_get spaces c.in_ok-index.index ≡ Some s → s.space ≡ c.args.space) spaces_are c.in_ok-index.ensures.space c.index.result.now got in
    let runs_are : c.deref-2.result.now ≡ c.index.result.now.runs.items = c.deref-2.ensures.value in
    let low : c.in_ok-at.at < length c.index.result.now.runs.items = subst (λ (runs : List Run). c.in_ok-at.at < length runs) runs_are c.in_ok-at.ensures.place in
    let within : HasWithin c.index.result.now.runs.items c.in_ok-at.at c.args.page = subst (λ (runs : List Run). HasWithin runs c.in_ok-at.at c.args.page) runs_are c.in_ok-at.ensures.run in
    let found = run_at items c.in_ok-index.index c.in_ok-at.at c.index.result.now c.index-run.result.now c.args.space c.args.page got number low within c.index-run.ensures in
    let rows_are : c.as_slice-rows.result.now ≡ c.self.inside.places.items = c.as_slice-rows.ensures.value in
    let rows = row_there (λ (row : Vec ℕ Global). row.items) c.self.inside.places.items items c.in_ok-index.index c.index.result.now c.self.invariant found.there in
    let row_got : c.index-rows-index.result ≡ get_or c.self.inside.places.items c.in_ok-index.index c.index-rows-index.result =
    subst (λ (rows : List (Vec ℕ Global)). c.index-rows-index.result ≡ get_or rows c.in_ok-index.index c.index-rows-index.result) rows_are c.index-rows-index.is in
    let row = row_is (λ (row : Vec ℕ Global). row.items) c.self.inside.places.items items c.in_ok-index.index c.index-rows-index.result c.self.invariant rows row_got in
    let low = place_there items c.in_ok-index.index c.in_ok-at.at c.index.result.now c.index-run.result.now c.index-rows-index.result.items c.args.space c.args.page found row in
    let row_are : c.as_slice-row.result.now ≡ c.index-rows-index.result.items = c.as_slice-row.ensures.value in
    subst (λ (row : List ℕ). c.in_ok-at.at < length row) (sym row_are) low

pub returns-in-Data-clause-alike : goal.returns-in-Data-clause-alike
returns-in-Data-clause-alike c = λ h table.
    let items : List SpaceTable = c.self.inside.table.spaces.items in
    let spaces_are : c.deref.result.now ≡ items = c.deref.ensures.value in
    let low_space : c.in_ok-index.index < length items = subst (λ (spaces : List SpaceTable). c.in_ok-index.index < length spaces) spaces_are c.in_ok-index.ensures.place in
    let got : slice_get items c.in_ok-index.index ≡ Some c.index.result.now = space_there items c.in_ok-index.index c.index.result.now low_space c.index.ensures in
    let number : c.index.result.now.space ≡ c.args.space =
    subst (λ (spaces : List SpaceTable). (s : SpaceTable) → slice_get spaces c.in_ok-index.index ≡ Some s → s.space ≡ c.args.space) spaces_are c.in_ok-index.ensures.space c.index.result.now got in
    let runs_are : c.deref-2.result.now ≡ c.index.result.now.runs.items = c.deref-2.ensures.value in
    let low : c.in_ok-at.at < length c.index.result.now.runs.items = subst (λ (runs : List Run). c.in_ok-at.at < length runs) runs_are c.in_ok-at.ensures.place in
    let within : HasWithin c.index.result.now.runs.items c.in_ok-at.at c.args.page = subst (λ (runs : List Run). HasWithin runs c.in_ok-at.at c.args.page) runs_are c.in_ok-at.ensures.run in
    let found = run_at items c.in_ok-index.index c.in_ok-at.at c.index.result.now c.index-run.result.now c.args.space c.args.page got number low within c.index-run.ensures in
    let rows_are : c.as_slice-rows.result.now ≡ c.self.inside.places.items = c.as_slice-rows.ensures.value in
    let rows = row_there (λ (row : Vec ℕ Global). row.items) c.self.inside.places.items items c.in_ok-index.index c.index.result.now c.self.invariant found.there in
    let row_got : c.index-rows-index.result ≡ get_or c.self.inside.places.items c.in_ok-index.index c.index-rows-index.result =
    subst (λ (rows : List (Vec ℕ Global)). c.index-rows-index.result ≡ get_or rows c.in_ok-index.index c.index-rows-index.result) rows_are c.index-rows-index.is in
    let row = row_is (λ (row : Vec ℕ Global). row.items) c.self.inside.places.items items c.in_ok-index.index c.index-rows-index.result c.self.invariant rows row_got in
    let low = place_there items c.in_ok-index.index c.in_ok-at.at c.index.result.now c.index-run.result.now c.index-rows-index.result.items c.args.space c.args.page found row in
    let row_are : c.as_slice-row.result.now ≡ c.index-rows-index.result.items = c.as_slice-row.ensures.value in
    let before = get_or c.as_slice-row.result.now c.in_ok-at.at 0 in
    let counted : slice_get c.index-rows-index.result.items c.in_ok-at.at ≡ Some before =
    subst (λ (row : List ℕ). slice_get row c.in_ok-at.at ≡ Some before) row_are (slice_get-get_or c.as_slice-row.result.now c.in_ok-at.at 0 (subst (λ (row : List ℕ). c.in_ok-at.at < length row) (sym row_are) low)) in
    let sum : c.saturating_add-place.result ≡ min (before + (c.args.page - c.index-run.result.now.first)) (2 ^ 64 - 1) =
    c.saturating_add-place.ensures ∙ ap (λ k. min (before + k) (2 ^ 64 - 1)) (omega (arith, c.number.ensures.value, c.number-2.ensures.value)) in
    let alike = alike_data c.few_pages.ensures h items c.in_ok-index.index c.in_ok-at.at c.index.result.now c.index-run.result.now c.index-rows-index.result.items before c.args.space c.args.page c.saturating_add-place.result
    (subst (IsTable h) (sym c.self.view_is) table) found c.in-Data.is row counted sum in
    let some = alike.some in
    record {
      some = omega (arith, some, c.number.ensures.value, c.number-2.ensures.value);
      each = λ k less.
          subst (λ (spaces : List Listed). HasPage spaces (c.args.space, c.args.page + k) (way.Data (c.saturating_add-place.result + k))) c.self.view_is
          (alike.each k (omega (arith, less, c.number.ensures.value, c.number-2.ensures.value)));
    }

pub returns-in-Parent-clause-alike : goal.returns-in-Parent-clause-alike
returns-in-Parent-clause-alike c = λ h table.
    let items : List SpaceTable = c.self.inside.table.spaces.items in
    let spaces_are : c.deref.result.now ≡ items = c.deref.ensures.value in
    let low_space : c.in_ok-index.index < length items = subst (λ (spaces : List SpaceTable). c.in_ok-index.index < length spaces) spaces_are c.in_ok-index.ensures.place in
    let got : slice_get items c.in_ok-index.index ≡ Some c.index.result.now = space_there items c.in_ok-index.index c.index.result.now low_space c.index.ensures in
    let number : c.index.result.now.space ≡ c.args.space =
    subst (λ (spaces : List SpaceTable). (s : SpaceTable) → slice_get spaces c.in_ok-index.index ≡ Some s → s.space ≡ c.args.space) spaces_are c.in_ok-index.ensures.space c.index.result.now got in
    let runs_are : c.deref-2.result.now ≡ c.index.result.now.runs.items = c.deref-2.ensures.value in
    let low : c.in_ok-at.at < length c.index.result.now.runs.items = subst (λ (runs : List Run). c.in_ok-at.at < length runs) runs_are c.in_ok-at.ensures.place in
    let within : HasWithin c.index.result.now.runs.items c.in_ok-at.at c.args.page = subst (λ (runs : List Run). HasWithin runs c.in_ok-at.at c.args.page) runs_are c.in_ok-at.ensures.run in
    let found = run_at items c.in_ok-index.index c.in_ok-at.at c.index.result.now c.index-run.result.now c.args.space c.args.page got number low within c.index-run.ensures in
    let alike = alike_in_parent items c.in_ok-index.index c.in_ok-at.at c.index.result.now c.index-run.result.now c.args.space c.args.page found c.in-Parent.is in
    let some = alike.some in
    record {
      some = omega (arith, some, c.number.ensures.value, c.number-2.ensures.value);
      each = λ k less.
          subst (λ (spaces : List Listed). HasPage spaces (c.args.space, c.args.page + k) way.Parent) c.self.view_is
          (alike.each k (omega (arith, less, c.number.ensures.value, c.number-2.ensures.value)));
    }

pub returns-in-Zero-clause-alike : goal.returns-in-Zero-clause-alike
returns-in-Zero-clause-alike c = λ h table.
    let items : List SpaceTable = c.self.inside.table.spaces.items in
    let spaces_are : c.deref.result.now ≡ items = c.deref.ensures.value in
    let low_space : c.in_ok-index.index < length items = subst (λ (spaces : List SpaceTable). c.in_ok-index.index < length spaces) spaces_are c.in_ok-index.ensures.place in
    let got : slice_get items c.in_ok-index.index ≡ Some c.index.result.now = space_there items c.in_ok-index.index c.index.result.now low_space c.index.ensures in
    let number : c.index.result.now.space ≡ c.args.space =
    subst (λ (spaces : List SpaceTable). (s : SpaceTable) → slice_get spaces c.in_ok-index.index ≡ Some s → s.space ≡ c.args.space) spaces_are c.in_ok-index.ensures.space c.index.result.now got in
    let runs_are : c.deref-2.result.now ≡ c.index.result.now.runs.items = c.deref-2.ensures.value in
    let low : c.in_ok-at.at < length c.index.result.now.runs.items = subst (λ (runs : List Run). c.in_ok-at.at < length runs) runs_are c.in_ok-at.ensures.place in
    let within : HasWithin c.index.result.now.runs.items c.in_ok-at.at c.args.page = subst (λ (runs : List Run). HasWithin runs c.in_ok-at.at c.args.page) runs_are c.in_ok-at.ensures.run in
    let found = run_at items c.in_ok-index.index c.in_ok-at.at c.index.result.now c.index-run.result.now c.args.space c.args.page got number low within c.index-run.ensures in
    let alike = alike_zeros items c.in_ok-index.index c.in_ok-at.at c.index.result.now c.index-run.result.now c.args.space c.args.page found c.in-Zero.is in
    let some = alike.some in
    record {
      some = omega (arith, some, c.number.ensures.value, c.number-2.ensures.value);
      each = λ k less.
          subst (λ (spaces : List Listed). HasPage spaces (c.args.space, c.args.page + k) way.Zero) c.self.view_is
          (alike.each k (omega (arith, less, c.number.ensures.value, c.number-2.ensures.value)));
    }

pub returns-in-Data-clause-some : goal.returns-in-Data-clause-some
returns-in-Data-clause-some c =
    let items : List SpaceTable = c.self.inside.table.spaces.items in
    let spaces_are : c.deref.result.now ≡ items = c.deref.ensures.value in
    let low_space : c.in_ok-index.index < length items = subst (λ (spaces : List SpaceTable). c.in_ok-index.index < length spaces) spaces_are c.in_ok-index.ensures.place in
    let got : slice_get items c.in_ok-index.index ≡ Some c.index.result.now = space_there items c.in_ok-index.index c.index.result.now low_space c.index.ensures in
    let number : c.index.result.now.space ≡ c.args.space =
    subst (λ (spaces : List SpaceTable). (s : SpaceTable) → slice_get spaces c.in_ok-index.index ≡ Some s → s.space ≡ c.args.space) spaces_are c.in_ok-index.ensures.space c.index.result.now got in
    let runs_are : c.deref-2.result.now ≡ c.index.result.now.runs.items = c.deref-2.ensures.value in
    let low : c.in_ok-at.at < length c.index.result.now.runs.items = subst (λ (runs : List Run). c.in_ok-at.at < length runs) runs_are c.in_ok-at.ensures.place in
    let within : HasWithin c.index.result.now.runs.items c.in_ok-at.at c.args.page = subst (λ (runs : List Run). HasWithin runs c.in_ok-at.at c.args.page) runs_are c.in_ok-at.ensures.run in
    let found = run_at items c.in_ok-index.index c.in_ok-at.at c.index.result.now c.index-run.result.now c.args.space c.args.page got number low within c.index-run.ensures in
    omega (arith, left_some c.index-run.result.now c.args.page found.within, c.number.ensures.value, c.number-2.ensures.value)

pub returns-in-Parent-clause-some : goal.returns-in-Parent-clause-some
returns-in-Parent-clause-some c =
    let items : List SpaceTable = c.self.inside.table.spaces.items in
    let spaces_are : c.deref.result.now ≡ items = c.deref.ensures.value in
    let low_space : c.in_ok-index.index < length items = subst (λ (spaces : List SpaceTable). c.in_ok-index.index < length spaces) spaces_are c.in_ok-index.ensures.place in
    let got : slice_get items c.in_ok-index.index ≡ Some c.index.result.now = space_there items c.in_ok-index.index c.index.result.now low_space c.index.ensures in
    let number : c.index.result.now.space ≡ c.args.space =
    subst (λ (spaces : List SpaceTable). (s : SpaceTable) → slice_get spaces c.in_ok-index.index ≡ Some s → s.space ≡ c.args.space) spaces_are c.in_ok-index.ensures.space c.index.result.now got in
    let runs_are : c.deref-2.result.now ≡ c.index.result.now.runs.items = c.deref-2.ensures.value in
    let low : c.in_ok-at.at < length c.index.result.now.runs.items = subst (λ (runs : List Run). c.in_ok-at.at < length runs) runs_are c.in_ok-at.ensures.place in
    let within : HasWithin c.index.result.now.runs.items c.in_ok-at.at c.args.page = subst (λ (runs : List Run). HasWithin runs c.in_ok-at.at c.args.page) runs_are c.in_ok-at.ensures.run in
    let found = run_at items c.in_ok-index.index c.in_ok-at.at c.index.result.now c.index-run.result.now c.args.space c.args.page got number low within c.index-run.ensures in
    omega (arith, left_some c.index-run.result.now c.args.page found.within, c.number.ensures.value, c.number-2.ensures.value)

pub returns-in-Zero-clause-some : goal.returns-in-Zero-clause-some
returns-in-Zero-clause-some c =
    let items : List SpaceTable = c.self.inside.table.spaces.items in
    let spaces_are : c.deref.result.now ≡ items = c.deref.ensures.value in
    let low_space : c.in_ok-index.index < length items = subst (λ (spaces : List SpaceTable). c.in_ok-index.index < length spaces) spaces_are c.in_ok-index.ensures.place in
    let got : slice_get items c.in_ok-index.index ≡ Some c.index.result.now = space_there items c.in_ok-index.index c.index.result.now low_space c.index.ensures in
    let number : c.index.result.now.space ≡ c.args.space =
    subst (λ (spaces : List SpaceTable). (s : SpaceTable) → slice_get spaces c.in_ok-index.index ≡ Some s → s.space ≡ c.args.space) spaces_are c.in_ok-index.ensures.space c.index.result.now got in
    let runs_are : c.deref-2.result.now ≡ c.index.result.now.runs.items = c.deref-2.ensures.value in
    let low : c.in_ok-at.at < length c.index.result.now.runs.items = subst (λ (runs : List Run). c.in_ok-at.at < length runs) runs_are c.in_ok-at.ensures.place in
    let within : HasWithin c.index.result.now.runs.items c.in_ok-at.at c.args.page = subst (λ (runs : List Run). HasWithin runs c.in_ok-at.at c.args.page) runs_are c.in_ok-at.ensures.run in
    let found = run_at items c.in_ok-index.index c.in_ok-at.at c.index.result.now c.index-run.result.now c.args.space c.args.page got number low within c.index-run.ensures in
    omega (arith, left_some c.index-run.result.now c.args.page found.within, c.number.ensures.value, c.number-2.ensures.value)
