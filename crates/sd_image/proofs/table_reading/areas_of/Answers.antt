use Rattle.std.proofs.Common.{◌≡◌, ◌++◌, ◌∷◌, [], ◌-◌, ◌+◌, List, Option, None, Some, ap, sym, subst, ◌∙◌}
use Rattle.std.specs.Prelude.{option_copied}
use Rattle.std.proofs.lemmas.Result.{err_from_is_err_and}
use Rattle.sd_areas.specs.declared.area.Area.{Area}
use Rattle.sd_image.specs.Reading.{many, area_from, area_at}
use Rattle.sd_image.proofs.Items.{area_read, area_short, area_wrong}
use Rattle.sd_image.proofs.Many.{with_front, last_of, last_push, goes_on, ends, is_done}
use Rattle.sd_image.proofs.table_reading.areas_of.Goals as goal

pub returns-in_err-item : goal.returns-in_err-item
returns-in_err-item c =
    let p = err_from_is_err_and c.from_residual.result c.from_residual.ensures.1 in
    let total = many area_at Some c.args.count None c.args.bytes.now in
    let short = area_short (last_of c.loop.areas.items) c.loop.rest.now c.in_err-item.field-0.0 c.in_err-item.ensures.read in
    rw (p.1, p.2) (ends area_at Some c.loop.areas.items c.args.count c.loop.counter (last_of c.loop.areas.items) c.loop.rest.now c.in_err-item.field-0.0 total c.loop-test.true short c.loop.invariant)

pub returns-in_err-area : goal.returns-in_err-area
returns-in_err-area c =
    let p = err_from_is_err_and c.from_residual-in_err-area.result c.from_residual-in_err-area.ensures.1 in
    let total = many area_at Some c.args.count None c.args.bytes.now in
    let item = c.in_ok-item.item.now in
    let last : option_copied c.last.result ≡ last_of c.loop.areas.items = c.last.ensures.value ∙ ap last_of c.deref.ensures.value in
    let fails = ap (λ (o : Option Area). area_from o item) (sym last) ∙ sym c.in_err-area.ensures in
    let wrong = area_wrong (last_of c.loop.areas.items) c.loop.rest.now item c.in_ok-item.after.now c.in_err-area.field-0.0 c.in_ok-item.ensures.read fails in
    rw (p.1, p.2) (ends area_at Some c.loop.areas.items c.args.count c.loop.counter (last_of c.loop.areas.items) c.loop.rest.now c.in_err-area.field-0.0 total c.loop-test.true wrong c.loop.invariant)

pub loop-preserved : goal.loop-preserved
loop-preserved c =
    let total = many area_at Some c.args.count None c.args.bytes.now in
    let item = c.in_ok-item.item.now in
    let after = c.in_ok-item.after.now in
    let x = c.in_ok-area.area in
    let front = c.loop.areas.items in
    let last : option_copied c.last.result ≡ last_of front = c.last.ensures.value ∙ ap last_of c.deref.ensures.value in
    let gives = ap (λ (o : Option Area). area_from o item) (sym last) ∙ sym c.in_ok-area.ensures in
    let one = area_read (last_of front) c.loop.rest.now item after x c.in_ok-item.ensures.read gives in
    let next = goes_on area_at Some front c.args.count c.loop.counter (last_of front) c.loop.rest.now x after total c.loop-test.true one c.loop.invariant in
    let same = subst (λ (o : Option Area). with_front (front ++ x ∷ []) (many area_at Some (c.args.count - (c.loop.counter + 1)) o after) ≡ total) (sym (last_push front x)) next in
    subst (λ (xs : List Area). with_front xs (many area_at Some (c.args.count - (c.loop.counter + 1)) (last_of xs) after) ≡ total) (sym c.in_ok-push.ensures.items) same

pub returns : goal.returns
returns c = is_done area_at Some c.loop.areas.items c.args.count c.loop.counter (last_of c.loop.areas.items) c.loop.rest.now (many area_at Some c.args.count None c.args.bytes.now) c.loop-test.false c.loop.invariant
