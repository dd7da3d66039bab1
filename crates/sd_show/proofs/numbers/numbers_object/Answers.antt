use Rattle.std.proofs.Common.{◌∙◌, ℕ, List, [], slice_index_or, ap}
use Rattle.std.specs.Borrow.{Bor}
use Rattle.std.proofs.lemmas.List.{map_more}
use Rattle.std.proofs.lemmas.List.Sums.{fold_push}
use Rattle.serde_json.specs.Data.{put}
use Rattle.serde_json.specs.View.{members_view}
use Rattle.sd_show.specs.Numbers.{named}
use Rattle.sd_show.proofs.numbers.numbers_object.Goals as goal

pub loop-name-preserved : goal.loop-name-preserved
loop-name-preserved c =
    let nothing : Bor (List ℕ) = record { ref_ptr = (0, 0); now = [] } in
    let name = (slice_index_or c.args.numbers.now c.loop-name.name-index (nothing, 0)).0.now in
    let as_number = ap (λ d. put name d (members_view c.loop-name.object.entries)) c.from.ensures in
    rw (map_more named c.args.numbers.now c.loop-name.name-index (nothing, 0) c.loop-name-test.true, fold_push, ← c.loop-name.invariant)
    (c.in_ok-put.ensures.ok ∙ as_number)
