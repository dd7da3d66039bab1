use Rattle.std.proofs.Common.{◌≡◌, ◌+◌, ◌-◌, ◌^◌, ℕ, List, min, arith, ap, ◌∙◌}
use Rattle.sd_show.specs.Items.{runs_in, spaces_in}
use Rattle.sd_show.specs.Counts.{runs_pages, spaces_pages}
use Rattle.sd_show.proofs.CountLemmas.{done, more_of, spaces_pages_more}
use Rattle.sd_show.proofs.ItemLemmas.{no_spaces, short_spaces}
use Rattle.sd_show.proofs.counts.count_spaces.Goals as goal

pub loop-left-preserved : goal.loop-left-preserved
loop-left-preserved c =
    let kind : ℕ = c.args.kind in
    let left : ℕ = c.loop-left.left in
    let bytes : List ℕ = c.loop-left.rest.now in
    let behind : List ℕ = c.place_after_space-rest.result.now in
    let part : c.count_runs.result ≡ min (runs_pages kind (runs_in bytes)) (2 ^ 64 - 1) =
    c.count_runs.ensures ∙ ap (λ runs. min (runs_pages kind runs) (2 ^ 64 - 1)) c.runs_in.ensures in
    let is : runs_pages kind (runs_in bytes) + spaces_pages kind (spaces_in (left - 1) behind) ≡ spaces_pages kind (spaces_in left bytes) =
    ap (λ behind. runs_pages kind (runs_in bytes) + spaces_pages kind (spaces_in (left - 1) behind)) c.place_after_space-rest.ensures
    ∙ spaces_pages_more kind left bytes c.loop-left-test.true c.if-rest-ge-SPACE_HEAD_SIZE.true in
    record {
      fits = omega (arith, c.saturating_add-pages.ensures);
      all = more_of (2 ^ 64 - 1) c.loop-left.pages c.count_runs.result (runs_pages kind (runs_in bytes)) (spaces_pages kind (spaces_in (left - 1) behind))
          (spaces_pages kind (spaces_in left bytes)) (spaces_pages kind (spaces_in c.args.count c.args.bytes.now)) c.saturating_add-pages.result c.saturating_add-pages.ensures
          part is c.loop-left.invariant.all;
    }

pub returns-else-rest-ge-SPACE_HEAD_SIZE : goal.returns-else-rest-ge-SPACE_HEAD_SIZE
returns-else-rest-ge-SPACE_HEAD_SIZE c =
    done (2 ^ 64 - 1) c.loop-left.pages _ (spaces_pages c.args.kind (spaces_in c.args.count c.args.bytes.now)) c.loop-left.invariant.fits
    (ap (spaces_pages c.args.kind) (short_spaces c.loop-left.left c.loop-left.rest.now c.if-rest-ge-SPACE_HEAD_SIZE.false)) c.loop-left.invariant.all

pub returns-after-loop-left : goal.returns-after-loop-left
returns-after-loop-left c =
    let none : c.loop-left.left ≡ 0 = omega (arith, c.loop-left-test.false) in
    done (2 ^ 64 - 1) c.loop-left.pages _ (spaces_pages c.args.kind (spaces_in c.args.count c.args.bytes.now)) c.loop-left.invariant.fits
    (ap (spaces_pages c.args.kind) (no_spaces c.loop-left.left c.loop-left.rest.now none)) c.loop-left.invariant.all
