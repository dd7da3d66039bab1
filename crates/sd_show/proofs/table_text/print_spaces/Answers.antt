use Rattle.std.proofs.Common.{◌≡◌, ◌-◌, ℕ, List, Option, arith, ap, subst}
use Rattle.std.specs.Io.KnownBytes.{Appends}
use Rattle.sd_show.specs.Items.{place_after_runs, place_after_space, runs_in, spaces_in}
use Rattle.sd_show.specs.Texts.{space_lines, spaces_text}
use Rattle.sd_show.proofs.ItemLemmas.{no_spaces, short_spaces}
use Rattle.sd_show.proofs.PrintLemmas.{all_printed, part_printed, spaces_text_more}
use Rattle.sd_show.proofs.table_text.print_spaces.Goals as goal

pub loop-left-preserved : goal.loop-left-preserved
loop-left-preserved g c = λ after rest.
    let left : ℕ = c.loop-left.left in
    let at : Option ℕ = c.loop-left.at in
    let bytes : List ℕ = c.loop-left.rest.now in
    let from = g.W.Write.contents c.loop-left.out in
    let to = g.W.Write.contents c.print_space.new.out in
    c.loop-left.invariant after
    (part_printed from to after (space_lines at bytes) (spaces_text (place_after_runs at (runs_in bytes)) (spaces_in (left - 1) (place_after_space bytes))) (spaces_text at (spaces_in left bytes))
    (spaces_text_more left at bytes c.loop-left-test.true c.if-rest-ge-SPACE_HEAD_SIZE.true) c.in_ok-at.ensures.text
    (subst (λ next. Appends to after (spaces_text next (spaces_in (left - 1) (place_after_space bytes)))) c.in_ok-at.ensures.behind
    (subst (λ behind. Appends to after (spaces_text c.in_ok-at.at (spaces_in (left - 1) behind))) c.place_after_space-rest.ensures rest)))

pub returns-else-rest-ge-SPACE_HEAD_SIZE : goal.returns-else-rest-ge-SPACE_HEAD_SIZE
returns-else-rest-ge-SPACE_HEAD_SIZE g c =
    let to = g.W.Write.contents c.loop-left.out in
    c.loop-left.invariant to (all_printed to _ (ap (spaces_text c.loop-left.at) (short_spaces c.loop-left.left c.loop-left.rest.now c.if-rest-ge-SPACE_HEAD_SIZE.false)))

pub returns-after-loop-left : goal.returns-after-loop-left
returns-after-loop-left g c =
    let to = g.W.Write.contents c.loop-left.out in
    let none : c.loop-left.left ≡ 0 = omega (arith, c.loop-left-test.false) in
    c.loop-left.invariant to (all_printed to _ (ap (spaces_text c.loop-left.at) (no_spaces c.loop-left.left c.loop-left.rest.now none)))
