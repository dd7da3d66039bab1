-- A part more is printed.
use Rattle.std.proofs.Common.{◌≡◌, [], ◌++◌, refl, sym, ◌∙◌, ap, subst, append_assoc, take-append-drop}
use Rattle.std.specs.Io.KnownBytes.{Appends}
use Rattle.std.proofs.KnownBytes.{Appends-nil, Appends-trans}
use Rattle.hex.specs.Hex.{encode_lower}
use Rattle.sd_script.proofs.Printing.{encode_lower-append, encode_lower-nil}
use Rattle.sd_script.proofs.print.print_digits.Goals as goal

pub loop-rest-init : goal.loop-rest-init
loop-rest-init g c =
    let from = g.W.Write.contents c.args.out.now in
    record { done = []; whole = refl; printed = subst (Appends from from) (sym encode_lower-nil) (Appends-nil from) }

pub loop-rest-preserved : goal.loop-rest-preserved
loop-rest-preserved g c =
    let before = c.loop-rest.invariant in
    let part = c.split_at.result.0.now in
    let others = c.split_at.result.1.now in
    let from = g.W.Write.contents c.args.out.now in
    let mid = g.W.Write.contents c.loop-rest.out in
    let to = g.W.Write.contents c.print_part.new.out in
    let n = c.min.result in
    let rest = c.loop-rest.rest.now in
    let parts : rest ≡ part ++ others =
    sym (rw (c.split_at.ensures.front, c.split_at.ensures.back) (take-append-drop n rest)) in
    record {
      done = before.done ++ part;
      whole = before.whole ∙ ap (λ rest. before.done ++ rest) parts ∙ sym (append_assoc before.done part others);
      printed = subst (Appends from to) (sym (encode_lower-append before.done part))
          (Appends-trans from mid to (encode_lower before.done) (encode_lower part) before.printed c.in_ok-print_part.ensures);
    }
