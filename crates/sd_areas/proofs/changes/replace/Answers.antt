use Rattle.std.proofs.Common.{◌≡◌, arith, ap, ◌∙◌, length}
use Rattle.std.specs.List.{splice}
use Rattle.sd_areas.proofs.Spliced.{length_spliced, all_given}
use Rattle.sd_areas.proofs.changes.replace.Goals as goal

pub returns-clause-ok : goal.returns-clause-ok
returns-clause-ok c =
    let it = c.in_ok-splice.ensures.items in
    let len : c.args.pieces.len ≡ length c.args.pieces.items = omega (arith, c.args.pieces.ok.0) in
    it.4 ∙ ap (splice c.args.areas.now.items c.args.from c.args.to) (all_given it.0 it.1 c.args.pieces.items it.2.0 (it.2.1 ∙ len) it.3)

pub returns-clause-few : goal.returns-clause-few
returns-clause-few c =
    let long = length_spliced c.args.areas.now.items c.args.pieces.items c.args.from c.args.to c.requires.ordered c.requires.within in
    let same = ap length (returns-clause-ok c) in
    omega (arith, long, same, c.if-room-len.false, c.len.ensures, c.len-2.ensures, c.args.pieces.ok.0, c.requires.ordered, c.requires.within, c.requires.few)
