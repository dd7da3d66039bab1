use Rattle.std.proofs.Common.{rules, ◌≡◌, ◌++◌, ◌∙◌, ap, sym, subst, ℕ, List, [], take, refl, append-nil, drop_of_length-le}
use Rattle.std.specs.Io.KnownBytes.{Appends}
use Rattle.std.proofs.KnownBytes.{Appends-nil, Appends-trans}
use Rattle.sd_stream.proofs.PieceLemmas.{begun, some_more}
use Rattle.sd_stream.proofs.pieces.write_piece.Goals as goal

pub loop-init : goal.loop-init
loop-init g c = record { done = []; split = refl; written = Appends-nil (g.W.Write.contents c.args.out.now) }

pub loop-preserved : goal.loop-preserved
loop-preserved g c =
    let was = c.loop.invariant in
    let rest : List ℕ = c.loop.rest.now in
    let n : ℕ = c.in_ok-count.count in
    let from = g.W.Write.contents c.args.out.now in
    let mid = g.W.Write.contents c.loop.out in
    let to = g.W.Write.contents c.write_some.new.out in
    record {
      done = was.done ++ take n rest;
      split = some_more c.args.bytes.now was.done rest n was.split;
      written = Appends-trans from mid to was.done (take n rest) was.written c.in_ok-count.ensures.some;
    }

pub returns-then-is_empty-clause-bytes : goal.returns-then-is_empty-clause-bytes
returns-then-is_empty-clause-bytes g c =
    let was = c.loop.invariant in
    let rest : List ℕ = c.loop.rest.now in
    let empty : rest ≡ [] = drop_of_length-le rest {i = 0} (search rules) in
    subst (Appends (g.W.Write.contents c.args.out.now) (g.W.Write.contents c.loop.out)) (sym (was.split ∙ ap (λ l. was.done ++ l) empty ∙ append-nil was.done)) was.written

pub returns-then-is_empty-clause-begins : goal.returns-then-is_empty-clause-begins
returns-then-is_empty-clause-begins g c =
    let was = c.loop.invariant in
    let at = g.W.Write.contents c.loop.out in
    begun (g.W.Write.contents c.args.out.now) at at c.args.bytes.now was.done c.loop.rest.now was.split was.written (Appends-nil at)

pub returns-in_err-count-clause-begins : goal.returns-in_err-count-clause-begins
returns-in_err-count-clause-begins g c =
    let was = c.loop.invariant in
    begun (g.W.Write.contents c.args.out.now) (g.W.Write.contents c.loop.out) (g.W.Write.contents c.write_some.new.out) c.args.bytes.now was.done c.loop.rest.now was.split was.written
    c.in_err-count.ensures.none

pub returns-clause-begins : goal.returns-clause-begins
returns-clause-begins g c =
    let was = c.loop.invariant in
    let at = g.W.Write.contents c.loop.out in
    begun (g.W.Write.contents c.args.out.now) at at c.args.bytes.now was.done c.loop.rest.now was.split was.written (Appends-nil at)
