use Rattle.std.proofs.Common.{rules, ◌≡◌, List, ℕ, [], ◌∷◌, ◌++◌, codes, subst}
use Rattle.std.specs.List.{flat_map}
use Rattle.std.specs.Fmt.{decimal}
use Rattle.std.specs.Io.KnownBytes.{Appends}
use Rattle.std.proofs.KnownBytes.{Appends-trans}
use Rattle.sd_procfs.specs.Listing.{area_line}
use Rattle.sd_restore.specs.Placed.{placed_pages}
use Rattle.sd_readers.specs.Texts.{placed_lines}
use Rattle.sd_readers.proofs.BreakLemmas.{begun, broken_off, space_and_areas, space_line}
use Rattle.sd_exit.proofs.EndingLemmas.{always_on_fault}
use Rattle.sd_readers.proofs.restore.print_space.Goals as goal

pub returns-in_err-areas_text-clause-begins : goal.returns-in_err-areas_text-clause-begins
returns-in_err-areas_text-clause-begins g c = λ honest.
    let number : List ℕ = decimal c.args.space.now.space in
    let areas : List ℕ = flat_map area_line c.args.space.now.areas.items in
    let lines : List ℕ = placed_lines (g.D.Disk.contents c.args.disk.now) c.args.space.now.space (placed_pages c.args.runs.now) in
    let from = g.W.Write.contents c.args.out.now.writer in
    let first = g.W.Write.contents c.writeln.new.self.writer in
    let line : Appends from first (codes "space " ++ (number ++ 10 ∷ [])) =
    subst (λ n. Appends from first (codes "space " ++ (decimal n ++ 10 ∷ []))) c.number.ensures c.in_ok-writeln.ensures.bytes in
    always_on_fault c.from_residual-in_err-areas_text.result
    (begun from first (codes "space " ++ (number ++ 10 ∷ [])) (areas ++ lines)
    (codes "space " ++ number ++ 10 ∷ [] ++ areas ++ lines) (space_line number areas lines) line)

pub returns-clause-begins : goal.returns-clause-begins
returns-clause-begins g c = λ honest.
    let number : List ℕ = decimal c.args.space.now.space in
    let areas : List ℕ = flat_map area_line c.args.space.now.areas.items in
    let lines : List ℕ = placed_lines (g.D.Disk.contents c.args.disk.now) c.args.space.now.space (placed_pages c.args.runs.now) in
    let from = g.W.Write.contents c.args.out.now.writer in
    let first = g.W.Write.contents c.writeln.new.self.writer in
    let mid = g.W.Write.contents c.write_all.new.self.writer in
    let to = g.W.Write.contents c.print_pages.new.out.writer in
    let line : Appends from first (codes "space " ++ (number ++ 10 ∷ [])) =
    subst (λ n. Appends from first (codes "space " ++ (decimal n ++ 10 ∷ []))) c.number.ensures c.in_ok-writeln.ensures.bytes in
    let listed : c.as_bytes.result.now ≡ areas = search rules in
    broken_off c.print_pages.result from mid to (codes "space " ++ (number ++ 10 ∷ []) ++ areas) lines [] (codes "space " ++ number ++ 10 ∷ [] ++ areas ++ lines)
    (space_and_areas number areas lines)
    (Appends-trans from first mid (codes "space " ++ (number ++ 10 ∷ [])) areas line (subst (Appends first mid) listed c.in_ok-write_all.ensures.bytes))
    (c.print_pages.ensures.begins honest)
