-- The first line ends where byte 10 is found, or it is the whole text.
use Rattle.std.proofs.Common.{◌≡◌, ◌-◌, ◌+◌, ◌∷◌, ◌∙◌, length, take, drop, ap, sym, arith, length-drop}
use Rattle.std.proofs.lemmas.List.{take_all}
use Rattle.sd_script.specs.Script.{lines_of}
use Rattle.sd_script.proofs.Parsing.{line_at, line_alone}
use Rattle.sd_script.proofs.script.first_line.Goals as goal

pub returns-in_err-end-clause-last : goal.returns-in_err-end-clause-last
returns-in_err-end-clause-last c = rw c.from_residual.ensures (line_alone c.args.text.now c.in_err-end.ensures)

pub returns-clause-first : goal.returns-clause-first
returns-clause-first c =
    let text = c.args.text.now in
    let end = c.in_ok-end.end in
    let long = length-drop (end + 1) text in
    let all : take (length text - (end + 1)) (drop (end + 1) text) ≡ drop (end + 1) text = take_all (length text - (end + 1)) (drop (end + 1) text) (omega arith) in
    line_at text end c.in_ok-end.ensures ∙ ap (λ others. take end text ∷ lines_of others) (sym all)
