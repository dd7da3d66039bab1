use Rattle.std.proofs.Common.{[], inl, refl, false, true, ◌≡◌, Result, sym, subst}
use Rattle.std.proofs.KnownBytes.{Appends-nil}
use Rattle.sd_exit.specs.declared.stop.Stop.{Stop}
use Rattle.sd_exit.specs.Ending.{Exits, end_status, end_text, status_of, stop_text}
use Rattle.sd_exit.proofs.EndingLemmas.{exits}
use Rattle.sd_exit.proofs.ending.exit.Goals as goal

pub returns-in-Ok-clause-exits : goal.returns-in-Ok-clause-exits
returns-in-Ok-clause-exits g c =
    let from = g.W.Write.contents c.args.out.now.writer in
    let done = c.finish in
    let to = g.W.Write.contents done.new.self.writer in
    subst (λ (ended : Result Unit Stop). Exits from to done.new.self.refused (end_text ended) (end_status ended) done.result) (sym c.in-Ok.is)
    (exits from from to done.new.self.refused [] 0 0 done.result false
    (inl (refl, Appends-nil from)) (λ f. absurd (let e : false ≡ true = f in cc)) done.ensures.bytes done.ensures.status)

pub returns-in-Err-clause-exits : goal.returns-in-Err-clause-exits
returns-in-Err-clause-exits g c =
    let from = g.W.Write.contents c.args.out.now.writer in
    let told = c.status_of_stop-wanted in
    let done = c.finish-in-Err in
    let to = g.W.Write.contents done.new.self.writer in
    let why : Stop = c.in-Err.stop in
    subst (λ (ended : Result Unit Stop). Exits from to done.new.self.refused (end_text ended) (end_status ended) done.result) (sym c.in-Err.is)
    (exits from (g.W.Write.contents told.new.out.writer) to done.new.self.refused (stop_text why) (status_of why)
    told.result done.result told.new.out.refused told.ensures.told done.ensures.refused done.ensures.bytes done.ensures.status)
