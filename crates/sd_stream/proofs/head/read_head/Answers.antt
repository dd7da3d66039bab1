use Rattle.std.proofs.Common.{Option, Result, IfSome, IfErr, sym, subst}
use Rattle.std.proofs.lemmas.Result.{err_from_is_err_and}
use Rattle.sd_stream.specs.declared.base.Base.{Base}
use Rattle.sd_stream.specs.declared.stream_error.StreamError.{StreamError}
use Rattle.sd_stream.specs.Reading.{IsHeadFault}
use Rattle.sd_stream.proofs.HeadLemmas.{head_read, numberless}
use Rattle.sd_stream.proofs.head.read_head.Goals as goal

pub returns-clause-text : goal.returns-clause-text
returns-clause-text g c =
    let from = g.R.Read.remaining c.args.input.now in
    let mid = g.R.Read.remaining c.read_piece.new.input in
    let to = g.R.Read.remaining c.read_piece-2.new.input in
    head_read from mid to c.read_piece.new.buffer c.read_piece-2.new.buffer c.in_ok-base.base c.in_ok-read_piece.ensures.bytes c.in_ok-check_front.ensures.ok c.in_ok-read_piece-2.ensures.bytes
    c.in_ok-base.ensures.base.1

pub returns-in_err-base-clause-fault : goal.returns-in_err-base-clause-fault
returns-in_err-base-clause-fault g c =
    let from = g.R.Read.remaining c.args.input.now in
    let mid = g.R.Read.remaining c.read_piece.new.input in
    let to = g.R.Read.remaining c.read_piece-2.new.input in
    let given = err_from_is_err_and c.from_residual-in_err-base.result c.from_residual-in_err-base.ensures.1 in
    let fault = numberless from mid to c.read_piece.new.buffer c.read_piece-2.new.buffer _ c.in_ok-read_piece.ensures.bytes c.in_ok-check_front.ensures.ok c.in_ok-read_piece-2.ensures.bytes
    c.in_err-base.ensures.fault in
    subst (λ (r : Result (Option Base) StreamError). IfSome from (λ rest. IfErr r (IsHeadFault rest))) (sym given.1)
    (subst (λ (e : StreamError). IfSome from (λ rest. IsHeadFault rest e)) (sym given.2) fault)
