use Rattle.std.proofs.Common.{ap, ◌∙◌}
use Rattle.sd_pagetable.specs.Page.{protected_page}
use Rattle.sd_pagetable.specs.Contents.{plain_of}
use Rattle.sd_pagetable.proofs.PlainRanges.{plain_protected}
use Rattle.sd_pagetable.proofs.RangeRefusals.{no_bytes, accepted_alive}
use Rattle.sd_pagetable.proofs.range_calls.mprotect.Goals as goal

pub returns-then-bytes-eq0-clause-step : goal.returns-then-bytes-eq0-clause-step
returns-then-bytes-eq0-clause-step c =
    let alive = accepted_alive c.args.paging.now c.args.space c.args.address c.args.prot (c.in_ok-protect_nothing.ensures c.args.paging.now c.args.prot c.requires.kept) in
    no_bytes c.args.paging.now c.args.space c.args.address c.args.bytes (protected_page c.args.prot) alive c.if-bytes-eq0.true

pub returns-then-bytes-eq0-clause-memory : goal.returns-then-bytes-eq0-clause-memory
returns-then-bytes-eq0-clause-memory c =
    let alive = accepted_alive c.args.paging.now c.args.space c.args.address c.args.prot (c.in_ok-protect_nothing.ensures c.args.paging.now c.args.prot c.requires.kept) in
    ap plain_of (no_bytes c.args.paging.now c.args.space c.args.address c.args.bytes (protected_page c.args.prot) alive c.if-bytes-eq0.true)
    ∙ plain_protected c.args.paging.now c.args.space c.args.address c.args.bytes c.args.prot
