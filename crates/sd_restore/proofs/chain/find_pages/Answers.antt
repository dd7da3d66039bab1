use Rattle.std.proofs.Common.{◌≡◌, ◌+◌, refl, subst, arith}
use Rattle.std.specs.Prelude.{IfSome}
use Rattle.sd_chain.specs.declared.trace.Trace.{Trace}
use Rattle.sd_chain.specs.declared.trace.Trace.TheVariants as trace
use Rattle.sd_chain.specs.Chains.{AreBelowLimit, IsTraced, found_on, trace_on}
use Rattle.sd_chain.specs.Ways.{found_in}
use Rattle.sd_restore.proofs.chain.find_pages.Goals as goal

pub returns-in-Found-clause-placed : goal.returns-in-Found-clause-placed
returns-in-Found-clause-placed c = λ k less.
    let answer : Trace = trace.Found (found_on c.in-Found.there k) in
    let traced : IsTraced c.args.catalog.now c.args.serial (c.args.space, c.args.page + k) answer =
    subst (λ (t : Trace). IsTraced c.args.catalog.now c.args.serial (c.args.space, c.args.page + k) (trace_on t k)) c.in-Found.is
    (c.trace-run.ensures.traced c.args.catalog.now c.args.serial c.requires.images c.requires.chain k less) in
    record {
      lies = (traced.found (found_on c.in-Found.there k)).0 refl;
      held = λ contents all catalog slots. c.traced_is_held.ensures.held contents all c.args.serial (c.args.space, c.args.page + k) answer catalog slots traced;
      inside = λ contents catalog. c.traced_is_held.ensures.inside contents c.args.serial (c.args.space, c.args.page + k) answer catalog traced;
    }

pub returns-in-Found-clause-below : goal.returns-in-Found-clause-below
returns-in-Found-clause-below c =
    subst (λ (t : Trace). IfSome (found_in t) (λ there. AreBelowLimit there c.trace-run.result.count)) c.in-Found.is
    (c.trace-run.ensures.below c.args.catalog.now c.args.serial c.requires.images c.requires.chain)

pub returns-in-Broken-clause-broken : goal.returns-in-Broken-clause-broken
returns-in-Broken-clause-broken c =
    let answer : Trace = trace.Broken c.in-Broken.slot in
    let first : IsTraced c.args.catalog.now c.args.serial (c.args.space, c.args.page + 0) answer =
    subst (λ (t : Trace). IsTraced c.args.catalog.now c.args.serial (c.args.space, c.args.page + 0) (trace_on t 0)) c.in-Broken.is
    (c.trace-run.ensures.traced c.args.catalog.now c.args.serial c.requires.images c.requires.chain 0 c.trace-run.ensures.some) in
    let same : c.args.page + 0 ≡ c.args.page = omega arith in
    let traced : IsTraced c.args.catalog.now c.args.serial (c.args.space, c.args.page) answer = subst (λ n. IsTraced c.args.catalog.now c.args.serial (c.args.space, n) answer) same first in (
      refl,
      (traced.broken c.in-Broken.slot).0 refl,
      λ contents all catalog slots. c.traced_is_held.ensures.held contents all c.args.serial (c.args.space, c.args.page) answer catalog slots traced,
    )

pub unreachable-requires : goal.unreachable-requires
unreachable-requires c =
    let first : IsTraced c.args.catalog.now c.args.serial (c.args.space, c.args.page + 0) trace.Absent =
    subst (λ (t : Trace). IsTraced c.args.catalog.now c.args.serial (c.args.space, c.args.page + 0) (trace_on t 0)) c.in-Absent.is
    (c.trace-run.ensures.traced c.args.catalog.now c.args.serial c.requires.images c.requires.chain 0 c.trace-run.ensures.some) in
    let same : c.args.page + 0 ≡ c.args.page = omega arith in
    let traced : IsTraced c.args.catalog.now c.args.serial (c.args.space, c.args.page) trace.Absent = subst (λ n. IsTraced c.args.catalog.now c.args.serial (c.args.space, n) trace.Absent) same first in
    c.requires.listed (traced.absent.0 refl)
