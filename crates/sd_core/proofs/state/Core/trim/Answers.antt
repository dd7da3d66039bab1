use Rattle.std.proofs.Common.{◌≡◌, ◌+◌, ◌<◌, ◌≤◌, ◌^◌, length, Ok, Err, refl, sym, ◌∙◌, ap, subst, arith}
use Rattle.std.proofs.lemmas.Option.{same_Some}
use Rattle.sd_command.specs.declared.refusal.Refusal.TheVariants.{NumbersUsed, OutOfMemory}
use Rattle.sd_journal.specs.History.{last}
use Rattle.sd_journal.specs.Marked.{entries_of}
use Rattle.sd_crash_safety.specs.Believes.{Believes}
use Rattle.sd_crash_safety.specs.Trims.{trimmed}
use Rattle.sd_crash_safety.specs.View.{CoreView, history_of}
use Rattle.sd_core.specs.contracts.state.Core.{the_view}
use Rattle.sd_core.specs.Starts.{base_of}
use Rattle.sd_core.specs.Trims.{Trims, unfolded}
use Rattle.sd_core.proofs.TrimLemmas.{few_enough, front_is_there, front_with, legal_core, same_many, unfolded_some}
use Rattle.sd_core.proofs.TrimmedLemmas.{trimmed_core}
use Rattle.sd_core.proofs.state.Core.trim.Goals as goal

pub unreachable-requires : goal.unreachable-requires
unreachable-requires c =
    let u = unfolded_some c.self.inside.last c.self.inside.base.number c.in-Some.checkpoint (sym c.unfolded.ensures ∙ c.in-Some.is) in
    front_is_there c.trim_laws.ensures c.tracked_laws.ensures _ c.in-Some.checkpoint c.self.invariant u.0 u.1 c.in_default-ended_at.ensures.ends

pub returns-then-are_too_many-clause-trims : goal.returns-then-are_too_many-clause-trims
returns-then-are_too_many-clause-trims c = λ n some.
    let u = unfolded_some c.self.inside.last c.self.inside.base.number c.in-Some.checkpoint (sym c.unfolded.ensures ∙ c.in-Some.is) in
    let f = front_with c.trim_laws.ensures c.marked_trim_laws.ensures c.tracked_laws.ensures _ c.in-Some.checkpoint c.in-Some-ended_at.count c.self.invariant u.0 u.1 c.in-Some-ended_at.ensures.ends in
    let same : c.in-Some.checkpoint ≡ n = same_Some c.in-Some.checkpoint n (sym c.in-Some.is ∙ c.unfolded.ensures
    ∙ ap (λ l. unfolded l c.self.inside.base.number) c.self.invariant.journal_is.newest_is
    ∙ ap (λ (v : CoreView). unfolded (last v.base (history_of v)) v.base.number) c.self.view_is ∙ some) in
    let over : 2 ^ 62 < c.self.inside.base.folded + c.in-Some-ended_at.count = c.if-are_too_many.ensures.0 refl in
    let many = f.many in
    let seen : Trims c.in-Some.checkpoint (the_view c.self.inside) (Err NumbersUsed) (the_view c.self.inside) =
    record { kept = f.kept; front = f.front; parts = f.parts; ended = f.ended; does = (omega (arith, over, many), refl) } in
    subst (λ m. Trims m c.args.self.now (Err NumbersUsed) c.args.self.now) same (subst (λ v. Trims c.in-Some.checkpoint v (Err NumbersUsed) v) c.self.view_is seen)

pub returns-in_default-fold_front-clause-trims : goal.returns-in_default-fold_front-clause-trims
returns-in_default-fold_front-clause-trims c = λ n some.
    let u = unfolded_some c.self.inside.last c.self.inside.base.number c.in-Some.checkpoint (sym c.unfolded.ensures ∙ c.in-Some.is) in
    let f = front_with c.trim_laws.ensures c.marked_trim_laws.ensures c.tracked_laws.ensures _ c.in-Some.checkpoint c.in-Some-ended_at.count c.self.invariant u.0 u.1 c.in-Some-ended_at.ensures.ends in
    let same : c.in-Some.checkpoint ≡ n = same_Some c.in-Some.checkpoint n (sym c.in-Some.is ∙ c.unfolded.ensures
    ∙ ap (λ l. unfolded l c.self.inside.base.number) c.self.invariant.journal_is.newest_is
    ∙ ap (λ (v : CoreView). unfolded (last v.base (history_of v)) v.base.number) c.self.view_is ∙ some) in
    let many = f.many in
    let within : c.self.inside.base.folded + c.in-Some-ended_at.count ≤ 2 ^ 62 = few_enough c.are_too_many.result _ c.are_too_many.ensures c.if-are_too_many.false in
    let still : ◌≡◌ {A = CoreView} (the_view (record c.self.inside { base = c.fold_front.new.base; journal = c.fold_front.new.journal })) (the_view c.self.inside) =
    (λ i. record (the_view c.self.inside) {
      base = c.in_default-fold_front.ensures.base i;
      items = (c.in_default-fold_front.ensures.journal i).items;
      held = (c.in_default-fold_front.ensures.journal i).held;
      limit = (c.in_default-fold_front.ensures.journal i).limit;
    }) in
    let seen : Trims c.in-Some.checkpoint (the_view c.self.inside) (Err OutOfMemory) (the_view (record c.self.inside { base = c.fold_front.new.base; journal = c.fold_front.new.journal })) =
    record { kept = f.kept; front = f.front; parts = f.parts; ended = f.ended; does = (omega (arith, within, many), still) } in
    subst (λ m. Trims m c.args.self.now (Err OutOfMemory) (the_view (record c.self.inside { base = c.fold_front.new.base; journal = c.fold_front.new.journal }))) same
    (subst (λ v. Trims c.in-Some.checkpoint v (Err OutOfMemory) (the_view (record c.self.inside { base = c.fold_front.new.base; journal = c.fold_front.new.journal }))) c.self.view_is seen)

pub invariant_of-self-2 : goal.invariant_of-self-2
invariant_of-self-2 c =
    let u = unfolded_some c.self.inside.last c.self.inside.base.number c.in-Some.checkpoint (sym c.unfolded.ensures ∙ c.in-Some.is) in
    let f = c.in-Ok.ensures.ok in
    trimmed_core c.trim_laws.ensures c.marked_trim_laws.ensures c.tracked_laws.ensures _ (base_of c.fold_front.new.base) c.fold_front.new.journal c.in-Some.checkpoint f.front c.self.invariant (record {
      newest = u.0;
      other = u.1;
      parts = f.parts;
      ended = f.ended;
      base_is = f.base;
      first = f.first;
      held = f.held;
      limit = f.limit;
    })

pub returns-clause-trims : goal.returns-clause-trims
returns-clause-trims c = λ n some.
    let f = c.in-Ok.ensures.ok in
    let same : c.in-Some.checkpoint ≡ n = same_Some c.in-Some.checkpoint n (sym c.in-Some.is ∙ c.unfolded.ensures
    ∙ ap (λ l. unfolded l c.self.inside.base.number) c.self.invariant.journal_is.newest_is
    ∙ ap (λ (v : CoreView). unfolded (last v.base (history_of v)) v.base.number) c.self.view_is ∙ some) in
    let u = unfolded_some c.self.inside.last c.self.inside.base.number c.in-Some.checkpoint (sym c.unfolded.ensures ∙ c.in-Some.is) in
    let within : c.self.inside.base.folded + c.in-Some-ended_at.count ≤ 2 ^ 62 = few_enough c.are_too_many.result _ c.are_too_many.ensures c.if-are_too_many.false in
    let many : length (entries_of f.front) ≡ c.in-Some-ended_at.count = same_many c.trim_laws.ensures c.marked_trim_laws.ensures c.tracked_laws.ensures _ c.in-Some.checkpoint c.in-Some-ended_at.count c.fold_front.new.journal.items f.front c.self.invariant u.0 u.1
    c.in-Some-ended_at.ensures.ends f.parts f.ended in
    let is : ◌≡◌ {A = CoreView} (the_view (record c.self.inside { base = c.fold_front.new.base; journal = c.fold_front.new.journal })) (trimmed (the_view c.self.inside) c.in-Some.checkpoint c.fold_front.new.journal.items f.front) =
    (λ i. record (the_view c.self.inside) { base = f.base i; items = c.fold_front.new.journal.items; held = f.held i; limit = f.limit i }) in
    let seen : Trims c.in-Some.checkpoint (the_view c.self.inside) (Ok c.in-Ok.folded) (the_view (record c.self.inside { base = c.fold_front.new.base; journal = c.fold_front.new.journal })) =
    record { kept = c.fold_front.new.journal.items; front = f.front; parts = f.parts; ended = f.ended; does = (omega (arith, within, many), f.hands, is) } in
    subst (λ m. Trims m c.args.self.now (Ok c.in-Ok.folded) (the_view (record c.self.inside { base = c.fold_front.new.base; journal = c.fold_front.new.journal }))) same
    (subst (λ v. Trims c.in-Some.checkpoint v (Ok c.in-Ok.folded) (the_view (record c.self.inside { base = c.fold_front.new.base; journal = c.fold_front.new.journal }))) c.self.view_is seen)

pub returns-clause-goes_on : goal.returns-clause-goes_on
returns-clause-goes_on c = λ asked bodies files b.
    let f = c.in-Ok.ensures.ok in
    let is : ◌≡◌ {A = CoreView} (the_view (record c.self.inside { base = c.fold_front.new.base; journal = c.fold_front.new.journal })) (trimmed (the_view c.self.inside) c.in-Some.checkpoint c.fold_front.new.journal.items f.front) =
    (λ i. record (the_view c.self.inside) { base = f.base i; items = c.fold_front.new.journal.items; held = f.held i; limit = f.limit i }) in
    subst (λ v. Believes v asked bodies files) (sym is)
    (c.trim_step.ensures (the_view c.self.inside) c.in-Some.checkpoint c.fold_front.new.journal.items f.front asked bodies files f.parts
    (legal_core c.tracked_laws.ensures _ c.self.invariant) f.ended (subst (λ v. Believes v asked bodies files) (sym c.self.view_is) b))
