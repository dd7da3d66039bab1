use Rattle.std.proofs.Common.{◌≡◌, ◌<◌, ◌≤◌, ◌^◌, ◌++◌, ◌∷◌, [], false, sym, ◌∙◌, ap, subst, arith}
use Rattle.sd_image.specs.Runs.{is_continued, end_of, AreRunsOf}
use Rattle.std.proofs.lemmas.List.{nil_from_length}
use Rattle.sd_image.proofs.GrownRuns.{ends_at, end_of-snoc, longer_runs, more_runs, begins_first, run_begins_after_last}
use Rattle.sd_image.proofs.runs.push_page.Goals as goal

pub continues-requires : goal.continues-requires
continues-requires c = grind (arith, end_of-snoc)

pub returns-in_default-clause-more : goal.returns-in_default-clause-more
returns-in_default-clause-more c = λ parent pages are sourced.
    let none : c.args.runs.now.items ≡ [] = nil_from_length c.args.runs.now.items (sym c.args.runs.now.ok.0 ∙ c.in_default.ensures.cases.0) in
    let within : c.args.page < 2 ^ 35 = omega (arith, c.number-number.ensures.value, c.number-number.ensures.within) in
    subst (AreRunsOf parent (pages ++ (c.args.page, c.args.kind) ∷ [])) (sym (c.in_ok-push.ensures.items ∙ ap (λ items. items ++ (record { first = c.args.page; count = 1; kind = c.args.kind }) ∷ []) (nil_from_length c.pop.new.self.items (sym c.pop.new.self.ok.0 ∙ c.in_default.ensures.cases.1))))
    (more_runs parent pages [] c.args.page c.args.kind (subst (AreRunsOf parent pages) none are) (begins_first parent c.args.page c.args.kind within sourced))

pub returns-then-continues-clause-more : goal.returns-then-continues-clause-more
returns-then-continues-clause-more c = λ parent pages are sourced.
    let within : c.args.page < 2 ^ 35 = omega (arith, c.number-number.ensures.value, c.number-number.ensures.within) in
    subst (AreRunsOf parent (pages ++ (c.args.page, c.args.kind) ∷ [])) (sym c.in_ok-push-2.ensures.items)
    (longer_runs parent pages c.pop.new.self.items c.in-Some.last c.args.page c.args.kind (subst (AreRunsOf parent pages) c.in-Some.ensures.items are) within
    (ap (λ n. is_continued c.in-Some.last n c.args.kind) (sym c.number-number.ensures.value) ∙ sym c.continues.ensures ∙ c.if-continues.true))

pub returns-then-continues-clause-end : goal.returns-then-continues-clause-end
returns-then-continues-clause-end c = grind (arith, ends_at, end_of-snoc)

pub returns-clause-more : goal.returns-clause-more
returns-clause-more c = λ parent pages are sourced.
    let within : c.args.page < 2 ^ 35 = omega (arith, c.number-number.ensures.value, c.number-number.ensures.within) in
    let other : is_continued c.in-Some.last c.args.page c.args.kind ≡ false =
    ap (λ n. is_continued c.in-Some.last n c.args.kind) (sym c.number-number.ensures.value) ∙ sym c.continues.ensures ∙ c.if-continues.false in
    let was : c.args.runs.now.items ≡ c.pop.new.self.items ++ c.in-Some.last ∷ [] = c.in-Some.ensures.items in
    let behind : end_of (c.pop.new.self.items ++ c.in-Some.last ∷ []) ≤ c.args.page = subst (λ runs. end_of runs ≤ c.args.page) was c.requires.behind in
    subst (AreRunsOf parent (pages ++ (c.args.page, c.args.kind) ∷ []))
    (sym (c.in_ok-push-4.ensures.items ∙ ap (λ items. items ++ (record { first = c.args.page; count = 1; kind = c.args.kind }) ∷ []) c.in_ok-push-3.ensures.items))
    (more_runs parent pages (c.pop.new.self.items ++ c.in-Some.last ∷ []) c.args.page c.args.kind (subst (AreRunsOf parent pages) was are)
    (run_begins_after_last parent c.pop.new.self.items c.in-Some.last c.args.page c.args.kind
    (omega (arith, end_of-snoc c.pop.new.self.items c.in-Some.last)) within other sourced))

pub returns-clause-end : goal.returns-clause-end
returns-clause-end c = ap end_of c.in_ok-push-4.ensures.items ∙ end_of-snoc c.push-2.new.self.items _
