use Rattle.std.proofs.Common.{◌≡◌, ◌<◌, ◌≤◌, ◌-◌, ℕ, Bool, true, false, nat_le, IsSome, subst, ap, ◌∙◌, arith}
use Rattle.std.specs.FinMap as finmap
use Rattle.sd_fold.specs.Overlay.{changes_of}
use Rattle.sd_areas.specs.Pages.{is_within}
use Rattle.std.specs.Prelude.{Option}
use Rattle.sd_areas.specs.PlainMemory.{Page}
use Rattle.sd_pagetable.specs.Nested.{Table}
use Rattle.sd_fold.proofs.Tables.{removed_run, still_outside, in_run, from_first, below_end}
use Rattle.sd_fold.proofs.changes.forget_run.Goals as goal

none_left : (now : Table (Option Page)) (first end page : ℕ) → end ≤ page → ((q : ℕ) → IsSome (finmap.get now q) → nat_le first q ≡ true → page ≤ q)
    → (q : ℕ) → is_within first (end - first) q ≡ true → IsSome (finmap.get now q) → ⊥
none_left now first end page past least q within there =
    let le : page ≤ q = least q there (from_first first end q within) in
    let less : q < end = below_end first end q within in
    absurd (omega arith)

apart : (b : Bool) → b ≡ true → b ≡ false → ⊥
apart b e f = absurd (cc)

pub returns-then-number-end : goal.returns-then-number-end
returns-then-number-end c =
    let past : c.args.end ≤ c.in-Some.page = subst (λ n. c.args.end ≤ n) c.number.ensures.value c.if-number-end.true in
    removed_run (changes_of c.args.changes.now.entries) (changes_of c.loop-page.changes.entries) c.args.first (c.args.end - c.args.first) c.loop-page.invariant
    (none_left (changes_of c.loop-page.changes.entries) c.args.first c.args.end c.in-Some.page past c.in-Some.ensures.2)

pub loop-page-preserved : goal.loop-page-preserved
loop-page-preserved c =
    let below : c.in-Some.page < c.args.end = subst (λ n. n < c.args.end) c.number.ensures.value c.if-number-end.false in
    λ q outside. ap (λ (m : Table (Option Page)). finmap.get m q) c.forget.ensures.rest
    ∙ still_outside (changes_of c.args.changes.now.entries) (changes_of c.loop-page.changes.entries) c.in-Some.page c.args.first (c.args.end - c.args.first)
    (in_run c.args.first c.args.end c.in-Some.page c.in-Some.ensures.1 below) c.loop-page.invariant q outside

pub returns : goal.returns
returns c = removed_run (changes_of c.args.changes.now.entries) (changes_of c.loop-page.changes.entries) c.args.first (c.args.end - c.args.first) c.loop-page.invariant
    (λ q within there. apart (nat_le c.args.first q) (from_first c.args.first c.args.end q within) (c.in_default.ensures q there))
