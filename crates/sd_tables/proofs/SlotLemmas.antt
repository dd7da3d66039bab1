-- A place for a table, after a change.
use Rattle.std.proofs.Common.{◌≡◌, ℕ, ◌<◌, cond, nat_eq, IsSome, Option, Some, refl, sym, ◌∙◌, subst, arith}
use Rattle.std.specs.Prelude.{Result, IfOk, OnErr}
use Rattle.std.proofs.lemmas.Bool.{eq-eqb, cond-true}
use Rattle.sd_tables.specs.declared.entry.Entry.{Entry}
use Rattle.sd_tables.specs.Radix.{HasMappedPage}

-- a page that was put is there
pub has_put : (span : ℕ) (before after : ℕ → Option Entry) (page : ℕ) (entry : Entry) → page < span → ((other : ℕ) → after other ≡ cond (nat_eq other page) (Some entry) (before other)) → HasMappedPage span after
has_put span before after page entry l is = (
  page,
  l,
  subst (λ (o : Option Entry). IsSome o) (sym (is page ∙ cond-true (nat_eq page page) (Some entry) (before page) (eq-eqb page page refl))) refl,
)

-- and where it couldn't be put, those that were there are there
pub has_after : {E : Type 0} (span : ℕ) (before after : ℕ → Option Entry) (page : ℕ) (entry : Entry) (r : Result (Option Entry) E) → page < span → HasMappedPage span before
    → IfOk r (λ _. (other : ℕ) → after other ≡ cond (nat_eq other page) (Some entry) (before other)) → OnErr r ((other : ℕ) → after other ≡ before other) → HasMappedPage span after
has_after span before after page entry r l has ok err = grind arith
