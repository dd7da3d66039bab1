use Rattle.std.proofs.Common.{◌≡◌, ◌+◌, ℕ, Bool, Option, length, reverse, take, Some, refl, sym, ◌∙◌, ap, subst}
use Rattle.std.proofs.lemmas.List.{length-reverse, reverse-reverse}
use Rattle.sd_areas.specs.Memory.{memory_of}
use Rattle.sd_areas.specs.PlainMemory.{PlainMemory}
use Rattle.sd_journal.specs.declared.origin.Origin.TheVariants.{Trimmed}
use Rattle.sd_journal.specs.History.{Base, History, memory_after}
use Rattle.sd_journal.specs.Legal.{IsLegal}
use Rattle.sd_journal.specs.Marked.{entries_of}
use Rattle.sd_journal.specs.Trimming.{IsEnded, is_acknowledged}
use Rattle.sd_core.specs.Starts.{base_of}
use Rattle.sd_core.proofs.FrontLemmas.{front_entries, legal_front, parts_of}
use Rattle.sd_core.proofs.trimming.fold_front.Goals as goal

pub fold-requires : goal.fold-requires
fold-requires c =
    let history = entries_of c.args.journal.now.items in
    let front = reverse (take c.args.count (reverse history)) in
    let legal : IsLegal (base_of c.args.base.now) front = legal_front (base_of c.args.base.now) _ front (subst (IsLegal (base_of c.args.base.now)) (parts_of history c.args.count) c.requires.legal) in
    record { legal = (base_of c.args.base.now, refl, subst (λ l. IsLegal (base_of c.args.base.now) (reverse (take c.args.count l))) (sym c.entries.ensures) legal) }

pub returns-clause-ok : goal.returns-clause-ok
unfolding memory_of
returns-clause-ok c =
    let old = base_of c.args.base.now in
    let items = c.args.journal.now.items in
    let taken = c.take_front-entries.ensures in
    let front : History = entries_of taken.gone in
    let many : length front ≡ c.args.count = sym (length-reverse front) ∙ ap length (sym taken.entries) ∙ taken.count in
    let front_is : reverse (take c.args.count (reverse (entries_of items))) ≡ front =
    front_entries c.marked_trim_laws.ensures items c.take_front-entries.new.self.items taken.gone c.args.count taken.parts many in
    let memory : memory_of c.fold.new.base ≡ memory_after old front =
    c.in_ok-fold.ensures.ok old refl ∙ ap (λ l. memory_after old (reverse (take c.args.count l))) c.entries.ensures ∙ ap (memory_after old) front_is in
    let last : c.is_acknowledged.result ≡ is_acknowledged front =
    c.is_acknowledged.ensures ∙ ap (λ l. is_acknowledged (reverse l)) (c.deref.ensures.value ∙ taken.entries) ∙ ap is_acknowledged (reverse-reverse front) in
    record {
      front = taken.gone;
      parts = taken.parts;
      ended = record { newest = taken.newest; ended = subst (IsEnded c.args.checkpoint) front_is c.requires.ends.1 };
      hands = record { first_is = refl; entries = taken.entries };
      base = based (Some c.args.checkpoint) memory last (ap (λ n. c.args.base.now.folded + n) (sym many));
      first = taken.first ∙ ap (λ k. k + c.args.count) c.requires.first;
      held = taken.held;
      limit = taken.limit;
    }
  where
    based : (number : Option ℕ) {one other : PlainMemory} {a b : Bool} {k m : ℕ} → one ≡ other → a ≡ b → k ≡ m
        → ◌≡◌ {A = Base} (record { number = number; memory = one; origin = Trimmed a; folded = k }) (record { number = number; memory = other; origin = Trimmed b; folded = m })
    based number memory last many = λ i. record { number = number; memory = memory i; origin = Trimmed (last i); folded = many i }
