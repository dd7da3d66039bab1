-- Which front a trim folds.
use Rattle.std.proofs.Common.{◌≡◌, ◌≢◌, ◌↔◌, ◌⊎◌, ℕ, ◌<◌, ◌≤◌, ◌^◌, IsTrue, ◌==◌, Bool, true, false, if◌then◌else◌, ◌++◌, length, take, drop, reverse, Option, Some, None, refl, sym, ◌∙◌, ap, subst, inl, inr}
use Rattle.std.proofs.lemmas.Bool.{cases_lt, eq-eqb}
use Rattle.std.proofs.lemmas.List.{length-reverse, length-take-le}
use Rattle.std.proofs.lemmas.Option.{same_Some}
use Rattle.sd_journal.specs.History.{History}
use Rattle.sd_journal.specs.Legal.{IsLegal}
use Rattle.sd_journal.specs.Marked.{Marked, entries_of}
use Rattle.sd_journal.specs.TrackedLaws.{TrackedLaws}
use Rattle.sd_journal.specs.Trimming.{EndsAt, IsFolded, MarkedTrimLaws, TrimLaws}
use Rattle.sd_core.specs.Sound.{IsCore, Parts}
use Rattle.sd_core.specs.Trims.{unfolded}
use Rattle.sd_core.specs.Visited.{HasSettled}
use Rattle.sd_core.proofs.FrontLemmas.{ends_of, parts_of}

-- the last checkpoint, which isn't the base's
pub unfolded_some : (newest number : Option ℕ) (n : ℕ) → unfolded newest number ≡ Some n → (newest ≡ Some n) × (number ≢ Some n)
unfolded_some None number n is = absurd (let no : None ≡ Some n = is in cc)
unfolded_some (Some k) None n is = (is, λ own. (let no : None ≡ Some n = own in cc))
unfolded_some (Some k) (Some m) n is = by (k == m) refl is
  where
    by : (b : Bool) → (k == m) ≡ b → (if b then None else Some k) ≡ Some n → (Some k ≡ Some n) × (Some m ≢ Some n)
    by true same e = absurd (let no : None ≡ Some n = e in cc)
    by false other e = (
      e,
      λ own. (
          let here : (k == m) ≡ true = eq-eqb k m (same_Some k n e ∙ sym (same_Some m n own)) in
          let no : true ≡ false = sym here ∙ other in
          absurd (cc)
          ),
    )

pub legal_core : TrackedLaws → (core : Parts) → IsCore core → IsLegal core.base (entries_of core.journal.items)
legal_core laws core sound = laws.legal core.base core.journal.items sound.journal_is.tracked.marked

-- it has a front
pub front_is_there : TrimLaws → TrackedLaws → (core : Parts) (n : ℕ) → IsCore core → core.newest ≡ Some n → core.base.number ≢ Some n
    → ((count : ℕ) → EndsAt n (reverse (entries_of core.journal.items)) count → ⊥) → ⊥
front_is_there laws tracked core n sound newest other none =
    let some = laws.some core.base (entries_of core.journal.items) n (legal_core tracked core sound) (sym sound.journal_is.newest_is ∙ newest) other in
    none (length some.1) (ends_of n (entries_of core.journal.items) some.0 some.1 some.2 some.3)

-- the front with so many entries
pub record HasFront (core : Parts) (n count : ℕ) : Type 0 where
  pub kept : Marked
  pub front : Marked
  pub parts : core.journal.items ≡ kept ++ front
  pub ended : IsFolded n front
  pub many : length (entries_of front) ≡ count

pub front_with : TrimLaws → MarkedTrimLaws → TrackedLaws → (core : Parts) (n count : ℕ) → IsCore core → core.newest ≡ Some n → core.base.number ≢ Some n
    → EndsAt n (reverse (entries_of core.journal.items)) count → HasFront core n count
front_with laws marked tracked core n count sound newest other ends = by sound.journal_is.settled
  where
    history : History
    history = entries_of core.journal.items

    by : HasSettled core.base core.journal.items core.newest → HasFront core n count
    by (inl own) = absurd (other (sym own ∙ newest))
    by (inr s) =
        let same = same_Some s.0 n (sym s.1 ∙ newest) in
        let its : IsFolded n s.2.folded = subst (λ m. IsFolded m s.2.folded) same s.2.front in
        let entries : entries_of core.journal.items ≡ entries_of s.2.kept ++ entries_of s.2.folded = ap entries_of s.2.parts ∙ marked.entries s.2.kept s.2.folded in
        let one : entries_of s.2.folded ≡ reverse (take count (reverse (entries_of core.journal.items))) =
        laws.one core.base (entries_of s.2.kept) (entries_of s.2.folded) (reverse (drop count (reverse (entries_of core.journal.items)))) (reverse (take count (reverse (entries_of core.journal.items)))) n
        (subst (IsLegal core.base) entries (legal_core tracked core sound)) (sym entries ∙ parts_of (entries_of core.journal.items) count) its.ended ends.1 in
        record {
          kept = s.2.kept;
          front = s.2.folded;
          parts = s.2.parts;
          ended = its;
          many = ap length one ∙ length-reverse (take count (reverse (entries_of core.journal.items))) ∙ length-take-le count (reverse (entries_of core.journal.items)) ends.0;
        }

-- each front that ended it has as many
pub same_many : TrimLaws → MarkedTrimLaws → TrackedLaws → (core : Parts) (n count : ℕ) (kept front : Marked) → IsCore core → core.newest ≡ Some n → core.base.number ≢ Some n
    → EndsAt n (reverse (entries_of core.journal.items)) count → core.journal.items ≡ kept ++ front → IsFolded n front → length (entries_of front) ≡ count
same_many laws marked tracked core n count kept front sound newest other ends parts f =
    let entries : entries_of core.journal.items ≡ entries_of kept ++ entries_of front = ap entries_of parts ∙ marked.entries kept front in
    let one : entries_of front ≡ reverse (take count (reverse (entries_of core.journal.items))) =
    laws.one core.base (entries_of kept) (entries_of front) (reverse (drop count (reverse (entries_of core.journal.items)))) (reverse (take count (reverse (entries_of core.journal.items)))) n
    (subst (IsLegal core.base) entries (legal_core tracked core sound)) (sym entries ∙ parts_of (entries_of core.journal.items) count) f.ended ends.1 in
    ap length one ∙ length-reverse (take count (reverse (entries_of core.journal.items))) ∙ length-take-le count (reverse (entries_of core.journal.items)) ends.0

-- no more were folded than may be
pub few_enough : (over : Bool) (all : ℕ) → (IsTrue over ↔ 2 ^ 62 < all) → over ≡ false → all ≤ 2 ^ 62
few_enough over all tells is = not_above (2 ^ 62) all (λ above. (let yes : over ≡ true = tells.1 above in let no : true ≡ false = sym yes ∙ is in absurd (cc)))
  where
    not_above : (most n : ℕ) → (most < n → ⊥) → n ≤ most
    not_above most n less = by (cases_lt most n)
      where
        by : (most < n) ⊎ (n ≤ most) → n ≤ most
        by (inl above) = absurd (less above)
        by (inr below) = below
