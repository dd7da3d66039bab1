-- A journal gives its memory, what is pending and what is last.
use Rattle.std.proofs.Common.{◌≡◌, ◌≢◌, ◌⊎◌, ℕ, ◌<◌, ◌≤◌, Bool, true, false, if◌then◌else◌, ◌∷◌, Option, Some, None, IfSome, IsSome, is_some, refl, sym, ◌∙◌, ap, subst, inl, inr, arith}
use Rattle.sd_command.specs.declared.command.Command.{Command}
use Rattle.sd_command.specs.declared.reply.Reply.{Reply}
use Rattle.sd_journal.specs.declared.entry.Entry.TheVariants.{Applied, Reopened}
use Rattle.sd_journal.specs.History.{Base, last, pending}
use Rattle.sd_journal.specs.Kept.{JournalView}
use Rattle.sd_journal.specs.Legal.{MayFollow}
use Rattle.sd_journal.specs.Marked.{Told, IsTracked, Marked, entries_of}
use Rattle.sd_journal.specs.TrackedLaws.{TrackedLaws}
use Rattle.sd_pagetable.specs.Contents.{Contents, IsSound}
use Rattle.sd_pagetable.specs.Law.{PlainLaw}
use Rattle.sd_core.specs.Answering.{IsAnswered}
use Rattle.sd_core.specs.declared.numbers.Numbers.{Numbers}
use Rattle.sd_core.specs.Sound.{AreSoundNumbers, IsJournal}
use Rattle.sd_core.specs.Visited.{HasSettled, HasVisitedAll}
use Rattle.sd_core.proofs.ApplyLemmas.{tracked_on}
use Rattle.sd_core.proofs.SettledLemmas.{settled_more, settled_now}

-- the entries are the same
pub same_journal : (base : Base) (old new : JournalView) (memory : Contents) (frozen newest : Option ℕ) → new.first ≡ old.first → new.items ≡ old.items → new.limit ≡ old.limit
    → IsJournal base old memory frozen newest → IsJournal base new memory frozen newest
same_journal base old new memory frozen newest first items limit was = grind arith

-- a command was journaled
pub applied_journal : TrackedLaws → (base : Base) (old new : JournalView) (before after : Contents) (frozen newest : Option ℕ) (seat : ℕ) (command : Command) (reply : Reply)
    → new.items ≡ Told (Applied seat command reply) ∷ old.items → new.first ≡ old.first → new.limit ≡ old.limit
    → IsSound before → IsJournal base old before frozen newest → IsAnswered (is_some frozen) command reply before after → IsJournal base new after frozen newest
applied_journal laws base old new before after frozen newest seat command reply items first limit sound was answered = record {
  tracked = subst (λ all. IsTracked base all after) (sym items)
      (tracked_on laws base old.items before after seat command reply frozen was.frozen_for sound was.tracked answered);
  first = first ∙ was.first;
  limit = limit ∙ was.limit;
  frozen_for = was.frozen_for ∙ ap (λ all. pending (entries_of all)) (sym items);
  newest_is = was.newest_is ∙ ap (λ all. last base (entries_of all)) (sym items);
  settled = settled_more base old.items new.items (Told (Applied seat command reply)) newest items was.settled;
}

-- what the store shows may follow: the last checkpoint, or the pending one whose dump's pass was over
pub expected_may : (frozen newest found : Option ℕ) (swept : Bool) → (found ≡ newest) ⊎ (((if swept then frozen else None) ≢ None) × (found ≡ (if swept then frozen else None)))
    → (found ≡ newest) ⊎ ((frozen ≢ None) × (found ≡ frozen) × (swept ≡ true))
expected_may frozen newest found swept given = grind arith

-- the store was opened again
pub reopened_journal : TrackedLaws → PlainLaw → (base : Base) (old new : JournalView) (memory : Contents) (frozen newest found : Option ℕ) (swept : Bool)
    → new.items ≡ Told (Reopened found) ∷ old.items → new.first ≡ old.first → new.limit ≡ old.limit
    → (found ≡ newest) ⊎ ((frozen ≢ None) × (found ≡ frozen) × (swept ≡ true)) → IsSound memory → HasVisitedAll swept frozen memory
    → IsJournal base old memory frozen newest → IsJournal base new memory None found × MayFollow base (entries_of old.items) (Reopened found)
reopened_journal laws law base old new memory frozen newest found swept items first limit expected sound was_swept was = (
  record {
    tracked = tracked;
    first = first ∙ was.first;
    limit = limit ∙ was.limit;
    frozen_for = ap (λ all. pending (entries_of all)) (sym items);
    newest_is = ap (λ all. last base (entries_of all)) (sym items);
    settled = settles expected;
  },
  may,
)
  where
    either : (found ≡ newest) ⊎ ((frozen ≢ None) × (found ≡ frozen) × (swept ≡ true)) → (found ≡ newest) ⊎ ((frozen ≢ None) × (found ≡ frozen))
    either (inl own) = inl own
    either (inr pends) = inr (pends.0, pends.1)

    may : MayFollow base (entries_of old.items) (Reopened found)
    may = subst (λ n. (found ≡ n) ⊎ ((pending (entries_of old.items) ≢ None) × (found ≡ pending (entries_of old.items)))) was.newest_is
        (subst (λ f. (found ≡ newest) ⊎ ((f ≢ None) × (found ≡ f))) was.frozen_for (either expected))

    tracked : IsTracked base new.items memory
    tracked = subst (λ all. IsTracked base all memory) (sym items) (laws.told base old.items memory (Reopened found) was.tracked may refl)

    at : (one : Option ℕ) → one ≡ frozen → found ≡ one → swept ≡ true → HasSettled base new.items found
    at None pends is over = absurd (let no : false ≡ true = subst IsSome (sym pends) (was_swept over).0 in cc)
    at (Some n) pends is over = subst (HasSettled base new.items) (sym is)
        (settled_now law base old.items new.items memory n (Reopened found) items (is, sym was.frozen_for ∙ sym pends) tracked sound (was_swept over).1)

    settles : (found ≡ newest) ⊎ ((frozen ≢ None) × (found ≡ frozen) × (swept ≡ true)) → HasSettled base new.items found
    settles (inl own) = subst (HasSettled base new.items) (sym own) (settled_more base old.items new.items (Told (Reopened found)) newest items was.settled)
    settles (inr pends) = at frozen refl pends.1 pends.2

-- ---- the numbers of a store that was opened again

-- what it shows was begun in this run, or is what the run started from
pub found_used : (frozen newest found : Option ℕ) (begun : ℕ) {swept : Bool} → (found ≡ newest) ⊎ ((frozen ≢ None) × (found ≡ frozen) × (swept ≡ true)) → IfSome newest (λ n. n ≤ begun)
    → IfSome frozen (λ n. n ≡ begun) → IfSome found (λ n. n ≤ begun)
found_used frozen newest found begun (inl is) last pends = subst (λ f. IfSome f (λ n. n ≤ begun)) (sym is) last
found_used frozen newest found begun (inr is) last pends = subst (λ f. IfSome f (λ n. n ≤ begun)) (sym is.1) (at_most frozen pends)
  where
    at_most : (one : Option ℕ) → IfSome one (λ n. n ≡ begun) → IfSome one (λ n. n ≤ begun)
    at_most None e = tt
    at_most (Some n) e = omega (arith, e)

pub reopened_numbers : (base : Base) (items : Marked) (frozen newest found : Option ℕ) (old new : Numbers) → new.begun ≡ old.begun → new.given ≡ old.given
    → old.begun ≤ new.checkpoint → old.given ≤ new.serial → IfSome found (λ n. n ≤ old.begun) → AreSoundNumbers base items frozen newest old
    → AreSoundNumbers base (Told (Reopened found) ∷ items) None found new
reopened_numbers base items frozen newest found old new begun given checkpoint serial used was = record {
  used = λ n above. (below n above found used, was.used n (omega (arith, above, begun)));
  newest_used = subst (λ b. IfSome found (λ n. n ≤ b)) (sym begun) used;
  frozen_used = tt;
  marks = λ s above. was.marks s (omega (arith, above, given));
  checkpoints = omega (arith, begun, checkpoint);
  serials = omega (arith, given, serial);
}
  where
    below : (n : ℕ) → new.begun < n → (one : Option ℕ) → IfSome one (λ m. m ≤ old.begun) → IfSome one (λ k. k < n)
    below n above None is = tt
    below n above (Some m) is = omega (arith, above, is, begun)
