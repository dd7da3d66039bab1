-- What trims folded into the base counts as if it were still there.
use Rattle.std.proofs.Common.{◌≡◌, ℕ, ◌==◌, Bool, true, false, cond, [], ◌∷◌, ◌++◌, Option, Some, None, sym, ◌∙◌, ap, subst, inl, inr, append-nil, arith}
use Rattle.std.proofs.lemmas.Bool.{cases_eq, eq-eqb, ne_eqb}
use Rattle.std.proofs.lemmas.List.{append_assoc}
use Rattle.sd_areas.specs.PlainMemory.{PlainMemory}
use Rattle.sd_command.specs.declared.reply.Reply.{Reply}
use Rattle.sd_command.specs.declared.reply.Reply.TheVariants as reply
use Rattle.sd_disk.specs.Crash.{Within}
use Rattle.sd_journal.specs.declared.entry.Entry.{Entry}
use Rattle.sd_journal.specs.declared.entry.Entry.TheVariants.{Applied, Freeze, Acked, Cancelled, Reopened}
use Rattle.sd_journal.specs.Allowed.{IsAllowed, Shown}
use Rattle.sd_journal.specs.History.{Base, History, at_base, at_freeze, memory_after}
use Rattle.sd_journal.specs.Legal.{IsAbove, IsLegal, MayFollow}
use Rattle.sd_journal.specs.Trimming.{IsEnded, TrimLaws, base_after}
use Rattle.sd_crash_safety.specs.Shown.{ShowsAllowed}
use Rattle.sd_world.specs.Points.{Folds}
use Rattle.sd_world.specs.Runs.{ShowsFreeze, ShowsReply}

-- the older entries of a legal journal are one
pub legal_behind : (base : Base) (newer older : History) → IsLegal base (newer ++ older) → IsLegal base older
legal_behind base [] older legal = legal
legal_behind base (entry ∷ newer) older legal = legal_behind base newer older legal.1

module _ (laws : TrimLaws) where
  follows_back : (base : Base) (n : ℕ) (folded kept : History) (entry : Entry) → IsEnded n folded → IsLegal base (kept ++ folded)
      → MayFollow (base_after base n folded) kept entry → MayFollow base (kept ++ folded) entry
  follows_back base n folded kept entry ended legal follows = grind arith

  pub legal_back : (base : Base) (n : ℕ) (folded kept : History) → IsEnded n folded → IsLegal base folded → IsLegal (base_after base n folded) kept
      → IsLegal base (kept ++ folded)
  legal_back base n folded [] ended before legal = before
  legal_back base n folded (entry ∷ kept) ended before legal =
      let rest = legal_back base n folded kept ended before legal.1 in
      (follows_back base n folded kept entry ended rest legal.0, rest)

  -- a pair that is allowed with what is left of the entries is allowed with all of them
  pub allowed_back : (first : Base) (gone kept : History) (now : Base) (shown : Shown) → Folds first gone now → IsLegal now kept
      → IsAllowed now kept shown → IsAllowed first (kept ++ gone) shown
  allowed_back first gone kept now shown (Folds.none _ _ empty same) legal allowed =
      subst (λ g. IsAllowed first (kept ++ g) shown) (sym empty) (subst (λ h. IsAllowed first h shown) (sym (append-nil kept))
      (subst (λ b. IsAllowed b kept shown) same allowed))
  allowed_back first gone kept now shown (Folds.more _ _ mid earlier front n folds before ended parts is) legal allowed =
      let whole = legal_back mid n front kept ended before (subst (λ b. IsLegal b kept) is legal) in
      let there = (laws.allowed mid kept front n shown whole ended).0 (subst (λ b. IsAllowed b kept shown) is allowed) in
      subst (λ g. IsAllowed first (kept ++ g) shown) (sym parts)
      (subst (λ h. IsAllowed first h shown) (append_assoc kept front earlier)
      (allowed_back first earlier (kept ++ front) mid shown folds whole there))

  -- a memory at a freeze with what is left of the entries is that with all of them
  freeze_front : (base : Base) (n : ℕ) (folded : History) (k : ℕ) (memory : PlainMemory) → IsEnded n folded → IsLegal base folded
      → at_base (Some n) (memory_after base folded) k ≡ Some memory → at_freeze base folded k ≡ Some memory
  freeze_front base n folded k memory ended legal is = elim (cases_eq n k) [
    | inl same ↦ subst (λ j. at_freeze base folded j ≡ Some memory) same
        (laws.freeze base [] folded n legal ended ∙ sym (ap (λ b. cond b (Some (memory_after base folded)) None) (own n k same)) ∙ is)
    | inr other ↦ absurd (none_is memory (sym (ap (λ b. cond b (Some (memory_after base folded)) None) (ne_eqb n k other)) ∙ is))
  ]
    where
      own : (n k : ℕ) → n ≡ k → (n == k) ≡ true
      own n k same = eq-eqb n k same

      none_is : (memory : PlainMemory) → (let none : Option PlainMemory = None in none ≡ Some memory) → ⊥
      none_is memory e = cc

  freeze_once : (base : Base) (n : ℕ) (folded kept : History) (k : ℕ) (memory : PlainMemory) → IsEnded n folded → IsLegal base folded
      → at_freeze (base_after base n folded) kept k ≡ Some memory → at_freeze base (kept ++ folded) k ≡ Some memory
  freeze_once base n folded [] k memory ended legal is = freeze_front base n folded k memory ended legal is
  freeze_once base n folded (Applied seat command reply ∷ kept) k memory ended legal is = freeze_once base n folded kept k memory ended legal is
  freeze_once base n folded (Acked m ∷ kept) k memory ended legal is = freeze_once base n folded kept k memory ended legal is
  freeze_once base n folded (Cancelled m ∷ kept) k memory ended legal is = freeze_once base n folded kept k memory ended legal is
  freeze_once base n folded (Reopened m ∷ kept) k memory ended legal is = freeze_once base n folded kept k memory ended legal is
  freeze_once base n folded (Freeze m ∷ kept) k memory ended legal is = by (m == k) (freeze_once base n folded kept k memory ended legal)
      (ap (λ x. cond (m == k) (Some x) (at_freeze (base_after base n folded) kept k)) (sym (laws.memory base kept folded n)) ∙ is)
    where
      by : (b : Bool) → (at_freeze (base_after base n folded) kept k ≡ Some memory → at_freeze base (kept ++ folded) k ≡ Some memory)
          → cond b (Some (memory_after base (kept ++ folded))) (at_freeze (base_after base n folded) kept k) ≡ Some memory
          → cond b (Some (memory_after base (kept ++ folded))) (at_freeze base (kept ++ folded) k) ≡ Some memory
      by true back here = here
      by false back before = back before

  pub freeze_back : (first : Base) (gone kept : History) (now : Base) (k : ℕ) (memory : PlainMemory) → Folds first gone now
      → at_freeze now kept k ≡ Some memory → at_freeze first (kept ++ gone) k ≡ Some memory
  freeze_back first gone kept now k memory (Folds.none _ _ empty same) is =
      subst (λ g. at_freeze first (kept ++ g) k ≡ Some memory) (sym empty) (subst (λ h. at_freeze first h k ≡ Some memory) (sym (append-nil kept))
      (subst (λ b. at_freeze b kept k ≡ Some memory) same is))
  freeze_back first gone kept now k memory (Folds.more _ _ mid earlier front n folds before ended parts is_now) is =
      subst (λ g. at_freeze first (kept ++ g) k ≡ Some memory) (sym parts)
      (subst (λ h. at_freeze first h k ≡ Some memory) (append_assoc kept front earlier)
      (freeze_back first earlier (kept ++ front) mid k memory folds
      (freeze_once mid n front kept k memory ended before (subst (λ b. at_freeze b kept k ≡ Some memory) is_now is))))

  -- ---- contents

  pub shows_back : (first : Base) (gone kept : History) (now : Base) → Folds first gone now → IsLegal now kept
      → Within (ShowsAllowed now kept) (ShowsAllowed first (kept ++ gone))
  shows_back first gone kept now folds legal contents shows =
      record { shown = shows.shown; allowed = allowed_back first gone kept now shows.shown folds legal shows.allowed; shows = shows.shows }

  shows_freeze_back : (first : Base) (gone kept : History) (now : Base) (n : ℕ) → Folds first gone now
      → Within (ShowsFreeze now kept n) (ShowsFreeze first (kept ++ gone) n)
  shows_freeze_back first gone kept now n folds contents shows =
      record { memory = shows.memory; freeze = freeze_back first gone kept now n shows.memory folds shows.freeze; shows = shows.shows }

  pub told_back : (answer : Reply) (first : Base) (gone kept : History) (now : Base) → Folds first gone now
      → Within (ShowsReply answer now kept) (ShowsReply answer first (kept ++ gone))
  told_back (reply.Acked n) first gone kept now folds contents shows = shows_freeze_back first gone kept now n folds contents shows
  told_back (reply.Reopened None) first gone kept now folds contents shows = shows
  told_back (reply.Reopened (Some n)) first gone kept now folds contents shows = shows_freeze_back first gone kept now n folds contents shows
  told_back _ first gone kept now folds contents shows = tt

  -- ---- numbers

  -- a number above what is left of the entries is above all of them
  pub above_back : (first : Base) (gone kept : History) (now : Base) (n : ℕ) → Folds first gone now → IsLegal now kept → IsAbove now kept n
      → IsAbove first (kept ++ gone) n
  above_back first gone kept now n (Folds.none _ _ empty same) legal above =
      subst (λ g. IsAbove first (kept ++ g) n) (sym empty) (subst (λ h. IsAbove first h n) (sym (append-nil kept)) (subst (λ b. IsAbove b kept n) same above))
  above_back first gone kept now n (Folds.more _ _ mid earlier front k folds before ended parts is) legal above =
      let whole = legal_back mid k front kept ended before (subst (λ b. IsLegal b kept) is legal) in
      let there = (laws.above mid kept front k n whole ended).0 (subst (λ b. IsAbove b kept n) is above) in
      subst (λ g. IsAbove first (kept ++ g) n) (sym parts)
      (subst (λ h. IsAbove first h n) (append_assoc kept front earlier) (above_back first earlier (kept ++ front) mid n folds whole there))
