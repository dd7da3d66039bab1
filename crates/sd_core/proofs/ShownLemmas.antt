-- The checkpoint that a catalog's tip says is the one that its contents show.
use Rattle.std.proofs.Common.{◌≡◌, ℕ, List, Option, Some, None, refl, sym, ◌∙◌, ap, subst}
use Rattle.std.specs.Borrow.{Bor}
use Rattle.sd_chain.specs.Catalog.{Opened}
use Rattle.sd_chain.specs.Store.{FindsTip}
use Rattle.sd_image.specs.Image.{Image}
use Rattle.sd_image.specs.Laws.{OneStore, TipOnce}
use Rattle.sd_image.specs.Shows.{IsStore, IsTip, Shows}
use Rattle.sd_journal.specs.Allowed.{Shown, shown_number}
use Rattle.sd_core.specs.Opening.{IsTipNumber}

pub none_shown : OneStore → (files : List (List ℕ)) → FindsTip files None → (shown : Shown) → Shows files shown → shown_number shown ≡ None
none_shown one files finds None shows = refl
none_shown one files finds (Some pair) shows =
    let same = one files shows.images finds.images shows.store.slots finds.store.slots in
    let tip = subst (λ all. IsTip all shows.newest.0) same shows.newest.1 in
    absurd (finds.newest shows.newest.0 tip.member tip.restorable)

pub some_shown : OneStore → TipOnce → (files : List (List ℕ)) (found : Bor Opened) → FindsTip files (Some found) → (shown : Shown) → Shows files shown
    → shown_number shown ≡ Some found.now.header.checkpoint
some_shown one once files found finds None shows =
    let same = one files shows.images finds.images shows.store.slots finds.store.slots in
    let tip = subst (λ all. IsTip all finds.newest.0) (sym same) finds.newest.2 in
    absurd (shows.newest finds.newest.0 tip.member tip.restorable)
some_shown one once files found finds (Some pair) shows =
    let same = one files shows.images finds.images shows.store.slots finds.store.slots in
    let tip = subst (λ all. IsTip all shows.newest.0) same shows.newest.1 in
    let own : shows.newest.0 ≡ finds.newest.0 = once files finds.images shows.newest.0 finds.newest.0 finds.store tip finds.newest.2 in
    ap Some (sym shows.newest.2 ∙ ap (λ (i : Image). i.header.checkpoint) own ∙ ap (λ h. h.checkpoint) finds.newest.1.header)

-- ---- the tip's own number

pub none_tip : OneStore → (files : List (List ℕ)) → FindsTip files None → (images : List Image) → IsStore files images → (number : Option ℕ) → IsTipNumber images number → number ≡ None
none_tip one files finds images store None tip = refl
none_tip one files finds images store (Some n) tip =
    let same = one files images finds.images store.slots finds.store.slots in
    let own = subst (λ all. IsTip all tip.0) same tip.1 in
    absurd (finds.newest tip.0 own.member own.restorable)

pub some_tip : OneStore → TipOnce → (files : List (List ℕ)) (found : Bor Opened) → FindsTip files (Some found) → (images : List Image) → IsStore files images
    → (number : Option ℕ) → IsTipNumber images number → number ≡ Some found.now.header.checkpoint
some_tip one once files found finds images store None tip =
    let same = one files images finds.images store.slots finds.store.slots in
    let newest = subst (λ all. IsTip all finds.newest.0) (sym same) finds.newest.2 in
    absurd (tip finds.newest.0 newest.member newest.restorable)
some_tip one once files found finds images store (Some n) tip =
    let same = one files images finds.images store.slots finds.store.slots in
    let own_tip = subst (λ all. IsTip all tip.0) same tip.1 in
    let own : tip.0 ≡ finds.newest.0 = once files finds.images tip.0 finds.newest.0 finds.store own_tip finds.newest.2 in
    ap Some (sym tip.2 ∙ ap (λ (i : Image). i.header.checkpoint) own ∙ ap (λ h. h.checkpoint) finds.newest.1.header)
