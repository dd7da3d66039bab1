-- The entries of an image rise.
use Rattle.std.proofs.Common.{◌≡◌, ℕ, Bool, true, false, cond, ◌||◌, List, [], ◌∷◌, ◌++◌, Option, Some, None, refl, sym, ◌∙◌, ap, subst, arith}
use Rattle.std.proofs.lemmas.Bool.{both_ways}
use Rattle.sd_image.specs.declared.run.RunKind.{RunKind}
use Rattle.sd_image.specs.declared.run.RunKind.TheVariants.{Parent}
use Rattle.sd_pagetable.specs.Order.{is_above}
use Rattle.sd_pagetable.specs.Tracking.{is_page}
use Rattle.sd_writing.specs.Entries.{Place, ImageEntry, last_of}
use Rattle.sd_rounds.specs.Pass.{Taking, Pass, has_passed, opened, visited, begun_to_take, left_to_parent, copied_more, dropped, with_entry}
use Rattle.sd_rounds.specs.Rises.{EntriesRise, IsRising, kind_at, RisesLaws}
use Rattle.sd_rounds.proofs.Clean.{no_some, one_some}
use Rattle.sd_rounds.proofs.Lists.{put_after}
use Rattle.sd_rounds.proofs.Orders.{page_here, apart_page, above_more, ahead_more, above_not_passed, not_passed_above, passed_here}

-- ---- one entry more

last_put : (before : Option Place) (entries : List ImageEntry) (at : Place) (kind : RunKind) → last_of before (put_after entries at kind) ≡ Some at
last_put before [] at kind = refl
last_put before (entry ∷ entries) at kind = last_put (Some entry.place) entries at kind

rising_put : (before : Option Place) (entries : List ImageEntry) (at : Place) (kind : RunKind) → EntriesRise before entries
    → is_above (last_of before entries) at.0 at.1 ≡ true → EntriesRise before (put_after entries at kind)
rising_put before [] at kind rising above = (above, tt)
rising_put before (entry ∷ entries) at kind rising above = (rising.0, rising_put (Some entry.place) entries at kind rising.1 above)

pub kind_put_other : (entries : List ImageEntry) (at q : Place) (kind : RunKind) → (at ≡ q → ⊥) → kind_at (put_after entries at kind) q ≡ kind_at entries q
kind_put_other [] at q kind apart = ap (λ b. cond b (Some kind) None) (apart_page at q apart)
kind_put_other (entry ∷ entries) at q kind apart =
    ap (λ rest. cond (is_page entry.place.0 entry.place.1 q.0 q.1) (Some entry.kind) rest) (kind_put_other entries at q kind apart)

pub kind_put_here : (entries : List ImageEntry) (at : Place) (kind : RunKind) → kind_at entries at ≡ None → kind_at (put_after entries at kind) at ≡ Some kind
kind_put_here [] at kind none = ap (λ b. cond b (Some kind) None) (page_here at)
kind_put_here (entry ∷ entries) at kind none = by (is_page entry.place.0 entry.place.1 at.0 at.1) refl (kind_put_here entries at kind)
  where
    by : (b : Bool) → is_page entry.place.0 entry.place.1 at.0 at.1 ≡ b → (kind_at entries at ≡ None → kind_at (put_after entries at kind) at ≡ Some kind)
        → cond b (Some entry.kind) (kind_at (put_after entries at kind) at) ≡ Some kind
    by true e rest = absurd (no_some entry.kind (sym (ap (λ b. cond b (Some entry.kind) (kind_at entries at)) e) ∙ none) refl)
    by false e rest = rest (sym (ap (λ b. cond b (Some entry.kind) (kind_at entries at)) e) ∙ none)

-- ---- a page above the entries

above_last : (before : Option Place) (entries : List ImageEntry) (at : Place) → EntriesRise before entries → is_above (last_of before entries) at.0 at.1 ≡ true
    → is_above before at.0 at.1 ≡ true
above_last before [] at rising above = above
above_last before (entry ∷ entries) at rising above = above_more before entry.place at rising.0 (above_last (Some entry.place) entries at rising.1 above)

-- a page above another is another
pub above_apart : (a b : Place) → is_above (Some a) b.0 b.1 ≡ true → a ≡ b → ⊥
above_apart a b above e =
    both_ways (has_passed (Some a) b) (above_not_passed (Some a) b above) (subst (λ (q : Place). has_passed (Some a) q ≡ true) e (passed_here a))

missing_from : (before : Option Place) (entries : List ImageEntry) (at : Place) → EntriesRise before entries → is_above (last_of before entries) at.0 at.1 ≡ true
    → kind_at entries at ≡ None
missing_from before [] at rising above = refl
missing_from before (entry ∷ entries) at rising above =
    ap (λ b. cond b (Some entry.kind) (kind_at entries at)) (apart_page entry.place at (above_apart entry.place at (above_last (Some entry.place) entries at rising.1 above)))
    ∙ missing_from (Some entry.place) entries at rising.1 above

pub missing : (entries : List ImageEntry) (at : Place) → EntriesRise None entries → is_above (last_of None entries) at.0 at.1 ≡ true → kind_at entries at ≡ None
missing = missing_from None

-- ---- the steps

opens : (takes_all : Bool) → IsRising (opened takes_all)
opens takes_all = grind arith

-- an entry at the cursor
put_at_cursor : (pass : Pass) (at : Place) (kind : RunKind) → pass.after ≡ Some at → EntriesRise None pass.entries → is_above (last_of None pass.entries) at.0 at.1 ≡ true
    → IsRising (with_entry pass at kind)
put_at_cursor pass at kind after rising above = grind (arith, rising_put, last_put, not_passed_above, no_some)

pub takes_rising : (pass : Pass) (at : Place) → is_above pass.after at.0 at.1 ≡ true → IsRising pass → IsRising (begun_to_take pass at)
takes_rising pass at above rising = record {
  rises = rising.rises;
  ahead = λ q e. rising.ahead q (ahead_more pass.after at q above e);
  taken = λ taking is. (
    ap (λ (t : Taking). Some t.place) (one_some began taking refl is),
    subst (λ (t : Taking). is_above (last_of None pass.entries) t.place.0 t.place.1 ≡ true) (one_some began taking refl is)
        (rising.ahead at (above_not_passed pass.after at above)),
  );
}
  where
    began : Taking
    began = record { place = at; copied = [] }

pub leaves_rising : (pass : Pass) (at : Place) → is_above pass.after at.0 at.1 ≡ true → IsRising pass → IsRising (left_to_parent pass at)
leaves_rising pass at above rising =
    put_at_cursor (record pass { after = Some at }) at Parent refl rising.rises (rising.ahead at (above_not_passed pass.after at above))

visits : (pass : Pass) (at : Place) (soft_dirty : Bool) → pass.taking ≡ None → is_above pass.after at.0 at.1 ≡ true → IsRising pass → IsRising (visited pass at soft_dirty)
visits pass at soft_dirty none above rising = by (pass.takes_all || soft_dirty)
  where
    by : (b : Bool) → IsRising (cond b (begun_to_take pass at) (left_to_parent pass at))
    by true = takes_rising pass at above rising
    by false = leaves_rising pass at above rising

pub copies : (pass : Pass) (taking : Taking) (more : List ℕ) → pass.taking ≡ Some taking → IsRising pass → IsRising (copied_more pass taking more)
copies pass taking more is rising = record {
  rises = rising.rises;
  ahead = rising.ahead;
  taken = λ other taken. subst (λ (p : Place). (pass.after ≡ Some p) × (is_above (last_of None pass.entries) p.0 p.1 ≡ true))
      (ap (λ (t : Taking). t.place) (one_some (record { place = taking.place; copied = taking.copied ++ more }) other refl taken)) (rising.taken taking is);
}

pub drops : (pass : Pass) → IsRising pass → IsRising (dropped pass)
drops pass rising = grind arith

pub enters : (pass : Pass) (taking : Taking) (kind : RunKind) → pass.taking ≡ Some taking → IsRising pass → IsRising (with_entry pass taking.place kind)
enters pass taking kind is rising = put_at_cursor pass taking.place kind (rising.taken taking is).0 rising.rises (rising.taken taking is).1

pub rises_laws : RisesLaws
rises_laws = record { opens = opens; visits = visits; copies = copies; drops = drops; enters = enters; missing = missing }
