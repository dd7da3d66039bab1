-- What holds of a pass in code, from step to step.
use Rattle.std.proofs.Common.{◌≡◌, ◌≢◌, ℕ, ◌+◌, ◌*◌, ◌<◌, ◌≤◌, Bool, true, false, inl, inr, List, [], ◌∷◌, ◌++◌, length, Option, Some, None, refl, sym, ◌∙◌, ap, subst, arith}
use Rattle.std.specs.Option.{option_map}
use Rattle.std.proofs.lemmas.Bool.{both_ways}
use Rattle.sd_image.specs.declared.run.RunKind.TheVariants.{Parent}
use Rattle.sd_image.specs.declared.table.SpaceTable.{SpaceTable}
use Rattle.sd_pagetable.specs.Order.{is_above}
use Rattle.std.specs.Prelude.{unwrap_or, IsSome, is_some}
use Rattle.std.specs.FinMap as finmap
use Rattle.std.specs.Ordering.{nat_cmp}
use Rattle.sd_image.specs.Runs.{IsSourced}
use Rattle.sd_image.specs.Table.{Listed}
use Rattle.sd_pagetable.specs.Nested.{Nested, Table, is_alive, value_at}
use Rattle.sd_image.specs.declared.run.RunKind.{RunKind}
use Rattle.std.proofs.lemmas.List.{length-append}
use Rattle.sd_writing.specs.Entries.{Place, ImageEntry}
use Rattle.sd_rounds.specs.Pass.{Pass, Taking, left_to_parent, with_entry}
use Rattle.sd_rounds.specs.Rises.{IsRising}
use Rattle.sd_rounds.specs.Rounds.{IsCopying, IsRound, entry_parent, is_page_of_zeros, limit, pass_of, taking_of}
use Rattle.sd_rounds.specs.SpaceTables.{AreLow}
use Rattle.sd_writing.specs.Tables.{EndBefore, EndsBefore, IsPushed, listed}
use Rattle.sd_rounds.proofs.Clean.{no_some, one_some}
use Rattle.sd_rounds.proofs.RisesLemmas.{takes_rising, leaves_rising, copies, enters}
use Rattle.sd_writing.proofs.TableLemmas.{IsFurther, end_further}

pub none_back : {X Y : Type 0} (f : X → Y) (o : Option X) → option_map f o ≡ None → o ≡ None
none_back f o e = grind arith

further : (after : Option Place) (at : Place) → is_above after at.0 at.1 ≡ true → 1 ≤ at.0 → IsFurther (limit after None) at
further after at above least = grind arith

-- the entries end before a page ahead of the cursor
pub ends_ahead : (takes_all : Bool) (tables : List SpaceTable) (after taking : Option Place) (buffer : List ℕ) (at : Place) → IsRound takes_all tables after taking buffer
    → option_map (taking_of buffer) taking ≡ None → is_above after at.0 at.1 ≡ true → 1 ≤ at.0 → EndBefore at (listed tables)
ends_ahead takes_all tables after taking buffer at round free above least =
    end_further (limit after None) at (listed tables) (further after at above least)
    (subst (λ (t : Option Place). EndBefore (limit after t) (listed tables)) (none_back (taking_of buffer) taking free) round.ends)

pub begun_round : (takes_all : Bool) (tables : List SpaceTable) (after taking : Option Place) (buffer empty : List ℕ) (at : Place) → IsRound takes_all tables after taking buffer
    → option_map (taking_of buffer) taking ≡ None → is_above after at.0 at.1 ≡ true → 1 ≤ at.0 → at.0 ≤ 16 → empty ≡ []
    → IsRound takes_all tables (Some at) (Some at) empty
begun_round takes_all tables after taking buffer empty at round free above least within none = record {
  are = round.are;
  ends = ends_ahead takes_all tables after taking buffer at round free above least;
  rising = subst (λ (b : List ℕ). IsRising (pass_of takes_all tables (Some at) (Some at) b)) (sym none)
      (takes_rising (pass_of takes_all tables after taking buffer) at above round.rising);
  spaces = λ q e. subst (λ (p : Place). (1 ≤ p.0) × (p.0 ≤ 16)) (one_some at q refl e) (least, within);
  sectors = λ q e. record { count = 0; are = ap (λ (b : List ℕ). length b) none; few = omega arith };
  some = λ q e. subst (λ (b : List ℕ). is_page_of_zeros b ≡ false) (sym none) refl;
}

pub left_view : (takes_all : Bool) (old new : List SpaceTable) (after taking : Option Place) (buffer : List ℕ) (at : Place) (parent : ℕ)
    → option_map (taking_of buffer) taking ≡ None → IsPushed parent 1 (listed old) (listed new) at Parent
    → pass_of takes_all new (Some at) taking buffer ≡ left_to_parent (pass_of takes_all old after taking buffer) at
left_view takes_all old new after taking buffer at parent free pushed = grind arith

pub left_round : (takes_all : Bool) (old new : List SpaceTable) (after taking : Option Place) (buffer : List ℕ) (at : Place) → IsRound takes_all old after taking buffer
    → option_map (taking_of buffer) taking ≡ None → is_above after at.0 at.1 ≡ true → 1 ≤ at.0 → at.0 ≤ 16
    → IsPushed (entry_parent takes_all) 1 (listed old) (listed new) at Parent → IsRound takes_all new (Some at) taking buffer
left_round takes_all old new after taking buffer at round free above least within pushed = record {
  are = pushed.tables;
  ends = subst (λ (t : Option Place). EndBefore (limit (Some at) t) (listed new)) (sym (none_back (taking_of buffer) taking free)) pushed.ends;
  rising = subst (λ (p : Pass). IsRising p) (sym (left_view takes_all old new after taking buffer at (entry_parent takes_all) free pushed))
      (leaves_rising (pass_of takes_all old after taking buffer) at above round.rising);
  spaces = λ q e. subst (λ (p : Place). (1 ≤ p.0) × (p.0 ≤ 16)) (one_some at q refl e) (least, within);
  sectors = λ q e. absurd (no_some q (none_back (taking_of buffer) taking free) e);
  some = λ q e. absurd (no_some q (none_back (taking_of buffer) taking free) e);
}

pub has_source : (takes_all : Bool) → takes_all ≡ false → IsSourced (entry_parent takes_all) Parent
has_source takes_all e = λ _. subst (λ n. 0 < n) (sym (ap entry_parent e)) (omega arith)

low_before : (at : Place) (tables : List Listed) → EndBefore at tables → at.0 ≤ 16 → AreLow tables
low_before at [] ends few = tt
low_before at (t ∷ tables) ends few = (one ends.0, low_before at tables ends.1 few)
  where
    one : EndsBefore at t → t.space ≤ 16
    one (inl less) = let f : t.space < at.0 = less in omega arith
    one (inr same) = let f : t.space ≡ at.0 = same.0 in omega arith

low_limit : (after taking : Option Place) → ((at : Place) → after ≡ Some at → (1 ≤ at.0) × (at.0 ≤ 16)) → (limit after taking).0 ≤ 16
low_limit None taking spaces = omega arith
low_limit (Some at) None spaces = (spaces at refl).1
low_limit (Some at) (Some taken) spaces = (spaces at refl).1

-- the entries are of spaces that may be alive
pub low_tables : (takes_all : Bool) (tables : List SpaceTable) (after taking : Option Place) (buffer : List ℕ) → IsRound takes_all tables after taking buffer → AreLow (listed tables)
low_tables takes_all tables after taking buffer round = low_before (limit after taking) (listed tables) round.ends (low_limit after taking round.spaces)

-- a space with a page is alive
pub alive_at : {X : Type 0} (spaces : Nested X) (space page : ℕ) → IsSome (value_at spaces space page) → is_alive spaces space ≡ true
alive_at {X} spaces space page there = by (finmap.get spaces space) there
  where
    by : (o : Option (Table X)) → IsSome (finmap.get (unwrap_or o finmap.empty) page) → is_some o ≡ true
    by None e = absurd (both_ways false refl (sym (ap is_some (finmap.get-empty nat_cmp page)) ∙ e))
    by (Some pages) e = refl

-- ---- the page that is being taken

-- the page that is being taken is the one at the cursor
pub at_cursor : (takes_all : Bool) (tables : List SpaceTable) (after taking : Option Place) (buffer : List ℕ) (at : Place) → IsRound takes_all tables after taking buffer
    → taking ≡ Some at → after ≡ Some at
at_cursor takes_all tables after taking buffer at round is =
    (round.rising.taken (taking_of buffer at) (ap (option_map (taking_of buffer)) is)).0

pub place_back : (buffer : List ℕ) (taking : Option Place) (at : Place) → option_map (λ (t : Taking). t.place) (option_map (taking_of buffer) taking) ≡ Some at → taking ≡ Some at
place_back buffer taking at e = grind arith

pub ends_taken : (takes_all : Bool) (tables : List SpaceTable) (after taking : Option Place) (buffer : List ℕ) (at : Place) → IsRound takes_all tables after taking buffer
    → taking ≡ Some at → EndBefore at (listed tables)
ends_taken takes_all tables after taking buffer at round is =
    subst (λ (a : Option Place). EndBefore (limit a (Some at)) (listed tables)) (at_cursor takes_all tables after taking buffer at round is)
    (end_at after taking is round.ends)
  where
    end_at : (a t : Option Place) → t ≡ Some at → EndBefore (limit a t) (listed tables) → EndBefore (limit a (Some at)) (listed tables)
    end_at a t e ends = subst (λ (x : Option Place). EndBefore (limit a x) (listed tables)) e ends

pub entered_view : (takes_all : Bool) (old new : List SpaceTable) (after taking : Option Place) (buffer : List ℕ) (at : Place) (kind : RunKind) (parent : ℕ)
    → IsPushed parent 1 (listed old) (listed new) at kind
    → pass_of takes_all new after None buffer ≡ with_entry (pass_of takes_all old after taking buffer) at kind
entered_view takes_all old new after taking buffer at kind parent pushed =
    ap (λ (e : List ImageEntry). record { takes_all = takes_all; entries = e; after = after; taking = None }) pushed.entries

pub entered_round : (takes_all : Bool) (old new : List SpaceTable) (after taking : Option Place) (buffer : List ℕ) (at : Place) (kind : RunKind)
    → IsRound takes_all old after taking buffer → taking ≡ Some at
    → IsPushed (entry_parent takes_all) 1 (listed old) (listed new) at kind → IsRound takes_all new after None buffer
entered_round takes_all old new after taking buffer at kind round is pushed = record {
  are = pushed.tables;
  ends = subst (λ (a : Option Place). EndBefore (limit a None) (listed new)) (sym (at_cursor takes_all old after taking buffer at round is)) pushed.ends;
  rising = subst (λ (p : Pass). IsRising p) (sym (entered_view takes_all old new after taking buffer at kind (entry_parent takes_all) pushed))
      (enters (pass_of takes_all old after taking buffer) (taking_of buffer at) kind (ap (option_map (taking_of buffer)) is) round.rising);
  spaces = round.spaces;
  sectors = λ q e. absurd (no_some q refl e);
  some = λ q e. absurd (no_some q refl e);
}

-- one sector more
pub longer_round : (takes_all : Bool) (tables : List SpaceTable) (after taking : Option Place) (buffer sector new : List ℕ)
    → IsRound takes_all tables after taking buffer → IsCopying (pass_of takes_all tables after taking buffer) → length sector ≡ 512 → new ≡ buffer ++ sector
    → ((t : Taking) → option_map (taking_of buffer) taking ≡ Some t → is_page_of_zeros (t.copied ++ sector) ≡ false)
    → IsRound takes_all tables after taking new
longer_round takes_all tables after None buffer sector new round copying long is some = absurd (no_some copying.taking refl copying.is)
longer_round takes_all tables after (Some at) buffer sector new round copying long is some = record {
  are = round.are;
  ends = round.ends;
  rising = subst (λ (b : List ℕ). IsRising (pass_of takes_all tables after (Some at) b)) (sym is)
      (copies (pass_of takes_all tables after (Some at) buffer) (taking_of buffer at) sector refl round.rising);
  spaces = round.spaces;
  sectors = λ q e.
      let was = round.sectors q e in
      let short : length buffer < 4096 = subst (λ (t : Taking). length t.copied < 4096) (sym (one_some (taking_of buffer at) copying.taking refl copying.is)) copying.short in
      let len : length new ≡ length buffer + 512 = ap (λ (b : List ℕ). length b) is ∙ length-append buffer sector ∙ ap (λ n. length buffer + n) long in
      let are : length buffer ≡ 512 * was.count = was.are in
      record { count = was.count + 1; are = omega arith; few = omega arith };
  some = λ q e. subst (λ (b : List ℕ). is_page_of_zeros b ≡ false) (sym is) (some (taking_of buffer at) refl);
}

-- another buffer, while no page is being taken
pub other_view : (takes_all : Bool) (tables : List SpaceTable) (after taking : Option Place) (buffer new : List ℕ) → option_map (taking_of buffer) taking ≡ None
    → pass_of takes_all tables after taking new ≡ pass_of takes_all tables after taking buffer
other_view takes_all tables after taking buffer new free =
    ap (λ (t : Option Place). pass_of takes_all tables after t new) none ∙ sym (ap (λ (t : Option Place). pass_of takes_all tables after t buffer) none)
  where
    none : taking ≡ None
    none = none_back (taking_of buffer) taking free

pub other_round : (takes_all : Bool) (tables : List SpaceTable) (after taking : Option Place) (buffer new : List ℕ) → option_map (taking_of buffer) taking ≡ None
    → IsRound takes_all tables after taking buffer → IsRound takes_all tables after taking new
other_round takes_all tables after taking buffer new free round = grind arith

-- some sectors of a page, but not all
pub some_short : (takes_all : Bool) (tables : List SpaceTable) (after taking : Option Place) (buffer : List ℕ) (at : Place) → IsRound takes_all tables after taking buffer
    → taking ≡ Some at → length buffer ≢ 4096 → length buffer < 4096
some_short takes_all tables after taking buffer at round is not_whole = grind arith
