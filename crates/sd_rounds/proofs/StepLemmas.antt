-- What a step of a pass in code keeps.
use Rattle.std.proofs.Common.{◌≡◌, ℕ, false, cond, ◌==◌, nat_eq, List, [], ◌∷◌, ◌++◌, length, None, refl, sym, ◌∙◌, ap, subst, arith}
use Rattle.std.specs.List.{list_all}
use Rattle.std.proofs.lemmas.Bool.{and_from, both_ways, eq-eqb, false_from_ne_true}
use Rattle.sd_image.specs.declared.run.RunKind.TheVariants.{Data, Zero}
use Rattle.sd_pagetable.specs.Contents.{Contents}
use Rattle.sd_rounds.specs.declared.copied.Copied.{Copied}
use Rattle.sd_rounds.specs.declared.copied.Copied.TheVariants as copied
use Rattle.sd_rounds.specs.declared.visit.Visit.{Visit}
use Rattle.sd_rounds.specs.Pass.{Pass, Taking, copied_more, sector_of, with_entry}
use Rattle.sd_writing.specs.Entries.{data_pages}
use Rattle.sd_writing.specs.Files.{Stored, listed_pages}
use Rattle.sd_rounds.specs.Keeps.{Chain, Keeps, KeepsLaws}
use Rattle.sd_rounds.specs.Rises.{IsRising, RisesLaws}
use Rattle.sd_rounds.specs.Dump.{DumpLaws, IsDumping, kind_of_bytes}
use Rattle.sd_rounds.specs.Made.{MadeLaws}
use Rattle.sd_rounds.specs.Rounds.{Copies, CopiesZeros, TakesPage, Tests, is_page_of_zeros}
use Rattle.sd_rounds.specs.Steps.{StepLaws}

visit_keeps : KeepsLaws → (stored : Stored) (chain : Chain) (old new : Pass) (before after : Contents) (visit : Visit) → Tests old before visit new after → old.taking ≡ None
    → Keeps stored chain old before → Keeps stored chain new after
visit_keeps laws stored chain old new before after visit tests free keeps =
    subst (λ (p : Pass). Keeps stored chain p after) (sym tests.is)
    (laws.visits stored chain old before after (visit.space, visit.page) tests.page free tests.next tests.there tests.cleared keeps)

visit_dumps : DumpLaws → (cut : Contents) (old new : Pass) (before after : Contents) (visit : Visit) → Tests old before visit new after → old.taking ≡ None → IsRising old
    → IsDumping cut old before → IsDumping cut new after
visit_dumps laws cut old new before after visit tests free rising dumping =
    subst (λ (p : Pass). IsDumping cut p after) (sym tests.is)
    (laws.visits cut old before after (visit.space, visit.page) tests.page free rising tests.next tests.there tests.cleared tests.plain dumping)

-- with its eighth sector
whole : (old new : Pass) (memory : Contents) → CopiesZeros old memory new → Taking
whole old new memory z = record { place = z.taking.place; copied = z.taking.copied ++ sector_of z.page.bytes 7 }

eighth_keeps : KeepsLaws → (stored : Stored) (chain : Chain) (old new : Pass) (memory : Contents) (z : CopiesZeros old memory new) → Keeps stored chain old memory
    → Keeps stored chain (copied_more old z.taking (sector_of z.page.bytes 7)) memory
eighth_keeps laws stored chain old new memory z keeps =
    laws.copies stored chain old memory z.taking z.page 7 z.next.is z.next.there z.next.whole z.next.within z.next.at_sector keeps

copy_keeps : KeepsLaws → (stored : Stored) (chain : Chain) (old new : Pass) (memory : Contents) (c : Copied) → Copies old memory c new
    → Keeps stored chain old memory → Keeps stored chain new memory
copy_keeps laws stored chain old new memory copied.More m keeps =
    subst (λ (p : Pass). Keeps stored chain p memory) (sym m.is)
    (laws.copies stored chain old memory m.taking m.page m.sector m.next.is m.next.there m.next.whole m.next.within m.next.at_sector keeps)
copy_keeps laws stored chain old new memory copied.Zero z keeps =
    subst (λ (p : Pass). Keeps stored chain p memory) (sym z.is)
    (laws.zero stored chain (copied_more old z.taking (sector_of z.page.bytes 7)) memory
    (record { place = z.taking.place; copied = z.taking.copied ++ sector_of z.page.bytes 7 }) refl z.zeroed
    (eighth_keeps laws stored chain old new memory z keeps))
copy_keeps laws stored chain old new memory copied.Gone g keeps =
    subst (λ (p : Pass). Keeps stored chain p memory) (sym g.is) (laws.drops stored chain old memory g.taking g.was g.gone keeps)

copy_dumps : KeepsLaws → RisesLaws → DumpLaws → (stored : Stored) (chain : Chain) (cut : Contents) (old new : Pass) (memory : Contents) (c : Copied) → Copies old memory c new → IsRising old
    → Keeps stored chain old memory → IsDumping cut old memory → IsDumping cut new memory
copy_dumps laws rises dumps stored chain cut old new memory copied.More m rising keeps dumping =
    subst (λ (p : Pass). IsDumping cut p memory) (sym m.is) (dumps.copies cut old memory m.taking (sector_of m.page.bytes m.sector) m.next.is dumping)
copy_dumps laws rises dumps stored chain cut old new memory copied.Zero z rising keeps dumping =
    subst (λ (p : Pass). IsDumping cut p memory) (sym z.is)
    (dumps.enters_zero stored chain cut (copied_more old z.taking (sector_of z.page.bytes 7)) memory
    (record { place = z.taking.place; copied = z.taking.copied ++ sector_of z.page.bytes 7 }) refl
    (rises.copies old z.taking (sector_of z.page.bytes 7) z.next.is rising) z.zeroed
    (eighth_keeps laws stored chain old new memory z keeps) (dumps.copies cut old memory z.taking (sector_of z.page.bytes 7) z.next.is dumping))
copy_dumps laws rises dumps stored chain cut old new memory copied.Gone g rising keeps dumping =
    absurd (dumps.never_drops cut old memory g.taking g.was dumping g.gone)

take_keeps : MadeLaws → (pages : List (List ℕ)) (chain : Chain) (old new : Pass) (memory : Contents) (bytes : List ℕ) → TakesPage old bytes new
    → length pages ≡ data_pages old.entries → Keeps (listed_pages pages) chain old memory → Keeps (listed_pages (pages ++ bytes ∷ [])) chain new memory
take_keeps laws pages chain old new memory bytes t count keeps = grind arith

pub is_data : (bytes : List ℕ) → length bytes ≡ 4096 → is_page_of_zeros bytes ≡ false → kind_of_bytes bytes ≡ Data
is_data bytes long some = ap (λ b. cond b Zero Data) (false_from_ne_true (list_all (λ byte. byte == 0) bytes)
    (λ zeroed. both_ways (is_page_of_zeros bytes) some (and_from (nat_eq (length bytes) 4096) (list_all (λ byte. byte == 0) bytes) (eq-eqb (length bytes) 4096 long) zeroed)))

take_dumps : DumpLaws → (stored : Stored) (chain : Chain) (cut : Contents) (old new : Pass) (memory : Contents) (bytes : List ℕ) → TakesPage old bytes new
    → IsRising old → Keeps stored chain old memory → IsDumping cut old memory → IsDumping cut new memory
take_dumps laws stored chain cut old new memory bytes t rising keeps dumping =
    subst (λ (p : Pass). IsDumping cut p memory) (sym t.is)
    (subst (λ kind. IsDumping cut (with_entry old t.taking.place kind) memory) (ap kind_of_bytes (sym t.same) ∙ is_data bytes t.whole t.some)
    (laws.enters stored chain cut old memory t.taking t.was rising (ap (λ (b : List ℕ). length b) (sym t.same) ∙ t.whole) keeps dumping))

pub step_laws : KeepsLaws → RisesLaws → DumpLaws → MadeLaws → StepLaws
step_laws keeps rises dumps made = record {
  visit_keeps = visit_keeps keeps;
  visit_dumps = visit_dumps dumps;
  copy_keeps = copy_keeps keeps;
  copy_dumps = copy_dumps keeps rises dumps;
  take_keeps = take_keeps made;
  take_dumps = take_dumps dumps;
}
