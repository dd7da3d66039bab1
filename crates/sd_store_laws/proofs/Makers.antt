-- What whoever makes an image has to show of it.
use Rattle.std.proofs.Common.{◌≡◌, ◌≢◌, ℕ, ◌<◌, List, ◌∷◌, Option, Some, None, MatchOption, IfSome, Contains, refl, subst, inl, inr, arith}
use Rattle.std.proofs.lemmas.List.Elements.{Contains-append_left}
use Rattle.sd_areas.specs.Areas.{prot_in}
use Rattle.sd_areas.specs.PlainMemory.{Page}
use Rattle.sd_image.specs.Image.{Image}
use Rattle.sd_image.specs.Shows.{Holds, by_data, by_zero, by_parent, page_in}
use Rattle.sd_image.proofs.Members.{contains_none}
use Rattle.sd_store_laws.specs.Needed.{by_job}
use Rattle.sd_store_laws.specs.Store.{IsNextDump, IsSoundStore, Store}
use Rattle.sd_store_laws.specs.Makers.{AboveIsFresh, DumpShows, HasItself, HasOver, IsMergedOf, MergedRepeats}
use Rattle.sd_store_laws.proofs.Below.{steps_give_lem}
use Rattle.sd_store_laws.proofs.Growth.{new_tip}
use Rattle.sd_store_laws.proofs.Pending.{adds_front}

-- ---- a merged image

itself_holds : (images : List Image) (i : Image) (space page : ℕ) (bytes : List ℕ) → HasItself i space page bytes → Holds images space page bytes i
itself_holds images i space page bytes (inl at) = by_data i at.0 at.1 at.2
itself_holds images i space page bytes (inr zero) = by_zero i zero.0 zero.1

holds_itself : (images others : List Image) (source one : Image) (space page : ℕ) (bytes : List ℕ) → IsMergedOf images source one
    → Holds others space page bytes one → HasItself one space page bytes
holds_itself images others source one space page bytes is (by_data _ place at stored) = inl (place, at, stored)
holds_itself images others source one space page bytes is (by_zero _ at zeros) = inr (at, zeros)
holds_itself images others source one space page bytes is (by_parent _ parent at named holds) =
    absurd (contains_none (space, page) (subst (λ pages. Contains pages (space, page)) is.whole at))

pub merged_repeats_lem : MergedRepeats
merged_repeats_lem images source one is = record {
  checkpoint = is.checkpoint;
  stands = is.stands;
  areas = is.areas;
  bytes = λ others space page bytes. (
    λ holds. (is.bytes space page bytes).0 (holds_itself images others source one space page bytes is holds),
    λ holds. itself_holds others one space page bytes ((is.bytes space page bytes).1 holds),
  );
}

-- ---- a dump

module _ (s : Store) (dump : Image) (sound : IsSoundStore s) (next : IsNextDump s dump) where
  over_holds : (space page : ℕ) (bytes : List ℕ) → HasOver s.catalog dump space page bytes → Holds (dump ∷ s.catalog) space page bytes dump
  over_holds space page bytes (inl has) = itself_holds (dump ∷ s.catalog) dump space page bytes has
  over_holds space page bytes (inr below) =
      let called = by_job dump.header.parent (Contains-append_left s.chain s.work dump.header.parent next.next.parent) in
      let gives = (steps_give_lem.adds s dump (dump ∷ s.catalog) sound next.next (adds_front s.catalog dump) dump.header.parent space page bytes called).0 below.1 in
      by_parent dump gives.0 below.0 gives.1 gives.2

  page_holds : (prot_is : Page → Type 0) (none : Type 0) (space page : ℕ) (found : Option Page)
      → MatchOption found none (λ p. prot_is p × HasOver s.catalog dump space page p.bytes)
      → MatchOption found none (λ p. prot_is p × Holds (dump ∷ s.catalog) space page p.bytes dump)
  page_holds prot_is none space page None was = was
  page_holds prot_is none space page (Some p) was = (was.0, over_holds space page p.bytes was.1)

pub dump_shows_lem : DumpShows
dump_shows_lem s dump memory sound next has = (
  dump,
  new_tip s.catalog (dump ∷ s.catalog) dump (adds_front s.catalog dump) next.restorable (λ j c restorable. inl (next.newest j c restorable)),
  refl,
  record {
    alive = has.alive;
    pages = λ listed c page. page_holds s dump sound next (λ p. prot_in listed.areas page ≡ Some p.prot) (prot_in listed.areas page ≡ None) listed.space page
        (page_in memory listed.space page) (has.pages listed c page);
  },
)

-- ---- new numbers

source_apart : (number : ℕ) (i : Image) (source : Option Image) → i.header.stands_for ≡ number → IfSome source (λ one. one.header.stands_for < number)
    → IfSome source (λ one. one.header.stands_for ≢ i.header.stands_for)
source_apart number i source is above = grind arith

pub above_is_fresh_lem : AboveIsFresh
above_is_fresh_lem s i stands falls above = record {
  itself = stands;
  serial = λ j c same. let less = above.serials j c in omega (arith, less, same);
  number = record {
    stands = λ j c same. let less = above.stands j c in omega (arith, less, same, stands);
    names = λ j c same. let less = above.parents j c in omega (arith, less, same, stands);
    asks = λ c. let less = above.jobs i.header.stands_for c in omega (arith, less, stands);
  };
  apart = source_apart i.header.serial i s.source stands above.source;
  falls = falls;
}
