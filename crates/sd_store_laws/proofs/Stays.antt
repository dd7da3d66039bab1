-- What is known of an image to come stays through the steps that others make meanwhile.
use Rattle.std.proofs.Common.{refl, ◌≡◌, ◌≢◌, ℕ, ◌<◌, List, [], ◌∷◌, ◌++◌, Option, Some, Contains, IfSome, sym, ◌∙◌, subst, inl, inr, arith}
use Rattle.std.specs.Prelude.{◌↔◌}
use Rattle.std.proofs.lemmas.List.Elements.{Contains-append_cases, Contains-append_left, Contains-append_right}
use Rattle.sd_image.specs.Image.{Image}
use Rattle.sd_image.specs.Shows.{Holds, IsRestorable, IsTip}
use Rattle.sd_image.proofs.Members.{contains_cases, contains_front, contains_none}
use Rattle.sd_store_laws.specs.Needed.{IsCalled, by_job, by_parent}
use Rattle.sd_store_laws.specs.Reached.{itself, beyond}
use Rattle.sd_store_laws.specs.Cut.{KeepsItsNumber, Repeats}
use Rattle.sd_store_laws.specs.Store.{IsFresh, IsMergeSource, IsNext, IsNextDump, IsSoundStore, IsMergedCopy, Store, jobs}
use Rattle.sd_store_laws.specs.Steps.{Adds, Retires, added, cancelled, checkpoint_begun, committed, merging, replaced, retired}
use Rattle.sd_store_laws.specs.Stays.{DumpStays, FreshStays, SourceReachesNeeded, MergedCopyStays}
use Rattle.sd_store_laws.proofs.Cuts.{cut_holds_the_same_lem, needed_in}
use Rattle.sd_store_laws.proofs.ShownStays.{unused_is_uncalled_lem}
use Rattle.sd_store_laws.proofs.Walks.{reaches_called}

-- ---- what holds of each image of a catalog, and of one more

more : (P : Image → Type 0) (old new : List Image) (one : Image) → Adds old one new → P one → ((j : Image) → Contains old j → P j) → (j : Image) → Contains new j → P j
more P old new one adds here rest j c = elim ((adds j).0 c) [
  | inl same ↦ subst P (sym same) here
  | inr among ↦ rest j among
]

-- ---- fresh images

-- no job asks for the number, also where the chain is another
asks_chain : (s : Store) (number extra : ℕ) → (Contains (jobs s) number → ⊥) → extra ≢ number → Contains ((extra ∷ []) ++ s.work) number → ⊥
asks_chain s number extra never other c = elim (contains_cases extra number s.work c) [
  | inl e ↦ other (sym e)
  | inr work ↦ never (Contains-append_right s.chain s.work number work)
]

asks_work : (s : Store) (number : ℕ) → (Contains (jobs s) number → ⊥) → Contains s.work number → ⊥
asks_work s number never c = never (Contains-append_right s.chain s.work number c)

module _ (s : Store) (i : Image) (fresh : IsFresh s i) where
  abbrev number : ℕ
  number = i.header.stands_for

  some : 0 ≢ number
  some e = let falls = fresh.falls in absurd (omega (arith, falls, e))

  begins : (tip : Image) → IsTip s.catalog tip → IsFresh (checkpoint_begun s tip.header.stands_for) i
  begins tip is = record {
    itself = fresh.itself;
    serial = fresh.serial;
    number = record {
      stands = fresh.number.stands;
      names = fresh.number.names;
      asks = asks_chain s number tip.header.stands_for fresh.number.asks (fresh.number.stands tip is.member);
    };
    apart = fresh.apart;
    falls = fresh.falls;
  }

  begins_whole : IsFresh (checkpoint_begun s 0) i
  begins_whole = record {
    itself = fresh.itself;
    serial = fresh.serial;
    number = record { stands = fresh.number.stands; names = fresh.number.names; asks = asks_chain s number 0 fresh.number.asks some };
    apart = fresh.apart;
    falls = fresh.falls;
  }

  cancels : IsFresh (cancelled s) i
  cancels = record {
    itself = fresh.itself;
    serial = fresh.serial;
    number = record { stands = fresh.number.stands; names = fresh.number.names; asks = asks_work s number fresh.number.asks };
    apart = fresh.apart;
    falls = fresh.falls;
  }

  merges : (tip : Image) → IsTip s.catalog tip → IsFresh (merging s tip) i
  merges tip is = record {
    itself = fresh.itself;
    serial = fresh.serial;
    number = record {
      stands = fresh.number.stands;
      names = fresh.number.names;
      asks = λ c. elim (Contains-append_cases s.chain (tip.header.parent ∷ []) number c) [
        | inl chain ↦ fresh.number.asks (Contains-append_left s.chain s.work number chain)
        | inr work ↦ elim (contains_cases tip.header.parent number [] work) [
          | inl e ↦ fresh.number.names tip is.member (sym e)
          | inr none ↦ contains_none number none
        ]
      ];
    };
    apart = fresh.number.stands tip is.member;
    falls = fresh.falls;
  }

  -- the parent of the running checkpoint's next image is another number
  other_parent : (one : Image) → IsNext s one → one.header.parent ≢ number
  other_parent one next e = fresh.number.asks (Contains-append_left s.chain s.work number (subst (Contains s.chain) e next.parent))

  other_number : (one : Image) → IsNext s one → one.header.serial ≢ i.header.serial → one.header.stands_for ≢ number
  other_number one next apart e = apart (sym next.fresh.itself ∙ e ∙ fresh.itself)

  adds : (one : Image) (new : List Image) → IsNext s one → Adds s.catalog one new → one.header.serial ≢ i.header.serial → IsFresh (added s new one.header.stands_for) i
  adds one new next is apart = record {
    itself = fresh.itself;
    serial = more (λ j. j.header.serial ≢ i.header.serial) s.catalog new one is apart fresh.serial;
    number = record {
      stands = more (λ j. j.header.stands_for ≢ number) s.catalog new one is (other_number one next apart) fresh.number.stands;
      names = more (λ j. j.header.parent ≢ number) s.catalog new one is (other_parent one next) fresh.number.names;
      asks = asks_chain s number one.header.stands_for fresh.number.asks (other_number one next apart);
    };
    apart = fresh.apart;
    falls = fresh.falls;
  }

  commits : (one : Image) (new : List Image) → IsNext s one → Adds s.catalog one new → one.header.serial ≢ i.header.serial → IsFresh (committed s new) i
  commits one new next is apart = record {
    itself = fresh.itself;
    serial = more (λ j. j.header.serial ≢ i.header.serial) s.catalog new one is apart fresh.serial;
    number = record {
      stands = more (λ j. j.header.stands_for ≢ number) s.catalog new one is (other_number one next apart) fresh.number.stands;
      names = more (λ j. j.header.parent ≢ number) s.catalog new one is (other_parent one next) fresh.number.names;
      asks = asks_work s number fresh.number.asks;
    };
    apart = fresh.apart;
    falls = fresh.falls;
  }

  replaces : (one : Image) (new : List Image) → IsMergedCopy s.catalog s.source one → Adds s.catalog one new → one.header.serial ≢ i.header.serial → IsFresh (replaced s new) i
  replaces one new twin is serial =
      let apart : twin.source.header.stands_for ≢ number =
      subst (λ (o : Option Image). IfSome o (λ source. source.header.stands_for ≢ number)) twin.running fresh.apart in
      record {
        itself = fresh.itself;
        serial = more (λ j. j.header.serial ≢ i.header.serial) s.catalog new one is serial fresh.serial;
        number = record {
          stands = more (λ j. j.header.stands_for ≢ number) s.catalog new one is (λ e. apart (sym twin.repeats.stands ∙ e)) fresh.number.stands;
          names = more (λ j. j.header.parent ≢ number) s.catalog new one is (λ e. some (sym twin.alone ∙ e)) fresh.number.names;
          asks = λ c. elim (Contains-append_cases s.chain [] number c) [
            | inl chain ↦ fresh.number.asks (Contains-append_left s.chain s.work number chain)
            | inr none ↦ contains_none number none
          ];
        };
        apart = tt;
        falls = fresh.falls;
      }

  retires : (new : List Image) → Retires s new → IsFresh (retired s new) i
  retires new is = record {
    itself = fresh.itself;
    serial = λ j c. fresh.serial j (is.within j c);
    number = record {
      stands = λ j c. fresh.number.stands j (is.within j c);
      names = λ j c. fresh.number.names j (is.within j c);
      asks = fresh.number.asks;
    };
    apart = fresh.apart;
    falls = fresh.falls;
  }

pub fresh_stays_lem : FreshStays
fresh_stays_lem = record {
  begins = λ s tip i is fresh. begins s i fresh tip is;
  begins_whole = λ s i fresh. begins_whole s i fresh;
  adds = λ s one i new next is apart fresh. adds s i fresh one new next is apart;
  commits = λ s one i new next is apart fresh. commits s i fresh one new next is apart;
  cancels = λ s i fresh. cancels s i fresh;
  merges = λ s tip i is fresh. merges s i fresh tip is;
  replaces = λ s one i new twin is serial fresh. replaces s i fresh one new twin is serial;
  retires = λ s i new is fresh. retires s i fresh new is;
}

-- ---- a dump

dump_replaces : (s : Store) (one i : Image) (new : List Image) → IsMergedCopy s.catalog s.source one → Adds s.catalog one new → one.header.serial ≢ i.header.serial
    → IsNextDump s i → IsNextDump (replaced s new) i
dump_replaces s one i new twin is serial dump =
    let above : twin.source.header.checkpoint < i.header.checkpoint =
    subst (λ (o : Option Image). IfSome o (λ source. source.header.checkpoint < i.header.checkpoint)) twin.running dump.above in
    let same = twin.repeats.checkpoint in
    record {
      next = record { fresh = replaces s i dump.next.fresh one new twin is serial; parent = dump.next.parent };
      restorable = dump.restorable;
      newest = more (λ j. IsRestorable j → j.header.checkpoint < i.header.checkpoint) s.catalog new one is (λ restorable. omega (arith, above, same)) dump.newest;
      above = tt;
    }

pub dump_stays_lem : DumpStays
dump_stays_lem = record {
  merges = λ s tip i is dump. record {
    next = record { fresh = merges s i dump.next.fresh tip is; parent = dump.next.parent };
    restorable = dump.restorable;
    newest = dump.newest;
    above = dump.newest tip is.member is.restorable;
  };
  replaces = λ s one i new sound twin is serial dump. dump_replaces s one i new twin is serial dump;
  retires = λ s i new is dump. record {
    next = record { fresh = retires s i dump.next.fresh new is; parent = dump.next.parent };
    restorable = dump.restorable;
    newest = λ j c restorable. dump.newest j (is.within j c) restorable;
    above = dump.above;
  };
}

-- ---- a merged image

-- what the source holds stays
source_asked : (s : Store) (source : Image) → IsSoundStore s → s.source ≡ Some source → IsCalled s.catalog (jobs s) source.header.parent
source_asked s source sound running =
    let merged : IsMergeSource s source = subst (λ (o : Option Image). IfSome o (IsMergeSource s)) running sound.merged in
    by_job source.header.parent (Contains-append_right s.chain s.work source.header.parent merged.asked)

still_repeats : (old new : List Image) (source twin : Image) → ((space page : ℕ) (bytes : List ℕ) → Holds old space page bytes source ↔ Holds new space page bytes source)
    → Repeats old source twin → Repeats new source twin
still_repeats old new source twin same was = grind arith

twin_adds : (s : Store) (one twin : Image) (new : List Image) → IsSoundStore s → IsNext s one → Adds s.catalog one new → one.header.serial ≢ twin.header.serial
    → IsMergedCopy s.catalog s.source twin → IsMergedCopy new s.source twin
twin_adds s one twin new sound next is serial was =
    let apart : was.source.header.stands_for ≢ one.header.stands_for =
    subst (λ (o : Option Image). IfSome o (λ source. source.header.stands_for ≢ one.header.stands_for)) was.running next.fresh.apart in
    let stands = was.repeats.stands in
    record {
      source = was.source;
      running = was.running;
      repeats = still_repeats s.catalog new was.source twin same was.repeats;
      restorable = was.restorable;
      alone = was.alone;
      falls = was.falls;
      serial = more (λ j. j.header.serial ≢ twin.header.serial) s.catalog new one is serial was.serial;
      above = more (λ j. j.header.stands_for ≡ twin.header.stands_for → j.header.serial < twin.header.serial) s.catalog new one is
          (λ e. absurd (apart (sym stands ∙ sym e))) was.above;
    }
  where
    same : (space page : ℕ) (bytes : List ℕ) → Holds s.catalog space page bytes was.source ↔ Holds new space page bytes was.source
    same = cut_holds_the_same_lem s.catalog (one ∷ []) new (jobs s) was.source sound.serials
        (record {
          needed = λ j n. (is j).1 (inr (needed_in s.catalog (jobs s) j n));
          within = λ j c. elim ((is j).0 c) [
            | inl e ↦ inr (subst (Contains (one ∷ [])) (sym e) (contains_front one []))
            | inr among ↦ inl among
          ];
        })
        (λ j c. elim (contains_cases one j [] c) [
          | inl e ↦ subst (KeepsItsNumber s.catalog (jobs s)) (sym e) (λ called. absurd (unused_is_uncalled_lem s.catalog (jobs s) one.header.stands_for next.fresh.number called))
          | inr none ↦ absurd (contains_none j none)
        ])
        (source_asked s was.source sound was.running)

twin_retires : (s : Store) (twin : Image) (new : List Image) → IsSoundStore s → Retires s new → IsMergedCopy s.catalog s.source twin → IsMergedCopy new s.source twin
twin_retires s twin new sound is was = record {
  source = was.source;
  running = was.running;
  repeats = still_repeats s.catalog new was.source twin
      (cut_holds_the_same_lem s.catalog [] new (jobs s) was.source sound.serials
      (record { needed = is.needed; within = λ j c. inl (is.within j c) })
      (λ j c. absurd (contains_none j c)) (source_asked s was.source sound was.running))
      was.repeats;
  restorable = was.restorable;
  alone = was.alone;
  falls = was.falls;
  serial = λ j c. was.serial j (is.within j c);
  above = λ j c. was.above j (is.within j c);
}

pub twin_stays_lem : MergedCopyStays
twin_stays_lem = record { adds = twin_adds; retires = twin_retires }

pub source_reaches_needed_lem : SourceReachesNeeded
source_reaches_needed_lem s source i sound running (itself) = inl refl
source_reaches_needed_lem s source i sound running (beyond _ up names reaches) =
    let asked = source_asked s source sound running in
    inr (reaches_called s.catalog (jobs s) i up (inr (source.header.parent, asked, names)) (by_parent up.header.parent source.header.parent up asked names refl) reaches)
