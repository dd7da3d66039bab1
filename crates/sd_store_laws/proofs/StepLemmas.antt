-- Each step keeps a store sound.
use Rattle.std.proofs.Common.{◌≡◌, ◌≢◌, ◌⊎◌, ℕ, ◌<◌, true, List, [], ◌∷◌, ◌++◌, Option, Some, None, Contains, IfSome, refl, sym, ◌∙◌, ap, subst, inl, inr, arith}
use Rattle.std.proofs.lemmas.Bool.{false≢true}
use Rattle.std.proofs.lemmas.List.Elements.{Contains-append_cases, Contains-append_left, Contains-append_right}
use Rattle.sd_image.specs.Image.{Image}
use Rattle.sd_image.specs.Shows.{IsNamed, IsNotAfter, IsRestorable, IsTip}
use Rattle.sd_store_laws.specs.Needed.{IsCalled, by_tip, by_job, by_parent}
use Rattle.sd_image.specs.Laws.{SerialsDiffer}
use Rattle.sd_image.proofs.Members.{contains_cases, contains_front, contains_none}
use Rattle.sd_store_laws.specs.ShownStays.{IsSource}
use Rattle.sd_store_laws.specs.Store.{IsMergeSource, IsNextDump, IsNextPreDump, IsSoundStore, IsMergedCopy, Store, jobs}
use Rattle.sd_store_laws.specs.Steps.{Adds, Retires, StepsKeep, added, cancelled, checkpoint_begun, committed, found_store, merging, replaced, retired}
use Rattle.sd_image.proofs.OneMemory.{named_once_among as one_named}
use Rattle.sd_store_laws.proofs.Choose.{one_tip, some_named, some_tip, tip_is}
use Rattle.sd_store_laws.proofs.Growth.{called_all, falls_more, fewer_named, fewer_tip, more_named, more_tip, new_named, new_tip, serials_more}

-- ---- called numbers

abbrev Was : Store → ℕ → Type 0
Was s number = IsCalled s.catalog (jobs s) number

of_chain : (s : Store) (number : ℕ) → Contains s.chain number → Was s number
of_chain s number c = by_job number (Contains-append_left s.chain s.work number c)

of_work : (s : Store) (number : ℕ) → Contains s.work number → Was s number
of_work s number c = by_job number (Contains-append_right s.chain s.work number c)

of_tip : (s : Store) (tip : Image) → IsTip s.catalog tip → Was s tip.header.parent
of_tip s tip is = by_tip tip.header.parent tip is refl

of_named : (s : Store) (number : ℕ) (i : Image) → Was s number → IsNamed s.catalog number i → Was s i.header.parent
of_named s number i was named = by_parent i.header.parent number i was named refl

-- the numbers that are referenced once a job asks for one more, or for none
abbrev WasOr : Store → ℕ → ℕ → Type 0
WasOr s extra number = Was s number ⊎ (number ≡ extra)

-- the jobs of a store whose chain is one number
one_more : (s : Store) (extra number : ℕ) → Contains ((extra ∷ []) ++ s.work) number → WasOr s extra number
one_more s extra number c = grind (arith, contains_cases, of_work)

-- a source stays one where no more is referenced
abbrev IsStill : (old : Store) (catalog : List Image) (asked : List ℕ) → Image → Type 0
IsStill old catalog asked source = IsCalled catalog asked source.header.stands_for → Was old source.header.stands_for

same_source : (s : Store) (asked : List ℕ) (source : Image) → IsStill s s.catalog asked source → IsSource s.catalog (jobs s) source → IsSource s.catalog asked source
same_source s asked source still is = grind arith

same_merged : (s t : Store) (o : Option Image) → IfSome o (IsMergeSource s) → ((source : Image) → IsMergeSource s source → IsMergeSource t source) → IfSome o (IsMergeSource t)
same_merged s t o was keeps = grind arith

-- ---- a checkpoint begins

module _ (s : Store) (sound : IsSoundStore s) where
  -- the parent is the tip's own number
  pub begun_called : (tip : Image) → s.grows ≡ true → IsTip s.catalog tip → (number : ℕ)
      → IsCalled s.catalog (jobs (checkpoint_begun s tip.header.stands_for)) number → WasOr s tip.header.stands_for number
  begun_called tip grows is = called_all s.catalog (jobs (checkpoint_begun s tip.header.stands_for)) (WasOr s tip.header.stands_for)
      (λ t is. inl (of_tip s t is)) (one_more s tip.header.stands_for)
      (λ number i was named. elim was [
        | inl called ↦ inl (of_named s number i called named)
        | inr same ↦
            let mine = sound.own grows tip is in
            let tip_named : i ≡ tip = one_named s.catalog tip.header.stands_for i tip sound.serials (subst (λ n. IsNamed s.catalog n i) same named) mine in
            inl (subst (λ (k : Image). Was s k.header.parent) (sym tip_named) (of_tip s tip is))
      ])

  begun_source : (tip source : Image) → s.grows ≡ true → IsTip s.catalog tip → IsSource s.catalog (jobs s) source
      → IsSource s.catalog (jobs (checkpoint_begun s tip.header.stands_for)) source
  begun_source tip source grows is was = record {
    named = λ called. elim (begun_called tip grows is source.header.stands_for called) [
      | inl before ↦ was.named before
      | inr number ↦
          let top : was.tip ≡ tip = one_tip s.catalog was.tip tip sound.serials was.is_tip is in
          elim was.or_below [
            | inl same ↦ let this : source ≡ tip = same ∙ top in
                subst (λ (k : Image). IsNamed s.catalog k.header.stands_for k) (sym this) (sound.own grows tip is)
            | inr below ↦ absurd (below.1 (number ∙ ap (λ (k : Image). k.header.stands_for) (sym top)))
          ]
    ];
    tip = was.tip;
    is_tip = was.is_tip;
    or_below = was.or_below;
  }

  begins : (tip : Image) → s.grows ≡ true → IsTip s.catalog tip → IsSoundStore (checkpoint_begun s tip.header.stands_for)
  begins tip grows is = record {
    serials = sound.serials;
    fall = sound.fall;
    tip = λ t t_is. begun_source tip t grows is (sound.tip t t_is);
    merged = same_merged s (checkpoint_begun s tip.header.stands_for) s.source sound.merged (λ source was. record { is = begun_source tip source grows is was.is; asked = was.asked; falls = was.falls });
    own = sound.own;
  }

  -- nothing stands for 0
  pub nothing_at_0 : (i : Image) → Contains s.catalog i → i.header.stands_for ≡ 0 → ⊥
  nothing_at_0 i c is = let falls = sound.fall i c in absurd (omega (arith, falls, is))

  pub whole_called : (number : ℕ) → IsCalled s.catalog (jobs (checkpoint_begun s 0)) number → WasOr s 0 number
  whole_called = called_all s.catalog (jobs (checkpoint_begun s 0)) (WasOr s 0)
      (λ t is. inl (of_tip s t is)) (one_more s 0)
      (λ number i was named. elim was [
        | inl called ↦ inl (of_named s number i called named)
        | inr same ↦ absurd (nothing_at_0 i named.member (named.stands ∙ same))
      ])

  whole_source : (source : Image) → (source.header.stands_for ≡ 0 → ⊥) → IsSource s.catalog (jobs s) source → IsSource s.catalog (jobs (checkpoint_begun s 0)) source
  whole_source source some was = same_source s (jobs (checkpoint_begun s 0)) source (λ called. elim (whole_called source.header.stands_for called) [
    | inl before ↦ before
    | inr none ↦ absurd (some none)
  ]) was

  begins_whole : IsSoundStore (checkpoint_begun s 0)
  begins_whole = record {
    serials = sound.serials;
    fall = sound.fall;
    tip = λ t is. whole_source t (nothing_at_0 t is.member) (sound.tip t is);
    merged = same_merged s (checkpoint_begun s 0) s.source sound.merged
        (λ source was. record { is = whole_source source (λ e. let falls = was.falls in absurd (omega (arith, falls, e))) was.is; asked = was.asked; falls = was.falls });
    own = sound.own;
  }

  -- ---- a checkpoint is cancelled

  pub cancelled_called : (number : ℕ) → IsCalled s.catalog (jobs (cancelled s)) number → Was s number
  cancelled_called = called_all s.catalog (jobs (cancelled s)) (Was s) (of_tip s) (of_work s) (of_named s)

  cancels : IsSoundStore (cancelled s)
  cancels = record {
    serials = sound.serials;
    fall = sound.fall;
    tip = λ t is. same_source s (jobs (cancelled s)) t (cancelled_called t.header.stands_for) (sound.tip t is);
    merged = same_merged s (cancelled s) s.source sound.merged
        (λ source was. record { is = same_source s (jobs (cancelled s)) source (cancelled_called source.header.stands_for) was.is; asked = was.asked; falls = was.falls });
    own = λ grows. absurd (false≢true grows);
  }

  -- ---- a merge begins

  module _ (top : Image) (is_top : IsTip s.catalog top) where
    pub merging_called : (number : ℕ) → IsCalled s.catalog (jobs (merging s top)) number → Was s number
    merging_called = called_all s.catalog (jobs (merging s top)) (Was s) (of_tip s)
        (λ number c. elim (Contains-append_cases s.chain (top.header.parent ∷ []) number c) [
          | inl chain ↦ of_chain s number chain
          | inr work ↦ elim (contains_cases top.header.parent number [] work) [
            | inl same ↦ subst (Was s) (sym same) (of_tip s top is_top)
            | inr none ↦ absurd (contains_none number none)
          ]
        ]) (of_named s)

    merging_source : (source : Image) → IsTip s.catalog source → IsSource s.catalog (jobs (merging s top)) source
    merging_source source is = same_source s (jobs (merging s top)) source (merging_called source.header.stands_for) (sound.tip source is)

    merges : IsSoundStore (merging s top)
    merges = record {
      serials = sound.serials;
      fall = sound.fall;
      tip = merging_source;
      merged = record { is = merging_source top is_top; asked = contains_front top.header.parent []; falls = sound.fall top is_top.member };
      own = sound.own;
    }

  -- ---- a pre-dump is added

  module _ (i : Image) (new : List Image) (is : IsNextPreDump s i) (adds : Adds s.catalog i new) where
    never_tip : IsRestorable i → ⊥
    never_tip restorable = restorable is.kind

    pub old_tip : (t : Image) → IsTip new t → IsTip s.catalog t
    old_tip t tip = elim (fewer_tip s.catalog new i t adds tip) [
      | inl same ↦ absurd (never_tip (subst IsRestorable same tip.restorable))
      | inr was ↦ was
    ]

    pub added_called : (number : ℕ) → IsCalled new (jobs (added s new i.header.stands_for)) number → WasOr s i.header.stands_for number
    added_called = called_all new (jobs (added s new i.header.stands_for)) (WasOr s i.header.stands_for)
        (λ t tip. inl (of_tip s t (old_tip t tip))) (one_more s i.header.stands_for)
        (λ number j was named. elim (fewer_named s.catalog new i number j adds named) [
          | inl same ↦ inl (subst (λ (k : Image). Was s k.header.parent) (sym same) (of_chain s i.header.parent is.next.parent))
          | inr before ↦ elim was [
            | inl called ↦ inl (of_named s number j called before)
            | inr number_is ↦ absurd (is.next.fresh.number.stands j before.member (before.stands ∙ number_is))
          ]
        ])

    added_source : (source : Image) → source.header.stands_for ≢ i.header.stands_for → IsSource s.catalog (jobs s) source
        → IsSource new (jobs (added s new i.header.stands_for)) source
    added_source source apart was = record {
      named = λ called. elim (added_called source.header.stands_for called) [
        | inl before ↦ more_named s.catalog new i source.header.stands_for source adds (λ e. absurd (apart (sym e))) (was.named before)
        | inr same ↦ absurd (apart same)
      ];
      tip = was.tip;
      is_tip = more_tip s.catalog new i was.tip adds (λ restorable. absurd (never_tip restorable)) was.is_tip;
      or_below = was.or_below;
    }

    added_merged : (o : Option Image) → IfSome o (IsMergeSource s) → IfSome o (λ source. source.header.stands_for ≢ i.header.stands_for)
        → IfSome o (IsMergeSource (record { catalog = new; chain = i.header.stands_for ∷ []; work = s.work; source = s.source; grows = s.grows }))
    added_merged None was apart = tt
    added_merged (Some source) was apart = record { is = added_source source apart was.is; asked = was.asked; falls = was.falls }

    adds_keeps : IsSoundStore (added s new i.header.stands_for)
    adds_keeps = record {
      serials = serials_more s.catalog new i adds is.next.fresh.serial sound.serials;
      fall = falls_more s.catalog new i adds is.next.fresh.falls sound.fall;
      tip = λ t tip. let was = old_tip t tip in added_source t (is.next.fresh.number.stands t was.member) (sound.tip t was);
      merged = added_merged s.source sound.merged is.next.fresh.apart;
      own = λ grows t tip. let was = old_tip t tip in
          more_named s.catalog new i t.header.stands_for t adds (λ e. absurd (is.next.fresh.number.stands t was.member (sym e))) (sound.own grows t was);
    }

  -- ---- a dump is committed

  module _ (i : Image) (new : List Image) (is : IsNextDump s i) (adds : Adds s.catalog i new) where
    pub committed_called : (number : ℕ) → IsCalled new (jobs (committed s new)) number → Was s number
    committed_called = called_all new (jobs (committed s new)) (Was s)
        (λ t tip. elim (fewer_tip s.catalog new i t adds tip) [
          | inl same ↦ subst (λ (k : Image). Was s k.header.parent) (sym same) (of_chain s i.header.parent is.next.parent)
          | inr was ↦ of_tip s t was
        ]) (of_work s)
        (λ number j was named. elim (fewer_named s.catalog new i number j adds named) [
          | inl same ↦ subst (λ (k : Image). Was s k.header.parent) (sym same) (of_chain s i.header.parent is.next.parent)
          | inr before ↦ of_named s number j was before
        ])

    dump_tip : IsTip new i
    dump_tip = new_tip s.catalog new i adds is.restorable (λ j c restorable. inl (is.newest j c restorable))

    dump_named : IsNamed new i.header.stands_for i
    dump_named = new_named s.catalog new i adds (λ j c same. absurd (is.next.fresh.number.stands j c same))

    dump_source : IsSource new (jobs (committed s new)) i
    dump_source = record { named = λ called. dump_named; tip = i; is_tip = dump_tip; or_below = inl refl }

    committed_serials : SerialsDiffer new
    committed_serials = serials_more s.catalog new i adds is.next.fresh.serial sound.serials

    is_dump : (t : Image) → IsTip new t → i ≡ t
    is_dump t tip = one_tip new i t committed_serials dump_tip tip

    committed_merged : (o : Option Image) → IfSome o (IsMergeSource s) → IfSome o (λ source. source.header.stands_for ≢ i.header.stands_for)
        → IfSome o (λ source. source.header.checkpoint < i.header.checkpoint) → IfSome o (IsMergeSource (committed s new))
    committed_merged None was apart above = tt
    committed_merged (Some source) was apart above = record {
      is = record {
        named = λ called.
            more_named s.catalog new i source.header.stands_for source adds (λ e. absurd (apart (sym e))) (was.is.named (committed_called source.header.stands_for called));
        tip = i;
        is_tip = dump_tip;
        or_below = inr (above, apart);
      };
      asked = was.asked;
      falls = was.falls;
    }

    commits : IsSoundStore (committed s new)
    commits = record {
      serials = committed_serials;
      fall = falls_more s.catalog new i adds is.next.fresh.falls sound.fall;
      tip = λ t tip. subst (IsSource new (jobs (committed s new))) (is_dump t tip) dump_source;
      merged = committed_merged s.source sound.merged is.next.fresh.apart is.above;
      own = λ grows t tip. subst (λ (k : Image). IsNamed new k.header.stands_for k) (is_dump t tip) dump_named;
    }

  -- ---- the merged image replaces its source

  module _ (twin : Image) (new : List Image) (is : IsMergedCopy s.catalog s.source twin) (adds : Adds s.catalog twin new) where
    source_was : IsMergeSource s is.source
    source_was = subst (λ (o : Option Image). IfSome o (IsMergeSource s)) is.running sound.merged

    pub replaced_called : (number : ℕ) → IsCalled new (jobs (replaced s new)) number → WasOr s 0 number
    replaced_called = called_all new (jobs (replaced s new)) (WasOr s 0)
        (λ t tip. elim (fewer_tip s.catalog new twin t adds tip) [
          | inl same ↦ inr (ap (λ (k : Image). k.header.parent) same ∙ is.alone)
          | inr was ↦ inl (of_tip s t was)
        ])
        (λ number c. elim (Contains-append_cases s.chain [] number c) [
          | inl chain ↦ inl (of_chain s number chain)
          | inr none ↦ absurd (contains_none number none)
        ])
        (λ number j was named. elim (fewer_named s.catalog new twin number j adds named) [
          | inl same ↦ inr (ap (λ (k : Image). k.header.parent) same ∙ is.alone)
          | inr before ↦ elim was [
            | inl called ↦ inl (of_named s number j called before)
            | inr none ↦ absurd (nothing_at_0 j before.member (before.stands ∙ none))
          ]
        ])

    twin_named : IsNamed new twin.header.stands_for twin
    twin_named = new_named s.catalog new twin adds is.above

    -- an image that is the tip with the merged copy beside it stands for another number
    other_number : (t : Image) → IsTip new t → IsTip s.catalog t → twin.header.stands_for ≢ t.header.stands_for
    other_number t tip was stands =
        let top : source_was.is.tip ≡ t = one_tip s.catalog source_was.is.tip t sound.serials source_was.is.is_tip was in
        elim source_was.is.or_below [
          | inl same ↦
              let less = is.above t was.member (sym stands) in
              let mine : twin.header.checkpoint ≡ t.header.checkpoint = is.repeats.checkpoint ∙ ap (λ (k : Image). k.header.checkpoint) (same ∙ top) in
              after t less mine (tip.greatest twin ((adds twin).1 (inl refl)) is.restorable)
          | inr below ↦ below.1 (sym is.repeats.stands ∙ stands ∙ ap (λ (k : Image). k.header.stands_for) (sym top))
        ]
      where
        after : (t : Image) → t.header.serial < twin.header.serial → twin.header.checkpoint ≡ t.header.checkpoint → IsNotAfter twin t → ⊥
        after t less same (inl x) = absurd (omega (arith, less, same, x))
        after t less same (inr x) = absurd (omega (arith, less, same, x.1))

    replaced_named : (t : Image) → IsTip new t → (IsTip s.catalog t → IsNamed s.catalog t.header.stands_for t) → IsNamed new t.header.stands_for t
    replaced_named t tip named = elim (fewer_tip s.catalog new twin t adds tip) [
      | inl same ↦ subst (λ (k : Image). IsNamed new k.header.stands_for k) (sym same) twin_named
      | inr was ↦ more_named s.catalog new twin t.header.stands_for t adds (λ e. absurd (other_number t tip was e)) (named was)
    ]

    -- the number of a tip that was referenced
    still_called : (t : Image) → IsTip s.catalog t → IsCalled new (jobs (replaced s new)) t.header.stands_for → Was s t.header.stands_for
    still_called t was called = elim (replaced_called t.header.stands_for called) [
      | inl before ↦ before
      | inr none ↦ absurd (nothing_at_0 t was.member none)
    ]

    replaces : IsSoundStore (replaced s new)
    replaces = record {
      serials = serials_more s.catalog new twin adds is.serial sound.serials;
      fall = falls_more s.catalog new twin adds (let none = is.alone in let some = is.falls in omega (arith, none, some)) sound.fall;
      tip = λ t tip. record {
        named = λ called. replaced_named t tip (λ was. (sound.tip t was).named (still_called t was called));
        tip = t;
        is_tip = tip;
        or_below = inl refl;
      };
      merged = tt;
      own = λ grows t tip. replaced_named t tip (λ was. sound.own grows t was);
    }

  -- ---- images are retired

  module _ (new : List Image) (is : Retires s new) where
    pub tip_back : (t : Image) → IsTip new t → IsTip s.catalog t
    tip_back t tip =
        let old = some_tip s.catalog t (is.within t tip.member) tip.restorable in
        let after = tip.greatest old.0 (is.needed old.0 (inl old.1)) old.1.restorable in
        let same : t ≡ old.0 = tip_is s.catalog t old.0 sound.serials old.1 (is.within t tip.member) tip.restorable after in
        subst (IsTip s.catalog) (sym same) old.1

    tip_stays : (t : Image) → IsTip s.catalog t → IsTip new t
    tip_stays t tip = record {
      member = is.needed t (inl tip);
      restorable = tip.restorable;
      greatest = λ j c restorable. tip.greatest j (is.within j c) restorable;
    }

    pub name_back : (number : ℕ) (j : Image) → Was s number → IsNamed new number j → IsNamed s.catalog number j
    name_back number j was named =
        let old = some_named s.catalog number j (is.within j named.member) named.stands in
        let low = named.greatest old.0 (is.needed old.0 (inr (number, was, old.1))) old.1.stands in
        let high = old.1.greatest j (is.within j named.member) named.stands in
        let same : j ≡ old.0 = sound.serials j old.0 (is.within j named.member) old.1.member (omega (arith, low, high)) in
        subst (IsNamed s.catalog number) (sym same) old.1

    name_stays : (number : ℕ) (j : Image) → Contains new j → IsNamed s.catalog number j → IsNamed new number j
    name_stays number j c named = record { member = c; stands = named.stands; greatest = λ k d is_too. named.greatest k (is.within k d) is_too }

    pub retired_called : (number : ℕ) → IsCalled new (jobs (retired s new)) number → Was s number
    retired_called = called_all new (jobs (retired s new)) (Was s) (λ t tip. of_tip s t (tip_back t tip)) (λ number c. by_job number c)
        (λ number j was named. of_named s number j was (name_back number j was named))

    retired_source : (source : Image) → IsSource s.catalog (jobs s) source → IsSource new (jobs (retired s new)) source
    retired_source source was = record {
      named = λ called.
          let before = retired_called source.header.stands_for called in
          let named = was.named before in
          name_stays source.header.stands_for source (is.needed source (inr (source.header.stands_for, before, named))) named;
      tip = was.tip;
      is_tip = tip_stays was.tip was.is_tip;
      or_below = was.or_below;
    }

    retires : IsSoundStore (retired s new)
    retires = record {
      serials = λ a b c d. sound.serials a b (is.within a c) (is.within b d);
      fall = λ j c. sound.fall j (is.within j c);
      tip = λ t tip. retired_source t (sound.tip t (tip_back t tip));
      merged = same_merged s (retired s new) s.source sound.merged (λ source was. record { is = retired_source source was.is; asked = was.asked; falls = was.falls });
      own = λ grows t tip. name_stays t.header.stands_for t tip.member (sound.own grows t (tip_back t tip));
    }

-- ---- a store is opened

module _ (images : List Image) (differ : SerialsDiffer images) (fall : (i : Image) → Contains images i → i.header.parent < i.header.stands_for) where
  -- what the tip reaches by number is below its own number
  abbrev IsBelow : ℕ → Type 0
  IsBelow number = (t : Image) → IsTip images t → number < t.header.stands_for

  opened_called : (number : ℕ) → IsCalled images (jobs (found_store images)) number → IsBelow number
  opened_called = called_all images (jobs (found_store images)) IsBelow
      (λ t is other other_is. subst (λ (k : Image). t.header.parent < k.header.stands_for) (one_tip images t other differ is other_is) (fall t is.member))
      (λ number none. absurd (contains_none number none))
      (λ number j below named t is.
      let less = below t is in
      let falls = fall j named.member in
      let stands = named.stands in
      omega (arith, less, falls, stands))

  opens : IsSoundStore (found_store images)
  opens = record {
    serials = differ;
    fall = fall;
    tip = λ t is. record {
      named = λ called. let less = opened_called t.header.stands_for called t is in absurd (omega (arith, less));
      tip = t;
      is_tip = is;
      or_below = inl refl;
    };
    merged = tt;
    own = λ grows. absurd (false≢true grows);
  }

pub steps_keep_lem : StepsKeep
steps_keep_lem = record {
  begins = λ s tip sound grows is. begins s sound tip grows is;
  begins_whole = λ s sound. begins_whole s sound;
  adds = λ s i new sound is more. adds_keeps s sound i new is more;
  commits = λ s i new sound is more. commits s sound i new is more;
  cancels = λ s sound. cancels s sound;
  merges = λ s tip sound is. merges s sound tip is;
  replaces = λ s i new sound is more. replaces s sound i new is more;
  retires = λ s new sound is. retires s sound new is;
  opens = λ images differ fall. opens images differ fall;
}
