-- The merged image enters the catalog: what the checkpoint that runs, or the next one, knows of the store stays.
use Rattle.std.proofs.Common.{◌≡◌, ◌≢◌, ℕ, ◌+◌, ◌<◌, ◌≤◌, true, List, [], ◌∷◌, ◌++◌, Option, Some, IfSome, Contains, refl, sym, ◌∙◌, ap, subst, inl, inr, arith}
use Rattle.std.proofs.lemmas.List.Elements.{Contains-append_cases, Contains-append_left}
use Rattle.sd_image.specs.Image.{Image}
use Rattle.sd_image.specs.Shows.{IsNotAfter, IsRestorable, IsTip}
use Rattle.sd_pagetable.specs.Contents.{Contents}
use Rattle.sd_rounds.specs.Dumper.{Running}
use Rattle.sd_rounds.specs.Keeps.{Rests}
use Rattle.sd_store_laws.specs.Beliefs.{Belief, image_at}
use Rattle.sd_store_laws.specs.Below.{StepsGive}
use Rattle.sd_store_laws.specs.ShownStays.{IsSource}
use Rattle.sd_store_laws.specs.Makers.{IsAboveStore}
use Rattle.sd_store_laws.specs.Needs.{NeedsNoMore}
use Rattle.sd_store_laws.specs.Needed.{by_job}
use Rattle.sd_store_laws.specs.Steps.{Adds, StepsKeep, checkpoint_begun, replaced}
use Rattle.sd_store_laws.specs.Store.{IsMergeSource, IsSoundStore, IsMergedCopy, Store, jobs}
use Rattle.sd_crash_safety.specs.LiveImages.{IsNewNumber, chain_of}
use Rattle.sd_crash_safety.specs.Merges.{IsOtherImage, IsSpared, MakesOther}
use Rattle.sd_crash_safety.proofs.BeginsImage.{in_front}
use Rattle.sd_crash_safety.proofs.MergerOutcome.{StoreThen}
use Rattle.sd_crash_safety.proofs.MergerUse.{other_slot}
use Rattle.sd_crash_safety.proofs.WorkStays.{IsMakingNumber}

-- the jobs of a store whose merge is over
pub own_jobs : (chain : List ℕ) (number : ℕ) → Contains (chain ++ []) number → Contains chain number
own_jobs chain number member = elim (Contains-append_cases chain [] number member) [
  | inl own ↦ own
  | inr none ↦ absurd (let within = none.1 in omega (arith, within))
]

-- the numbers of a merged image of this source
pub record IsRepeated (last : ℕ) (running : Option Running) (source i : Image) : Type 0 where
  pub serial : i.header.serial ≤ last
  pub other : MakesOther running i.header.serial
  pub stands : i.header.stands_for ≡ source.header.stands_for
  pub parent : i.header.parent ≡ 0
  pub checkpoint : i.header.checkpoint ≡ source.header.checkpoint

module _ (keeps : StepsKeep) (gives : StepsGive) (needs : NeedsNoMore) (memory : Contents) (last : ℕ) (running : Option Running) (beliefs : List Belief) (store : Store) (source i : Image) (slot : ℕ)
    (sound : IsSoundStore store) (twin : IsMergedCopy store.catalog store.source i) (is_source : store.source ≡ Some source) (there : Contains store.catalog source) (restorable : IsRestorable source)
    (its : IsRepeated last running source i) (adds : Adds store.catalog i (i ∷ store.catalog)) (spared : IsSpared running slot)
    (only_here : (k : ℕ) → image_at beliefs k ≡ Some i → k ≡ slot) (asks : (one : Running) → running ≡ Some one → store.chain ≡ one.parent ∷ [])
    (low : (number : ℕ) → IsMakingNumber running number → 0 < number) where
  abbrev now : Store
  now = replaced store (i ∷ store.catalog)

  abbrev after : List Image
  after = i ∷ store.catalog

  above_then : IsAboveStore store (last + 1) → IsAboveStore now (last + 1)
  above_then above = record {
    serials = λ j member. elim ((adds j).0 member) [
      | inl same ↦ (let own = ap (λ (x : Image). x.header.serial) same in let few = its.serial in omega (arith, own, few))
      | inr before ↦ above.serials j before
    ];
    stands = λ j member. elim ((adds j).0 member) [
      | inl same ↦ (let own = ap (λ (x : Image). x.header.stands_for) same in let stands = its.stands in let few = above.stands source there in omega (arith, own, stands, few))
      | inr before ↦ above.stands j before
    ];
    parents = λ j member. elim ((adds j).0 member) [
      | inl same ↦ (let own = ap (λ (x : Image). x.header.parent) same in let none = its.parent in omega (arith, own, none))
      | inr before ↦ above.parents j before
    ];
    jobs = λ number member. above.jobs number (Contains-append_left store.chain store.work number (own_jobs store.chain number member));
    source = tt;
  }

  -- the tip then is the tip, or the merged image, whose number is that of the tip
  tip_of : (tip : Image) → IsTip after tip → (before : Image) × IsTip store.catalog before × (before.header.stands_for ≡ tip.header.stands_for)
  tip_of tip is = elim ((adds tip).0 is.member) [
    | inr before ↦ (tip, record { member = before; restorable = is.restorable; greatest = λ j member restored. is.greatest j ((adds j).1 (inr member)) restored }, refl)
    | inl same ↦ by_source same
  ]
    where
      merged : IsMergeSource store source
      merged = subst (λ x. IfSome x (IsMergeSource store)) is_source sound.merged

      was : IsSource store.catalog (jobs store) source
      was = merged.is

      by_source : tip ≡ i → (before : Image) × IsTip store.catalog before × (before.header.stands_for ≡ tip.header.stands_for)
      by_source same = elim was.or_below [
        | inl it ↦ (was.tip, was.is_tip, ap (λ (x : Image). x.header.stands_for) (sym it) ∙ sym its.stands ∙ ap (λ (x : Image). x.header.stands_for) (sym same))
        | inr below ↦ absurd (not_below (is.greatest was.tip ((adds was.tip).1 (inr was.is_tip.member)) was.is_tip.restorable) below.0)
      ]
        where
          not_below : IsNotAfter was.tip tip → source.header.checkpoint < was.tip.header.checkpoint → ⊥
          not_below (inl less) below = let own = ap (λ (x : Image). x.header.checkpoint) same in let checkpoint = its.checkpoint in omega (arith, less, below, own, checkpoint)
          not_below (inr (even, serial)) below = let own = ap (λ (x : Image). x.header.checkpoint) same in let checkpoint = its.checkpoint in omega (arith, even, below, own, checkpoint)

  rests_then : store.grows ≡ true → ((tip : Image) → IsTip store.catalog tip → Rests (chain_of store tip.header.stands_for) memory)
      → (tip : Image) → IsTip after tip → Rests (chain_of now tip.header.stands_for) memory
  rests_then grown rests tip is =
      let before = tip_of tip is in
      let number : ℕ = before.0.header.stands_for in
      let still = gives.replaces (checkpoint_begun store number) i after (keeps.begins store before.0 sound grown before.1) twin adds in
      subst (λ n. Rests (chain_of now n) memory) before.2
      (λ space page bytes clean. (still number space page bytes (by_job number (0, omega arith, refl))).0 (rests before.0 before.1 space page bytes clean))

  -- the image that the checkpoint makes has another number
  new_then : (number : ℕ) → IsMakingNumber running number → IsNewNumber store number → IsNewNumber now number
  new_then number is new = record {
    serial = λ j member. elim ((adds j).0 member) [
      | inl same ↦ (λ even. other is (ap (λ (x : Image). x.header.serial) (sym same) ∙ even))
      | inr before ↦ new.serial j before
    ];
    unused = record {
      stands = λ j member. elim ((adds j).0 member) [
        | inl same ↦ (λ even. subst (λ x. IfSome x (λ y. y.header.stands_for ≢ number)) is_source new.apart
            (sym its.stands ∙ ap (λ (x : Image). x.header.stands_for) (sym same) ∙ even))
        | inr before ↦ new.unused.stands j before
      ];
      names = λ j member. elim ((adds j).0 member) [
        | inl same ↦ (λ even. (let own = ap (λ (x : Image). x.header.parent) same in let none = its.parent in let some = low number is in omega (arith, even, own, none, some)))
        | inr before ↦ new.unused.names j before
      ];
      asks = λ member. new.unused.asks (Contains-append_left store.chain store.work number (own_jobs store.chain number member));
    };
    apart = tt;
  }
    where
      other : IsMakingNumber running number → i.header.serial ≢ number
      other (one, image, running_is, image_is, serial) same =
          subst (λ x. IsOtherImage x i.header.serial) image_is (subst (λ x. MakesOther x i.header.serial) running_is its.other) (serial ∙ sym same)

  pub store_replaced : StoreThen memory last running beliefs store now
  store_replaced = record {
    above = above_then;
    chain = refl;
    grows = refl;
    newest = λ j member restored. elim ((adds j).0 member) [
      | inl same ↦ (source, there, restorable, ap (λ (x : Image). x.header.checkpoint) same ∙ its.checkpoint)
      | inr before ↦ (j, before, restored, refl)
    ];
    needs = λ k j one is r has needed. elim (needs.replaces store i j after sound twin adds needed) [
      | inl same ↦ absurd (other_slot running slot k spared one is r (only_here k (has ∙ ap Some same)))
      | inr before ↦ before
    ];
    gives = λ one is place bytes. (gives.replaces store i after sound twin adds one.parent place.0 place.1 bytes (by_job one.parent (in_front store.chain store.work one.parent (asks one is)))).0;
    rests = λ none grown rests. rests_then grown rests;
    numbers = new_then;
  }
