-- What the pending dump shows stays.
use Rattle.std.proofs.Common.{◌≢◌, ℕ, List, ◌∷◌, Contains, Option, sym, subst, inl, inr, arith}
use Rattle.sd_areas.specs.PlainMemory.{PlainMemory}
use Rattle.sd_image.specs.Image.{Image}
use Rattle.sd_image.specs.Shows.{ImagesShow}
use Rattle.sd_image.proofs.Members.{contains_cases, contains_front, contains_later}
use Rattle.sd_store_laws.specs.Pending.{PendingShows}
use Rattle.sd_store_laws.specs.Store.{IsNextDump, IsSoundStore, IsMergedCopy, Store}
use Rattle.sd_store_laws.specs.Steps.{Adds, Retires, committed}
use Rattle.sd_store_laws.proofs.Needs.{committed_needs}
use Rattle.sd_store_laws.proofs.Opens.{steps_show_lem}
use Rattle.sd_store_laws.proofs.Stays.{twin_stays_lem}
use Rattle.sd_store_laws.proofs.StepLemmas.{steps_keep_lem}

pub adds_front : (old : List Image) (one : Image) → Adds old one (one ∷ old)
adds_front old one j = grind (arith, contains_cases, contains_front, contains_later)

-- one image more, after another
adds_behind : (first one : Image) (old new : List Image) → Adds old one new → Adds (first ∷ old) one (first ∷ new)
adds_behind first one old new adds j = (
  λ c. elim (contains_cases first j new c) [
    | inl same ↦ inr (subst (Contains (first ∷ old)) (sym same) (contains_front first old))
    | inr among ↦ elim ((adds j).0 among) [
      | inl is ↦ inl is
      | inr was ↦ inr (contains_later first j old was)
    ]
  ],
  λ c. elim c [
    | inl is ↦ contains_later first j new ((adds j).1 (inl is))
    | inr was ↦ elim (contains_cases first j old was) [
      | inl same ↦ subst (Contains (first ∷ new)) (sym same) (contains_front first new)
      | inr among ↦ contains_later first j new ((adds j).1 (inr among))
    ]
  ],
)

module _ (s : Store) (dump : Image) (sound : IsSoundStore s) (next : IsNextDump s dump) where
  -- the store once the dump is committed
  abbrev after : Store
  after = committed s (dump ∷ s.catalog)

  after_sound : IsSoundStore after
  after_sound = steps_keep_lem.commits s dump (dump ∷ s.catalog) sound next (adds_front s.catalog dump)

  replaces : (one : Image) (new : List Image) (shown : Option (ℕ × PlainMemory)) → IsMergedCopy s.catalog s.source one → dump.header.serial ≢ one.header.serial
      → Adds s.catalog one new → ImagesShow (dump ∷ s.catalog) shown → ImagesShow (dump ∷ new) shown
  replaces one new shown twin other adds was =
      steps_show_lem.replaces after one (dump ∷ new) shown after_sound
      (twin_stays_lem.adds s dump one (dump ∷ s.catalog) sound next.next (adds_front s.catalog dump) other twin)
      (adds_behind dump one s.catalog new adds) was

  still_retires : (new : List Image) → Retires s new → Retires after (dump ∷ new)
  still_retires new is = record {
    needed = λ j n. elim (committed_needs s sound dump (dump ∷ s.catalog) j next (adds_front s.catalog dump) n) [
      | inl same ↦ subst (Contains (dump ∷ new)) (sym same) (contains_front dump new)
      | inr was ↦ contains_later dump j new (is.needed j was)
    ];
    within = λ j c. elim (contains_cases dump j new c) [
      | inl same ↦ subst (Contains (dump ∷ s.catalog)) (sym same) (contains_front dump s.catalog)
      | inr among ↦ contains_later dump j s.catalog (is.within j among)
    ];
  }

pub pending_shows_lem : PendingShows
pending_shows_lem = record {
  replaces = λ s dump one new shown sound next twin other adds was. replaces s dump sound next one new shown twin other adds was;
  retires = λ s dump new shown sound next is was. steps_show_lem.retires (after s dump sound next) (dump ∷ new) shown (after_sound s dump sound next) (still_retires s dump sound next new is) was;
}
