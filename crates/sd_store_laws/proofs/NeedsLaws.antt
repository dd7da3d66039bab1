-- What isn't needed stays so.
use Rattle.std.proofs.Common.{◌≡◌, ◌≢◌, ◌⊎◌, Contains, refl, ap, inl, inr}
use Rattle.sd_image.specs.Image.{Image}
use Rattle.sd_image.proofs.Members.{contains_none}
use Rattle.sd_store_laws.specs.Needed.{IsCalled, by_tip, by_parent}
use Rattle.sd_store_laws.specs.Needs.{IsNeededIn, IsUnneeded, NeedsNoMore, UnneededStays}
use Rattle.sd_store_laws.specs.Store.{Store, jobs}
use Rattle.sd_store_laws.specs.Steps.{Adds, added, committed, found_store, replaced}
use Rattle.sd_store_laws.proofs.Growth.{called_all}
use Rattle.sd_store_laws.proofs.Needs.{added_needs, begun_needs, cancelled_needs, committed_needs, merging_needs, replaced_needs, retired_needs, whole_needs}

opened_needs : (s : Store) (i : Image) → IsNeededIn (found_store s.catalog) i → IsNeededIn s i
opened_needs s i (inl top) = inl top
opened_needs s i (inr n) = inr (
  n.0,
  called_all s.catalog (jobs (found_store s.catalog)) (λ number. IsCalled s.catalog (jobs s) number)
      (λ t is. by_tip t.header.parent t is refl)
      (λ number c. absurd (contains_none number c))
      (λ number j was named. by_parent j.header.parent number j was named refl) n.0 n.1,
  n.2,
)

pub needs_no_more_lem : NeedsNoMore
needs_no_more_lem = record {
  begins = λ s tip i sound grows is needed. begun_needs s sound tip i grows is needed;
  begins_whole = λ s i sound needed. whole_needs s sound i needed;
  adds = λ s one i new sound is adds needed. added_needs s sound one new i is adds needed;
  commits = λ s one i new sound is adds needed. committed_needs s sound one new i is adds needed;
  cancels = λ s i sound needed. cancelled_needs s sound i needed;
  merges = λ s tip i sound is needed. merging_needs s sound tip i is needed;
  replaces = λ s one i new sound is adds needed. replaced_needs s sound one new i is adds needed;
  retires = λ s i new sound is needed. retired_needs s sound new i is needed;
  opens = opened_needs;
}

-- an image of the catalog isn't the one that is added
still : (s t : Store) (one i : Image) → Adds s.catalog one t.catalog → ((j : Image) → Contains s.catalog j → j.header.serial ≢ one.header.serial)
    → (IsNeededIn t i → (i ≡ one) ⊎ IsNeededIn s i) → IsUnneeded s i → IsUnneeded t i
still s t one i adds fresh before is = record {
  member = (adds i).1 (inr is.member);
  unneeded = λ needed. elim (before needed) [
    | inl same ↦ fresh i is.member (ap (λ (k : Image). k.header.serial) same)
    | inr was ↦ is.unneeded was
  ];
}

pub unneeded_stays_lem : UnneededStays
unneeded_stays_lem = record {
  begins = λ s tip i sound grows top is. record { member = is.member; unneeded = λ n. is.unneeded (needs_no_more_lem.begins s tip i sound grows top n) };
  begins_whole = λ s i sound is. record { member = is.member; unneeded = λ n. is.unneeded (needs_no_more_lem.begins_whole s i sound n) };
  adds = λ s one i new sound next adds is.
      still s (added s new one.header.stands_for) one i adds next.next.fresh.serial (needs_no_more_lem.adds s one i new sound next adds) is;
  commits = λ s one i new sound next adds is.
      still s (committed s new) one i adds next.next.fresh.serial (needs_no_more_lem.commits s one i new sound next adds) is;
  cancels = λ s i sound is. record { member = is.member; unneeded = λ n. is.unneeded (needs_no_more_lem.cancels s i sound n) };
  merges = λ s tip i sound top is. record { member = is.member; unneeded = λ n. is.unneeded (needs_no_more_lem.merges s tip i sound top n) };
  replaces = λ s one i new sound twin adds is.
      still s (replaced s new) one i adds twin.serial (needs_no_more_lem.replaces s one i new sound twin adds) is;
  retires = λ s i new sound retires among is. record { member = among; unneeded = λ n. is.unneeded (needs_no_more_lem.retires s i new sound retires n) };
}
