-- The walk from the newest image to the first that is sent.
use Rattle.std.proofs.Common.{◌≢◌, ◌<◌, ℕ, slice_index_or, List, [], ◌∷◌, map, Option, Some, None, MatchOption, All, Contains, Bor, refl, sym, subst, inl, inr}
use Rattle.std.specs.Prelude.{IfSome, IsNone}
use Rattle.std.proofs.lemmas.List.Elements.{All-contains, Contains-get_or}
use Rattle.sd_image.proofs.Members.{contains_cases, contains_map, contains_none}
use Rattle.sd_chain.specs.Catalog.{IsDumpOrMerged, IsTip, Names, Opened, Places, images}
use Rattle.sd_send.specs.Sent.{AreSince, EndsAt, IsParent, IsTipOrNone, Leads}

-- the image that was found, if one was
abbrev pub seen : Option (Bor Opened) → Option Opened
seen None = None
seen (Some i) = Some i.now

-- from the tip the images so far lead to the next, all of them are of the catalog, and none is in the slot
pub record IsWalked (places : Places) (stop : Option ℕ) (found : List Opened) (next : Option (Bor Opened)) : Type 0 where
  pub tip : Option Opened
  pub newest : IsTipOrNone places tip
  pub leads : Leads places tip found (seen next)
  pub members : (i : Opened) → Contains found i → Contains (images places) i
  pub apart : (i : Opened) → Contains found i → stop ≢ Some i.slot
  pub member : IfSome next (λ i. Contains (images places) i.now)

pub walk_begins : (places : Places) (stop : Option ℕ) (tip : Option (Bor Opened)) → MatchOption tip (All (λ i. IsDumpOrMerged i → ⊥) (images places)) (λ i. IsTip places i.now) → IsWalked places stop [] tip
walk_begins places stop None none = record { tip = None; newest = none; leads = refl; members = λ i c. absurd (contains_none i c); apart = λ i c. absurd (contains_none i c); member = tt }
walk_begins places stop (Some tip) is = record { tip = Some tip.now; newest = is; leads = refl; members = λ i c. absurd (contains_none i c); apart = λ i c. absurd (contains_none i c); member = is.member }

pub walk_goes_on : (places : Places) (stop : Option ℕ) (found : List Opened) (i : Bor Opened) (next : Option (Bor Opened)) → IsWalked places stop found (Some i)
    → stop ≢ Some i.now.slot → IsParent places i.now (seen next) → IfSome next (λ p. Names places i.now.header.parent p.now) → IsWalked places stop (i.now ∷ found) next
walk_goes_on places stop found i next walked other parent named = record {
  tip = walked.tip;
  newest = walked.newest;
  leads = (parent, walked.leads);
  members = λ j c. elim (contains_cases i.now j found c) [
    | inl here ↦ subst (λ (k : Opened). Contains (images places) k) (sym here) walked.member
    | inr later ↦ walked.members j later
  ];
  apart = λ j c. elim (contains_cases i.now j found c) [
    | inl here ↦ subst (λ (k : Opened). stop ≢ Some k.slot) (sym here) other
    | inr later ↦ walked.apart j later
  ];
  member = in_it next named;
}
  where
    in_it : (next : Option (Bor Opened)) → IfSome next (λ p. Names places i.now.header.parent p.now) → IfSome next (λ p. Contains (images places) p.now)
    in_it None none = tt
    in_it (Some p) names = names.member

pub walk_ends : (places : Places) (found : List Opened) (next : Option (Bor Opened)) (stop : Option ℕ) → IsWalked places stop found next → EndsAt stop (seen next) → AreSince places stop found
walk_ends places found next stop walked ends = record { tip = walked.tip; newest = walked.newest; next = seen next; leads = walked.leads; ends = ends; apart = walked.apart }

pub parent_seen : (places : Places) (i : Opened) (next : Option (Bor Opened)) → IfSome next (λ p. p.now.header.stands_for < i.header.stands_for) → IfSome next (λ p. Names places i.header.parent p.now)
    → (i.header.parent < i.header.stands_for → IsNone next → (p : Opened) → Names places i.header.parent p → ⊥) → IsParent places i (seen next)
parent_seen places i None falls named all = λ below p names. all below refl p names
parent_seen places i (Some p) falls named all = (named, falls)

pub all_slots : (places : Places) (found : List (Bor Opened)) (count : ℕ) → ((i : Opened) → Contains (map (λ (b : Bor Opened). b.now) found) i → Contains (images places) i)
    → All (λ (i : Opened). i.slot < count) (images places) → All (λ (b : Bor Opened). b.now.slot < count) found
all_slots places found count members all = λ k d within.
    All-contains (λ (i : Opened). i.slot < count) (images places) (slice_index_or found k d).now all
    (members (slice_index_or found k d).now (contains_map (λ (b : Bor Opened). b.now) found (slice_index_or found k d) (Contains-get_or found k d within)))
