-- What is live is what is needed, and the source of a running merge.
use Rattle.std.proofs.Common.{◌≡◌, ◌⊎◌, ℕ, [], ◌∷◌, Option, Some, None, MatchOption, Contains, refl, sym, ◌∙◌, ap, subst, inl, inr}
use Rattle.std.proofs.lemmas.List.Elements.{Contains-append_cases, Contains-append_left}
use Rattle.sd_image.specs.Image.{Image}
use Rattle.sd_image.specs.Shows.{IsNamed}
use Rattle.sd_image.proofs.Members.{contains_cases, contains_none}
use Rattle.sd_store_laws.specs.Needed.{IsReached}
use Rattle.sd_store_laws.specs.Needs.{IsNeededIn}
use Rattle.sd_store_laws.specs.Reached.{Reaches, itself, beyond}
use Rattle.sd_store_laws.specs.Store.{IsSoundStore, Store, jobs}
use Rattle.sd_store_laws.specs.Kept.{HasItsWork, LiveIsNeeded, IsLive, RetiresUnneeded, WorkStays}
use Rattle.sd_store_laws.proofs.Stays.{source_reaches_needed_lem}
use Rattle.sd_store_laws.proofs.Walks.{needed_is_reached_lem}

needed_so : (s : Store) (i : Image) → IsSoundStore s → IsLive s i → IsNeededIn s i ⊎ (s.source ≡ Some i)
needed_so s i sound (inl tip) = inl ((needed_is_reached_lem s.catalog (jobs s) i).1 (inl tip))
needed_so s i sound (inr (inl last)) =
    inl ((needed_is_reached_lem s.catalog (jobs s) i).1 (inr (last.1.0, last.0, Contains-append_left s.chain s.work last.1.0 last.1.1, last.1.2, last.2)))
needed_so s i sound (inr (inr source)) = elim (source_reaches_needed_lem s source.0 i sound source.1 source.2) [
  | inl same ↦ inr (source.1 ∙ ap Some (sym same))
  | inr needed ↦ inl needed
]

-- what the work's number names is reached from the source
by_work : (s : Store) (i start : Image) (number : ℕ) (source : Option Image) → s.source ≡ source → MatchOption source (s.work ≡ []) (λ one. s.work ≡ one.header.parent ∷ [])
    → Contains s.work number → IsNamed s.catalog number start → Reaches s.catalog i start → IsLive s i
by_work s i start number None is work c named reaches = absurd (contains_none number (subst (λ w. Contains w number) work c))
by_work s i start number (Some one) is work c named reaches = elim (contains_cases one.header.parent number [] (subst (λ w. Contains w number) work c)) [
  | inl same ↦ inr (inr (one, is, beyond one start (subst (λ n. IsNamed s.catalog n start) same named) reaches))
  | inr none ↦ absurd (contains_none number none)
]

reached_so : (s : Store) (i : Image) → HasItsWork s → IsReached s.catalog (jobs s) i → IsLive s i
reached_so s i work (inl tip) = inl tip
reached_so s i work (inr job) = elim (Contains-append_cases s.chain s.work job.0 job.2) [
  | inl chain ↦ inr (inl (job.1, (job.0, chain, job.3), job.4))
  | inr among ↦ by_work s i job.1 job.0 s.source refl work among job.3 job.4
]

pub in_use_is_needed_lem : LiveIsNeeded
in_use_is_needed_lem s i sound work = (
  needed_so s i sound,
  λ kept. elim kept [
    | inl needed ↦ reached_so s i work ((needed_is_reached_lem s.catalog (jobs s) i).0 needed)
    | inr source ↦ inr (inr (i, source, itself))
  ],
)

pub retires_unneeded_lem : RetiresUnneeded
retires_unneeded_lem = record {
  unneeded = λ before s beliefs reserved i sound work is. record {
    member = is.member;
    unneeded = λ needed. is.unused ((in_use_is_needed_lem s i sound work).1 (inl needed));
  };
  free = λ s beliefs reserved listed slot i sound work is at needed. is.unused i at ((in_use_is_needed_lem s i sound work).1 (inl needed));
}

pub work_stays_lem : WorkStays
work_stays_lem = record {
  begins = λ s number has. has;
  adds = λ s new number has. has;
  commits = λ s new has. has;
  cancels = λ s has. has;
  merges = λ s tip. refl;
  replaces = λ s new. refl;
  retires = λ s new has. has;
  opens = λ images. refl;
}
