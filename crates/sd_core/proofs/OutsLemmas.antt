-- The requests that are out, lane by lane.
use Rattle.std.proofs.Common.{◌≡◌, ◌≢◌, ◌⊎◌, ℕ, suc, ◌<◌, true, false, List, [], ◌∷◌, length, Option, Some, None, IfSome, slice_get, slice_set, refl, sym, ◌∙◌, ap, subst, inl, inr, arith}
use Rattle.std.proofs.lemmas.Bool.{both_ways, cases_eq}
use Rattle.sd_gate.specs.declared.phase.Phase.{Phase}
use Rattle.sd_gate.specs.declared.request_id.RequestId.{RequestId}
use Rattle.sd_gate.specs.declared.worker.Worker.TheVariants.{Dumper, Merger}
use Rattle.sd_merge.specs.Merger as merger
use Rattle.sd_rounds.specs.Dumper.{Running, out_of_image, out_of_running, slot_of, writes_of_running}
use Rattle.sd_rounds.specs.Making.{Making, out_of, is_passing}
use Rattle.sd_rounds.specs.declared.stage.Stage.{Stage}
use Rattle.sd_writing.specs.Entries.{data_pages}
use Rattle.sd_gate.specs.Lanes.{is_any_out}
use Rattle.sd_rounds.specs.Writes.{IsPageWrite, no_writes}
use Rattle.sd_crash_safety.specs.Calls.{AreOtherPages}
use Rattle.sd_crash_safety.specs.declared.standing.Standing.TheVariants.{NotOpen, Open}
use Rattle.sd_crash_safety.specs.OpenerSteps.{nobody}
use Rattle.sd_crash_safety.specs.View.{page_lane}
use Rattle.sd_core.specs.Sound.{AreInPages, AreOuts, HasWrites, worker_of_lane}
use Rattle.sd_rounds.proofs.WriteLemmas.{none_at as none_in}

pub far : (k : ℕ) → page_lane k ≡ suc (suc (suc k))
far k = omega arith

-- ---- a lane

-- which request is out in one of these
pub lane_at : (one two : Option RequestId) (pages : List (Option RequestId)) (lane : ℕ) (id : RequestId) → slice_get (one ∷ two ∷ None ∷ pages) lane ≡ Some (Some id)
    → ((lane ≡ 0) × (one ≡ Some id)) ⊎ (((lane ≡ 1) × (two ≡ Some id)) ⊎ ((k : ℕ) × (lane ≡ suc (suc (suc k))) × (slice_get pages k ≡ Some (Some id))))
lane_at one two pages lane id at = grind arith

pub nobody_out : (lane : ℕ) (id : RequestId) → slice_get nobody lane ≡ Some (Some id) → ⊥
nobody_out lane id is = none_in nobody lane id refl is

pub no_write : (k : ℕ) (id : RequestId) → slice_get no_writes k ≡ Some (Some id) → ⊥
no_write k id is = none_in no_writes k id refl is

-- so many lanes without a request are nobody's
all_none : (outs : List (Option RequestId)) (other : List (Option RequestId)) → is_any_out outs ≡ false → is_any_out other ≡ false → length outs ≡ length other → outs ≡ other
all_none [] [] none none_too same = refl
all_none [] (o ∷ other) none none_too same = absurd (let no : 0 ≡ suc (length other) = same in omega (arith, no))
all_none (o ∷ outs) [] none none_too same = absurd (let no : suc (length outs) ≡ 0 = same in omega (arith, no))
all_none (None ∷ outs) (None ∷ other) none none_too same = ap (λ rest. None ∷ rest) (all_none outs other none none_too (let more : suc (length outs) ≡ suc (length other) = same in omega (arith, more)))
all_none (None ∷ outs) (Some id ∷ other) none none_too same = absurd (both_ways true none_too refl)
all_none (Some id ∷ outs) other none none_too same = absurd (both_ways true none refl)

pub nobody_of : (outs : List (Option RequestId)) → length outs ≡ 11 → is_any_out outs ≡ false → outs ≡ nobody
nobody_of outs count none = all_none outs nobody none refl count

pub no_writes_of : (writes : List (Option RequestId)) → length writes ≡ 8 → is_any_out writes ≡ false → writes ≡ no_writes
no_writes_of writes count none = all_none writes no_writes none refl count

pub lanes_count : (outs : List (Option RequestId)) (lane : ℕ) (out : Option RequestId) → length (slice_set outs lane out) ≡ length outs
lanes_count (o ∷ outs) (suc lane) out = ap suc (lanes_count outs lane out)
lanes_count _ _ out = refl

-- ---- the dumper's

-- one of its plan, or the write of a data page
abbrev pub IsOfDumper : Option Running → RequestId → Type 0
IsOfDumper running id = (out_of_running running ≡ Some id) ⊎ ((k : ℕ) × (slice_get (writes_of_running running) k ≡ Some (Some id)))

pub record DumperOuts (phases : List Phase) (running : Option Running) : Type 0 where
  pub own : (id : RequestId) → IsOfDumper running id → (id.slot < length phases) × (id.worker ≡ Dumper)
  pub alone : (id : RequestId) → out_of_running running ≡ Some id → writes_of_running running ≡ no_writes
  pub apart : (k l : ℕ) (a b : RequestId) → slice_get (writes_of_running running) k ≡ Some (Some a) → slice_get (writes_of_running running) l ≡ Some (Some b) → (k ≡ l) ⊎ AreOtherPages a b
  pub count : length (writes_of_running running) ≡ 8

out_outside : (stage : Stage) (id : RequestId) → out_of stage ≡ Some id → is_passing stage ≡ false
out_outside stage id is = grind arith

-- each is on the slot of its image
pub on_slot : (running : Running) (id : RequestId) → IfSome (out_of_image running.image) (λ i. i.slot ≡ slot_of running) → HasWrites running running.image → IsOfDumper (Some running) id
    → id.slot ≡ slot_of running
on_slot running id asked writes (inl own) = subst (λ o. IfSome o (λ i. i.slot ≡ slot_of running)) own asked
on_slot running id asked writes (inr page) = by running.image refl writes page.1
  where
    by : (image : Option Making) → running.image ≡ image → HasWrites running image → slice_get (writes_of_running (Some running)) page.0 ≡ Some (Some id) → id.slot ≡ slot_of running
    by None is w at = absurd (no_write page.0 id (ap (λ i. slice_get (writes_of_running (Some (record running { image = i }))) page.0) (sym is) ∙ at))
    by (Some image) is w at = (w.0.each page.0 id (ap (λ i. slice_get (writes_of_running (Some (record running { image = i }))) page.0) (sym is) ∙ at)).on

pub dumper_outs : (phases : List Phase) (running : Running) → slot_of running < length phases → IfSome (out_of_image running.image) (λ id. id.slot ≡ slot_of running)
    → IfSome (out_of_image running.image) (λ id. id.worker ≡ Dumper) → HasWrites running running.image → DumperOuts phases (Some running)
dumper_outs phases running within asked whose writes = by running.image refl writes
  where
    out_on : (id : RequestId) → IsOfDumper (Some running) id → id.slot < length phases
    out_on id out = subst (λ slot. slot < length phases) (sym (on_slot running id asked writes out)) within

    of_plan : (id : RequestId) → out_of_running (Some running) ≡ Some id → id.worker ≡ Dumper
    of_plan id is = subst (λ o. IfSome o (λ i. i.worker ≡ Dumper)) is whose

    by : (image : Option Making) → running.image ≡ image → HasWrites running image → DumperOuts phases (Some running)
    by None is w =
        let none : writes_of_running (Some running) ≡ no_writes = ap (λ i. writes_of_running (Some (record running { image = i }))) is in
        record {
          own = λ id out. (out_on id out, elim out [ inl own ↦ of_plan id own | inr page ↦ absurd (no_write page.0 id (ap (λ all. slice_get all page.0) (sym none) ∙ page.1)) ]);
          alone = λ id out. none;
          apart = λ k l a b at other. absurd (no_write k a (ap (λ all. slice_get all k) (sym none) ∙ at));
          count = ap length none;
        }
    by (Some image) is w =
        let same : writes_of_running (Some running) ≡ image.writes = ap (λ i. writes_of_running (Some (record running { image = i }))) is in
        let it : (k : ℕ) (id : RequestId) → slice_get (writes_of_running (Some running)) k ≡ Some (Some id) → IsPageWrite (slot_of running) (data_pages image.pass.entries) id =
        (λ k id at. w.0.each k id (ap (λ all. slice_get all k) (sym same) ∙ at)) in
        record {
          own = λ id out. (out_on id out, elim out [ inl own ↦ of_plan id own | inr page ↦ (it page.0 id page.1).worker ]);
          alone = λ id out. same ∙ w.1 (out_outside image.stage id (ap (λ i. out_of_image i) (sym is) ∙ out));
          apart = λ k l a b at other. elim (cases_eq k l) [
            | inl one ↦ inl one
            | inr differs ↦ inr (record {
              one = record { place = (it k a at).place; call = (it k a at).call };
              another = record { place = (it l b other).place; call = (it l b other).call };
              apart = λ call. differs (w.0.apart k l a b (ap (λ all. slice_get all k) (sym same) ∙ at) (ap (λ all. slice_get all l) (sym same) ∙ other) call);
            })
          ];
          count = ap length same ∙ w.0.count;
        }

pub dumper_none : (phases : List Phase) → DumperOuts phases None
dumper_none phases = record {
  own = λ id out. elim out [ inl own ↦ absurd (let no : None ≡ Some id = own in cc) | inr page ↦ absurd (no_write page.0 id page.1) ];
  alone = λ id out. refl;
  apart = λ k l a b at other. absurd (no_write k a at);
  count = refl;
}

-- ---- those of an open store

-- which request is out in a lane
abbrev pub IsInLaneOf : Option Running → Option merger.Running → ℕ → RequestId → Type 0
IsInLaneOf running merge lane id = ((lane ≡ 0) × (out_of_running running ≡ Some id)) ⊎ (((lane ≡ 1) × (merger.out_of_merge merge ≡ Some id))
    ⊎ ((k : ℕ) × (lane ≡ suc (suc (suc k))) × (slice_get (writes_of_running running) k ≡ Some (Some id))))

-- the requests of its jobs
pub open_outs : (outs : List (Option RequestId)) (phases : List Phase) (running : Option Running) (merge : Option merger.Running)
    → outs ≡ out_of_running running ∷ merger.out_of_merge merge ∷ None ∷ writes_of_running running → DumperOuts phases running
    → ((id : RequestId) → merger.out_of_merge merge ≡ Some id → (id.slot < length phases) × (id.worker ≡ Merger))
    → ((id other : RequestId) → IsOfDumper running id → merger.out_of_merge merge ≡ Some other → id.slot ≢ other.slot)
    → AreOuts Open outs phases running merge None
open_outs outs phases running merge are dumper in_two apart = record {
  count = ap length are ∙ (let eight = dumper.count in omega (arith, eight));
  jobs = λ stands. are;
  opening = tt;
  none = λ closed. absurd (let no : Open ≡ NotOpen = closed in cc);
  two = λ none. record { dumper = out_of_running running; merger = merger.out_of_merge merge; pages = writes_of_running running; are = are };
  within = λ lane id at. elim (at_lane lane id at) [
    | inl a ↦ (dumper.own id (inl a.1)).0
    | inr rest ↦ elim rest [
      | inl b ↦ (in_two id b.1).0
      | inr page ↦ (dumper.own id (inr (page.0, page.2))).0
    ]
  ];
  whose = λ lane id at. elim (at_lane lane id at) [
    | inl a ↦ (dumper.own id (inl a.1)).1 ∙ sym (ap worker_of_lane a.0)
    | inr rest ↦ elim rest [
      | inl b ↦ (in_two id b.1).1 ∙ sym (ap worker_of_lane b.0)
      | inr page ↦ (dumper.own id (inr (page.0, page.2))).1 ∙ sym (ap worker_of_lane page.1)
    ]
  ];
  apart = λ one other a b at its same. by one other a b same (at_lane one a at) (at_lane other b its);
}
  where
    at_lane : (lane : ℕ) (id : RequestId) → slice_get outs lane ≡ Some (Some id) → IsInLaneOf running merge lane id
    at_lane lane id at = lane_at (out_of_running running) (merger.out_of_merge merge) (writes_of_running running) lane id (ap (λ all. slice_get all lane) (sym are) ∙ at)

    by : (one other : ℕ) (a b : RequestId) → a.slot ≡ b.slot → IsInLaneOf running merge one a → IsInLaneOf running merge other b → (one ≡ other) ⊎ AreInPages one other a b
    by one other a b same (inl first) (inl second) = inl (first.0 ∙ sym second.0)
    by one other a b same (inl first) (inr (inl second)) = absurd (apart a b (inl first.1) second.1 same)
    by one other a b same (inl first) (inr (inr page)) = absurd (no_write page.0 b (ap (λ all. slice_get all page.0) (sym (dumper.alone a first.1)) ∙ page.2))
    by one other a b same (inr (inl first)) (inl second) = absurd (apart b a (inl second.1) first.1 (sym same))
    by one other a b same (inr (inl first)) (inr (inl second)) = inl (first.0 ∙ sym second.0)
    by one other a b same (inr (inl first)) (inr (inr page)) = absurd (apart b a (inr (page.0, page.2)) first.1 (sym same))
    by one other a b same (inr (inr page)) (inl second) = absurd (no_write page.0 a (ap (λ all. slice_get all page.0) (sym (dumper.alone b second.1)) ∙ page.2))
    by one other a b same (inr (inr page)) (inr (inl second)) = absurd (apart a b (inr (page.0, page.2)) second.1 same)
    by one other a b same (inr (inr page)) (inr (inr next)) = elim (dumper.apart page.0 next.0 a b page.2 next.2) [
      | inl one_lane ↦ inl (page.1 ∙ ap (λ k. suc (suc (suc k))) one_lane ∙ sym next.1)
      | inr pages ↦ inr (record { first = (let at = page.1 in omega (arith, at)); second = (let at = next.1 in omega (arith, at)); are = pages })
    ]
