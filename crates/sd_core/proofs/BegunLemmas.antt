-- A checkpoint begins beside a merge.
use Rattle.std.proofs.Common.{◌≡◌, ℕ, ◌≤◌, List, ◌∷◌, Contains, Option, Some, None, IfSome, slice_get, refl, sym, ◌∙◌, ap, subst, inl, inr, arith}
use Rattle.std.specs.Option.{option_map}
use Rattle.sd_image.proofs.Members.{contains_at}
use Rattle.sd_gate.specs.declared.request_id.RequestId.{RequestId}
use Rattle.sd_merge.specs.declared.retired.Retired.{Retired}
use Rattle.sd_merge.specs.Merger as merger
use Rattle.sd_merge.specs.Merger.{Doing, Retiring, due, copying, opened, retiring}
use Rattle.sd_rounds.specs.Dumper.{begun_checkpoint}
use Rattle.sd_rounds.specs.Writes.{no_writes}
use Rattle.sd_crash_safety.specs.View.{CoreView}
use Rattle.sd_free_slots.specs.Taken.{FreeSlotsLaw, IsReservedBy}
use Rattle.sd_core.specs.declared.numbers.Numbers.{Numbers}
use Rattle.sd_core.specs.Beginning.{AreReserved}
use Rattle.sd_core.specs.Sound.{IsDoing, MergeRuns, serials_to_come}
use Rattle.sd_core.proofs.SlotLemmas.{filled_free, free_unreserved, own_free}

pub few_due : (merge : Option merger.Running) → serials_to_come merge ≤ 1
few_due None = omega arith
few_due (Some merge) = by merge.doing
  where
    by : (doing : Doing) → serials_to_come (Some (record merge { doing = doing })) ≤ 1
    by due = omega arith
    by (copying copy) = omega arith
    by (opened serial) = omega arith
    by (retiring r) = omega arith

pub begun_beside : FreeSlotsLaw → (core : CoreView) (old new : Numbers) (room rounds n : ℕ) (pre_dumps : List ℕ) (dump parent : ℕ) → AreReserved core rounds pre_dumps dump
    → core.outs ≡ None ∷ merger.out_of_merge core.merger ∷ None ∷ no_writes → new.serial ≡ old.serial → new.given ≡ old.given → old.checkpoint ≤ new.checkpoint
    → IfSome core.merger (MergeRuns core.standing core.phases core.catalog core.opener old room core.dumper.running)
    → IfSome core.merger (MergeRuns core.standing core.phases core.catalog core.opener new room (Some (begun_checkpoint n pre_dumps dump parent)))
begun_beside law core old new room rounds n pre_dumps dump parent r outs serial given checkpoint was = by core.merger refl was
  where
    out_at : (merge : merger.Running) (id : RequestId) → core.merger ≡ Some merge → merger.out_in merge.doing ≡ Some id → IsReservedBy core.dumper.running core.merger core.outs id.slot
    out_at merge id is out = inr (inr (inr (record { worker = 1; id = id; out = ap (λ all. slice_get all 1) outs ∙ ap Some (ap merger.out_of_merge is ∙ out); at = refl })))

    listed_at : (merge : merger.Running) (r : Retiring) (place : ℕ) (one : Retired) → core.merger ≡ Some merge → merge.doing ≡ retiring r → slice_get r.list place ≡ Some one
        → IsReservedBy core.dumper.running core.merger core.outs one.slot
    listed_at merge r place one is doing at = inr (inr (inl (record {
      one = one;
      listed = subst (λ m. Contains (merger.list_of m) one) (sym is) (subst (λ d. Contains (merger.list_in d) one) (sym doing) (contains_at r.list place one at));
      at = refl;
    })))

    by_doing : (merge : merger.Running) (doing : Doing) → core.merger ≡ Some merge → merge.doing ≡ doing → IsDoing core.phases core.catalog old room core.dumper.running merge doing
        → IsDoing core.phases core.catalog new room (Some (begun_checkpoint n pre_dumps dump parent)) merge doing
    by_doing merge due is doing d = (let few = d.0 in omega (arith, serial, few), d.1)
    by_doing merge (copying copy) is doing d = (record { header = d.0.header; given = (let below = d.0.given in omega (arith, below, given)); held = d.0.held; other = tt }, d.1)
    by_doing merge (opened number) is doing d = absurd d
    by_doing merge (retiring r') is doing d = record {
      image = d.image;
      elsewhere = d.elsewhere;
      each = λ place one at. let e = d.each place one at in record {
        within = e.within;
        spared = λ has. free_unreserved law core r.slots one.slot r.free (own_free core rounds pre_dumps dump one.slot r has) (listed_at merge r' place one is doing at);
        apart = e.apart;
      };
      rises = d.rises;
    }

    by : (m : Option merger.Running) → core.merger ≡ m → IfSome m (MergeRuns core.standing core.phases core.catalog core.opener old room core.dumper.running)
        → IfSome m (MergeRuns core.standing core.phases core.catalog core.opener new room (Some (begun_checkpoint n pre_dumps dump parent)))
    by None is was = tt
    by (Some merge) is was = record {
      stands = was.stands;
      closed = was.closed;
      within = was.within;
      spared = λ has. free_unreserved law core r.slots merge.slot r.free (own_free core rounds pre_dumps dump merge.slot r has) (inr (inl (ap (option_map merger.slot_of) is)));
      counted = (let counted = was.counted in omega (arith, counted, checkpoint));
      asks = λ id out reserved. free_unreserved law core r.slots id.slot r.free (filled_free core rounds n pre_dumps dump parent id.slot r reserved) (out_at merge id is out);
      syncs = λ id out sync has. free_unreserved law core r.slots id.slot r.free (own_free core rounds pre_dumps dump id.slot r has) (out_at merge id is out);
      doing = by_doing merge merge.doing is refl was.doing;
    }
