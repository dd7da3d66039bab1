-- What the steps of a merger leave of its merge.
use Rattle.std.proofs.Common.{◌≡◌, ◌≢◌, [], Some, refl, sym, ◌∙◌, ap, subst, arith}
use Rattle.std.proofs.Math.Nat.{min-le_right}
use Rattle.std.proofs.lemmas.Option.{same_Some}
use Rattle.sd_chain.specs.Catalog.{Places}
use Rattle.sd_gate.specs.declared.slot_state.SlotState.{SlotState}
use Rattle.sd_gate.specs.declared.slot_state.SlotState.TheVariants.{Raw, Closed, Open as OpenSlot, Writing}
use Rattle.sd_gate.specs.PlanRuns.{AreChanges}
use Rattle.sd_gate.specs.Plans.{Planned}
use Rattle.sd_gate.specs.Requests.{Asked}
use Rattle.sd_gate.specs.Sequences.{format_calls}
use Rattle.sd_merge.specs.declared.copy_order.CopyOrder.{CopyOrder}
use Rattle.sd_merge.specs.declared.stage.Stage.{Stage}
use Rattle.sd_merge.specs.Copying.{Asks, Copying, IsOwnPlan, IsReadyFor, IsSoundCopying, StepsTable, WritesPage, begun_copy, out_of, plan_of, with_plan}
use Rattle.sd_core.specs.Sound.{ClosesWithHeader, IsMergedHeader}

-- ---- a request on the slot of the merged image

pub record AsksOwn (copy next : Copying) (request : Asked) : Type 0 where
  pub order : next.order ≡ copy.order
  pub slot : request.id.slot ≡ copy.order.slot
  pub out : out_of next.stage ≡ Some request.id

pub asks_own : (copy next : Copying) (request : Asked) → IsSoundCopying copy → Asks copy request next → AsksOwn copy next request
asks_own copy next request sound a = record {
  order = ap (λ (k : Copying). k.order) a.is;
  slot = own_by copy.stage a.was sound.ready sound.own;
  out = ap (λ (k : Copying). out_of k.stage) a.is ∙ out_by copy.stage a.was;
}
  where
    on_plan : (p : Planned) → Some p ≡ Some a.plan → p.slot ≡ copy.order.slot → request.id.slot ≡ copy.order.slot
    on_plan p was own = a.gives.slot ∙ ap (λ (q : Planned). q.slot) (sym (same_Some p a.plan was)) ∙ own

    own_by : (stage : Stage) → plan_of stage ≡ Some a.plan → IsReadyFor copy.entries copy.taking copy.read stage → IsOwnPlan copy.order.slot stage → request.id.slot ≡ copy.order.slot
    own_by stage was ready own = grind arith

    out_by : (stage : Stage) → plan_of stage ≡ Some a.plan → out_of (with_plan stage a.next) ≡ Some request.id
    out_by stage was = grind arith

pub writes_own : (copy next : Copying) (request : Asked) → WritesPage copy request next → AsksOwn copy next request
writes_own copy next request w = grind arith

pub tables_own : (places : Places) (copy next : Copying) (request : Asked) → StepsTable places copy request next → AsksOwn copy next request
tables_own places copy next request t = grind arith

-- the image that begins is sound
pub begun_sound : (order : CopyOrder) → IsSoundCopying (begun_copy order)
begun_sound order = record {
  few = (let few = min-le_right order.source.pages 65536 in omega (arith, few));
  ready = (refl, record { taking = refl; read = refl }, record { known = refl; changes = changes order.state; some = λ free. some order.state });
  own = refl;
}
  where
    changes : (state : SlotState) → AreChanges (format_calls state)
    changes Raw = (tt, (tt, (tt, tt)))
    changes Closed = (tt, tt)
    changes OpenSlot = (tt, (tt, (tt, tt)))
    changes Writing = (tt, tt)

    some : (state : SlotState) → format_calls state ≢ []
    some state none = grind arith

-- ---- the header

-- a plan that goes on ends with the same header
pub asked_header : (order : CopyOrder) (stage : Stage) (next : Planned) → ClosesWithHeader order stage → ClosesWithHeader order (with_plan stage next)
asked_header order stage next has = grind arith

-- what the steps leave of it
pub asks_header : (copy next : Copying) (request : Asked) → Asks copy request next → ClosesWithHeader copy.order copy.stage → ClosesWithHeader copy.order next.stage
asks_header copy next request a has = subst (ClosesWithHeader copy.order) (sym (ap (λ (k : Copying). k.stage) a.is)) (asked_header copy.order copy.stage a.next has)

pub writes_header : (copy next : Copying) (request : Asked) → WritesPage copy request next → ClosesWithHeader copy.order copy.stage → ClosesWithHeader copy.order next.stage
writes_header copy next request w has = subst (ClosesWithHeader copy.order) (sym (ap (λ (k : Copying). k.stage) w.is)) tt

pub tables_header : (places : Places) (copy next : Copying) (request : Asked) → StepsTable places copy request next → ClosesWithHeader copy.order copy.stage → ClosesWithHeader copy.order next.stage
tables_header places copy next request t has = subst (ClosesWithHeader copy.order) (sym (ap (λ (k : Copying). k.stage) t.writes.is)) (subst (IsMergedHeader copy.order) (sym t.writes.fits.numbers)
    (record { kind = refl; serial = refl; stands = refl; parent = refl; checkpoint = refl }))
