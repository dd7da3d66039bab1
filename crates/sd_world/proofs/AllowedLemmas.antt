-- Whatever a crash leaves of a world's disk shows what its journal allows.
use Rattle.std.proofs.Common.{◌≡◌, ◌≢◌, ℕ, ◌<◌, true, List, [], ◌∷◌, length, Option, Some, None, IfSome, slice_get, slice_index_or, zero, suc, refl, sym, ◌∙◌, ap, subst, inl, inr, arith}
use Rattle.std.specs.List.{AllZip}
use Rattle.std.proofs.lemmas.Bool.{cases_eq, false≢true}
use Rattle.std.proofs.lemmas.Option.{same_Some, get_or_from_slice_get, slice_get_within, slice_get-get_or}
use Rattle.sd_disk.specs.Contents.{file_at}
use Rattle.sd_disk.specs.Crash.{Within}
use Rattle.sd_disk.specs.declared.disk.Disk.{Ghosts}
use Rattle.sd_image.specs.Image.{Image}
use Rattle.sd_gate.specs.declared.phase.Phase.{Phase}
use Rattle.sd_gate.specs.declared.phase.Phase.TheVariants.{Raw}
use Rattle.sd_gate.specs.declared.phase.Phase.TheVariants as ph
use Rattle.sd_gate.specs.Calls.{is_done}
use Rattle.sd_gate.specs.Fits.{PhaseLeaves}
use Rattle.sd_gate.specs.Laws.{WritesCommute}
use Rattle.sd_gate.specs.Phases.{after as phase_after, body_after, is_ready, may_write}
use Rattle.sd_gate.specs.Requests.{Made}
use Rattle.sd_journal.specs.History.{Base, History}
use Rattle.sd_store_laws.specs.Beliefs.{AreSlotsOf, Belief, Closed, ContentsShow, FitsBelief}
use Rattle.sd_store_laws.specs.Gates.{IsBelievedAs, IsWeaker, LeftAsBelieved, MayBelieve}
use Rattle.sd_store_laws.specs.Store.{IsSoundStore, Store}
use Rattle.sd_crash_safety.specs.Believes.{IsCovered, ShowsLast, ShowsPending}
use Rattle.sd_crash_safety.specs.Shown.{ShowsAllowed}
use Rattle.sd_crash_safety.specs.View.{history_of}
use Rattle.sd_world.specs.declared.kept.Kept.{Kept}
use Rattle.sd_world.specs.declared.kept.Kept.TheVariants.{Nothing, Request, Outcome}
use Rattle.sd_world.specs.Consistent.{AreInPlace, IsConsistent, IsWorld, SlotNow, slot_after, slot_now}
use Rattle.sd_world.specs.View.{WorldView, asked_of}
use Rattle.sd_world.proofs.KeptLemmas.{AreWrites, IsWrite, NoneOn, alone_now, lane_cases, none_now, same_outcome, writes_keep, writes_there}
use Rattle.sd_world.proofs.Lists.{get_map}
use Rattle.sd_world.proofs.Worlds.{slot_as}

-- one file, as it is believed
fits_one : LeftAsBelieved → (phase : Phase) (body file : List ℕ) (belief : Belief) → MayBelieve phase body belief → PhaseLeaves phase body file
    → FitsBelief belief file
fits_one left phase body file belief may leaves = all.0
  where
    phases : List Phase
    phases = phase ∷ []

    bodies : List (List ℕ)
    bodies = body ∷ []

    believed : (slot : ℕ) (p : Phase) (b : Belief) → slice_get phases slot ≡ Some p → slice_get (belief ∷ []) slot ≡ Some b
        → MayBelieve p (file_at bodies slot) b
    believed slot p b is has = grind arith

    lies : (slot : ℕ) (p : Phase) → slice_get phases slot ≡ Some p → PhaseLeaves p (file_at bodies slot) (file_at (file ∷ []) slot)
    lies zero p is = subst (λ q. PhaseLeaves q body file) (same_Some phase p is) leaves
    lies (suc slot) p is = absurd cc

    all : AllZip FitsBelief (belief ∷ []) (file ∷ [])
    all = left phases bodies (file ∷ []) (belief ∷ []) (record { count = refl; each = believed }) (record { count = refl; each = lies })

all_zipped : {A B : Type 0} (R : A → B → Type 0) (xs : List A) (ys : List B) → length ys ≡ length xs
    → ((i : ℕ) (x : A) (y : B) → slice_get xs i ≡ Some x → slice_get ys i ≡ Some y → R x y) → AllZip R xs ys
all_zipped R [] [] same each = tt
all_zipped R (x ∷ xs) (y ∷ ys) same each =
    (each 0 x y refl refl, all_zipped R xs ys (suc_same (length ys) (length xs) same) (λ i a b at there. each (suc i) a b at there))
  where
    suc_same : (m n : ℕ) → suc m ≡ suc n → m ≡ n
    suc_same m n e = cc
all_zipped R _ _ same each = absurd cc

-- by what the store shows, and would show with the dump that is being opened
shows_allowed : ContentsShow → (base : Base) (history : History) (store : Store) (dump : Option Image) (beliefs : List Belief) (c : List (List ℕ))
    → IsSoundStore store → AreSlotsOf store dump beliefs → AllZip FitsBelief beliefs c → ShowsLast base history store.catalog
    → IfSome dump (λ image. ShowsPending base history (image ∷ store.catalog)) → ShowsAllowed base history c
shows_allowed show base history store None beliefs c sound slots fits last next =
    record { shown = last.shown; allowed = inl last.is; shows = show.last store beliefs c last.shown sound slots fits last.shows }
shows_allowed show base history store (Some image) beliefs c sound slots fits last next =
    elim (show.pending store image beliefs c last.shown next.shown sound slots fits last.shows next.shows) [
      | inl shows ↦ record { shown = last.shown; allowed = inl last.is; shows = shows }
      | inr shows ↦ record { shown = next.shown; allowed = inr next.is; shows = shows }
    ]

-- a slot that may be written after its gate is believed to be closed, whatever stands there
closed_belief : (p q : Phase) (body other : List ℕ) (belief : Belief) → may_write p ≡ true → may_write q ≡ true → MayBelieve p body belief → MayBelieve q other belief
closed_belief p q body other belief may too m = record { strong = Closed; is = closed q too; weaker = subst (λ b. IsWeaker b belief) (its p may m.strong m.is) m.weaker }
  where
    closed : (phase : Phase) → may_write phase ≡ true → IsBelievedAs phase other Closed
    closed ph.Raw is = refl
    closed ph.RawClosing is = refl
    closed ph.Whole is = absurd (false≢true is)
    closed ph.Closing is = absurd (false≢true is)
    closed ph.Shut is = refl
    closed ph.ShutSynced is = refl
    closed ph.Bare is = refl
    closed ph.Writing is = refl
    closed ph.Ready is = refl
    closed ph.Opening is = absurd (false≢true is)
    closed ph.Doubt is = absurd (false≢true is)
    closed ph.DoubtSynced is = absurd (false≢true is)

    its : (phase : Phase) → may_write phase ≡ true → (strong : Belief) → IsBelievedAs phase body strong → strong ≡ Closed
    its phase is strong believed = grind arith

-- it may be written, and is believed so
record MayBoth (belief : Belief) (s : SlotNow) : Type 0 where
  may : may_write s.phase ≡ true
  believed : MayBelieve s.phase s.body belief

both_kept : (belief : Belief) (s : SlotNow) (made : Made) → IsWrite made.request.id.call → MayBoth belief s → MayBoth belief (slot_after s made)
both_kept belief s made write both = grind arith

-- some outcome is on a slot, or none
pub data FirstOn (kept : List Kept) (slot : ℕ) : Type 0 where
  NoOutcome : NoneOn kept slot → FirstOn kept slot
  OneOutcome : (lane : ℕ) (made : Made) → slice_get kept lane ≡ Some (Outcome made) → made.request.id.slot ≡ slot → FirstOn kept slot

first_on : (kept : List Kept) (slot : ℕ) → FirstOn kept slot
first_on [] slot = FirstOn.NoOutcome (λ lane made at. absurd (let no : None ≡ Some (Outcome made) = at in cc))
first_on (k ∷ kept) slot = here k refl (first_on kept slot)
  where
    rest : ((made : Made) → k ≡ Outcome made → made.request.id.slot ≢ slot) → NoneOn kept slot → NoneOn (k ∷ kept) slot
    rest own others zero made at = own made (same_Some k (Outcome made) at)
    rest own others (suc lane) made at = others lane made at

    later : ((made : Made) → k ≡ Outcome made → made.request.id.slot ≢ slot) → FirstOn kept slot → FirstOn (k ∷ kept) slot
    later off (FirstOn.NoOutcome others) = FirstOn.NoOutcome (rest off others)
    later off (FirstOn.OneOutcome lane made at on) = FirstOn.OneOutcome (suc lane) made at on

    here : (own : Kept) → k ≡ own → FirstOn kept slot → FirstOn (k ∷ kept) slot
    here Nothing is others = later (λ made no. absurd (let not : Nothing ≡ Outcome made = sym is ∙ no in cc)) others
    here (Request request) is others = later (λ made no. absurd (let not : Request request ≡ Outcome made = sym is ∙ no in cc)) others
    here (Outcome own) is others = elim (cases_eq own.request.id.slot slot) [
      | inl on ↦ FirstOn.OneOutcome 0 own (ap Some is) on
      | inr off ↦ later (λ made its. λ on. off (ap (λ (m : Made). m.request.id.slot) (same_outcome own made (ap Some (sym is ∙ its))) ∙ on)) others
    ]

module _ {D : Type 0} (g : Ghosts D) (world : WorldView D) (left : LeftAsBelieved) (law : WritesCommute) (places : AreInPlace world.kept (length (g.contents world.disk)))
    (was : IsConsistent g world) where
  -- what is believed of a slot holds with the calls whose outcomes are kept
  with_one : (slot : ℕ) (phase : Phase) (belief : Belief) (lane : ℕ) (made : Made) → slice_get world.core.phases slot ≡ Some phase
      → slice_get was.believes.beliefs slot ≡ Some belief → slice_get world.kept lane ≡ Some (Outcome made) → made.request.id.slot ≡ slot
      → (let now : SlotNow = slot_now world.kept slot (slot_as phase (file_at was.bodies slot)) in MayBelieve now.phase now.body belief)
  with_one slot phase belief lane made at has there on = elim (lane_cases lane) [
    | inl few ↦
        subst (λ (n : SlotNow). MayBelieve n.phase n.body belief)
        (sym (ap (λ n. slot_now world.kept n s) (sym on) ∙ alone_now world.kept (length (g.contents world.disk)) lane made s law places there few)) after_it
    | inr some ↦
        let write : IsWrite made.request.id.call = writes_there world.kept (length (g.contents world.disk)) lane (Outcome made) made.request places there refl some lane made there refl in
        let may : may_write phase ≡ true = subst (λ p. may_write p ≡ true) same_phase (sym (ap (is_ready cover.phase) write.is) ∙ cover.waits.ready) in
        (writes_keep (MayBoth belief) (both_kept belief) world.kept slot s
        (subst (λ n. AreWrites n world.kept) on (writes_there world.kept (length (g.contents world.disk)) lane (Outcome made) made.request places there refl some))
        (record { may = may; believed = was.believes.has.believed.each slot phase belief at has })).believed
  ]
    where
      s : SlotNow
      s = slot_as phase (file_at was.bodies slot)

      cover : IsCovered world.core.phases was.bodies was.believes.beliefs made.request
      cover = was.believes.has.waiting lane made.request (get_map asked_of world.kept lane (Outcome made) there)

      same_phase : cover.phase ≡ phase
      same_phase = same_Some cover.phase phase (sym cover.waits.is ∙ ap (slice_get world.core.phases) on ∙ at)

      same_belief : cover.belief ≡ belief
      same_belief = same_Some cover.belief belief (sym cover.is ∙ ap (slice_get was.believes.beliefs) on ∙ has)

      after_it : MayBelieve (phase_after phase made.request.id.call (is_done made.answer)) (body_after (file_at was.bodies slot) made.request.id.call made.request.bytes) belief
      after_it =
          subst (λ n. MayBelieve (phase_after phase made.request.id.call (is_done made.answer)) (body_after (file_at was.bodies n) made.request.id.call made.request.bytes) belief) on
          (subst (λ p. MayBelieve (phase_after p made.request.id.call (is_done made.answer)) (body_after (file_at was.bodies made.request.id.slot) made.request.id.call made.request.bytes) belief) same_phase
          (subst (MayBelieve (phase_after cover.phase made.request.id.call (is_done made.answer)) (body_after (file_at was.bodies made.request.id.slot) made.request.id.call made.request.bytes)) same_belief
          (cover.believed (is_done made.answer))))

  believed_now : (slot : ℕ) (phase : Phase) (belief : Belief) → slice_get world.core.phases slot ≡ Some phase → slice_get was.believes.beliefs slot ≡ Some belief
      → FirstOn world.kept slot → (let now : SlotNow = slot_now world.kept slot (slot_as phase (file_at was.bodies slot)) in MayBelieve now.phase now.body belief)
  believed_now slot phase belief at has (FirstOn.NoOutcome none) =
      subst (λ (n : SlotNow). MayBelieve n.phase n.body belief) (sym (none_now world.kept slot (slot_as phase (file_at was.bodies slot)) none))
      (was.believes.has.believed.each slot phase belief at has)
  believed_now slot phase belief at has (FirstOn.OneOutcome lane made there on) = with_one slot phase belief lane made at has there on

  pub fits_at : (c : List (List ℕ)) → g.may_leave world.disk c → (slot : ℕ) (belief : Belief) (file : List ℕ)
      → slice_get was.believes.beliefs slot ≡ Some belief → slice_get c slot ≡ Some file → FitsBelief belief file
  fits_at c may slot belief file has at =
      let count : length was.believes.beliefs ≡ length world.core.phases = was.believes.has.believed.count in
      let within : slot < length world.core.phases = subst (λ n. slot < n) count (slice_get_within was.believes.beliefs slot belief has) in
      let phase = slice_index_or world.core.phases slot Raw in
      let there = slice_get-get_or world.core.phases slot Raw within in
      let now : SlotNow = slot_now world.kept slot (slot_as phase (file_at was.bodies slot)) in
      let lies : PhaseLeaves now.phase now.body (file_at c slot) = (was.stands slot phase there).leaves c may in
      fits_one left now.phase now.body file belief (believed_now slot phase belief there has (first_on world.kept slot))
      (subst (PhaseLeaves now.phase now.body) (get_or_from_slice_get c slot file [] at) lies)

pub world_allows : {D : Type 0} (g : Ghosts D) (world : WorldView D) → LeftAsBelieved → ContentsShow → WritesCommute
    → ((c : List (List ℕ)) → g.may_leave world.disk c → length c ≡ length (g.contents world.disk))
    → IsWorld g world → g.is_honest world.disk → Within (g.may_leave world.disk) (ShowsAllowed world.core.base (history_of world.core))
world_allows g world left show law same_slots is honest c may =
    let was = is.consistent honest in
    let has = was.believes.has in
    let count : length c ≡ length was.believes.beliefs = same_slots c may ∙ is.count ∙ sym has.believed.count in
    shows_allowed show world.core.base (history_of world.core) was.believes.store was.believes.dump was.believes.beliefs c has.sound has.slots
    (all_zipped FitsBelief was.believes.beliefs c count (fits_at g world left law is.places was c may)) has.last has.next
