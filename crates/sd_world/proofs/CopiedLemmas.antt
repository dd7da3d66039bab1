-- What a merged image is read from, and what is to be closed after it, in the contents of a disk.
use Rattle.std.proofs.Common.{◌≡◌, ◌⊎◌, ℕ, ◌<◌, false, List, [], length, Option, sym, ◌∙◌, ap, subst, inl, inr, arith}
use Rattle.std.proofs.lemmas.Option.{slice_get-get_or}
use Rattle.sd_command.specs.declared.reply.Reply.{Reply}
use Rattle.sd_chain.specs.Catalog.{Opened, place_of}
use Rattle.sd_chain.specs.Recorded.{IsRecordedAs}
use Rattle.sd_disk.specs.Contents.{file_at}
use Rattle.sd_disk.specs.declared.disk.Disk.{Ghosts}
use Rattle.sd_gate.specs.declared.phase.Phase.TheVariants.{Whole}
use Rattle.sd_gate.specs.declared.worker.Worker.{Worker}
use Rattle.sd_gate.specs.declared.worker.Worker.TheVariants.{Merger}
use Rattle.sd_gate.specs.Laws.{GivenUpFits, WritesCommute}
use Rattle.sd_gate.specs.Phases.{bodies_after}
use Rattle.sd_image.specs.Image.{Image, IsImage, is_open}
use Rattle.sd_merge.specs.Merger as merger
use Rattle.sd_store_laws.specs.Beliefs.{Closing, FitsBelief, Kept as KeptBelief}
use Rattle.sd_store_laws.specs.Gates.{LeftAsBelieved}
use Rattle.sd_crash_safety.specs.Calls.{IsFree, IsOut}
use Rattle.sd_crash_safety.specs.Copies.{StandsIn}
use Rattle.sd_crash_safety.specs.View.{CoreView}
use Rattle.sd_core.specs.GoingOn.{AreOwnLanes}
use Rattle.sd_core.specs.Merging.{IsAsBelieved, OpensMerged}
use Rattle.sd_world.specs.declared.event.Event.{Event}
use Rattle.sd_world.specs.declared.event.Event.TheVariants.{Work, HandInAt}
use Rattle.sd_world.specs.Acked.{IsThere}
use Rattle.sd_world.specs.Consistent.{IsConsistent, IsWorld}
use Rattle.sd_world.specs.Copied.{CopiesStored, DoesCopy, EntersStored}
use Rattle.sd_world.specs.Steps.{Does, HandsInAt, HandsInIfAny, WorkerWorks}
use Rattle.sd_world.specs.View.{WorldView}
use Rattle.sd_world.proofs.AllowedLemmas.{fits_at}
use Rattle.sd_world.proofs.KeptLemmas.{whose}
use Rattle.sd_world.proofs.MergesLemmas.{believed, out, reads_free, same_opened, stands}

-- the image that is being closed stands in its slot, or the slot's gate is closed
closing_there : (contents : List (List ℕ)) (o : Opened) (i : Image) (slot : ℕ) → IsRecordedAs o i → o.slot ≡ slot → FitsBelief (Closing i) (file_at contents o.slot)
    → IsThere contents o ⊎ (is_open (file_at contents slot) ≡ false)
closing_there contents o i slot told at given = grind arith

module _ {D : Type 0} (g : Ghosts D) (old new : WorldView D) (world : IsWorld g old) (law : WritesCommute) (gives : GivenUpFits (g.contents old.disk) (g.may_leave old.disk))
    (own : AreOwnLanes old.core.outs) (now : IsWorld g new) (left : LeftAsBelieved) (read : g.may_leave new.disk (g.contents new.disk)) where
  module _ (worker : Worker) (place : ℕ) (answer : Reply) (hands : HandsInAt worker place old.core old.kept answer new.core new.kept) (was : IsConsistent g old) (is_now : IsConsistent g new)
      (same : new.disk ≡ old.disk) (is : worker ≡ Merger) (merge : merger.Running) (serial : ℕ) (opens : OpensMerged merge serial old.core new.core) where
    abbrev later : List (List ℕ)
    later = bodies_after was.bodies hands.made.request.id hands.made.request.bytes

    its : hands.made.request.id.worker ≡ Merger
    its = whose old.kept worker place hands.lane hands.made hands.at hands.is ∙ is

    is_out : IsOut old.core hands.made.request.id
    is_out = out g old new world law gives own worker place answer hands was

    seen : IsAsBelieved old.core hands.made.request was.bodies
    seen = believed g old new world law gives own worker place answer hands was its

    -- the file of an image on whose slot no request is out
    file_of : (i : Image) (s : StandsIn new.core.catalog new.core.phases later i) → IsFree new.core.outs s.opened.slot → IsImage (file_at (g.contents new.disk) s.opened.slot) i
    file_of i s free =
        let all = stands g old new world law gives own worker place answer hands was in
        let file = reads_free (g.contents old.disk) (g.may_leave old.disk) new.core.phases new.kept later new.core.outs s.opened.slot Whole all.0 all.1 free s.whole in
        subst (λ d. IsImage (file_at (g.contents d) s.opened.slot) i) (sym same) (subst (λ f. IsImage f i) (sym file) s.spelled)

    place_in : CoreView → ℕ → Option (Option Opened)
    place_in core number = place_of core.catalog number

    entered : EntersStored (g.contents new.disk) merge serial old.core new.core
    unfolding place_in
    entered =
        let e = hands.hands.does.copies is_out its merge serial was.bodies opens seen in
        let r = hands.hands.does.rests is_out its merge serial was.bodies opens seen in
        let c = r.1.copy in
        let s = c.stands in
        let same_one : s.opened ≡ e.1.image = same_opened s.opened e.1.image (sym s.there ∙ ap (place_in new.core) c.own_serial ∙ e.1.there) in
        let slot_is : s.opened.slot ≡ merge.slot = ap (λ (o : Opened). o.slot) same_one ∙ e.1.slot in
        let list = hands.hands.does.retires is_out its merge serial was.bodies opens seen in
        record {
          there = record {
            images = c.images;
            are = c.are;
            source = c.source;
            its_serial = c.its_serial;
            copy = c.copy;
            own = c.own_serial;
            stands = subst (λ n. IsImage (file_at (g.contents new.disk) n) c.copy) slot_is (file_of c.copy s (subst (IsFree new.core.outs) (sym slot_is) e.2));
            copies = c.copies;
          };
          stored = λ i way. record { slot = (c.stand i way).opened.slot; stands = file_of i (c.stand i way) (r.1.rests i way) };
          closes = list;
          each = λ one listed.
              let t = (list.each one).0 listed in
              let l = t.left_over in
              let u = is_now.believes.knows.is_live r.0 in
              let i = u.catalog.image one.serial l.image l.there in
              let within = subst (λ n. l.image.slot < n) (sym now.count) (subst (λ n. n < length new.core.phases) (sym l.at) t.within) in
              let file = slice_get-get_or (g.contents new.disk) l.image.slot [] within in
              record {
                image = l.image;
                listed = l.there;
                slot = l.at;
                there = elim i.2 [
                  | inl kept ↦ inl (record {
                    image = i.0;
                    told = i.1;
                    stands = fits_at g new left law now.places is_now (g.contents new.disk) read l.image.slot (KeptBelief i.0) (file_at (g.contents new.disk) l.image.slot) kept file;
                  })
                  | inr closing ↦ closing_there (g.contents new.disk) l.image i.0 one.slot i.1 l.at
                      (fits_at g new left law now.places is_now (g.contents new.disk) read l.image.slot (Closing i.0) (file_at (g.contents new.disk) l.image.slot) closing file)
                ];
              };
        }

  handed_copies : (worker : Worker) (place : ℕ) (answer : Reply) → HandsInAt worker place old.core old.kept answer new.core new.kept → new.disk ≡ old.disk → IsConsistent g old → IsConsistent g new
      → CopiesStored g worker place old new
  handed_copies worker place answer hands same was is_now lane is at merge serial opens = entered worker place answer hands was is_now same is merge serial opens

  works_copies : (worker : Worker) (answer : Reply) → WorkerWorks worker old.core old.kept answer new.core new.kept → new.disk ≡ old.disk → IsConsistent g old → IsConsistent g new
      → CopiesStored g worker 0 old new
  works_copies worker answer (WorkerWorks.hands_in hands) same was is_now = handed_copies worker 0 answer hands same was is_now
  works_copies worker answer (WorkerWorks.takes_up none takes) same was is_now = λ lane is at. absurd (none lane at)

  hand_in_copies : (worker : Worker) (place : ℕ) (answer : Reply) → HandsInIfAny worker place old.core old.kept answer new.core new.kept → new.disk ≡ old.disk → IsConsistent g old → IsConsistent g new
      → CopiesStored g worker place old new
  hand_in_copies worker place answer (HandsInIfAny.hands_in hands) same was is_now = handed_copies worker place answer hands same was is_now
  hand_in_copies worker place answer (HandsInIfAny.none none idle) same was is_now = λ lane is at. absurd (none lane at)

  pub step_copies : (event : Event) (answer : Reply) → Does g event old answer new → IsConsistent g old → IsConsistent g new → DoesCopy g event old new
  step_copies (Work worker) answer does was is_now = works_copies worker answer does.works does.disk was is_now
  step_copies (HandInAt worker place) answer does was is_now = hand_in_copies worker place answer does.hands does.disk was is_now
  step_copies _ answer does was is_now = tt
