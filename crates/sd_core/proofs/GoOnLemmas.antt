-- A worker that has a job, and of which no request is out, can go on.
use Rattle.std.proofs.Common.{◌≡◌, ℕ, ◌<◌, ◌&&◌, ◌||◌, Bool, true, false, not, if◌then◌else◌, is_none, suc, List, [], ◌∷◌, length, slice_index_or, Option, Some, None, slice_get, refl, sym, ◌∙◌, ap, subst, arith}
use Rattle.std.specs.Prelude.{IfSome}
use Rattle.std.proofs.lemmas.Option.{same_Some, slice_get-get_or}
use Rattle.sd_areas.specs.PlainMemory.{PlainMemory}
use Rattle.sd_command.specs.declared.refusal.Refusal.TheVariants as refusal
use Rattle.sd_gate.specs.declared.request_id.RequestId.{RequestId}
use Rattle.sd_gate.specs.declared.worker.Worker.{Worker}
use Rattle.sd_gate.specs.declared.worker.Worker.TheVariants.{Dumper, Merger, Opener}
use Rattle.sd_merge.specs.Merger as merger
use Rattle.sd_pagetable.specs.Contents.{plain_of}
use Rattle.sd_rounds.specs.Dumper.{Running, out_of_image, out_of_running, writes_of_image, writes_of_running}
use Rattle.sd_rounds.specs.Making.{Making}
use Rattle.sd_rounds.specs.Waits.{dumper_must_wait, image_must_wait}
use Rattle.sd_opener.specs.Looking.{Looking}
use Rattle.sd_gate.specs.Lanes.{is_any_out}
use Rattle.sd_rounds.specs.Writes.{are_all_out, no_writes}
use Rattle.sd_crash_safety.specs.declared.standing.Standing.TheVariants.{Open}
use Rattle.sd_crash_safety.specs.View.{CoreView}
use Rattle.sd_core.specs.Beginning.{first_of}
use Rattle.sd_core.specs.GoingOn.{AreOwnLanes, CanGoOn, HasItsJobs, HasNoneOut, OpenerAsksAlone}
use Rattle.sd_core.specs.Refusals.{is_idle, is_page_out, must_wait, none_at, work_refusal}
use Rattle.sd_core.specs.Sound.{AreTwo, IsCore, Parts, out_of_opener, worker_of_lane}
use Rattle.sd_core.proofs.BesideLemmas.{jobs_out, merger_works}
use Rattle.sd_core.proofs.WorkLemmas.{at_work}

-- nothing is out in a lane of the worker
none_there : (outs : List (Option RequestId)) (lane : ℕ) → length outs ≡ 11 → lane < 11 → ((id : RequestId) → slice_get outs lane ≡ Some (Some id) → ⊥)
    → slice_get outs lane ≡ Some None
none_there outs lane count within none = by (slice_index_or outs lane None) refl
  where
    there : slice_get outs lane ≡ Some (slice_index_or outs lane None)
    there = slice_get-get_or outs lane None (omega (arith, count, within))

    by : (one : Option RequestId) → slice_index_or outs lane None ≡ one → slice_get outs lane ≡ Some None
    by None is = there ∙ ap Some is
    by (Some id) is = absurd (none id (there ∙ ap Some is))

none_any : (writes : List (Option RequestId)) → ((lane : ℕ) (id : RequestId) → slice_get writes lane ≡ Some (Some id) → ⊥) → is_any_out writes ≡ false
none_any [] none = refl
none_any (None ∷ writes) none = none_any writes (λ lane id at. none (suc lane) id at)
none_any (Some id ∷ writes) none = absurd (none 0 id refl)

none_all : (writes : List (Option RequestId)) → 0 < length writes → ((lane : ℕ) (id : RequestId) → slice_get writes lane ≡ Some (Some id) → ⊥) → are_all_out writes ≡ false
none_all [] some none = absurd (omega (arith, some))
none_all (None ∷ writes) some none = refl
none_all (Some id ∷ writes) some none = absurd (none 0 id refl)

neither_waits : (a b c d : Bool) → a ≡ false → b ≡ false → c ≡ false → (a || b || (c && d)) ≡ false
neither_waits a b c d one two three = ap (λ x. x || b || (c && d)) one ∙ ap (λ x. false || x || (c && d)) two ∙ ap (λ x. false || false || (x && d)) three

image_goes : (image : Option Making) (memory : PlainMemory) → out_of_image image ≡ None → is_any_out (writes_of_image image) ≡ false → are_all_out (writes_of_image image) ≡ false
    → image_must_wait image memory ≡ false
image_goes image memory out any all = grind arith

dumper_goes : (running : Option Running) (memory : PlainMemory) → out_of_running running ≡ None → is_any_out (writes_of_running running) ≡ false
    → are_all_out (writes_of_running running) ≡ false → dumper_must_wait running memory ≡ false
dumper_goes running memory out any all = grind arith

-- a worker that needn't wait, and has a job
pub goes_by : (core : CoreView) (worker : Worker) → must_wait core worker ≡ false → is_idle core worker ≡ false → work_refusal core worker ≡ None
goes_by core worker free busy = ap (λ b. first_of ((b, refusal.Busy) ∷ (is_idle core worker, refusal.Idle) ∷ [])) free
    ∙ ap (λ b. first_of ((false, refusal.Busy) ∷ (b, refusal.Idle) ∷ [])) busy

rests_by : (outs : List (Option RequestId)) (lane : ℕ) → slice_get outs lane ≡ Some None → not (none_at (slice_get outs lane)) ≡ false
rests_by outs lane is = ap (λ o. not (none_at o)) is

-- where only the opener's lane can have a request, no write of a page is out
no_page : (lane : ℕ) (id : RequestId) → slice_get no_writes lane ≡ Some (Some id) → ⊥
no_page lane id at = grind arith

its_lane : (out : Option RequestId) (lane : ℕ) (id : RequestId) → slice_get (None ∷ None ∷ out ∷ no_writes) lane ≡ Some (Some id) → worker_of_lane lane ≡ Opener
its_lane out lane id at = grind arith

module _ (core : Parts) (view : CoreView) (sound : IsCore core) (outs_are : view.outs ≡ core.outs) (dumper_is : view.dumper ≡ core.dumper) where
  pub own_lanes : AreOwnLanes view.outs
  own_lanes lane id at = sound.outs_are.whose lane id (ap (λ outs. slice_get outs lane) (sym outs_are) ∙ at)

  pub asks_alone : view.opener ≡ core.opener → OpenerAsksAlone view
  asks_alone opener_is busy lane id at = by view.opener refl
    where
      by : (opener : Option Looking) → view.opener ≡ opener → id.worker ≡ Opener
      by None is = absurd (let no : true ≡ false = sym (ap is_none is) ∙ busy in cc)
      by (Some looking) is =
          let outs : core.outs ≡ None ∷ None ∷ out_of_opener core.opener ∷ no_writes =
          subst (λ o. IfSome o (λ one. core.outs ≡ None ∷ None ∷ out_of_opener core.opener ∷ no_writes)) (sym opener_is ∙ is) sound.outs_are.opening in
          own_lanes lane id at ∙ its_lane (out_of_opener core.opener) lane id (ap (λ o. slice_get o lane) (sym (outs_are ∙ outs)) ∙ at)

  lane_rests : (lane : ℕ) (worker : Worker) → lane < 11 → worker_of_lane lane ≡ worker → HasNoneOut view.outs worker → slice_get view.outs lane ≡ Some None
  lane_rests lane worker within own none = none_there view.outs lane (ap length outs_are ∙ sound.outs_are.count) within
      (λ id at. none lane id at (own_lanes lane id at ∙ own))

  dumper_rests : (running : Running) → view.dumper.running ≡ Some running → HasNoneOut view.outs Dumper
      → dumper_must_wait view.dumper.running (plain_of view.memory) ≡ false
  dumper_rests running is none =
      let running_is : core.dumper.running ≡ view.dumper.running = ap (λ d. d.running) (sym dumper_is) in
      let w = at_work core running sound (running_is ∙ is) in
      let jobs : view.outs ≡ out_of_running view.dumper.running ∷ merger.out_of_merge core.merger ∷ None ∷ writes_of_running view.dumper.running =
      outs_are ∙ jobs_out core sound w.stands ∙ ap (λ r. out_of_running r ∷ merger.out_of_merge core.merger ∷ None ∷ writes_of_running r) running_is in
      let quiet : (lane : ℕ) (id : RequestId) → slice_get (writes_of_running view.dumper.running) lane ≡ Some (Some id) → ⊥ =
      (λ lane id at. let here = ap (λ outs. slice_get outs (suc (suc (suc lane)))) jobs ∙ at in none (suc (suc (suc lane))) id here (own_lanes (suc (suc (suc lane))) id here)) in
      let count : length view.outs ≡ 11 = ap length outs_are ∙ sound.outs_are.count in
      let long : length view.outs ≡ suc (suc (suc (length (writes_of_running view.dumper.running)))) = ap length jobs in
      dumper_goes view.dumper.running (plain_of view.memory)
      (same_Some (out_of_running view.dumper.running) None (sym (ap (λ outs. slice_get outs 0) jobs) ∙ lane_rests 0 Dumper (omega arith) refl none))
      (none_any (writes_of_running view.dumper.running) quiet)
      (none_all (writes_of_running view.dumper.running) (omega (arith, count, long)) quiet)

  dumper_free : is_idle view Dumper ≡ false → HasNoneOut view.outs Dumper → must_wait view Dumper ≡ false
  dumper_free busy none =
      ap (λ b. b || (if is_none view.dumper.running then is_page_out view.outs else dumper_must_wait view.dumper.running (plain_of view.memory)))
      (rests_by view.outs 0 (lane_rests 0 Dumper (omega arith) refl none))
      ∙ ap (λ b. if b then is_page_out view.outs else dumper_must_wait view.dumper.running (plain_of view.memory)) busy
      ∙ by view.dumper.running refl
    where
      by : (running : Option Running) → view.dumper.running ≡ running → dumper_must_wait view.dumper.running (plain_of view.memory) ≡ false
      by None is = absurd (let no : true ≡ false = sym (ap is_none is) ∙ busy in cc)
      by (Some running) is = dumper_rests running is none

  pub can_go_on : CanGoOn view
  can_go_on Dumper busy none = goes_by view Dumper (dumper_free busy none) busy
  can_go_on Merger busy none = goes_by view Merger (rests_by view.outs 1 (lane_rests 1 Merger (omega arith) refl none)) busy
  can_go_on Opener busy none = goes_by view Opener (rests_by view.outs 2 (lane_rests 2 Opener (omega arith) refl none)) busy

  -- jobs run in an open store, and the opener has no request out where it doesn't run
  pub has_jobs : view.merger ≡ core.merger → view.opener ≡ core.opener → view.standing ≡ core.standing → HasItsJobs view
  has_jobs merger_is opener_is standing_is = record {
    checkpoint = λ busy. checkpoint view.dumper.running refl busy;
    merge = λ busy. merges view.merger refl busy;
    opener = λ none. lane_none (sound.outs_are.two (sym opener_is ∙ none));
  }
    where
      checkpoint : (running : Option Running) → view.dumper.running ≡ running → is_none view.dumper.running ≡ false → view.standing ≡ Open
      checkpoint None is busy = absurd (let no : true ≡ false = sym (ap is_none is) ∙ busy in cc)
      checkpoint (Some running) is busy = standing_is ∙ (at_work core running sound (ap (λ d. d.running) (sym dumper_is) ∙ is)).stands

      merges : (merge : Option merger.Running) → view.merger ≡ merge → is_none view.merger ≡ false → view.standing ≡ Open
      merges None is busy = absurd (let no : true ≡ false = sym (ap is_none is) ∙ busy in cc)
      merges (Some merge) is busy = standing_is ∙ (merger_works core merge sound (sym merger_is ∙ is)).stands

      lane_none : AreTwo core.outs → slice_get view.outs 2 ≡ Some None
      lane_none two = ap (λ outs. slice_get outs 2) (outs_are ∙ two.are)
