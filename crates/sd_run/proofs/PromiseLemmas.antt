-- What is promised of the run of a script, from how its world goes on.
use Rattle.std.proofs.Common.{◌≡◌, ◌≤◌, ℕ, true, false, List, [], ◌∷◌, ◌++◌, length, Option, Some, Result, IfOk, refl, sym, ◌∙◌, ap, subst, inl, inr, append-nil, arith}
use Rattle.std.specs.Io.KnownBytes.{Appends}
use Rattle.std.specs.List.{AllByRecursion, flat_map}
use Rattle.std.specs.Prelude.{◌⊎◌}
use Rattle.sd_areas.specs.PlainMemory.{PlainMemory}
use Rattle.sd_pagetable.specs.declared.access_error.AccessError.{AccessError}
use Rattle.sd_pagetable.specs.declared.access_error.AccessError.TheVariants.{Refused, Segv}
use Rattle.sd_pagetable.specs.declared.segv.Segv.{Segv as Fault}
use Rattle.sd_pagetable.specs.Contents.{Contents, plain_of}
use Rattle.sd_command.specs.declared.refusal.Refusal.{Refusal}
use Rattle.sd_command.specs.declared.refusal.Refusal.TheVariants as refusal
use Rattle.sd_command.specs.declared.reply.Reply.{Reply}
use Rattle.sd_command.specs.declared.reply.Reply.TheVariants as reply
use Rattle.sd_command.specs.Replies.{refusal_of, reply_of}
use Rattle.sd_disk.specs.declared.disk.Disk.{Ghosts}
use Rattle.sd_gate.specs.declared.worker.Worker.{Worker}
use Rattle.sd_gate.specs.declared.worker.Worker.TheVariants.{Dumper, Merger, Opener}
use Rattle.sd_script.specs.declared.answer.Answer.{Answer}
use Rattle.sd_script.specs.declared.answer.Answer.TheVariants as answer
use Rattle.sd_script.specs.declared.line.Line.{Line}
use Rattle.sd_script.specs.declared.line.Line.TheVariants as line
use Rattle.sd_script.specs.Texts.{answer_line}
use Rattle.sd_world.specs.declared.event.Event.{Event}
use Rattle.sd_world.specs.declared.event.Event.TheVariants.{Command, Begin, Work, Perform, PerformAt, Merge, Cancel, Reopen, Trim}
use Rattle.sd_world.specs.Points.{PointsFollow, StandsAt, first_point}
use Rattle.sd_world.specs.Promise.{Point}
use Rattle.sd_world.specs.Runs.{IsStep}
use Rattle.sd_world.specs.View.{WorldView}
use Rattle.sd_world.specs.Jobs.{Drives, IsJob, is_end}
use Rattle.sd_world.proofs.HeadlineLemmas.{first_stands}
use Rattle.sd_world.proofs.PointLemmas.{drives_honest, drives_reach}
use Rattle.sd_run.specs.Lines.{AnswersLine, AnswersLines, script_seat}
use Rattle.sd_run.specs.Promise.{AreEventsOf, GoesByLine, GoesByLines, IsAnswerOf, LastIs, Promise, PromiseSoFar, RunsLine, Tells}
use Rattle.sd_run.specs.Words.{AreGiven, words_refusal}
use Rattle.sd_run.specs.Whole.{ArePrintedAfter, IsPartOfRun, IsWholeRun, RunIsOpened}

-- events of a worker: its steps, and the device calls that it asked for
abbrev AreOf : Worker → List Event → Type 0
AreOf worker events = AllByRecursion (λ event. (event ≡ Work worker) ⊎ (event ≡ Perform worker)) events

-- none of these replies ends a job, or refuses
abbrev GoOn : List Reply → Type 0
GoOn before = AllByRecursion (λ reply. is_end reply ≡ false) before

-- the answer is the last of these replies
is_last : (before : List Reply) (last : Reply) → GoOn before → LastIs false (before ++ last ∷ []) (answer.Reply last)
is_last before last goes_on = record { before = before; last = last; are = refl; is = refl; goes_on = goes_on; ends = λ claimed. absurd (never claimed) }
  where
    never : false ≡ true → ⊥
    never claimed = cc

-- which ends a job
is_end_of : (before : List Reply) (last : Reply) → GoOn before → is_end last ≡ true → LastIs true (before ++ last ∷ []) (answer.Reply last)
is_end_of before last goes_on ends = record { before = before; last = last; are = refl; is = refl; goes_on = goes_on; ends = λ _. ends }

-- words are given, or refused
denied_words : (memory : PlainMemory) (space address count : ℕ) (denied : AccessError) → words_refusal memory space address count ≡ Some denied
    → (why : Refusal) × (reply_of denied ≡ reply.Refused why)
denied_words memory space address count (Refused why) is = (refusal_of why, refl)
denied_words memory space address count (Segv why) is = absurd (never why is)
  where
    never : (why : Fault) → words_refusal memory space address count ≡ Some (Segv why) → ⊥
    never why is = grind arith

words_told : (memory : Contents) (space address count : ℕ) (given : Answer) (replies : List Reply) → AreGiven memory space address count given
    → IsAnswerOf (line.Words space address count) replies given
words_told memory space address count given replies (inl denied) =
    let why = denied_words (plain_of memory) space address count denied.0 denied.1 in
    inr (why.0, denied.2 ∙ ap answer.Reply why.1)
words_told memory space address count given replies (inr (inl refused)) = inr (refusal.OutOfMemory, refused)
words_told memory space address count (answer.Words words) replies (inr (inr are)) = inl (words, refl)
words_told memory space address count (answer.Reply r) replies (inr (inr are)) = absurd are.1

module _ {D : Type 0} (g : Ghosts D) (follow : PointsFollow g) where
  -- a world goes on to another, and from each point at which it may stand there is one at which the other stands
  abbrev pub Reaches : WorldView D → WorldView D → (Point D → Point D → Type 0) → Type 0
  Reaches first last Goes_so = (from : Point D) → StandsAt first from → (to : Point D) × StandsAt last to × Goes_so from to

  -- ---- a line

  by_event : (asked : Line) (event : Event) (first last : WorldView D) (reply : Reply) → AreEventsOf asked (event ∷ [])
      → IsAnswerOf asked (reply ∷ []) (answer.Reply reply) → IsStep g event first reply last → g.is_honest last.disk
      → Reaches first last (λ from to. GoesByLine g asked from (answer.Reply reply) to)
  by_event asked event first last reply are told step honest from stands =
      let one = follow event first reply last step honest from stands in (
        one.0,
        one.1,
        record { events = event ∷ []; replies = reply ∷ []; goes = (one.0, one.2, refl); events_are = are; answer = told },
      )

  by_worker : (asked : Line) (worker : Worker) (first last : WorldView D) (before : List Reply) (reply : Reply)
      → ((events : List Event) → AreOf worker events → AreEventsOf asked events) → IsAnswerOf asked (before ++ reply ∷ []) (answer.Reply reply)
      → Drives g worker first (before ++ reply ∷ []) last → g.is_honest last.disk
      → Reaches first last (λ from to. GoesByLine g asked from (answer.Reply reply) to)
  by_worker asked worker first last before reply are told drives honest from stands =
      let all = drives_reach g follow worker first last (before ++ reply ∷ []) drives honest from stands in (
        all.0,
        all.1,
        record {
          events = all.2.events;
          replies = before ++ reply ∷ [];
          goes = all.2.goes;
          events_are = are all.2.events all.2.are;
          answer = told;
        },
      )

  by_job : (asked : Line) (order : Event) (worker : Worker) (first last : WorldView D) (reply : Reply)
      → ((events : List Event) → AreOf worker events → AreEventsOf asked (order ∷ events))
      → ((before : List Reply) → GoOn before → is_end reply ≡ true → IsAnswerOf asked (before ++ reply ∷ []) (answer.Reply reply))
      → IsJob g order worker first reply last → g.is_honest last.disk
      → Reaches first last (λ from to. GoesByLine g asked from (answer.Reply reply) to)
  by_job asked order worker first last reply are told (IsJob.refused ended step) honest from stands =
      let one = follow order first reply last step honest from stands in (
        one.0,
        one.1,
        record { events = order ∷ []; replies = reply ∷ []; goes = (one.0, one.2, refl); events_are = are [] tt; answer = told [] tt ended },
      )
  by_job asked order worker first last reply are told (IsJob.finished begun mid goes_on step finished) honest from stands =
      let driven = finished.driven in
      let one = follow order first begun mid step (drives_honest g worker mid last (driven.before ++ reply ∷ []) driven.drives honest) from stands in
      let all = drives_reach g follow worker mid last (driven.before ++ reply ∷ []) driven.drives honest one.0 one.1 in (
        all.0,
        all.1,
        record {
          events = order ∷ all.2.events;
          replies = begun ∷ (driven.before ++ reply ∷ []);
          goes = (one.0, one.2, all.2.goes);
          events_are = are all.2.events all.2.are;
          answer = told (begun ∷ driven.before) (goes_on, driven.goes_on) finished.ends;
        },
      )

  line_reaches : (asked : Line) (first last : WorldView D) (given : Answer) → AnswersLine g asked first given last → g.is_honest last.disk
      → Reaches first last (λ from to. GoesByLine g asked from given to)
  line_reaches (line.Words space address count) first last given answers honest = λ from stands. (
    from,
    subst (λ (w : WorldView D). StandsAt w from) (sym answers.1) stands,
    record { events = []; replies = []; goes = refl; events_are = refl; answer = words_told first.core.memory space address count given [] answers.0 },
  )
  line_reaches (line.Command command) first last (answer.Reply r) answers honest =
      by_event (line.Command command) (Command script_seat command) first last r refl (is_last [] r tt) answers honest
  line_reaches (line.Begin rounds) first last (answer.Reply r) answers honest =
      by_event (line.Begin rounds) (Begin rounds) first last r refl (is_last [] r tt) answers honest
  line_reaches line.BeginMerge first last (answer.Reply r) answers honest =
      by_event line.BeginMerge Merge first last r refl (is_last [] r tt) answers honest
  line_reaches line.Cancel first last (answer.Reply r) answers honest =
      by_event line.Cancel Cancel first last r refl (is_last [] r tt) answers honest
  line_reaches (line.Work worker) first last (answer.Reply r) answers honest =
      by_event (line.Work worker) (Work worker) first last r refl (is_last [] r tt) answers honest
  line_reaches (line.Perform worker) first last (answer.Reply r) answers honest =
      by_event (line.Perform worker) (Perform worker) first last r refl (is_last [] r tt) answers honest
  line_reaches (line.PerformAt worker place) first last (answer.Reply r) answers honest =
      by_event (line.PerformAt worker place) (PerformAt worker place) first last r refl (is_last [] r tt) answers honest
  line_reaches line.Trim first last (answer.Reply r) answers honest =
      by_event line.Trim Trim first last r refl (is_last [] r tt) answers honest
  line_reaches (line.Step worker count) first last (answer.Reply r) answers honest =
      by_worker (line.Step worker count) worker first last answers.before r (λ events are. record { others = events; are = refl; of_worker = are })
      (is_last answers.before r answers.goes_on) answers.drives honest
  line_reaches (line.Finish worker) first last (answer.Reply r) answers honest =
      by_worker (line.Finish worker) worker first last answers.driven.before r (λ events are. record { others = events; are = refl; of_worker = are })
      (is_end_of answers.driven.before r answers.driven.goes_on answers.ends) answers.driven.drives honest
  line_reaches (line.Checkpoint rounds) first last (answer.Reply r) answers honest =
      by_job (line.Checkpoint rounds) (Begin rounds) Dumper first last r (λ events are. record { others = events; are = refl; of_worker = are })
      (λ before goes_on ended. is_end_of before r goes_on ended) answers honest
  line_reaches line.Merge first last (answer.Reply r) answers honest =
      by_job line.Merge Merge Merger first last r (λ events are. record { others = events; are = refl; of_worker = are })
      (λ before goes_on ended. is_end_of before r goes_on ended) answers honest
  line_reaches line.Reopen first last (answer.Reply r) answers honest =
      by_job line.Reopen Reopen Opener first last r (λ events are. record { others = events; are = refl; of_worker = are })
      (λ before goes_on ended. is_end_of before r goes_on ended) answers honest
  line_reaches _ first last (answer.Words words) answers honest = absurd answers

  pub runs_line : {E : Type 0} (asked : Line) (first last : WorldView D) (given : Answer) (ended : Result Answer E) (before now : Option (List ℕ))
      → AnswersLine g asked first given last → IfOk ended (Tells given before now) → g.is_honest last.disk
      → (from : Point D) → StandsAt first from → RunsLine g asked from last ended before now
  runs_line asked first last given ended before now answers told honest from stands =
      let there = line_reaches asked first last given answers honest from stands in
      record { last = there.0; stands = there.1; given = given; goes = there.2; told = told }

  job_honest : (order : Event) (worker : Worker) (first last : WorldView D) (reply : Reply) → IsJob g order worker first reply last → g.is_honest last.disk
      → g.is_honest first.disk
  job_honest order worker first last reply (IsJob.refused ended step) honest = step.honest honest
  job_honest order worker first last reply (IsJob.finished begun mid goes_on step finished) honest =
      step.honest (drives_honest g worker mid last (finished.driven.before ++ reply ∷ []) finished.driven.drives honest)

  line_honest : (asked : Line) (first last : WorldView D) (given : Answer) → AnswersLine g asked first given last → g.is_honest last.disk → g.is_honest first.disk
  line_honest (line.Words space address count) first last given answers honest = subst (λ (w : WorldView D). g.is_honest w.disk) answers.1 honest
  line_honest (line.Step worker count) first last (answer.Reply r) answers honest = drives_honest g worker first last (answers.before ++ r ∷ []) answers.drives honest
  line_honest (line.Finish worker) first last (answer.Reply r) answers honest = drives_honest g worker first last (answers.driven.before ++ r ∷ []) answers.driven.drives honest
  line_honest (line.Checkpoint rounds) first last (answer.Reply r) answers honest = job_honest (Begin rounds) Dumper first last r answers honest
  line_honest line.Merge first last (answer.Reply r) answers honest = job_honest (Merge) Merger first last r answers honest
  line_honest line.Reopen first last (answer.Reply r) answers honest = job_honest (Reopen) Opener first last r answers honest
  line_honest _ first last (answer.Reply r) answers honest = answers.honest honest
  line_honest _ first last (answer.Words words) answers honest = absurd answers

  -- ---- lines

  lines_honest : (first last : WorldView D) (lines : List Line) (answers : List Answer) → AnswersLines g first lines answers last → g.is_honest last.disk
      → g.is_honest first.disk
  lines_honest first last [] [] answered honest = subst (λ (w : WorldView D). g.is_honest w.disk) answered honest
  lines_honest first last (l ∷ lines) (a ∷ answers) answered honest =
      line_honest l first answered.0 a answered.1 (lines_honest answered.0 last lines answers answered.2 honest)
  lines_honest first last _ _ answered honest = absurd answered

  pub lines_reach : (first last : WorldView D) (lines : List Line) (answers : List Answer) → AnswersLines g first lines answers last → g.is_honest last.disk
      → Reaches first last (λ from to. GoesByLines g from lines answers to)
  lines_reach first last [] [] answered honest from stands = (from, subst (λ (w : WorldView D). StandsAt w from) (sym answered) stands, refl)
  lines_reach first last (l ∷ lines) (a ∷ answers) answered honest from stands =
      let one = line_reaches l first answered.0 a answered.1 (lines_honest answered.0 last lines answers answered.2 honest) from stands in
      let rest = lines_reach answered.0 last lines answers answered.2 honest one.0 one.1 in
      (rest.0, rest.1, (one.0, one.2, rest.2))
  lines_reach first last _ _ answered honest from stands = absurd answered

  -- ---- a whole run

  -- what was said, and what was broken off
  record Parts (answers : List Answer) (before now : Option (List ℕ)) : Type 0 where
    pub told : List Answer
    pub broken : List Answer
    pub are : answers ≡ told ++ broken
    pub one : length broken ≤ 1
    pub front : List ℕ
    pub back : List ℕ
    pub line : front ++ back ≡ flat_map answer_line broken
    pub printed : Appends before now (flat_map answer_line told ++ front)

  all_told : (answers : List Answer) (before now : Option (List ℕ)) → Appends before now (flat_map answer_line answers) → Parts answers before now
  all_told answers before now printed = record {
    told = answers;
    broken = [];
    are = sym (append-nil answers);
    one = omega arith;
    front = [];
    back = [];
    line = refl;
    printed = subst (Appends before now) (sym (append-nil (flat_map answer_line answers))) printed;
  }

  parts_told : (answers : List Answer) (before now : Option (List ℕ)) → ArePrintedAfter answers before now → Parts answers before now
  parts_told answers before now (inl all) = all_told answers before now all
  parts_told answers before now (inr breaks) = record {
    told = breaks.told;
    broken = breaks.last ∷ [];
    are = breaks.are;
    one = omega arith;
    front = breaks.front;
    back = breaks.rest;
    line = breaks.line ∙ sym (append-nil (answer_line breaks.last));
    printed = breaks.printed;
  }

  run_of : (lines : List Line) (old new : D) (before now : Option (List ℕ)) (opened last : WorldView D) (done rest : List Line) (answers : List Answer)
      → RunIsOpened g old opened → AnswersLines g opened done answers last → lines ≡ done ++ rest → new ≡ last.disk → g.is_honest last.disk
      → Parts answers before now → PromiseSoFar g lines old new before now
  run_of lines old new before now opened last done rest answers opening answered parts disk honest told =
      let at_first = lines_honest opened last done answers answered honest in
      let all = lines_reach opened last done answers answered honest (first_point opened) (first_stands opened opening.journal opening.idle opening.numbers opening.bare) in
      record {
        first = first_point opened;
        last = all.0;
        reads = opening.reads;
        entries = refl;
        begun = refl;
        shows = opening.shows at_first;
        everywhere = opening.everywhere at_first;
        done = done;
        rest = rest;
        parts = parts;
        told = told.told;
        broken = told.broken;
        one = told.one;
        goes = subst (λ a. GoesByLines g (first_point opened) done a all.0) told.are all.2;
        ends = disk ∙ sym all.1.disk;
        front = told.front;
        back = told.back;
        text = told.line;
        printed = told.printed;
      }

  pub promise_so_far : (lines : List Line) (old new : D) (before now : Option (List ℕ)) (part : IsPartOfRun g lines old new) → ArePrintedAfter part.answers.answers before now
      → g.is_honest new → PromiseSoFar g lines old new before now
  promise_so_far lines old new before now part told honest =
      let some = part.answers in
      run_of lines old new before now part.opened part.last some.done some.rest some.answers part.run.opening some.answered some.parts part.run.disk
      (subst g.is_honest part.run.disk honest) (parts_told some.answers before now told)

  pub promise_of : (lines : List Line) (old new : D) (before now : Option (List ℕ)) → IsWholeRun g lines old new before now → g.is_honest new
      → Promise g lines old new before now
  unfolding run_of all_told
  promise_of lines old new before now whole honest =
      let answers = whole.answers.answers in (
        run_of lines old new before now whole.opened whole.last lines [] answers whole.run.opening whole.answers.answered (sym (append-nil lines)) whole.run.disk
            (subst g.is_honest whole.run.disk honest) (all_told answers before now whole.answers.printed),
        refl,
        refl,
      )
