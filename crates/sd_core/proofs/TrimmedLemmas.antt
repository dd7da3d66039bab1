-- What a trim leaves of a core.
use Rattle.std.proofs.Common.{◌≡◌, ◌≢◌, ℕ, ◌==◌, ◌||◌, Bool, true, false, if◌then◌else◌, [], ◌∷◌, ◌++◌, Option, Some, None, IfSome, refl, sym, ◌∙◌, ap, subst, inl, inr}
use Rattle.std.proofs.lemmas.Bool.{eq-eqb}
use Rattle.std.proofs.lemmas.Option.{same_Some}
use Rattle.std.specs.List.{list_any}
use Rattle.sd_journal.specs.declared.entry.Entry.TheVariants.{Acked, Applied, Cancelled, Freeze, Reopened}
use Rattle.sd_journal.specs.declared.mark.Mark.TheVariants.{Start, Table, Visit}
use Rattle.sd_journal.specs.History.{Base, last, pending, unless_it_is}
use Rattle.sd_journal.specs.Kept.{JournalView}
use Rattle.sd_journal.specs.Legal.{IsAbove, IsLegal}
use Rattle.sd_journal.specs.Marked.{IsMarked, IsTracked, Marked, Noted, Told, entries_of, must_dump, is_of, starts, visiting}
use Rattle.sd_journal.specs.TrackedLaws.{TrackedLaws, before_freeze}
use Rattle.sd_journal.specs.Trimming.{HasVisited, IsFolded, MarkedTrimLaws, TrimLaws, base_after}
use Rattle.sd_rounds.specs.declared.stage.Stage.{Stage}
use Rattle.sd_rounds.specs.declared.stage.Stage.TheVariants.{Close}
use Rattle.sd_rounds.specs.Dumper.{Running, is_frozen_image}
use Rattle.sd_rounds.specs.LittleWork.{TakesVisited}
use Rattle.sd_rounds.specs.Making.{Making, is_frozen_dump}
use Rattle.sd_rounds.specs.Pass.{Pass}
use Rattle.sd_core.proofs.FlagLemmas.{grown_trims, swept_trims}
use Rattle.sd_core.specs.Grown.{has_grown, has_visited_all}
use Rattle.sd_core.specs.LittleWork.{HasLittle, IsFrozenFor, TakesLittle, visits_of}
use Rattle.sd_core.specs.Sound.{AreSoundNumbers, CheckpointRuns, IsCore, IsImageInMaking, IsVisiting, IsVisitingIn, Parts}
use Rattle.sd_core.specs.Visited.{HasSettled, is_begun}
use Rattle.sd_core.proofs.FrontLemmas.{same_front}
use Rattle.sd_core.proofs.LittleLemmas.{no_visits}
use Rattle.sd_core.proofs.WorkLemmas.{at_work}

-- ---- the image in the making was begun after the front

no_start : {P : Type 0} (n : ℕ) (front : Marked) (serial : ℕ) → IsFolded n front → is_begun front serial ≡ true → P
no_start n [] serial f is = absurd (let no : false ≡ true = is in cc)
no_start n (Noted mark ∷ front) serial f is = absurd (let no : Noted mark ∷ front ≡ Told f.newest.0 ∷ f.newest.1 = f.newest.2 in cc)
no_start n (Told (Applied seat command reply) ∷ front) serial f is = absurd f.ended
no_start n (Told (Freeze m) ∷ front) serial f is = absurd f.ended
no_start n (Told (Acked m) ∷ front) serial f is = absurd (let no : false ≡ true = is in cc)
no_start n (Told (Cancelled m) ∷ front) serial f is = absurd f.ended
no_start n (Told (Reopened m) ∷ front) serial f is = absurd (let no : false ≡ true = is in cc)

begun_kept : (n : ℕ) (kept front : Marked) (serial : ℕ) → IsFolded n front → is_begun (kept ++ front) serial ≡ true → is_begun kept serial ≡ true
begun_kept n [] front serial f is = no_start n front serial f is
begun_kept n (Told (Applied seat command reply) ∷ kept) front serial f is = begun_kept n kept front serial f is
begun_kept n (Told (Freeze m) ∷ kept) front serial f is = begun_kept n kept front serial f is
begun_kept n (Told (Acked m) ∷ kept) front serial f is = is
begun_kept n (Told (Cancelled m) ∷ kept) front serial f is = is
begun_kept n (Told (Reopened m) ∷ kept) front serial f is = is
begun_kept n (Noted (Start s) ∷ kept) front serial f is = by (s == serial) is (begun_kept n kept front serial f)
  where
    by : (b : Bool) → (b || is_begun (kept ++ front) serial) ≡ true → (is_begun (kept ++ front) serial ≡ true → is_begun kept serial ≡ true)
        → (b || is_begun kept serial) ≡ true
    by true e rest = refl
    by false e rest = rest e
begun_kept n (Noted (Visit s space page) ∷ kept) front serial f is = begun_kept n kept front serial f is
begun_kept n (Noted (Table s) ∷ kept) front serial f is = begun_kept n kept front serial f is

started : (kept : Marked) (serial : ℕ) → is_begun kept serial ≡ true → list_any (starts serial) kept ≡ true
started [] serial is = absurd (let no : false ≡ true = is in cc)
started (Told (Applied seat command reply) ∷ kept) serial is = started kept serial is
started (Told (Freeze m) ∷ kept) serial is = started kept serial is
started (Told (Acked m) ∷ kept) serial is = absurd (let no : false ≡ true = is in cc)
started (Told (Cancelled m) ∷ kept) serial is = absurd (let no : false ≡ true = is in cc)
started (Told (Reopened m) ∷ kept) serial is = absurd (let no : false ≡ true = is in cc)
started (Noted (Start s) ∷ kept) serial is = by (s == serial) is (started kept serial)
  where
    by : (b : Bool) → (b || is_begun kept serial) ≡ true → (is_begun kept serial ≡ true → list_any (starts serial) kept ≡ true) → (b || list_any (starts serial) kept) ≡ true
    by true e rest = refl
    by false e rest = rest e
started (Noted (Visit s space page) ∷ kept) serial is = started kept serial is
started (Noted (Table s) ∷ kept) serial is = started kept serial is

-- ---- what the marks say of it

-- its visits found the pages to be dumped that had to be
visits_kept : MarkedTrimLaws → (base : Base) (kept front : Marked) (n serial : ℕ) → IsMarked base (kept ++ front) → IsFolded n front → HasVisited base front
    → list_any (is_of serial) front ≡ false → visits_of base (kept ++ front) serial ≡ visits_of (base_after base n (entries_of front)) kept serial
visits_kept laws base [] front n serial marked f visited none = no_visits base front serial none
visits_kept laws base (Told entry ∷ kept) front n serial marked f visited none = visits_kept laws base kept front n serial marked.1 f visited none
visits_kept laws base (Noted (Start s) ∷ kept) front n serial marked f visited none = visits_kept laws base kept front n serial marked.1 f visited none
visits_kept laws base (Noted (Table s) ∷ kept) front n serial marked f visited none = visits_kept laws base kept front n serial marked.1 f visited none
visits_kept laws base (Noted (Visit s space page) ∷ kept) front n serial marked f visited none =
    ap (λ d. if s == serial then visits_of base (kept ++ front) serial ++ (record { place = (space, page); soft_dirty = d }) ∷ [] else visits_of base (kept ++ front) serial)
    (sym (laws.must_dump_stays base kept front n space page f visited marked.0.1))
    ∙ ap (λ all. if s == serial then all ++ (record { place = (space, page); soft_dirty = must_dump (base_after base n (entries_of front)) kept space page }) ∷ [] else all)
    (visits_kept laws base kept front n serial marked.1 f visited none)

unless_some : (k m : ℕ) (o : Option ℕ) → unless_it_is k o ≡ Some m → o ≡ Some m
unless_some k m None is = is
unless_some k m (Some p) is = by (k == p) is
  where
    by : (b : Bool) → (if b then None else Some p) ≡ Some m → Some p ≡ Some m
    by true e = absurd (let no : None ≡ Some m = e in cc)
    by false e = e

-- the freeze of the pending checkpoint is kept
pub record HasFreeze (kept front : Marked) (m : ℕ) : Type 0 where
  pub frozen : Marked
  pub here : before_freeze kept m ≡ Some frozen
  pub there : before_freeze (kept ++ front) m ≡ Some (frozen ++ front)

freeze_kept : (kept front : Marked) (m : ℕ) → pending (entries_of kept) ≡ Some m → HasFreeze kept front m
freeze_kept [] front m is = absurd (let no : None ≡ Some m = is in cc)
freeze_kept (Noted mark ∷ kept) front m is = let f = freeze_kept kept front m is in record { frozen = f.frozen; here = f.here; there = f.there }
freeze_kept (Told (Applied seat command reply) ∷ kept) front m is = let f = freeze_kept kept front m is in record { frozen = f.frozen; here = f.here; there = f.there }
freeze_kept (Told (Freeze k) ∷ kept) front m is =
    let same : k ≡ m = same_Some k m is in
    record {
      frozen = kept;
      here = ap (λ b. if b then Some kept else before_freeze kept m) (eq-eqb k m same);
      there = ap (λ b. if b then Some (kept ++ front) else before_freeze (kept ++ front) m) (eq-eqb k m same);
    }
freeze_kept (Told (Acked k) ∷ kept) front m is =
    let f = freeze_kept kept front m (unless_some k m (pending (entries_of kept)) is) in record { frozen = f.frozen; here = f.here; there = f.there }
freeze_kept (Told (Cancelled k) ∷ kept) front m is =
    let f = freeze_kept kept front m (unless_some k m (pending (entries_of kept)) is) in record { frozen = f.frozen; here = f.here; there = f.there }
freeze_kept (Told (Reopened r) ∷ kept) front m is = absurd (let no : None ≡ Some m = is in cc)

-- ---- the parts of a core

-- what was folded, and what the core goes on from
pub record IsTrimmed (core : Parts) (base : Base) (journal : JournalView) (n : ℕ) (front : Marked) : Type 0 where
  pub newest : core.newest ≡ Some n
  pub other : core.base.number ≢ Some n
  pub parts : core.journal.items ≡ journal.items ++ front
  pub ended : IsFolded n front
  pub base_is : base ≡ base_after core.base n (entries_of front)
  pub first : journal.first ≡ base.folded
  pub held : journal.held ≡ core.journal.held
  pub limit : journal.limit ≡ core.journal.limit

module _ (laws : TrimLaws) (marked_laws : MarkedTrimLaws) (tracked_laws : TrackedLaws) (core : Parts) (kept front : Marked) (n : ℕ) (sound : IsCore core)
    (newest : core.newest ≡ Some n) (other : core.base.number ≢ Some n) (parts : core.journal.items ≡ kept ++ front) (f : IsFolded n front) where
  abbrev after : Base
  after = base_after core.base n (entries_of front)

  was : IsTracked core.base (kept ++ front) core.memory
  was = subst (λ all. IsTracked core.base all core.memory) parts sound.journal_is.tracked

  history : entries_of core.journal.items ≡ entries_of kept ++ entries_of front
  history = ap entries_of parts ∙ marked_laws.entries kept front

  legal : IsLegal core.base (entries_of kept ++ entries_of front)
  legal = subst (IsLegal core.base) (marked_laws.entries kept front) (tracked_laws.legal core.base (kept ++ front) was.marked)

  -- each of its pages was visited
  visited : HasVisited core.base front
  visited = by sound.journal_is.settled
    where
      by : HasSettled core.base core.journal.items core.newest → HasVisited core.base front
      by (inl own) = absurd (other (sym own ∙ newest))
      by (inr s) =
          let same : s.0 ≡ n = same_Some s.0 n (sym s.1 ∙ newest) in
          let its : IsFolded n s.2.folded = subst (λ m. IsFolded m s.2.folded) same s.2.front in
          let both : s.2.kept ++ s.2.folded ≡ kept ++ front = sym s.2.parts ∙ parts in
          let entries : entries_of front ≡ entries_of s.2.folded = laws.one core.base (entries_of kept) (entries_of front) (entries_of s.2.kept) (entries_of s.2.folded) n legal
          (sym (marked_laws.entries kept front) ∙ ap entries_of (sym both) ∙ marked_laws.entries s.2.kept s.2.folded) f.ended its.ended in
          subst (HasVisited core.base) (same_front marked_laws s.2.kept s.2.folded kept front both its.newest f.newest (sym entries)) s.2.visited

  tracked : IsTracked after kept core.memory
  tracked = marked_laws.tracked core.base kept front core.memory n was f visited

  frozen : core.frozen ≡ pending (entries_of kept)
  frozen = sound.journal_is.frozen_for ∙ ap pending history ∙ sym (laws.pending_stays (entries_of kept) (entries_of front) n f.ended)

  above : (k : ℕ) → IsAbove core.base (entries_of core.journal.items) k → IsAbove after (entries_of kept) k
  above k is = (laws.above core.base (entries_of kept) (entries_of front) n k legal f.ended).1 (subst (λ h. IsAbove core.base h k) history is)

  numbers : AreSoundNumbers after kept core.frozen core.newest core.numbers
  numbers = record {
    used = λ k below. above k (sound.numbers_are.used k below);
    newest_used = sound.numbers_are.newest_used;
    frozen_used = sound.numbers_are.frozen_used;
    marks = λ s past. fewer s kept (ap (list_any (is_of s)) (sym parts) ∙ sound.numbers_are.marks s past);
    checkpoints = sound.numbers_are.checkpoints;
    serials = sound.numbers_are.serials;
  }
    where
      fewer : (s : ℕ) (all : Marked) → list_any (is_of s) (all ++ front) ≡ false → list_any (is_of s) all ≡ false
      fewer s [] none = refl
      fewer s (item ∷ all) none = by (is_of s item) none (fewer s all)
        where
          by : (b : Bool) → (b || list_any (is_of s) (all ++ front)) ≡ false → (list_any (is_of s) (all ++ front) ≡ false → list_any (is_of s) all ≡ false) → (b || list_any (is_of s) all) ≡ false
          by true e rest = absurd (let no : true ≡ false = e in cc)
          by false e rest = rest e

  -- its image in the making
  visiting_kept : (serial : ℕ) (pass : Pass) → IsVisiting (kept ++ front) serial pass → IsVisiting kept serial pass
  visiting_kept serial pass v =
      let now : visiting kept ≡ Some serial = marked_laws.visiting_stays kept front n f ∙ v.started in
      record { started = now; cursor = marked_laws.cursor_stays core.base kept front n serial was.marked f now ∙ v.cursor }

  visiting_in : (serial : ℕ) (pass : Pass) (stage : Stage) → IsVisitingIn (kept ++ front) serial pass stage → IsVisitingIn kept serial pass stage
  visiting_in serial pass (Close plan header tables) v = tt
  visiting_in serial pass _ v = visiting_kept serial pass v

  image : (making : Making) → IsImageInMaking core.journal.items core.places core.numbers making → IsImageInMaking kept core.places core.numbers making
  image making is = record {
    given = is.given;
    held = is.held;
    stage = is.stage;
    visiting_in = visiting_in making.order.serial making.pass making.stage (subst (λ all. IsVisitingIn all making.order.serial making.pass making.stage) parts is.visiting_in);
    begun = begun_kept n kept front making.order.serial f (ap (λ all. is_begun all making.order.serial) (sym parts) ∙ is.begun);
  }

  image_some : (making : Option Making) → IfSome making (IsImageInMaking core.journal.items core.places core.numbers) → IfSome making (IsImageInMaking kept core.places core.numbers)
  image_some None is = tt
  image_some (Some making) is = image making is

  work : (running : Running) → CheckpointRuns core.base core.journal.items core.frozen core.standing core.phases core.places core.merger core.opener core.numbers running
      → CheckpointRuns after kept core.frozen core.standing core.phases core.places core.merger core.opener core.numbers running
  work running w = record {
    stands = w.stands;
    closed = w.closed;
    pends = w.pends;
    above = λ none. above running.number (w.above none);
    some = w.some;
    number = w.number;
    few = w.few;
    serials = w.serials;
    within = w.within;
    apart = w.apart;
    pre_dumps = w.pre_dumps;
    asked = w.asked;
    whose = w.whose;
    writes = w.writes;
    image = image_some running.image w.image;
  }

  work_some : (running : Option Running)
      → IfSome running (CheckpointRuns core.base core.journal.items core.frozen core.standing core.phases core.places core.merger core.opener core.numbers)
      → IfSome running (CheckpointRuns after kept core.frozen core.standing core.phases core.places core.merger core.opener core.numbers)
  work_some None w = tt
  work_some (Some running) w = work running w

  -- the pages that it has
  little : (number : ℕ) (making : Making) → IsImageInMaking core.journal.items core.places core.numbers making → (is_frozen_dump making ≡ true → core.frozen ≡ Some number)
      → TakesLittle core.base core.journal.items core.memory number making → TakesLittle after kept core.memory number making
  little number making is pends takes = record {
    round = λ kind. subst (λ all. TakesVisited all making) seen (takes.round kind);
    dump = λ is_cut.
        let d : IsFrozenFor core.base (kept ++ front) core.memory number making = subst (λ all. IsFrozenFor core.base all core.memory number making) parts (takes.dump is_cut) in
        let has = freeze_kept kept front number (sym frozen ∙ pends is_cut) in
        let cut : d.frozen ≡ has.frozen ++ front = same_Some d.frozen (has.frozen ++ front) (sym d.before ∙ has.there) in
        record {
          frozen = has.frozen;
          before = has.here;
          cut = d.cut;
          tracked = marked_laws.tracked core.base has.frozen front d.cut n (subst (λ all. IsTracked core.base all d.cut) cut d.tracked) f visited;
          takes = d.takes;
        };
    closed = takes.closed;
  }
    where
      begun : is_begun kept making.order.serial ≡ true
      begun = (image making is).begun

      seen : visits_of core.base core.journal.items making.order.serial ≡ visits_of after kept making.order.serial
      seen = ap (λ all. visits_of core.base all making.order.serial) parts
          ∙ visits_kept marked_laws core.base kept front n making.order.serial was.marked f visited
          (marked_laws.fresh core.base kept front making.order.serial was.marked (started kept making.order.serial begun))

  little_some : (running : Running) (making : Option Making) → running.image ≡ making → core.dumper.running ≡ Some running
      → IfSome making (IsImageInMaking core.journal.items core.places core.numbers)
      → IfSome making (TakesLittle core.base core.journal.items core.memory running.number) → IfSome making (TakesLittle after kept core.memory running.number)
  little_some running None making is image_is takes = tt
  little_some running (Some image) making is image_is takes = little running.number image image_is
      (λ cut. (at_work core running sound is).pends ∙ ap (λ i. if is_frozen_image i then Some running.number else None) making ∙ ap (λ b. if b then Some running.number else None) cut) takes

  has_little : (running : Option Running) → core.dumper.running ≡ running → IfSome running (HasLittle core.base core.journal.items core.memory)
      → IfSome running (HasLittle after kept core.memory)
  has_little None is takes = tt
  has_little (Some running) is takes = little_some running running.image refl is (at_work core running sound is).image takes

-- the core that goes on from the last checkpoint
pub trimmed_core : TrimLaws → MarkedTrimLaws → TrackedLaws → (core : Parts) (base : Base) (journal : JournalView) (n : ℕ) (front : Marked) → IsCore core → IsTrimmed core base journal n front
    → IsCore (record core { base = base; journal = journal })
trimmed_core laws marked_laws tracked_laws core base journal n front sound t = record {
  journal_is = record {
    tracked = subst (λ b. IsTracked b journal.items core.memory) (sym t.base_is)
        (tracked laws marked_laws tracked_laws core journal.items front n sound t.newest t.other t.parts t.ended);
    first = t.first;
    limit = t.limit ∙ sound.journal_is.limit;
    frozen_for = frozen laws marked_laws tracked_laws core journal.items front n sound t.newest t.other t.parts t.ended;
    newest_is = sound.journal_is.newest_is ∙ ap (last core.base) (history laws marked_laws tracked_laws core journal.items front n sound t.newest t.other t.parts t.ended)
        ∙ sym (laws.last_stays core.base (entries_of journal.items) (entries_of front) n t.ended.ended) ∙ ap (λ b. last b (entries_of journal.items)) (sym t.base_is);
    settled = inl (t.newest ∙ ap (λ (b : Base). b.number) (sym t.base_is));
  };
  held = t.held ∙ sound.held;
  outs_are = sound.outs_are;
  opening = sound.opening;
  numbers_are = subst (λ b. AreSoundNumbers b journal.items core.frozen core.newest core.numbers) (sym t.base_is)
      (numbers laws marked_laws tracked_laws core journal.items front n sound t.newest t.other t.parts t.ended);
  counted = sound.counted;
  rests = sound.rests;
  work = subst (λ b. IfSome core.dumper.running (CheckpointRuns b journal.items core.frozen core.standing core.phases core.places core.merger core.opener core.numbers)) (sym t.base_is)
      (work_some laws marked_laws tracked_laws core journal.items front n sound t.newest t.other t.parts t.ended core.dumper.running sound.work);
  little = subst (λ b. IfSome core.dumper.running (HasLittle b journal.items core.memory)) (sym t.base_is)
      (has_little laws marked_laws tracked_laws core journal.items front n sound t.newest t.other t.parts t.ended core.dumper.running refl sound.little);
  merging = sound.merging;
  visited_is = sound.visited_is;
  flags_are = record {
    grown = sound.flags_are.grown ∙ ap (has_grown core.base) (history laws marked_laws tracked_laws core journal.items front n sound t.newest t.other t.parts t.ended)
        ∙ sym (grown_trims core.base (entries_of journal.items) (entries_of front) n t.ended.ended) ∙ ap (λ b. has_grown b (entries_of journal.items)) (sym t.base_is);
    visited_by = sound.flags_are.visited_by ∙ ap has_visited_all t.parts ∙ swept_trims laws marked_laws journal.items front n t.ended;
    sure = sound.flags_are.sure;
  };
  gated = sound.gated;
}
