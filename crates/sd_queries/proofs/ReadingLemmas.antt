-- What came of reading a store in a folder.
use Rattle.std.proofs.Common.{◌≡◌, ◌<◌, ◌≤◌, ℕ, Bool, true, false, List, [], ◌∷◌, ◌++◌, Option, Some, None, Result, Ok, Err, IfErr, OnOk, sym, ◌∙◌, subst, inl, inr, arith}
use Rattle.std.specs.Io.KnownBytes.{Appends}
use Rattle.std.specs.Option.{option_map}
use Rattle.sd_areas.specs.PlainMemory.{PlainMemory}
use Rattle.sd_image.specs.Shows.{Shows}
use Rattle.sd_disk.specs.declared.dir_disk.DirDisk.{DirDisk}
use Rattle.sd_disk.specs.declared.found.Found.{Found}
use Rattle.sd_disk.specs.Folder.{IsFolderHonest, folder_failures, folder_files, outside_of}
use Rattle.sd_exit.specs.declared.stop.Stop.{Stop}
use Rattle.sd_exit.specs.declared.stop.Stop.TheVariants as stop
use Rattle.sd_exit.specs.Ending.{Exits, end_status, end_text, status_of}
use Rattle.sd_exit.proofs.EndingLemmas.{cause_is_seen, printed_at_its_end}
use Rattle.sd_restore.specs.declared.fault.Fault.{Fault}
use Rattle.sd_restore.specs.declared.fault.Fault.TheVariants as fault
use Rattle.sd_readers.specs.declared.steady.Reader.{Reader}
use Rattle.sd_readers.specs.declared.at.ReaderAt.{ReaderAt}
use Rattle.sd_readers.specs.declared.at.ReaderAt.TheVariants as at
use Rattle.sd_readers.specs.At.{PrintsAt}
use Rattle.sd_readers.specs.Reading.{IsWhy, ReaderEnds}
use Rattle.sd_readers.specs.Texts.{memory_text}
use Rattle.sd_readers.proofs.EndingLemmas.{moved, prints_moved, then_nothing}
use Rattle.sd_readers.proofs.HeldLemmas.{held}
use Rattle.sd_queries.specs.declared.queries.Query.{Query}
use Rattle.sd_queries.specs.declared.queries.Query.TheVariants as query
use Rattle.sd_queries.specs.Asked.{has_document}
use Rattle.sd_queries.specs.Printing.{Answers, IsAnswer, ShowsAtLeast}
use Rattle.sd_queries.specs.Reading.{AnswersFound}

above_none : (failed now : ℕ) → failed < now → 0 < now
above_none failed now above = omega (arith, above)

-- a device that failed since it had failed so often has failed
why_of : (by : Reader) (contents : List (List ℕ)) (failed now : ℕ) (why : Stop) → IsWhy by contents failed now why → IsWhy by contents 0 now why
why_of by contents failed now (stop.Fault fault.EmptyChain) is = is
why_of by contents failed now (stop.Fault (fault.Damaged slot reason)) is = is
why_of by contents failed now (stop.Fault fault.Device) is = above_none failed now is
why_of by contents failed now (stop.Fault fault.OutOfMemory) is = is
why_of by contents failed now _ is = is

why_from : (by : Reader) (contents : List (List ℕ)) (failed now : ℕ) (ended : Result Unit Stop) → IfErr ended (IsWhy by contents failed now)
    → IfErr ended (IsWhy by contents 0 now)
why_from by contents failed now (Ok value) is = tt
why_from by contents failed now (Err why) is = why_of by contents failed now why is

ends_from : (by : Reader) (Honest : Type 0) (contents : List (List ℕ)) (failed now : ℕ) (before after : Option (List ℕ)) (refused : Bool) (status : ℕ)
    → ReaderEnds by Honest contents failed now before after refused status → ReaderEnds by Honest contents 0 now before after refused status
ends_from by Honest contents failed now before after refused status ends = record {
  ended = ends.ended;
  printed = ends.printed;
  reads = record {
    text = ends.reads.text;
    begins = ends.reads.begins;
    alone = ends.reads.alone;
    why = λ honest. why_from by contents failed now ends.ended (ends.reads.why honest);
  };
  writer = ends.writer;
  exits = ends.exits;
}

answers_from : (asked : Query) (Honest : Type 0) (contents : List (List ℕ)) (failed now : ℕ) (before after : Option (List ℕ)) (refused : Bool) (status : ℕ)
    → Answers asked Honest contents failed now before after refused status → Answers asked Honest contents 0 now before after refused status
answers_from (query.Newest reader) Honest contents failed now before after refused status is = ends_from reader Honest contents failed now before after refused status is
answers_from _ Honest contents failed now before after refused status is = is

-- a read leaves the files as they are, so the answer is of those that are left, which are those that were found
pub answers_folder : (asked : Query) (found : Found) (old new : DirDisk) (before after : Option (List ℕ)) (refused : Bool) (status : ℕ)
    → folder_files old ≡ (outside_of found).found → folder_files new ≡ folder_files old
    → Answers asked (IsFolderHonest new) (folder_files old) (folder_failures old) (folder_failures new) before after refused status
    → AnswersFound found asked (new, status) before after refused
answers_folder asked found old new before after refused status files same is = record {
  files = same ∙ files;
  answers = subst (λ held. Answers asked (IsFolderHonest new) held 0 (folder_failures new) before after refused status) (sym same)
      (answers_from asked (IsFolderHonest new) (folder_files old) (folder_failures old) (folder_failures new) before after refused status is);
}

-- the newest checkpoint that was found is the one that is shown
pub shown_at_least : (contents : List (List ℕ)) (least newest : ℕ) (checkpoint : Option ℕ) → checkpoint ≡ Some newest → least ≤ newest
    → (shown : Option (ℕ × PlainMemory)) × Shows contents shown × (checkpoint ≡ option_map (λ moment. moment.0) shown) → ShowsAtLeast contents least
shown_at_least contents least newest checkpoint is enough (None, shows, same) = absurd (let no : Some newest ≡ None = sym is ∙ same in cc)
shown_at_least contents least newest checkpoint is enough (Some moment, shows, same) =
    let both : Some newest ≡ Some moment.0 = sym is ∙ same in
    let number : newest ≡ moment.0 = cc in
    (moment, shows, subst (λ n. least ≤ n) number enough)

-- ---- an answer that was held back, and then printed

moved_at : (reader : ReaderAt) (contents : List (List ℕ)) (number : ℕ) (before after : Option (List ℕ)) (text : List ℕ) → Appends before after text
    → PrintsAt reader contents number (Some []) (Some text) → PrintsAt reader contents number before after
moved_at at.Restore contents number before after text taken is = record {
  memory = is.memory;
  shows = is.shows;
  printed = moved before after text (memory_text (number, is.memory)) is.printed taken;
}
moved_at at.Verify contents number before after text taken is = is

-- what was printed of a checkpoint stands where nothing is printed after it
pub at_then_nothing : (reader : ReaderAt) (contents : List (List ℕ)) (number : ℕ) (before mid after : Option (List ℕ)) → Appends mid after []
    → PrintsAt reader contents number before mid → PrintsAt reader contents number before after
at_then_nothing at.Restore contents number before mid after none is = record {
  memory = is.memory;
  shows = is.shows;
  printed = then_nothing before mid after (memory_text (number, is.memory)) is.printed none;
}
at_then_nothing at.Verify contents number before mid after none is = is

-- it is so of a program that ended well
pub at_its_end : (reader : ReaderAt) (contents : List (List ℕ)) (number : ℕ) (before mid after : Option (List ℕ)) (refused : Bool) (status : ℕ) (ended : Result Unit Stop)
    → Exits mid after refused (end_text ended) (end_status ended) status → OnOk ended (PrintsAt reader contents number before mid) → status ≡ 0
    → PrintsAt reader contents number before after
at_its_end reader contents number before mid after refused status =
    printed_at_its_end mid after refused status (PrintsAt reader contents number before) (λ a b none is. at_then_nothing reader contents number before a b none is)

moved_answer : (asked : Query) (contents : List (List ℕ)) (before after : Option (List ℕ)) (text : List ℕ) → Appends before after text → IsAnswer asked contents (Some []) (Some text)
    → IsAnswer asked contents before after
moved_answer (query.Newest reader) contents before after text taken is = prints_moved reader contents before after text is taken
moved_answer (query.At reader number) contents before after text taken is = moved_at reader contents number before after text taken is
moved_answer (query.Document document) contents before after text taken is = record {
  text = is.text;
  is = is.is;
  printed = moved before after text (is.text ++ 10 ∷ []) is.printed taken;
}
moved_answer _ contents before after text taken is = is

module _ (Honest : Type 0) (contents : List (List ℕ)) (failed now : ℕ) (before after : Option (List ℕ)) (text : List ℕ) (refused : Bool) (status answered : ℕ) where
  well : {A : Type 0} → Exits before after refused text status answered → answered ≡ 0 → (Appends before after text → status ≡ 0 → A) → A
  well (inl e) is so = so e.1 (sym e.2 ∙ is)
  well (inr e) is so = let one : answered ≡ 1 = e.1 in absurd (omega (arith, one, is))

  kept : (asked : Query) → Exits before after refused text status answered → (Honest → status ≡ 0 → IsAnswer asked contents (Some []) (Some text))
      → Honest → answered ≡ 0 → IsAnswer asked contents before after
  kept asked exits is honest zero = well exits zero (λ taken fine. moved_answer asked contents before after text taken (is honest fine))

  pub answers_held : (asked : Query) → Exits before after refused text status answered → Answers asked Honest contents failed now (Some []) (Some text) false status
      → Answers asked Honest contents failed now before after refused answered
  answers_held (query.Newest reader) exits is = held reader Honest contents failed now before after text refused status answered is exits
  answers_held (query.At reader number) exits is = kept (query.At reader number) exits is
  answers_held (query.AtLeast least) exits is = kept (query.AtLeast least) exits is
  answers_held query.History exits is = kept query.History exits is
  answers_held query.HistoryDocument exits is = kept query.HistoryDocument exits is
  answers_held (query.Difference compared) exits is = kept (query.Difference compared) exits is
  answers_held (query.Document document) exits is = kept (query.Document document) exits is

-- ---- a document of a fault

not_well : (fault : Fault) (before after : Option (List ℕ)) (refused : Bool) (status : ℕ) → Exits before after refused [] (status_of (stop.Fault fault)) status → status ≡ 0 → {A : Type 0} → A
not_well fault before after refused status (inl e) is = cause_is_seen (stop.Fault fault) (sym e.2 ∙ is)
not_well fault before after refused status (inr e) is = let one : status ≡ 1 = e.1 in absurd (omega (arith, one, is))

-- where a document says a fault the status does too
pub answers_faulty : (asked : Query) (Honest : Type 0) (contents : List (List ℕ)) (failed now : ℕ) (before mid after : Option (List ℕ)) (refused : Bool) (fault : Fault) (status : ℕ)
    → true ≡ has_document asked → Exits mid after refused [] (status_of (stop.Fault fault)) status → Answers asked Honest contents failed now before after refused status
answers_faulty (query.Newest reader) Honest contents failed now before mid after refused fault status is exits = absurd (let e : true ≡ false = is in cc)
answers_faulty _ Honest contents failed now before mid after refused fault status is exits = λ honest zero. not_well fault mid after refused status exits zero
