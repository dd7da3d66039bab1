-- What was kept in a vector, and then printed, up to the exit.
use Rattle.std.proofs.Common.{◌≡◌, ℕ, Bool, true, false, List, [], ◌++◌, Option, Some, None, Result, ◌∙◌, inl, inr, append_assoc, arith}
use Rattle.std.specs.Io.KnownBytes.{Appends, append_known}
use Rattle.sd_exit.specs.declared.stop.Stop.{Stop}
use Rattle.sd_exit.specs.Ending.{Exits, end_status, end_text}
use Rattle.sd_exit.proofs.EndingLemmas.{on_writer}
use Rattle.sd_readers.specs.declared.steady.Reader.{Reader}
use Rattle.sd_readers.specs.Reading.{ReaderEnds, ReadsStore}
use Rattle.sd_readers.proofs.SteadyLemmas.{moved_out, never_held}

-- bytes after the known ones
appended : (before : Option (List ℕ)) (front : List ℕ) → Appends before (append_known before front) front
appended before front = grind arith

-- a text in two parts
second_part : (before after : Option (List ℕ)) (front last text : List ℕ) → text ≡ front ++ last → Appends before after text → Appends (append_known before front) after last
second_part before after front last text parts printed = grind (arith, append_assoc)

module _ (by : Reader) (honest : Type 0) (contents : List (List ℕ)) (failed now : ℕ) (before after : Option (List ℕ)) (text : List ℕ) (refused : Bool) (status answered : ℕ) where
  -- what was printed into the vector before the last line, as it stands after what was printed before
  moved : (ended : Result Unit Stop) (printed : Option (List ℕ)) → ReadsStore by honest contents failed now ended (Some []) printed → Appends printed (Some text) (end_text ended)
      → (there : Option (List ℕ)) × ReadsStore by honest contents failed now ended before there × (Appends before after text → Appends there after (end_text ended))
  moved ended None reads told = (None, never_held by contents honest failed now ended before reads, λ taken. tt)
  moved ended (Some front) reads told = (
    append_known before front,
    moved_out by contents honest failed now ended before (append_known before front) front (appended before front) reads,
    second_part before after front (end_text ended) text told,
  )

  -- the answer that was held back is then the one that is printed
  pub held : ReaderEnds by honest contents failed now (Some []) (Some text) false status → Exits before after refused text status answered
      → ReaderEnds by honest contents failed now before after refused answered
  held answers exits = record {
    ended = answers.ended;
    printed = there.0;
    reads = there.1;
    writer = on_writer answers.ended no_two answers.writer;
    exits = exit_of exits;
  }
    where
      no_two : {A : Type 0} → false ≡ true → A
      no_two e = absurd (let f : false ≡ true = e in cc)

      whole : Exits answers.printed (Some text) false (end_text answers.ended) (end_status answers.ended) status
          → Appends answers.printed (Some text) (end_text answers.ended) × (status ≡ end_status answers.ended)
      whole (inl e) = (e.1, e.2)
      whole (inr e) = no_two e.0

      told : Appends answers.printed (Some text) (end_text answers.ended) × (status ≡ end_status answers.ended)
      told = whole answers.exits

      there : (there : Option (List ℕ)) × ReadsStore by honest contents failed now answers.ended before there × (Appends before after text → Appends there after (end_text answers.ended))
      there = moved answers.ended answers.printed answers.reads told.0

      exit_of : Exits before after refused text status answered → Exits there.0 after refused (end_text answers.ended) (end_status answers.ended) answered
      exit_of (inl e) = inl (e.0, there.2 e.1, e.2 ∙ told.1)
      exit_of (inr e) = inr e
