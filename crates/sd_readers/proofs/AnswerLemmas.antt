-- What a program that reads a store answers.
use Rattle.std.proofs.Common.{◌≡◌, ◌≢◌, ℕ, Bool, true, false, List, [], Option, Some, None, Result, Ok, Err, OnOk, IfErr, refl, sym, ◌∙◌, ap, subst, inl, inr}
use Rattle.std.specs.Prelude.{◌⊎◌, if◌then◌else◌}
use Rattle.std.specs.Io.KnownBytes.{Appends, Keeps}
use Rattle.sd_image.specs.Shows.{Shows}
use Rattle.sd_restore.specs.declared.fault.Fault.TheVariants.{EmptyChain}
use Rattle.sd_exit.specs.declared.stop.Stop.{Stop}
use Rattle.sd_exit.specs.Ending.{Exits, OnWriter, end_status, end_text}
use Rattle.sd_exit.specs.Texts.{fault_line}
use Rattle.sd_exit.proofs.EndingLemmas.{on_writer, printed_at_its_end, whole_but_for_one}
use Rattle.sd_readers.specs.declared.steady.Reader.{Reader}
use Rattle.sd_readers.specs.declared.steady.Reader.TheVariants.{Restore}
use Rattle.sd_readers.specs.Printed.{Prints}
use Rattle.sd_readers.specs.Reading.{IsWhy, ReaderEnds, ReadsStore}
use Rattle.sd_readers.proofs.EndingLemmas.{empty_told, prints_then_nothing, told_empty}

module _ (by : Reader) (honest : Type 0) (contents : List (List ℕ)) (failed now : ℕ) (before after : Option (List ℕ)) (refused : Bool) (status : ℕ) where
  pub answers : (ended : Result Unit Stop) (printed : Option (List ℕ)) (was : Bool) → ReadsStore by honest contents failed now ended before printed → OnWriter ended (was ≡ true)
      → (was ≡ true → refused ≡ true) → Exits printed after refused (end_text ended) (end_status ended) status → ReaderEnds by honest contents failed now before after refused status
  answers ended printed was reads writer kept exits = record {
    ended = ended;
    printed = printed;
    reads = reads;
    writer = on_writer ended kept writer;
    exits = exits;
  }

  module _ (is : ReaderEnds by honest contents failed now before after refused status) where
    -- with status 0 the whole text is printed
    pub text_of : honest → status ≡ 0 → Prints by contents before after
    text_of h zero = printed_at_its_end is.printed after refused status (Prints by contents before) (prints_then_nothing by contents before) is.ended is.exits (is.reads.text h) zero

    -- with status 3 the line of an empty chain, and nothing before it
    pub told_of : status ≡ 3 → Appends before after (fault_line EmptyChain)
    told_of = told_empty before is.printed after refused status is.ended is.exits is.reads.alone

    pub empty_of : honest → status ≡ 3 → (by ≡ Restore) × Shows contents None
    empty_of h = empty_told before is.printed after refused status is.ended is.exits (λ e. subst (λ (r : Result Unit Stop). IfErr r (IsWhy by contents failed now)) e (is.reads.why h))

    pub whole_of : status ≢ 1 → refused ≡ false
    whole_of = whole_but_for_one is.printed after refused status (end_text is.ended) (end_status is.ended) is.exits
