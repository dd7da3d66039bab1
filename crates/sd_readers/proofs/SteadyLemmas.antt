-- What came of a program that reads a store, by its parts.
use Rattle.std.proofs.Common.{◌≡◌, ◌≤◌, ◌&&◌, ℕ, true, false, List, [], ◌∷◌, Option, Some, None, Result, Ok, Err, OnOk, IfErr, append-nil, refl, sym, ◌∙◌, subst, inl, inr, length, arith}
use Rattle.std.specs.Prelude.{filter}
use Rattle.std.specs.Option.{option_eq}
use lib.Dec.{eqb}
use lib.Pointwise.{bytes_decides, pointwise}
use Rattle.std.specs.Io.KnownBytes.{Appends, Keeps}
use Rattle.sd_image.specs.Image.{is_open}
use Rattle.sd_restore.specs.declared.fault.Fault.{Fault}
use Rattle.sd_readers.specs.declared.steady.Reader.{Reader}
use Rattle.sd_readers.specs.declared.steady.Reader.TheVariants as reader
use Rattle.sd_exit.specs.declared.stop.Stop.{Stop}
use Rattle.sd_exit.specs.declared.stop.Stop.TheVariants as stop
use Rattle.sd_exit.specs.Ending.{OnFault}
use Rattle.sd_exit.proofs.EndingLemmas.{on_fault}
use Rattle.sd_readers.specs.Ending.{IsBreak, IsOutsideStore, StandsAlone, writer_failed}
use Rattle.sd_readers.specs.Printed.{BeginsToPrint, Prints}
use Rattle.sd_readers.specs.Reading.{IsWhy, ReadsStore}
use Rattle.sd_readers.specs.Texts.{memory_text, verdict_text}
use Rattle.sd_readers.proofs.BreakLemmas.{begins_all}
use Rattle.sd_readers.proofs.EndingLemmas.{not_alone, prints_moved, why_longer, why_of_break}

no_two : {A : Type 0} → true ≡ false → A
no_two e = absurd (let f : true ≡ false = e in cc)

-- ---- fronts that are compared

bytes_same : (bytes : List ℕ) → pointwise eqb bytes bytes ≡ true
bytes_same bytes = (bytes_decides bytes bytes).1 refl

front_same : (f : Option (List ℕ)) → option_eq (pointwise eqb) f f ≡ true
front_same None = refl
front_same (Some bytes) = bytes_same bytes

fronts_same : (fs : List (Option (List ℕ))) → pointwise (option_eq (pointwise eqb)) fs fs ≡ true
fronts_same [] = refl
fronts_same (f ∷ fs) = subst (λ b. (b && pointwise (option_eq (pointwise eqb)) fs fs) ≡ true) (sym (front_same f)) (fronts_same fs)

-- those of the same contents don't differ
pub no_difference : {A : Type 0} (fronts a b : List (Option (List ℕ))) → a ≡ fronts → b ≡ fronts → false ≡ pointwise (option_eq (pointwise eqb)) a b → A
no_difference fronts a b first second differ =
    absurd (let e : true ≡ false = sym (fronts_same fronts) ∙ sym (subst (λ x. false ≡ pointwise (option_eq (pointwise eqb)) fronts x) second
    (subst (λ x. false ≡ pointwise (option_eq (pointwise eqb)) x b) first differ)) in cc)

-- ---- what was printed before a fault

-- the whole text was printed, so a beginning of it
whole_begins : (by : Reader) (contents : List (List ℕ)) (before after : Option (List ℕ)) → Prints by contents before after → BeginsToPrint by contents before after
whole_begins reader.Restore contents before after is =
    inr (memory_text is.moment, record { moment = is.moment; shows = is.shows; printed = refl }, begins_all before after (memory_text is.moment) is.printed)
whole_begins reader.List contents before after is =
    inr (
      is.text,
      record { places = is.places; catalog = is.catalog; order = is.order; none_held = is.none_held; text = is.text; listing = is.listing; printed = refl },
      begins_all before after is.text is.printed,
    )
whole_begins reader.Verify contents before after is =
    let text = verdict_text is.shown (length (filter is_open contents)) in
    inr (text, record { shown = is.shown; shows = is.shows; printed = refl }, begins_all before after text is.printed)

module _ (by : Reader) (contents : List (List ℕ)) where
  abbrev Reads : Type 0 → ℕ → ℕ → Result Unit Stop → Option (List ℕ) → Option (List ℕ) → Type 0
  Reads honest failed now ended before after = ReadsStore by honest contents failed now ended before after

  why_stays : (failed a b now : ℕ) (ended : Result Unit Stop) → failed ≤ a → b ≤ now → IfErr ended (IsWhy by contents a b) → IfErr ended (IsWhy by contents failed now)
  why_stays failed a b now (Ok value) early late is = tt
  why_stays failed a b now (Err why) early late is = why_longer by contents failed a b now why early late is

  -- what is true of an honest device is so of one that was honest for longer
  pub longer_honest : (before_honest honest : Type 0) (failed a b now : ℕ) (ended : Result Unit Stop) (before after : Option (List ℕ)) → (honest → before_honest)
      → failed ≤ a → b ≤ now → Reads before_honest a b ended before after → Reads honest failed now ended before after
  longer_honest before_honest honest failed a b now ended before after since early late is = record {
    text = λ h. is.text (since h);
    begins = λ h. is.begins (since h);
    alone = is.alone;
    why = λ h. why_stays failed a b now ended early late (is.why (since h));
  }

  -- what a program printed whose writer didn't fail is the text or a beginning of it
  any_part : (ended : Result Unit Stop) (before after : Option (List ℕ)) → writer_failed ended ≡ false → OnOk ended (Prints by contents before after)
      → OnFault ended (BeginsToPrint by contents before after) → BeginsToPrint by contents before after
  any_part ended before after fine whole begun = grind (arith, whole_begins)

  -- a fault of the device or of the memory after it
  pub faulty_behind : (honest : Type 0) (failed now : ℕ) (ended : Result Unit Stop) (fault : Fault) (before after : Option (List ℕ)) → writer_failed ended ≡ false
      → IsOutsideStore (stop.Fault fault) → (honest → IsBreak failed now (stop.Fault fault)) → Reads honest failed now ended before after → Reads honest failed now (Err (stop.Fault fault)) before after
  faulty_behind honest failed now ended fault before after fine outside breaks is = record {
    text = λ h. record {};
    begins = λ h. any_part ended before after fine (is.text h) (is.begins h);
    alone = not_alone before after (stop.Fault fault) outside;
    why = λ h. why_of_break by contents failed now (stop.Fault fault) (breaks h);
  }

  -- ---- what was kept in a vector, and then printed

  no_bytes : (before after : Option (List ℕ)) (text : List ℕ) → text ≡ [] → Appends before after text → Keeps before after
  no_bytes before after text none printed = grind (arith, append-nil)

  begun_moved : (before after : Option (List ℕ)) (text : List ℕ) → Appends before after text → BeginsToPrint by contents (Some []) (Some text) → BeginsToPrint by contents before after
  begun_moved before after text taken (inl none) = inl (no_bytes before after text none taken)
  begun_moved before after text taken (inr begun) =
      let is = begun.2 in
      inr (
        begun.0,
        begun.1,
        record {
          front = is.front;
          rest = is.rest;
          whole = is.whole;
          printed = subst (Appends before after) is.printed taken;
        },
      )

  alone_moved : (before after : Option (List ℕ)) (text : List ℕ) (why : Stop) → Appends before after text → StandsAlone (Some []) (Some text) why → StandsAlone before after why
  alone_moved before after text why taken none = λ is. no_bytes before after text (none is) taken

  unknown : (by : Reader) (before : Option (List ℕ)) → Prints by contents (Some []) None → Prints by contents before None
  unknown reader.Restore before is = absurd is.printed
  unknown _ before is = absurd is.printed

  unknown_text : (ended : Result Unit Stop) (before : Option (List ℕ)) → OnOk ended (Prints by contents (Some []) None) → OnOk ended (Prints by contents before None)
  unknown_text (Ok value) before is = unknown by before is
  unknown_text (Err why) before is = record {}

  unknown_beginning : (before : Option (List ℕ)) → BeginsToPrint by contents (Some []) None → BeginsToPrint by contents before None
  unknown_beginning before given = grind arith

  unknown_alone : (ended : Result Unit Stop) (before : Option (List ℕ)) → IfErr ended (StandsAlone (Some []) None) → IfErr ended (StandsAlone before None)
  unknown_alone ended before is = grind arith

  pub moved_out : (honest : Type 0) (failed now : ℕ) (ended : Result Unit Stop) (before after : Option (List ℕ)) (text : List ℕ) → Appends before after text
      → Reads honest failed now ended (Some []) (Some text) → Reads honest failed now ended before after
  moved_out honest failed now (Ok value) before after text taken is = record {
    text = λ h. prints_moved by contents before after text (is.text h) taken;
    begins = λ h. record {};
    alone = record {};
    why = is.why;
  }
  moved_out honest failed now (Err why) before after text taken is = record {
    text = λ h. record {};
    begins = λ h. on_fault (Err why) (begun_moved before after text taken) (is.begins h);
    alone = alone_moved before after text why taken is.alone;
    why = is.why;
  }

  -- nothing that a vector holds is unknown
  pub never_held : (honest : Type 0) (failed now : ℕ) (ended : Result Unit Stop) (before : Option (List ℕ)) → Reads honest failed now ended (Some []) None
      → Reads honest failed now ended before None
  never_held honest failed now ended before is = record {
    text = λ h. unknown_text ended before (is.text h);
    begins = λ h. on_fault ended (unknown_beginning before) (is.begins h);
    alone = unknown_alone ended before is.alone;
    why = is.why;
  }
