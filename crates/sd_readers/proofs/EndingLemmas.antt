-- What a program's exit status says.
use Rattle.std.proofs.Common.{◌≡◌, ◌≢◌, ◌<◌, ◌≤◌, refl, ℕ, Bool, false, true, append-nil, List, [], Option, Some, Result, Ok, Err, OnOk, IfErr, sym, ◌∙◌, ap, subst, inl, inr, arith, length}
use Rattle.std.specs.Prelude.{filter}
use Rattle.std.proofs.KnownBytes.{Appends-trans, Keeps-refl}
use Rattle.sd_image.specs.Image.{is_open}
use Rattle.sd_restore.specs.Faulty.{FaultNames}
use Rattle.sd_restore.specs.declared.fault.Fault.{Fault}
use Rattle.sd_restore.specs.declared.fault.Fault.TheVariants.{EmptyChain, Damaged, Device, OutOfMemory}
use Rattle.sd_exit.specs.declared.stop.Stop.{Stop}
use Rattle.sd_exit.specs.declared.stop.Stop.TheVariants as stop
use Rattle.sd_exit.specs.Ending.{Exits, end_status, end_text}
use Rattle.sd_exit.specs.Texts.{fault_line}
use Rattle.sd_exit.proofs.EndingLemmas.{only_empty}
use Rattle.std.specs.Io.KnownBytes.{Appends, Keeps}
use Rattle.sd_readers.specs.declared.steady.Reader.{Reader}
use Rattle.sd_readers.specs.declared.steady.Reader.TheVariants as reader
use Rattle.sd_readers.specs.Printed.{Prints}
use Rattle.sd_readers.specs.Texts.{memory_text, verdict_text}
use Rattle.sd_readers.specs.Ending.{EndsWithOne, IsBreak, IsOutsideStore, StandsAlone}
use Rattle.sd_readers.specs.Reading.{IsWhy}

pub on_ok : {A B : Type 0} {P : Type 0} (result : Result A B) → P → OnOk result P
on_ok (Ok value) p = p
on_ok (Err error) p = record {}

-- bytes that stayed, and then grew
kept_then : (a b c : Option (List ℕ)) (bs : List ℕ) → Keeps a b → Appends b c bs → Appends a c bs
kept_then a b c bs p q = grind arith

module _ (before printed after : Option (List ℕ)) (refused : Bool) (status : ℕ) where
  -- status 3 comes with the line of an empty chain, and nothing before it
  pub told_empty : (ended : Result Unit Stop) → Exits printed after refused (end_text ended) (end_status ended) status
      → IfErr ended (StandsAlone before printed) → status ≡ 3 → Appends before after (fault_line EmptyChain)
  told_empty ended given alone is = grind arith

  -- and only where the contents show nothing
  pub empty_told : {P : Type 0} (ended : Result Unit Stop) → Exits printed after refused (end_text ended) (end_status ended) status
      → (ended ≡ Err (stop.Fault EmptyChain) → P) → status ≡ 3 → P
  empty_told (Ok value) (inl e) shows is = let zero_is : status ≡ 0 = e.2 in absurd (omega (arith, zero_is, is))
  empty_told (Err why) (inl e) shows is = shows (ap (λ (w : Stop). Err w) (only_empty why (sym e.2 ∙ is)))
  empty_told ended (inr e) shows is = let one : status ≡ 1 = e.1 in absurd (omega (arith, one, is))

-- what was printed stands where nothing is printed after it
pub then_nothing : (a b c : Option (List ℕ)) (bs : List ℕ) → Appends a b bs → Appends b c [] → Appends a c bs
then_nothing a b c bs p q = subst (Appends a c) (append-nil bs) (Appends-trans a b c bs [] p q)

pub prints_then_nothing : (by : Reader) (contents : List (List ℕ)) (before a b : Option (List ℕ)) → Appends a b [] → Prints by contents before a → Prints by contents before b
prints_then_nothing reader.Restore contents before a b none is = record {
  moment = is.moment;
  shows = is.shows;
  printed = then_nothing before a b (memory_text is.moment) is.printed none;
}
prints_then_nothing reader.List contents before a b none is = record {
  places = is.places;
  catalog = is.catalog;
  order = is.order;
  none_held = is.none_held;
  text = is.text;
  listing = is.listing;
  printed = then_nothing before a b is.text is.printed none;
}
prints_then_nothing reader.Verify contents before a b none is = record {
  shown = is.shown;
  shows = is.shows;
  printed = then_nothing before a b (verdict_text is.shown (length (filter is_open contents))) is.printed none;
}

-- a fault of the device or of the memory breaks printing off
pub breaks : (failed now : ℕ) (fault : Fault) → FaultNames (λ _ _. ⊥) fault → fault ≢ EmptyChain → (fault ≡ Device → failed < now) → IsBreak failed now (stop.Fault fault)
breaks failed now EmptyChain named some why = absurd (some refl)
breaks failed now (Damaged slot reason) named some why = absurd named
breaks failed now Device named some why = why refl
breaks failed now OutOfMemory named some why = tt

-- it says nothing against the store
pub outside : (failed now : ℕ) (why : Stop) → IsBreak failed now why → IsOutsideStore why
outside failed now why is = grind arith

-- it broke off what lasted longer
pub breaks_longer : (failed a b now : ℕ) (why : Stop) → failed ≤ a → b ≤ now → IsBreak a b why → IsBreak failed now why
breaks_longer failed a b now why before behind is = grind arith

-- and is why the program was stopped
pub why_of_break : (by : Reader) (contents : List (List ℕ)) (failed now : ℕ) (why : Stop) → IsBreak failed now why → IsWhy by contents failed now why
why_of_break by contents failed now why is = grind arith

pub why_longer : (by : Reader) (contents : List (List ℕ)) (failed a b now : ℕ) (why : Stop) → failed ≤ a → b ≤ now → IsWhy by contents a b why → IsWhy by contents failed now why
why_longer by contents failed a b now why before behind is = grind arith

-- a stop that says nothing against the store may come after lines
pub not_alone : (before after : Option (List ℕ)) (why : Stop) → IsOutsideStore why → StandsAlone before after why
not_alone before after why is = λ yes. absurd (let f : true ≡ false = sym yes ∙ is in cc)

pub none_alone : (failed now : ℕ) (before after : Option (List ℕ)) (result : Result Unit Stop) → IfErr result (IsBreak failed now) → IfErr result (StandsAlone before after)
none_alone failed now before after (Ok value) is = tt
none_alone failed now before after (Err why) is = not_alone before after why (outside failed now why is)

-- where nothing was printed, any stop stands alone
pub stands_alone : (same : Option (List ℕ)) (why : Stop) → StandsAlone same same why
stands_alone same why = λ _. Keeps-refl same

-- ---- what was kept in a vector, and then printed

-- it grew from nothing to this text, and then a writer took it
pub moved : (before after : Option (List ℕ)) (text wanted : List ℕ) → Appends (Some []) (Some text) wanted → Appends before after text → Appends before after wanted
moved before after text wanted is printed = subst (Appends before after) is printed

pub prints_moved : (by : Reader) (contents : List (List ℕ)) (before after : Option (List ℕ)) (text : List ℕ) → Prints by contents (Some []) (Some text) → Appends before after text
    → Prints by contents before after
prints_moved reader.Restore contents before after text is printed = record {
  moment = is.moment;
  shows = is.shows;
  printed = moved before after text (memory_text is.moment) is.printed printed;
}
prints_moved reader.List contents before after text is printed = record {
  places = is.places;
  catalog = is.catalog;
  order = is.order;
  none_held = is.none_held;
  text = is.text;
  listing = is.listing;
  printed = moved before after text is.text is.printed printed;
}
prints_moved reader.Verify contents before after text is printed = record {
  shown = is.shown;
  shows = is.shows;
  printed = moved before after text (verdict_text is.shown (length (filter is_open contents))) is.printed printed;
}
