-- What an answer printed of a store.
use Rattle.std.specs.Prelude.{◌≡◌, ℕ, ◌≤◌, Bool, List, [], ◌∷◌, ◌++◌, Option, Some}
use Rattle.std.specs.Io.KnownBytes.{Appends}
use Rattle.sd_areas.specs.PlainMemory.{PlainMemory}
use Rattle.sd_image.specs.Shows.{Shows}
use Rattle.sd_diff.specs.Difference.{HasBoth}
use Rattle.sd_json.specs.declared.moment.Document.{Document}
use Rattle.sd_json.specs.Documents.{IsDocument, IsTextOf}
use Rattle.sd_readers.specs.At.{PrintsAt}
use Rattle.sd_readers.specs.Printed.{Prints}
use Rattle.sd_readers.specs.Reading.{ReaderEnds}
use Rattle.sd_queries.specs.declared.queries.Query.{Query}
use Rattle.sd_queries.specs.declared.queries.Query.TheVariants as query

-- a line with the document that is asked for of contents
pub record PrintsDocument (document : Document) (contents : List (List ℕ))
    (before after : Option (List ℕ)) : Type 0 where
  pub text : List ℕ
  pub is : IsTextOf (IsDocument document contents) text
  pub printed : Appends before after (text ++ 10 ∷ [])

-- contents show a checkpoint with this number or a greater one
abbrev pub ShowsAtLeast : List (List ℕ) → ℕ → Type 0
ShowsAtLeast contents least = (moment : ℕ × PlainMemory) × Shows contents (Some moment) × (least ≤ moment.0)

-- what was printed of contents, nothing else, that answers a query; of the others what contents have then
abbrev pub IsAnswer : Query → List (List ℕ) → Option (List ℕ) → Option (List ℕ) → Type 0
IsAnswer (query.Newest reader) contents before after = Prints reader contents before after
IsAnswer (query.At reader number) contents before after = PrintsAt reader contents number before after
IsAnswer (query.Document document) contents before after = PrintsDocument document contents before after
IsAnswer (query.AtLeast least) contents before after = ShowsAtLeast contents least
IsAnswer (query.Difference compared) contents before after = HasBoth contents compared.old compared.new
IsAnswer _ contents before after = Unit {0}

-- A query was answered, with a status, from a store with these contents, on a device that had failed so often before
-- and so often now: status 0 comes with the answer. Of the newest checkpoint it is known what else may be printed.
abbrev pub Answers : Query → Type 0 → List (List ℕ) → ℕ → ℕ → Option (List ℕ) → Option (List ℕ) → Bool → ℕ → Type 0
Answers (query.Newest reader) IsHonest contents failed now before after refused status =
    ReaderEnds reader IsHonest contents failed now before after refused status
Answers asked IsHonest contents failed now before after refused status =
    IsHonest → status ≡ 0 → IsAnswer asked contents before after
