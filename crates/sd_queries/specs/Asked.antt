-- What is asked of a store.
use Rattle.std.specs.Prelude.{ℕ, Bool, true, false, List, codes, not}
use Rattle.sd_json.specs.declared.moment.Document.TheVariants as document
use Rattle.sd_readers.specs.declared.steady.Reader.{Reader}
use Rattle.sd_readers.specs.declared.steady.Reader.TheVariants as reader
use Rattle.sd_readers.specs.declared.at.ReaderAt.{ReaderAt}
use Rattle.sd_readers.specs.declared.at.ReaderAt.TheVariants as at
use Rattle.sd_queries.specs.declared.queries.Query.{Query}
use Rattle.sd_queries.specs.declared.queries.Query.TheVariants as query

-- what is done with a store by a program that reads it
abbrev pub reader_verb : Reader → List ℕ
reader_verb reader.Restore = codes "restore"
reader_verb reader.List = codes "list"
reader_verb reader.Verify = codes "verify"

-- the same of one that reads one checkpoint
abbrev pub reader_at_verb : ReaderAt → List ℕ
reader_at_verb at.Restore = codes "restore"
reader_at_verb at.Verify = codes "verify"

-- what is done with the store
abbrev pub verb_text : Query → List ℕ
verb_text (query.Newest reader) = reader_verb reader
verb_text (query.Document (document.Newest reader)) = reader_verb reader
verb_text (query.At reader number) = reader_at_verb reader
verb_text (query.Document (document.At reader number)) = reader_at_verb reader
verb_text (query.AtLeast least) = codes "verify"
verb_text query.History = codes "history"
verb_text query.HistoryDocument = codes "history"
verb_text (query.Difference compared) = codes "diff"

-- the answer is one JSON document
abbrev pub has_document : Query → Bool
has_document query.HistoryDocument = true
has_document (query.Document document) = true
has_document (query.Difference compared) = compared.is_document
has_document _ = false

-- where the store lacks a checkpoint that is asked for, it is reported which ones it has
abbrev pub names_one_checkpoint : Query → Bool
names_one_checkpoint (query.At reader number) = true
names_one_checkpoint (query.Document (document.At reader number)) = true
names_one_checkpoint (query.Difference compared) = not compared.is_document
names_one_checkpoint _ = false
