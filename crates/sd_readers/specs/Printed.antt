-- What was printed of the contents of a store: the bytes that a writer holds grew by it.
use Rattle.std.specs.Prelude.{◌≡◌, ◌⊎◌, ℕ, List, [], ◌++◌, Option, Some, length, filter}
use Rattle.std.specs.Io.KnownBytes.{Appends, Keeps}
use Rattle.sd_areas.specs.PlainMemory.{PlainMemory}
use Rattle.sd_image.specs.Image.{is_open}
use Rattle.sd_image.specs.Shows.{Shows}
use Rattle.sd_chain.specs.Catalog.{Places, AreInOrder, IsHeld}
use Rattle.sd_chain.specs.Store.{IsCatalogOf}
use Rattle.sd_exit.specs.Texts.{PrintsBeginning}
use Rattle.sd_readers.specs.declared.steady.Reader.{Reader}
use Rattle.sd_readers.specs.declared.steady.Reader.TheVariants as reader
use Rattle.sd_readers.specs.Listing.{IsListing}
use Rattle.sd_readers.specs.Texts.{memory_text, verdict_text}

-- the checkpoint that the contents show, and its memory
pub record PrintsMemory (contents : List (List ℕ)) (before after : Option (List ℕ)) : Type 0 where
  pub moment : ℕ × PlainMemory
  pub shows : Shows contents (Some moment)
  pub printed : Appends before after (memory_text moment)

-- the images of the open slots, which are all in order
pub record PrintsImages (contents : List (List ℕ)) (before after : Option (List ℕ)) : Type 0 where
  pub places : Places
  pub catalog : IsCatalogOf contents places
  pub order : AreInOrder places
  pub none_held : (serial : ℕ) → IsHeld places serial → ⊥
  pub text : List ℕ
  pub listing : IsListing places text
  pub printed : Appends before after text

-- what the contents show, and how many slots are open
pub record PrintsVerdict (contents : List (List ℕ)) (before after : Option (List ℕ)) : Type 0 where
  pub shown : Option (ℕ × PlainMemory)
  pub shows : Shows contents shown
  pub printed : Appends before after (verdict_text shown (length (filter is_open contents)))

-- what a program that reads a store prints of its contents
abbrev pub Prints : Reader → List (List ℕ) → Option (List ℕ) → Option (List ℕ) → Type 0
Prints reader.Restore = PrintsMemory
Prints reader.List = PrintsImages
Prints reader.Verify = PrintsVerdict

-- nothing yet, or a beginning of the text of the contents: the text that a program prints of them where none was before
abbrev pub BeginsToPrint : Reader → List (List ℕ) → Option (List ℕ) → Option (List ℕ) → Type 0
BeginsToPrint reader contents before after =
    Keeps before after ⊎ ((text : List ℕ) × Prints reader contents (Some []) (Some text)
    × PrintsBeginning before after text)
