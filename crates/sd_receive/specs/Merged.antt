-- A memory that is copied into a slot, page by page, and becomes a merged image there.
use Rattle.std.specs.Prelude.{◌≡◌, ◌≢◌, ℕ, ◌<◌, List, [], ◌∷◌, ◌++◌, map, replicate, slice_get, Some}
use Rattle.std.specs.List.{AllZip}
use Rattle.sd_disk.specs.Contents.{file_at}
use Rattle.sd_image.specs.declared.digester.Digester.{Digester}
use Rattle.sd_image.specs.declared.header.Header.{Header}
use Rattle.sd_image.specs.declared.header.Kind.TheVariants.{Merged}
use Rattle.sd_image.specs.declared.header.Version.TheVariants.{Two}
use Rattle.sd_chain.specs.declared.found.Found.{Found}
use Rattle.sd_chain.specs.declared.found.Found.TheVariants as found
use Rattle.sd_chain.specs.Store.{bytes_at}
use Rattle.sd_gate.specs.Sequences.{data_place}
use Rattle.sd_restore.specs.Placed.{PlacedPage}
use Rattle.sd_receive.specs.declared.copying.Copied.{Copied}
use Rattle.sd_receive.specs.declared.mapped.MappedPage.{MappedPage}
use Rattle.sd_receive.specs.Arrived.{HasPages}

-- a mapped page and where its bytes are
abbrev pub page_of : MappedPage → PlacedPage
page_of p = record { space = p.space; page = p.page; prot = p.prot; there = p.there }

abbrev pub pages_seen : List MappedPage → List PlacedPage
pages_seen = map page_of

-- what lies there is zeros, or in one of so many slots, and not in this one
abbrev pub IsElsewhere : ℕ → ℕ → Found → Type 0
IsElsewhere slot count found.Zero = Unit {0}
IsElsewhere slot count (found.Data other offset) = (other ≢ slot) × (other < count)

-- every other slot has the same file
abbrev pub AreAlikeBut : ℕ → List (List ℕ) → List (List ℕ) → Type 0
AreAlikeBut slot old new = (other : ℕ) → other ≢ slot → file_at new other ≡ file_at old other

-- of these data pages of a slot one has these bytes and lies there, or they are zeros
abbrev pub LiesAmong : List (List ℕ) → ℕ → List ℕ → Found → Type 0
LiesAmong pages slot bytes found.Zero = bytes ≡ replicate 4096 0
LiesAmong pages slot bytes (found.Data other offset) =
    (other ≡ slot) × (place : ℕ) × (offset ≡ data_place place) × (slice_get pages place ≡ Some bytes)

-- these bytes are one data page more
pub record AddsBytes (bytes : List ℕ) (pages : List (List ℕ)) (contents : List (List ℕ))
    (may_leave : List (List ℕ) → Type 0) (slot count : ℕ) (digester : Digester) : Type 0 where
  pub has : HasPages contents may_leave slot count digester
  pub more : has.pages ≡ pages ++ bytes ∷ []

-- these bytes lie there among the data pages, of which there may be one more
pub record IsStoredAt (bytes : List ℕ) (pages : List (List ℕ)) (contents : List (List ℕ))
    (may_leave : List (List ℕ) → Type 0) (slot count : ℕ) (digester : Digester) (there : Found) : Type 0 where
  pub has : HasPages contents may_leave slot count digester
  pub later : List (List ℕ)
  pub more : has.pages ≡ pages ++ later
  pub lies : LiesAmong has.pages slot bytes there

-- the copy of a page: its bytes, as these contents have them, lie among the data pages of a slot
pub record IsCopyOf (from pages : List (List ℕ)) (slot : ℕ) (page copy : PlacedPage) : Type 0 where
  pub space : copy.space ≡ page.space
  pub number : copy.page ≡ page.page
  pub prot : copy.prot ≡ page.prot
  pub lies : LiesAmong pages slot (bytes_at from page.there) copy.there

-- the copies of pages, whose bytes are those that these contents have
pub record HasCopies (from contents : List (List ℕ)) (may_leave : List (List ℕ) → Type 0) (slot : ℕ)
    (pages : List PlacedPage) (copied : Copied) : Type 0 where
  pub has : HasPages contents may_leave slot copied.stored copied.digester
  pub each : AllZip (IsCopyOf from has.pages slot) pages (pages_seen copied.pages.items)

-- the header of an image that takes the place of another, without a parent
abbrev pub header_after : Header → ℕ → ℕ → ℕ → List ℕ → Header
header_after tip serial pages table_len digest = record {
  version = Two;
  kind = Merged;
  serial = serial;
  stands_for = tip.stands_for;
  parent = 0;
  checkpoint = tip.checkpoint;
  pages = pages;
  table_len = table_len;
  digest = digest;
}
