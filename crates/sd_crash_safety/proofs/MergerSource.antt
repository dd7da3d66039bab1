-- What a merge reads: its source in the catalog, and the steps of its copy.
use Rattle.std.proofs.Common.{ℕ, ◌<◌, List, Contains, get_or, subst}
use Rattle.std.proofs.lemmas.List.Elements.{Contains-get_or}
use Rattle.sd_image.specs.declared.header.Header.{Header}
use Rattle.sd_image.specs.Image.{Image, IsImage}
use Rattle.sd_image.specs.Laws.{HaveTables, PageInFile}
use Rattle.sd_image.specs.Table.{IsTable}
use Rattle.sd_chain.specs.Catalog.{IsSoundCatalog, Places, images}
use Rattle.sd_chain.specs.Recorded.{Agrees, CatalogLists, HaveDataPages}
use Rattle.sd_chain.specs.Ways.{AreImages}
use Rattle.sd_merge.specs.Merging.{IsSourceAt}
use Rattle.sd_store_laws.specs.LiveImages.{LiveCatalogAgrees}

-- what the catalog says
pub record KnowsCatalog (places : Places) : Type 0 where
  pub sound : IsSoundCatalog places
  pub tells : LiveCatalogAgrees places
  pub agrees : (all : List Image) → CatalogLists places all → Agrees places all
  pub page : PageInFile

module _ (places : Places) (knows : KnowsCatalog places) (all : List Image) (spelled : (i : Image) → Contains all i → (file : List ℕ) × IsImage file i)
    (fall : (i : Image) → Contains all i → i.header.parent < i.header.stands_for) (told : CatalogLists places all) where
  pub tables_of : HaveTables all
  tables_of i member = (spelled i member).1.table

  pub pages_of_all : HaveDataPages all
  pages_of_all i member place page at =
      let file = spelled i member in
      (_, (knows.page file.0 i page place file.1 at).1)

  pub are_images : AreImages places
  are_images = record {
    tables = λ k d within.
        let o = get_or (images places) k d in
        let i = told.image o (Contains-get_or (images places) k d within) in
        subst (λ (h : Header). IsTable h o.spaces) i.2.header (subst (IsTable i.0.header) i.2.spaces (tables_of i.0 i.1));
    fall = λ k d within.
        let o = get_or (images places) k d in
        let i = told.image o (Contains-get_or (images places) k d within) in
        subst (λ (h : Header). h.parent < h.stands_for) i.2.header (fall i.0 i.1);
  }

  pub source_in : (image : Image) → Contains all image → IsSourceAt places all image.header.serial image
  source_in image member =
      let o = (knows.agrees all told).stands image member in
      record {
        sound = knows.sound;
        are = are_images;
        agrees = knows.agrees all told;
        pages = pages_of_all;
        opened = o.0;
        there = o.1;
        among = knows.sound.member image.header.serial o.0 o.1;
        member = member;
        told = o.2;
      }
