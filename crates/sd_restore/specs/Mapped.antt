-- The mapped pages of an image, in order.
use Rattle.std.specs.Prelude.{ℕ, List, map}
use Rattle.std.specs.List.{flat_map}
use Rattle.sd_areas.specs.declared.area.Area.{Area}
use Rattle.sd_areas.specs.declared.prot.Prot.{Prot}
use Rattle.sd_areas.specs.Areas.{area_pages}
use Rattle.sd_image.specs.Table.{Listed}

-- a mapped page, with its permissions
pub record Mapped : Type 0 where
  pub space : ℕ
  pub page : ℕ
  pub prot : Prot

-- these pages of a space, with the permissions of an area
abbrev pub mapped_with : ℕ → Area → List ℕ → List Mapped
mapped_with space area = map (λ page. record { space = space; page = page; prot = area.prot })

abbrev pub area_mapped : ℕ → Area → List Mapped
area_mapped space area = mapped_with space area (area_pages area)

abbrev pub space_mapped : Listed → List Mapped
space_mapped s = flat_map (area_mapped s.space) s.areas

-- the mapped pages of an image, rising by space and page
abbrev pub mapped_pages : List Listed → List Mapped
mapped_pages = flat_map space_mapped
