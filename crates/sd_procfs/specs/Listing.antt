-- The list of a space's areas, as text.
use Rattle.std.specs.Prelude.{ℕ, ◌+◌, ◌*◌, false, List, [], ◌∷◌, ◌++◌, codes}
use Rattle.std.specs.List.{flat_map}
use Rattle.std.specs.Fmt.{digits}
use Rattle.sd_areas.specs.declared.area.Area.{Area}
use Rattle.sd_areas.specs.Areas.{PageMap, areas_of}
use Rattle.sd_areas.specs.Prot.{prot_text}

-- an address: `0x` and lower case hexadecimal digits without leading zeros
abbrev pub address_text : ℕ → List ℕ
address_text address = codes "0x" ++ digits 16 false address

-- `area FIRST END PERMISSIONS`: its first address, the first after it, and `rwx` with a `-` for each that is missing
abbrev pub area_line : Area → List ℕ
area_line area =
    codes "area " ++ address_text (4096 * area.first) ++ codes " " ++ address_text (4096 * (area.first + area.count))
    ++ codes " " ++ prot_text area.prot ++ 10 ∷ []

-- a line for each area, rising
abbrev pub listing_text : PageMap → List ℕ
listing_text pages = flat_map area_line (areas_of pages)
