-- How permissions and plain memories are stored as values.
use Rattle.std.specs.Prelude.{Bool, ℕ, List, refl}
use Rattle.std.specs.Coded.{Coded, code_by, coded×, coded_bool, coded_ℕ, coded_list}
use Rattle.std.specs.FinMap as finmap
use Rattle.sd_areas.specs.declared.prot.Prot.{Prot}
use Rattle.sd_areas.specs.PlainMemory.{Page, Space, PlainMemory}

-- permissions are stored as the three of them
abbrev pub prot_code : Coded Prot
prot_code = code_by (Bool × (Bool × Bool)) (coded× coded_bool (coded× coded_bool coded_bool))
    (λ p. (p.read, (p.write, p.execute)))
    (λ t. record { read = t.0; write = t.1.0; execute = t.1.1 }) (λ _. refl)

-- a page is stored as its permissions and its bytes
abbrev pub plain_page_code : Coded Page
plain_page_code = code_by (Prot × List ℕ) (coded× prot_code (coded_list coded_ℕ))
    (λ p. (p.prot, p.bytes)) (λ t. record { prot = t.0; bytes = t.1 }) (λ _. refl)

abbrev pub space_code : Coded Space
space_code = finmap.code coded_ℕ plain_page_code

-- a plain memory is stored by space and then by page
abbrev pub plain_memory_code : Coded PlainMemory
plain_memory_code = finmap.code coded_ℕ space_code
