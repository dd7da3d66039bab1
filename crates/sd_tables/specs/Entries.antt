-- How entries are stored as values.
use Rattle.std.specs.Prelude.{ℕ, Bool, Option, refl}
use Rattle.std.specs.Coded.{Coded, code_by, coded×, coded_bool, coded_ℕ, coded_option}
use Rattle.sd_areas.specs.declared.prot.Prot.{Prot}
use Rattle.sd_areas.specs.Codes.{prot_code}
use Rattle.sd_tables.specs.declared.entry.Entry.{Entry}

abbrev pub entry_code : Coded Entry
entry_code = code_by (Prot × (Option ℕ × (Bool × Bool)))
    (coded× prot_code (coded× (coded_option coded_ℕ) (coded× coded_bool coded_bool)))
    (λ e. (e.prot, (e.frame, (e.writable, e.soft_dirty))))
    (λ t. record { prot = t.0; frame = t.1.0; writable = t.1.1.0; soft_dirty = t.1.1.1 }) (λ _. refl)
