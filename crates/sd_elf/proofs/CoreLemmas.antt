-- Core files: their program headers, and what an error says of them.
use Rattle.std.proofs.Common.{◌≡◌, ◌+◌, ◌*◌, ℕ, zero, suc, List, [], ◌∷◌, ◌++◌, map, sym, ap, ◌∙◌, subst, arith, Option, Some, None, Result, Ok, Err, IfSome, IfErr, ◌/◌}
use Rattle.std.specs.Prelude.{filter, length, slice_range}
use Rattle.std.specs.List.{range_with_len}
use Rattle.std.proofs.lemmas.List.{map-append}
use Rattle.sd_elf.specs.declared.core_file.Core.{Core}
use Rattle.sd_elf.specs.declared.core_file.ReadError.{ReadError}
use Rattle.sd_elf.specs.declared.core_file.ReadError.TheVariants as error
use Rattle.sd_elf.specs.declared.fault.CoreFault.{CoreFault}
use Rattle.sd_elf.specs.declared.fault.CoreFault.TheVariants as core
use Rattle.sd_elf.specs.declared.fault.HeaderFault.{HeaderFault}
use Rattle.sd_elf.specs.declared.file_header.FileHeader.{FileHeader}
use Rattle.sd_elf.specs.declared.program_header.ProgramHeader.{ProgramHeader}
use Rattle.sd_elf.specs.Headers.{BreaksHeader, program_header_in}
use Rattle.sd_elf.specs.Segments.{AreSegments, BreaksAtSegment, is_memory, no_extent}
use Rattle.sd_elf.specs.Cores.{BeginsCore, HasCoreFault, IsCoreFile, IsErrorOf, IsHeaderTable, IsOutside, headers_of, program_headers_in}
use Rattle.sd_elf.proofs.SegmentLemmas.{first_break_none}

pub range_last : (a n : ℕ) → range_with_len a (suc n) ≡ range_with_len a n ++ (a + n) ∷ []
range_last a zero = ap (λ k. k ∷ []) (let e : a ≡ a + 0 = omega arith in e)
range_last a (suc n) = ap (λ ks. a ∷ ks) (range_last (a + 1) n ∙ ap (λ k. range_with_len (a + 1) n ++ k ∷ []) (let e : a + 1 + n ≡ a + suc n = omega arith in e))

-- one more program header
pub headers_more : (k : ℕ) (bytes : List ℕ) → program_headers_in (k + 1) bytes ≡ program_headers_in k bytes ++ program_header_in (slice_range bytes (56 * k) (56 * k + 56)) ∷ []
headers_more k bytes =
    let at : ℕ → ProgramHeader = λ k. program_header_in (slice_range bytes (56 * k) (56 * k + 56)) in
    ap (λ n. map at (range_with_len 0 n)) (let e : k + 1 ≡ suc k = omega arith in e)
    ∙ ap (map at) (range_last 0 k ∙ ap (λ n. range_with_len 0 k ++ n ∷ []) (let e : 0 + k ≡ k = omega arith in e))
    ∙ map-append at (range_with_len 0 k) (k ∷ [])

-- ---- a core that a space can have has no fault

-- what a fault says isn't so of the header of a core
header_unbroken : (bytes : List ℕ) (h : FileHeader) (f : HeaderFault) → BeginsCore bytes h → BreaksHeader (slice_range bytes 0 64) (length bytes) f → ⊥
header_unbroken bytes h f p b = grind arith

pub core_unbroken : (bytes : List ℕ) (segments : List ProgramHeader) (f : CoreFault) → IsCoreFile bytes segments → HasCoreFault bytes f → ⊥
core_unbroken bytes segments (core.Header f) p b = header_unbroken bytes p.header f p.begins b
core_unbroken bytes segments (core.Segment number f) p b =
    let same : b.header ≡ p.header = b.begins.header.fields ∙ sym p.begins.header.fields in
    first_break_none (length bytes) (headers_of bytes b.header) number f b.first
    (subst (AreSegments (length bytes) no_extent) (p.memory ∙ ap (λ h. filter is_memory (headers_of bytes h)) (sym same)) p.fits)

-- so an error of it says nothing of the bytes
pub core_unrefused : (bytes : List ℕ) (segments : List ProgramHeader) (e : ReadError) → IsCoreFile bytes segments → IsErrorOf bytes e → IsOutside e
core_unrefused bytes segments (error.Fault f) p b = core_unbroken bytes segments f p b
core_unrefused bytes segments _ p b = tt

pub never_refused : (o : Option (List ℕ)) (result : Result Core ReadError) → IfSome o (λ held. IfErr result (IsErrorOf held)) → IfSome o (λ held. (segments : List ProgramHeader) → IsCoreFile held segments → IfErr result IsOutside)
never_refused None result h = tt
never_refused (Some held) (Ok core) h = λ segments is. tt
never_refused (Some held) (Err e) h = λ segments is. core_unrefused held segments e is h

-- ---- the fault of a segment

pub table_headers : (held table : List ℕ) (t : IsHeaderTable held table) → program_headers_in (length table / 56) table ≡ headers_of held t.header
table_headers held table t = grind arith

segment_error : (held table : List ℕ) (size : ℕ) (headers : List ProgramHeader) (f : CoreFault) → size ≡ length held → IsHeaderTable held table → headers ≡ program_headers_in (length table / 56) table → BreaksAtSegment size headers f → HasCoreFault held f
segment_error held table size headers f whole t are b = grind arith

pub segment_told : (o : Option (List ℕ)) (table : List ℕ) (size : ℕ) (headers : List ProgramHeader) (f : CoreFault) → IfSome o (λ held. size ≡ length held) → IfSome o (λ held. size ≡ length held → IsHeaderTable held table)
    → headers ≡ program_headers_in (length table / 56) table → BreaksAtSegment size headers f → IfSome o (λ held. IsErrorOf held (error.Fault f))
segment_told o table size headers f whole t are b = grind arith

pub whole_told : (o : Option (List ℕ)) (size : ℕ) (e : ReadError) → IfSome o (λ held. size ≡ length held) → IfSome o (λ held. size ≡ length held → IsErrorOf held e) → IfSome o (λ held. IsErrorOf held e)
whole_told o size e whole h = grind arith
