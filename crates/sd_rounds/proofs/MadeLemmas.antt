-- The image that a pass made.
use Rattle.std.proofs.Common.{◌≡◌, ℕ, zero, suc, ◌<◌, List, [], ◌∷◌, ◌++◌, length, replicate, Contains, Option, Some, None, MatchOption, refl, sym, ◌∙◌, ap, subst, arith}
use Rattle.std.specs.Prelude.{slice_get, unwrap_or}
use Rattle.std.specs.Option.{option_map, option_and_then}
use Rattle.std.specs.FinMap as finmap
use Rattle.std.specs.Ordering.{nat_cmp}
use Rattle.std.proofs.lemmas.Option.{slice_get_within}
use Rattle.sd_areas.specs.Areas.{prot_in}
use Rattle.sd_areas.specs.PlainMemory.{PlainMemory}
use Rattle.sd_areas.specs.PlainMemory as plain
use Rattle.sd_image.specs.declared.run.RunKind.TheVariants.{Data, Parent, Zero}
use Rattle.sd_image.specs.Image.{Image}
use Rattle.sd_image.specs.Shows.{Holds, IsMemory, IsNamed, page_in}
use Rattle.sd_image.specs.Shows.Holds.{by_data as holds_data, by_zero as holds_zero, by_parent as holds_parent}
use Rattle.sd_image.specs.Table.{Listed}
use Rattle.sd_pagetable.specs.Nested.{value_at}
use Rattle.sd_pagetable.specs.Page.{PageState, zeros, plain_page}
use Rattle.sd_pagetable.specs.Contents.{Contents, page_at, plain_of}
use Rattle.sd_pagetable.specs.Law.{PlainLaw}
use Rattle.sd_writing.specs.Entries.{Place, ImageEntry, pages_by, data_pages}
use Rattle.sd_rounds.specs.Pass.{Taking, Pass, taken_as_data}
use Rattle.sd_writing.specs.Files.{Stored, listed_pages}
use Rattle.sd_rounds.specs.Keeps.{Chain, EntriesGive, Gave, Keeps, Rests, ChainWithin}
use Rattle.sd_rounds.specs.Keeps.EntriesGive.{by_data, by_zero, by_parent}
use Rattle.sd_rounds.specs.Dump.{IsDumped}
use Rattle.sd_rounds.specs.Made.{IsImageOf, HasTheAreas, MadeLaws}
use Rattle.sd_rounds.proofs.Clean.{no_some, one_some}
use Rattle.sd_rounds.proofs.KeepsLemmas.{gives_agrees, writes}
use Rattle.sd_writing.proofs.EntryLemmas.{slice_get_back}

-- ---- what it holds

zero_pages : (bytes : List ℕ) → bytes ≡ zeros → bytes ≡ replicate 4096 0
unfolding zeros
zero_pages bytes e = e

holds : (stored : Stored) (chain : Chain) (entries : List ImageEntry) (i : Image) (at : Place) (bytes : List ℕ) → IsImageOf stored chain entries i
    → EntriesGive stored chain entries at bytes → Holds chain.images at.0 at.1 bytes i
holds stored chain entries i at bytes is (by_data place listed there) =
    holds_data i place (subst (λ (l : List Place). slice_get l place ≡ Some at) (sym (is.lists Data)) listed)
    (is.pages place (slice_get_within (pages_by Data entries) place at listed) ∙ there)
holds stored chain entries i at bytes is (by_zero listed zeroed) =
    holds_zero i (subst (λ (l : List Place). Contains l at) (sym (is.lists Zero)) listed) (zero_pages bytes zeroed)
holds stored chain entries i at bytes is (by_parent listed below) =
    holds_parent i below.0 (subst (λ (l : List Place). Contains l at) (sym (is.lists Parent)) listed)
    (subst (λ (n : ℕ). IsNamed chain.images n below.0) (sym is.parent) below.1) below.2

pub page_in_is : (memory : PlainMemory) (space page : ℕ) → page_in memory space page ≡ value_at memory space page
page_in_is memory space page = by (finmap.get memory space)
  where
    by : (o : Option plain.Space) → option_and_then (λ (pages : plain.Space). finmap.get pages page) o ≡ finmap.get (unwrap_or o finmap.empty) page
    by None = sym (finmap.get-empty nat_cmp page)
    by (Some pages) = refl

dumps : PlainLaw → (stored : Stored) (chain : Chain) (cut : Contents) (pass : Pass) (i : Image) → IsImageOf stored chain pass.entries i → HasTheAreas (plain_of cut) i.spaces
    → IsDumped stored chain cut pass → IsMemory chain.images i (plain_of cut)
dumps law stored chain cut pass i is has dumped = record {
  alive = has.alive;
  pages = λ s member page. by s page (page_in (plain_of cut) s.space page) (has.areas s member page)
      (page_in_is (plain_of cut) s.space page ∙ law.pages cut s.space page);
}
  where
    found : (s : Listed) (page : ℕ) (p : plain.Page) (o : Option PageState) → page_at cut s.space page ≡ o → Some p ≡ option_map plain_page o
        → Holds chain.images s.space page p.bytes i
    found s page p None there e = absurd (no_some p refl (sym e))
    found s page p (Some x) there e =
        subst (λ (b : List ℕ). Holds chain.images s.space page b i) (ap (λ (q : plain.Page). q.bytes) (one_some (plain_page x) p refl (sym e)))
        (holds stored chain pass.entries i (s.space, page) x.bytes is (dumped.bytes (s.space, page) x there))

    by : (s : Listed) (page : ℕ) (o : Option plain.Page) → prot_in s.areas page ≡ option_map (λ (p : plain.Page). p.prot) o
        → o ≡ option_map plain_page (page_at cut s.space page)
        → MatchOption o (prot_in s.areas page ≡ None) (λ p. (prot_in s.areas page ≡ Some p.prot) × Holds chain.images s.space page p.bytes i)
    by s page None prot e = prot
    by s page (Some p) prot e = (prot, found s page p (page_at cut s.space page) refl e)

-- ---- a page write, and the end

front_same : {X : Type 0} (xs ys : List X) (k : ℕ) → k < length xs → slice_get (xs ++ ys) k ≡ slice_get xs k
front_same [] ys k within = absurd (omega arith)
front_same (x ∷ xs) ys zero within = refl
front_same (x ∷ xs) ys (suc k) within = front_same xs ys k (omega arith)

takes_up : (pages : List (List ℕ)) (chain : Chain) (pass : Pass) (memory : Contents) (taking : Taking) → pass.taking ≡ Some taking → length taking.copied ≡ 4096
    → length pages ≡ data_pages pass.entries → Keeps (listed_pages pages) chain pass memory
    → Keeps (listed_pages (pages ++ taking.copied ∷ [])) chain (taken_as_data pass taking) memory
takes_up pages chain pass memory taking is long count =
    writes (listed_pages pages) (listed_pages (pages ++ taking.copied ∷ [])) chain pass memory taking is long
    (λ place within. front_same pages (taking.copied ∷ []) place (subst (λ n. place < n) (sym count) within))
    (subst (λ n. slice_get (pages ++ taking.copied ∷ []) n ≡ Some taking.copied) count (slice_get_back pages taking.copied))

commits : (stored : Stored) (before after : Chain) (entries : List ImageEntry) (memory : Contents) (i : Image) → IsImageOf stored after entries i
    → IsNamed after.images i.header.stands_for i → ChainWithin before after
    → Gave stored before entries memory → Rests (record { images = after.images; number = i.header.stands_for }) memory
commits stored before after entries memory i is named within gave = λ space number bytes clean. (
  i,
  named,
  holds stored after entries i (space, number) bytes is
      (gives_agrees stored stored before after entries (space, number) bytes (λ _ _. refl) within (gave space number bytes clean)),
)

pub made_laws : PlainLaw → MadeLaws
made_laws law = record {
  holds = holds;
  dumps = dumps law;
  takes_up = takes_up;
  commits = commits;
}
