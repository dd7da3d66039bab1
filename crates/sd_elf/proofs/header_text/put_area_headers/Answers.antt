use Rattle.std.proofs.Common.{◌+◌, ◌^◌, ◌≤◌, ◌++◌, ℕ, List, None, ap, sym, ◌∙◌, arith, append_assoc, take}
use Rattle.std.specs.Prelude.{sum_by}
use Rattle.std.specs.List.{flat_map}
use Rattle.sd_areas.specs.declared.area.Area.{Area}
use Rattle.sd_elf.specs.Texts.{area_header, area_headers, program_header_text}
use Rattle.sd_elf.proofs.AreaLemmas.{count_of, few_none, headers_more, maximal_within, sum_more}
use Rattle.sd_elf.proofs.header_text.put_area_headers.Goals as goal

pub area_header-requires : goal.area_header-requires
area_header-requires c = maximal_within None c.args.areas.now c.loop-area.area-index c.area-item.result c.requires.areas c.loop-area-test.true c.area-item.is

pub overflow_add-at : goal.overflow_add-at
overflow_add-at c =
    let few : sum_by count_of (take (c.loop-area.area-index + 1) c.args.areas.now) ≤ 2 ^ 35 = few_none c.args.areas.now (c.loop-area.area-index + 1) c.requires.areas in
    let more = sum_more c.args.areas.now c.loop-area.area-index c.area-item.result c.loop-area-test.true c.area-item.is in
    let place = c.loop-area.invariant.place in
    let least = c.requires.place in
    omega (arith, few, more, place, least)

pub loop-area-preserved : goal.loop-area-preserved
loop-area-preserved c =
    let was = c.loop-area.invariant in
    let i : ℕ = c.loop-area.area-index in
    let areas : List Area = c.args.areas.now in
    let area = c.area-item.result in
    let more = sum_more areas i area c.loop-area-test.true c.area-item.is in
    let place = was.place in
    record {
      place = omega (arith, more, place);
      written =
          c.in_ok-put_program_header.ensures
          ∙ ap (λ h. c.loop-area.out.items ++ program_header_text h) c.area_header.ensures
          ∙ ap (λ xs. xs ++ program_header_text (area_header area c.loop-area.at)) was.written
          ∙ append_assoc c.args.out.now.items (flat_map program_header_text (area_headers c.args.place (take i areas))) (program_header_text (area_header area c.loop-area.at))
          ∙ ap (λ xs. c.args.out.now.items ++ xs) (sym (headers_more c.args.place c.loop-area.at areas i area c.loop-area-test.true c.area-item.is place));
    }
