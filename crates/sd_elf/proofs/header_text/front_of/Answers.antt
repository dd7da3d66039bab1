use Rattle.std.proofs.Common.{◌≡◌, ◌++◌, ℕ, List, length, ap, subst, ◌∙◌}
use Rattle.std.specs.List.{flat_map}
use Rattle.sd_elf.specs.Texts.{area_headers, core_header, file_header_text, front_text, note_header, own_note, padded, pages_place, program_header_text}
use Rattle.sd_elf.proofs.AreaLemmas.{front_parts}
use Rattle.sd_elf.proofs.header_text.front_of.Goals as goal

pub returns : goal.returns
unfolding front_text
returns c =
    let areas = c.args.areas.now in
    subst (λ (size : ℕ). c.pad_to.new.out.items ≡ padded (pages_place size (length areas)) (file_header_text (core_header (length areas))
    ++ program_header_text (note_header size (length areas)) ++ flat_map program_header_text (area_headers (pages_place size (length areas)) areas)
    ++ c.args.threads.now ++ own_note c.args.checkpoint c.args.space)) c.notes_size-size.ensures.exact
    (front_parts c.new-out.result.items c.put_file_header.new.out.items c.put_program_header.new.out.items c.put_area_headers.new.out.items c.put_threads.new.out.items c.put_own_note.new.out.items c.pad_to.new.out.items
    _ _ _ _ _ _ _ c.new-out.ensures.items
    (c.in_ok-put_file_header.ensures ∙ ap (λ h. c.new-out.result.items ++ file_header_text h) c.file_header.ensures)
    (c.in_ok-put_program_header.ensures ∙ ap (λ h. c.put_file_header.new.out.items ++ program_header_text h) c.note_header.ensures)
    (c.in_ok-put_area_headers.ensures ∙ ap (λ p. c.put_program_header.new.out.items ++ flat_map program_header_text (area_headers p c.args.areas.now)) c.pages_place-place.ensures)
    c.in_ok-put_threads.ensures
    c.in_ok-put_own_note.ensures
    c.in_ok-pad_to.ensures
    c.pages_place-place.ensures)
