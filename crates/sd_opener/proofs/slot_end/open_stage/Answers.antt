use Rattle.std.proofs.Common.{◌≡◌, ◌∙◌, Ok, length, vec_len, sym, ap, subst}
use Rattle.std.specs.Option.{option_map}
use Rattle.sd_image.specs.Reading.{header_in}
use Rattle.sd_gate.specs.Plans.{found_of}
use Rattle.sd_opener.proofs.Ends.{first_is_whole, its_table, whole_is}
use Rattle.sd_opener.proofs.slot_end.open_stage.Goals as goal

pub returns-then-len-ne-HEADER_SIZE-clause-sees : goal.returns-then-len-ne-HEADER_SIZE-clause-sees
returns-then-len-ne-HEADER_SIZE-clause-sees c file is whole =
    let long : vec_len c.in_ok-first.first ≡ length c.in_ok-first.first.items = c.in_ok-first.first.ok.0 in
    c.if-len-ne-HEADER_SIZE.true (c.len.ensures ∙ long
    ∙ first_is_whole file (found_of c.args.found) is (whole_is file whole) c.in_ok-first.first.items (ap (option_map (λ b. b.items)) c.in_ok-first.was))

pub returns-in_err-second-in-Ok-clause-sees : goal.returns-in_err-second-in-Ok-clause-sees
returns-in_err-second-in-Ok-clause-sees c file is whole =
    let read : header_in c.in_ok-first.first.items c.in_ok-len.len ≡ Ok c.in-Ok.header =
    subst (λ bytes. header_in bytes c.in_ok-len.len ≡ Ok c.in-Ok.header) c.deref.ensures.value (sym c.decode_header.ensures.exact ∙ c.in-Ok.is) in
    let table = its_table file (found_of c.args.found) is (whole_is file whole) c.in_ok-first.first.items c.in_ok-len.len c.in-Ok.header
    (ap (option_map (λ b. b.items)) c.in_ok-first.was) c.in_ok-len.was read in
    let none = ap (option_map (λ b. b.items)) c.in_err-second-in-Ok.was in
    absurd cc
