use Rattle.std.proofs.Common.{Err, ◌≡◌, ◌∷◌, [], ◌++◌, ◌+◌, ℕ, List, map, take, codes, ap, sym, ◌∙◌, subst, append_assoc, append-nil}
use Rattle.std.specs.List.{flat_map}
use Rattle.std.specs.Fmt.{decimal}
use Rattle.std.specs.Io.KnownBytes.{Appends}
use Rattle.std.proofs.KnownBytes.{Appends-trans}
use Rattle.std.proofs.lemmas.Grind.{flat_map-append}
use Rattle.std.proofs.lemmas.List.{map-append}
use Rattle.sd_disk.specs.Reads.{reads_join}
use Rattle.sd_image.specs.declared.table.SpaceTable.{SpaceTable}
use Rattle.sd_image.specs.Table.{Listed, listing_of}
use Rattle.sd_restore.specs.Placed.{PlacedPage, placed_pages}
use Rattle.sd_restore.proofs.TakeLemmas.{taken, taken_all}
use Rattle.std.proofs.lemmas.Result.{err_from_is_err_and}
use Rattle.sd_readers.proofs.BreakLemmas.{begun, checkpoint_line, memory_broken}
use Rattle.sd_exit.proofs.EndingLemmas.{always_on_fault}
use Rattle.sd_readers.specs.Texts.{placed_memory_text, placed_space_text}
use Rattle.sd_readers.proofs.restore.print_placed.Goals as goal

one_more : (contents : List (List ℕ)) (checkpoint : ℕ) (spaces : List Listed) (s : Listed) (pages : List PlacedPage)
    → placed_memory_text contents checkpoint (spaces ++ s ∷ []) pages ≡ placed_memory_text contents checkpoint spaces pages ++ placed_space_text contents pages s
one_more contents checkpoint spaces s pages =
    let head : List ℕ = codes "checkpoint " ++ decimal checkpoint ++ 10 ∷ [] in
    ap (λ xs. head ++ xs) (flat_map-append (placed_space_text contents pages) spaces (s ∷ []) ∙ ap (λ xs. flat_map (placed_space_text contents pages) spaces ++ xs) (append-nil (placed_space_text contents pages s)))
    ∙ sym (append_assoc head (flat_map (placed_space_text contents pages) spaces) (placed_space_text contents pages s))

pub loop-space-preserved : goal.loop-space-preserved
loop-space-preserved g c =
    let was = c.loop-space.invariant in
    let now = c.in_ok-print_space.ensures in
    let contents : List (List ℕ) = g.D.Disk.contents c.args.disk.now in
    let placed = c.args.placed.now in
    let items : List SpaceTable = placed.spaces.now in
    let i : ℕ = c.loop-space.space-index in
    let s = c.space-item.result in
    let pages = placed_pages placed.runs.items in
    let from = g.W.Write.contents c.args.out.now.writer in
    let mid = g.W.Write.contents c.loop-space.out.writer in
    let to = g.W.Write.contents c.print_space.new.out.writer in
    let more : map listing_of (take (i + 1) items) ≡ map listing_of (take i items) ++ listing_of s ∷ [] =
    ap (map listing_of) (taken items i s c.loop-space-test.true c.space-item.is) ∙ map-append listing_of (take i items) (s ∷ []) in
    record {
      reads = reads_join g.D.Disk c.args.disk.now c.loop-space.disk c.print_space.new.disk was.reads now.reads;
      printed = λ honest.
          subst (Appends from to) (sym (ap (λ spaces. placed_memory_text contents placed.checkpoint spaces pages) more ∙ one_more contents placed.checkpoint (map listing_of (take i items)) (listing_of s) pages))
          (Appends-trans from mid to (placed_memory_text contents placed.checkpoint (map listing_of (take i items)) pages) (placed_space_text contents pages (listing_of s)) (was.printed (now.reads.honest honest))
          (subst (λ contents. Appends mid to (placed_space_text contents pages (listing_of s))) was.reads.same
          (subst (λ runs. Appends mid to (placed_space_text (g.D.Disk.contents c.loop-space.disk) (placed_pages runs) (listing_of s))) c.deref.ensures.value (now.text honest))));
    }

pub returns-clause-text : goal.returns-clause-text
returns-clause-text g c = λ honest.
    let placed = c.args.placed.now in
    let items : List SpaceTable = placed.spaces.now in
    subst (λ spaces. Appends (g.W.Write.contents c.args.out.now.writer) (g.W.Write.contents c.loop-space.out.writer)
    (placed_memory_text (g.D.Disk.contents c.args.disk.now) placed.checkpoint (map listing_of spaces) (placed_pages placed.runs.items)))
    (taken_all items c.loop-space.space-index c.loop-space-test.false) (c.loop-space.invariant.printed honest)

pub returns-in_err-buffer-clause-begins : goal.returns-in_err-buffer-clause-begins
returns-in_err-buffer-clause-begins g c = λ honest.
    let placed = c.args.placed.now in
    let number : List ℕ = decimal placed.checkpoint in
    let rest : List ℕ = flat_map (placed_space_text (g.D.Disk.contents c.args.disk.now) (placed_pages placed.runs.items)) (map listing_of placed.spaces.now) in
    always_on_fault c.from_residual-in_err-buffer.result
    (begun (g.W.Write.contents c.args.out.now.writer) (g.W.Write.contents c.writeln.new.self.writer) (codes "checkpoint " ++ (number ++ 10 ∷ [])) rest
    (codes "checkpoint " ++ number ++ 10 ∷ [] ++ rest) (checkpoint_line number rest) c.in_ok-writeln.ensures.bytes)

pub returns-in_err-print_space-clause-begins : goal.returns-in_err-print_space-clause-begins
returns-in_err-print_space-clause-begins g c = λ honest.
    let was = c.loop-space.invariant in
    let now = c.in_err-print_space.ensures in
    let contents : List (List ℕ) = g.D.Disk.contents c.args.disk.now in
    let placed = c.args.placed.now in
    let items : List SpaceTable = placed.spaces.now in
    let p = err_from_is_err_and c.from_residual-in_err-print_space.result c.from_residual-in_err-print_space.ensures.1 in
    rw (p.1, p.2)
    (memory_broken contents placed.checkpoint items (placed_pages placed.runs.items) c.loop-space.space-index c.space-item.result c.loop-space-test.true c.space-item.is (Err c.in_err-print_space.field-0.0)
    (g.W.Write.contents c.args.out.now.writer) (g.W.Write.contents c.loop-space.out.writer) (g.W.Write.contents c.print_space.new.out.writer)
    (was.printed (now.reads.honest honest)) (rw (c.deref.ensures.value, was.reads.same) at (now.begins honest)))
