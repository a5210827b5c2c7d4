use Rattle.std.proofs.Common.{◌≡◌, ◌++◌, ◌-◌, None, codes, length, get_or}
use Rattle.std.specs.Prelude.{flat_map}
use Rattle.std.specs.List.{range_with_len}
use Rattle.pdl_asm.specs.Assembly.{word_line}
use Rattle.pdl_asm.proofs.image.to_image.Given as goal

-- the lines so far, and those to come, are all
abbrev pub invariant-loop-address : goal.invariant-loop-address
invariant-loop-address l =
    l.text.items ++ flat_map (λ a. word_line l.table.mem l.table.word a (get_or l.slots a None)) (range_with_len l.address (length l.slots - l.address))
    ≡ codes "image 1\n" ++ flat_map (λ a. word_line l.table.mem l.table.word a (get_or l.slots a None)) (range_with_len 0 (length l.slots))
