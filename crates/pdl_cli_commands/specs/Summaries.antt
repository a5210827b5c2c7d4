-- The end line of a run from given words.
use Rattle.std.specs.Prelude.{ℕ, ◌%◌, ◌^◌, List, map, length, slice_index}
use Rattle.std.specs.List.{range_with_len}
use Rattle.pdl_kit.specs.declared.mem_info.MemInfo.{MemInfo}
use Rattle.pdl_semantics.specs.Lines.{Cycle, end_line}
use Rattle.pdl_netrun_lines.specs.declared.print.RunCounts.{RunCounts}
use Rattle.pdl_netrun_lines.specs.Tally.{counts_of}

-- the words in a memory: the first of them, as many as it has, each cut to its width, with zeros after them
abbrev pub words_in : List ℕ → MemInfo → List ℕ
words_in ws m = map (λ address. slice_index ws address % 2 ^ m.width) (range_with_len 0 m.depth)

-- each memory has the same words
abbrev pub image_of : List ℕ → List MemInfo → List (List ℕ)
image_of ws ms = map (words_in ws) ms

-- the end line of so many cycles with these counts
abbrev pub line_of : ℕ → RunCounts → List ℕ
line_of cycles n = end_line cycles n.ended n.waits n.squashes

-- the end line of these cycles
abbrev pub end_of : List Cycle → List ℕ
end_of cs = line_of (length cs) (counts_of cs)
