-- The summary of a run from given words.
use Rattle.std.proofs.Common.{◌≡◌, ◌∙◌, ap, sym, refl, subst, arith, ℕ, zero, suc, ◌+◌, ◌%◌, ◌^◌, ◌<◌, List, [], ◌∷◌, ◌++◌, map, length, slice_index, slice_index_or}
use Rattle.std.specs.List.{range_with_len}
use Rattle.std.proofs.Math.Nat.{mod-lt}
use Rattle.std.proofs.lemmas.Nat.{pow_pos}
use Rattle.std.proofs.lemmas.List.{length-map, length-replicate}
use Rattle.std.proofs.lemmas.List.FromFn.{length-range_with_len, map-range_with_len_more}
use Rattle.pdl_kit.specs.declared.mem_info.MemInfo.{MemInfo}
use Rattle.pdl_semantics.specs.Tree.{Pipe}
use Rattle.pdl_semantics.specs.Flat.{arrays_of}
use Rattle.pdl_semantics.specs.Flatten.{flat}
use Rattle.pdl_semantics.specs.Cycle
use Rattle.pdl_semantics.specs.Lines.{turn_cycles}
use Rattle.pdl_rules.specs.Memories.{infos_of}
use Rattle.pdl_image.specs.Images.{IsImage}
use Rattle.pdl_source.proofs.RunPromises.{paces}
use Rattle.pdl_source.proofs.Texts.{source_of, named_of}
use Rattle.pdl_net.specs.declared.Netlist.{Netlist}
use Rattle.pdl_net.specs.Run.{start as begin, nports}
use Rattle.pdl_law_parts.specs.Runs.{cycle_of, commit_mems}
use Rattle.pdl_law_parts.proofs.LinesEnds.{same_end}
use Rattle.pdl_law_sides.specs.WholeNetlist.{in_order}
use Rattle.pdl_law_follows.specs.Memories.{replies_in}
use Rattle.pdl_law_follows.specs.Follows.{Follows}
use Rattle.pdl_law_follows.proofs.Images.{told_in_order}
use Rattle.pdl_law_follows.proofs.Lines.{shows_turns}
use Rattle.pdl_netrun_lines.specs.declared.print.RunCounts.{RunCounts}
use Rattle.pdl_netrun_lines.specs.Printed.{schedule}
use Rattle.pdl_netrun_lines.specs.Tally.{counts_of}
use Rattle.pdl_netrun_lines.proofs.RunSteps.{left_length}
use Rattle.pdl_cli_commands.specs.Replies.{all_answered}
use Rattle.pdl_cli_commands.specs.Commands.{IsAccepted, IsSummary}
use Rattle.pdl_cli_commands.specs.Summaries.{words_in, image_of, line_of, end_of}
use Rattle.pdl_cli_commands.proofs.AcceptedNetlists.{none_given, keeps_rules}

-- ---- its image

-- with one word more, cut to the width, the first k + 1 words of a memory are there
pub one_word_more : (ws : List ℕ) (width k word : ℕ) (old new : List ℕ)
    → word ≡ slice_index ws k % 2 ^ width → new ≡ old ++ word ∷ []
    → old ≡ map (λ address. slice_index ws address % 2 ^ width) (range_with_len 0 k)
    → new ≡ map (λ address. slice_index ws address % 2 ^ width) (range_with_len 0 (k + 1))
one_word_more ws width k word old new e more so_far =
    more ∙ ap (λ l. l ++ word ∷ []) so_far ∙ ap (λ w. map (λ address. slice_index ws address % 2 ^ width) (range_with_len 0 k) ++ w ∷ []) e
    ∙ sym (map-range_with_len_more (λ address. slice_index ws address % 2 ^ width) 0 k k (omega arith))

each_below : (w : ℕ) (f : ℕ → ℕ) (xs : List ℕ) (a : ℕ) → slice_index (map (λ x. f x % 2 ^ w) xs) a < 2 ^ w
each_below w f [] a = pow_pos w
each_below w f (x ∷ xs) zero = mod-lt (f x) (pow_pos w)
each_below w f (x ∷ xs) (suc a) = each_below w f xs a

as_many : (ws : List ℕ) (m : MemInfo) → length (words_in ws m) ≡ m.depth
as_many ws m = length-map (range_with_len 0 m.depth) (λ a. slice_index ws a % 2 ^ m.width) ∙ length-range_with_len 0 m.depth

depths : (ws : List ℕ) (ms : List MemInfo) (m : ℕ) (d : MemInfo)
    → m < length ms → length (slice_index_or (image_of ws ms) m []) ≡ (slice_index_or ms m d).depth
depths ws [] m d h = absurd (omega arith)
depths ws (x ∷ xs) zero d h = as_many ws x
depths ws (x ∷ xs) (suc m) d h = depths ws xs m d (omega arith)

widths : (ws : List ℕ) (ms : List MemInfo) (m : ℕ) (d : MemInfo)
    → m < length ms → (a : ℕ) → slice_index (slice_index_or (image_of ws ms) m []) a < 2 ^ (slice_index_or ms m d).width
widths ws [] m d h a = absurd (omega arith)
widths ws (x ∷ xs) zero d h a = each_below x.width (slice_index ws) (range_with_len 0 x.depth) a
widths ws (x ∷ xs) (suc m) d h a = widths ws xs m d (omega arith) a

-- the same words in each memory, as many as it has and cut to its width, are an image for these
pub is_image : (ws : List ℕ) (ms : List MemInfo) → IsImage ms (image_of ws ms)
is_image ws ms = record { count = length-map ms (words_in ws); depth = depths ws ms; width = widths ws ms }

-- ---- its line

-- the counts of a netlist that follows the pipe of a source
pub is_summary : (p : Pipe) (n : Netlist) (words : List ℕ) (start : List (List ℕ)) (cycles : ℕ) (counts : RunCounts) (line : List ℕ)
    → Follows p n → start ≡ image_of words n.mems
    → counts ≡ counts_of (map (cycle_of n) (nports n start (schedule [] cycles))) → line ≡ line_of cycles counts
    → (source : List ℕ) → IsAccepted source p → IsSummary source words cycles line
is_summary p n words start cycles counts line follows filled e said source accepted =
    let all = all_answered cycles in
    let kept = keeps_rules source p accepted in
    let cs = map (cycle_of n) (nports n start all) in
    let many : length cs ≡ cycles = left_length n (begin n start) all ∙ length-replicate cycles 65535 in
    let shown : line ≡ end_of cs =
    said ∙ ap (line_of cycles) (e ∙ ap (λ bits. counts_of (map (cycle_of n) (nports n start bits))) (none_given cycles))
    ∙ ap (λ k. line_of k (counts_of cs)) (sym many) in
    let is_image : IsImage n.mems start = subst (IsImage n.mems) (sym filled) (is_image words n.mems) in
    let ordered : image_of words (infos_of p.mems) ≡ in_order (flat p) start =
    sym (told_in_order (flat p) p.mems refl (words_in words))
    ∙ ap (λ ms. in_order (flat p) (image_of words ms)) (sym follows.mems) ∙ ap (in_order (flat p)) (sym filled) in
    let turns = shows_turns p kept (source_of source p accepted.text) (named_of source p accepted.text) n follows in
    record {
      pipe = p;
      accepted = accepted;
      filled = image_of words (infos_of p.mems);
      same = refl;
      counted =
          shown
          ∙ same_end n (commit_mems n) (infos_of p.mems) (nports n start all)
          ∙ ap end_of (turns.cycles start all is_image)
          ∙ ap (λ image. end_of (turn_cycles (Cycle.turns (flat p) (arrays_of image) (replies_in (flat p) all)))) (sym ordered);
      netlist = n;
      follows = follows;
      start = start;
      started = record { fits = is_image; ordered = ordered };
      shown = shown;
      pace = paces source p accepted.text kept (arrays_of (image_of words (infos_of p.mems))) (replies_in (flat p) all);
    }
