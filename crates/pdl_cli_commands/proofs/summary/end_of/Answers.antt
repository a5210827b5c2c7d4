use Rattle.std.proofs.Common.{◌≡◌, ◌∙◌, ◌≤◌, All, ap, map, sym, subst, ℕ, List}
use Rattle.pdl_syntax_tree.specs.View.{pipe_view}
use Rattle.pdl_image.specs.Images.{IsImage}
use Rattle.pdl_net.specs.Run.{nports}
use Rattle.pdl_law_parts.specs.Runs.{cycle_of}
use Rattle.pdl_netrun_lines.specs.Printed.{schedule}
use Rattle.pdl_netrun_lines.specs.Tally.{counts_of}
use Rattle.pdl_vread.proofs.Memories.{mems_wide}
use Rattle.pdl_cli_commands.specs.Summaries.{image_of}
use Rattle.pdl_cli_commands.proofs.OutputCount.{two_outputs}
use Rattle.pdl_cli_commands.proofs.RunSummaries.{is_image, is_summary}
use Rattle.pdl_cli_commands.proofs.summary.end_of.Goals as goal
use Rattle.pdl_word.specs.Words.{widest}

pub image_of-requires-clause-low : goal.image_of-requires-clause-low
image_of-requires-clause-low c =
    subst (All (λ m. 1 ≤ m.width)) (sym c.as_slice.ensures) (λ k d l. (mems_wide c.in_ok-netlist.netlist c.in_ok-netlist.ensures.follows.well_formed k d l).0)

pub image_of-requires-clause-high : goal.image_of-requires-clause-high
image_of-requires-clause-high c =
    subst (All (λ m. m.width ≤ widest)) (sym c.as_slice.ensures) (λ k d l. (mems_wide c.in_ok-netlist.netlist c.in_ok-netlist.ensures.follows.well_formed k d l).1)

pub count-requires-clause-well : goal.count-requires-clause-well
count-requires-clause-well c = c.in_ok-netlist.ensures.follows.well_formed

pub count-requires-clause-image : goal.count-requires-clause-image
count-requires-clause-image c =
    let n = c.in_ok-netlist.netlist in
    let filled : c.in_ok-image.image ≡ image_of c.args.words.now n.mems = c.in_ok-image.ensures ∙ ap (image_of c.args.words.now) c.as_slice.ensures in
    subst (λ (i : List (List ℕ)). IsImage n.mems i) (sym filled) (is_image c.args.words.now n.mems)

pub count-requires-clause-two : goal.count-requires-clause-two
count-requires-clause-two c = two_outputs c.in_ok-netlist.netlist c.in_ok-netlist.ensures.follows.well_formed.pipe

pub returns : goal.returns
returns c =
    let n = c.in_ok-netlist in
    let filled : c.in_ok-image.image ≡ image_of c.args.words.now n.netlist.mems = c.in_ok-image.ensures ∙ ap (image_of c.args.words.now) c.as_slice.ensures in
    is_summary (pipe_view c.args.accepted.now.typed.pipe) n.netlist c.args.words.now c.in_ok-image.image c.args.cycles c.in_ok-counts.counts c.end_line.result
    n.ensures.follows filled
    (c.in_ok-counts.ensures
    ∙ ap
    (λ rows. counts_of
    (map (cycle_of n.netlist) (nports n.netlist c.in_ok-image.image (schedule rows c.args.cycles)))) c.none-delays.ensures) c.end_line.ensures
