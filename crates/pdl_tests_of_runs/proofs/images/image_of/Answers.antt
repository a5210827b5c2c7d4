use Rattle.pdl_syntax_tree.specs.View.{pipe_view}
use Rattle.pdl_cli_commands.proofs.ToldMemories.{names_differ, widths_low, widths_high}
use Rattle.pdl_tests_of_runs.proofs.images.image_of.Goals as goal

pub read_image-requires-clause-names : goal.read_image-requires-clause-names
read_image-requires-clause-names c =
    names_differ (pipe_view c.args.accepted.now.typed.pipe) c.mems.result.now c.args.accepted.now.kept c.mems.ensures

pub read_image-requires-clause-low : goal.read_image-requires-clause-low
read_image-requires-clause-low c =
    widths_low (pipe_view c.args.accepted.now.typed.pipe) c.mems.result.now c.args.accepted.now.kept c.mems.ensures

pub read_image-requires-clause-high : goal.read_image-requires-clause-high
read_image-requires-clause-high c =
    widths_high (pipe_view c.args.accepted.now.typed.pipe) c.mems.result.now c.args.accepted.now.kept c.mems.ensures
