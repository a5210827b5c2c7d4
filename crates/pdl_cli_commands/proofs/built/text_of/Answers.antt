use Rattle.pdl_syntax_tree.specs.View.{pipe_view}
use Rattle.pdl_source_written.proofs.Sources.{names}
use Rattle.pdl_cli_commands.proofs.AcceptedNetlists.{is_built, both_ok}
use Rattle.pdl_cli_commands.proofs.built.text_of.Goals as goal

pub verilog_text-text-requires-clause-well : goal.verilog_text-text-requires-clause-well
verilog_text-text-requires-clause-well c = c.in_ok-netlist.ensures.follows.well_formed

pub verilog_text-text-requires-clause-names : goal.verilog_text-text-requires-clause-names
verilog_text-text-requires-clause-names c =
    let n = c.in_ok-netlist in
    names c.requires.0 (pipe_view c.args.accepted.now.typed.pipe) n.netlist c.requires.1.text n.ensures.follows

pub returns : goal.returns
returns c =
    let n = c.in_ok-netlist in
    both_ok c.verilog_text-text.result _ _ _
    (λ t text reads source accepted. is_built source
    (pipe_view c.args.accepted.now.typed.pipe) n.netlist accepted n.ensures.follows t.items n.ensures.places text reads)
    c.verilog_text-text.ensures.text c.verilog_text-text.ensures.reads
