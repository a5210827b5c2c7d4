use Rattle.std.proofs.Common.{◌≡◌, ◌∙◌, ◌++◌, ap, codes, length, map, sym}
use Rattle.std.specs.Prelude.{decimal}
use Rattle.pdl_syntax_tree.specs.View.{pipe_view}
use Rattle.pdl_semantics.specs.Flat.{arrays_of}
use Rattle.pdl_semantics.specs.Lines.{seq_lines}
use Rattle.pdl_form.specs.Form.{Form}
use Rattle.pdl_form.specs.FormView.{form}
use Rattle.pdl_rules.proofs.ToldMemories.{infos_count}
use Rattle.pdl_cli_commands.proofs.ToldMemories.{names_short, widths_high}
use Rattle.pdl_law_parts.specs.Runs.{column_of}
use Rattle.pdl_cli_commands.proofs.Explanations.{written_streamed}
use Rattle.pdl_cli_commands.proofs.SequentialLines.{texts, printed}
use Rattle.pdl_cli_commands.proofs.sequential.sequential.Goals as goal

pub print_run-requires-clause-names : goal.print_run-requires-clause-names
print_run-requires-clause-names g c =
    names_short c.requires.accepted.0 (pipe_view c.args.accepted.now.typed.pipe) c.mems.result.now c.requires.accepted.1.text c.mems.ensures

pub print_run-requires-clause-widths : goal.print_run-requires-clause-widths
print_run-requires-clause-widths g c = widths_high (pipe_view c.args.accepted.now.typed.pipe) c.mems.result.now c.args.accepted.now.kept c.mems.ensures

pub print_run-requires-clause-mems : goal.print_run-requires-clause-mems
print_run-requires-clause-mems g c =
    ap (λ (f : Form). length f.pipe.mems) c.in-Ok.ensures.pipe
    ∙ sym (infos_count (pipe_view c.args.accepted.now.typed.pipe).mems) ∙ ap length (sym c.mems.ensures)

-- the text that is printed is that of the sequential run
pub returns-in-Ok-clause-text : goal.returns-in-Ok-clause-text
returns-in-Ok-clause-text g c =
    let p = pipe_view c.args.accepted.now.typed.pipe in
    let q = (form c.in-Ok.run'.pipe).pipe in
    let image = c.args.image.now in
    let k = c.args.threads in
    let text = texts (map column_of c.mems.result.now) q (arrays_of image) k ++ codes "end threads " ++ decimal k ++ codes "\n" in
    let is = printed p image k c.mems.result.now q c.mems.ensures (ap (λ (f : Form). f.pipe) c.in-Ok.ensures.pipe) ∙ c.lines.ensures p image k in
    written_streamed (λ t. t ≡ seq_lines p image k) text (g.O.Sink.written c.args.out.now)
    (g.O.Sink.written c.print_run.new.out) (g.O.Sink.faults c.args.out.now)
    (g.O.Sink.faults c.print_run.new.out) c.print_run.result c.in_writing.result c.in_writing.ensures is
    (c.print_run.ensures.bytes image c.in-Ok.ensures.run) c.print_run.ensures.cause
