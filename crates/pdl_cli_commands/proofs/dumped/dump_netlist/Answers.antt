use Rattle.std.proofs.Common.{◌≡◌, ◌∷◌, [], length, refl, sym, subst}
use Rattle.pdl_system.specs.Answers.{gave}
use Rattle.pdl_net.specs.Run.{delayed_mems}
use Rattle.pdl_cli_args.specs.Line.{wave}
use Rattle.pdl_cli_args.specs.View.{text_of}
use Rattle.pdl_netrun_lines.specs.Printed.{schedule}
use Rattle.pdl_netrun_wave.specs.Dumped.{run_dump}
use Rattle.pdl_cli_commands.specs.Commands.{IsDumped}
use Rattle.pdl_cli_commands.proofs.AcceptedNetlists.{is_dumped}
use Rattle.pdl_cli_commands.proofs.Readings.{start_fails}
use Rattle.pdl_cli_commands.proofs.RightSources.{by_netlist}
use Rattle.pdl_cli_commands.proofs.Explanations.{silent_since}
use Rattle.pdl_cli_commands.proofs.BegunRuns.{begun_explains}
use Rattle.pdl_cli_commands.proofs.dumped.dump_netlist.Goals as goal

pub returns-in-Ok-clause-explained : goal.returns-in-Ok-clause-explained
returns-in-Ok-clause-explained g c = λ source b p accepted follows places.
    let old = g.F.Files.answers c.args.files.now in
    let new = g.F.Files.answers c.start_of.new.files in
    let image' = c.args.image.now in
    let cycles = c.args.cycles in
    let delays = text_of c.args.delays in
    let start = c.in-Ok.start in
    let begun = c.in-Ok.ensures.ok in
    let n = c.args.netlist.now in
    let command = wave source image' cycles delays in
    let judged = by_netlist (wave source image' cycles delays) source b image' delays p accepted refl (λ ts rule position v. v) (λ ts rule position v. v) n follows in
    begun_explains command source b image' delays n.mems (length (delayed_mems n)) judged old new start.image start.delays begun
    (g.F.Files.faults c.args.files.now) (g.F.Files.faults c.start_of.new.files) (g.O.Sink.written c.args.out.now)
    (g.O.Sink.written c.print_dump.new.out) (g.O.Sink.faults c.args.out.now) (g.O.Sink.faults c.print_dump.new.out) c.print_dump.result
    (λ t. t ≡ run_dump n start.image (schedule start.delays cycles))
    (λ t is. subst (IsDumped b begun.image_text cycles begun.replies.texts) (sym is)
    (is_dumped b p n accepted follows old new image' delays start.image start.delays begun cycles places c.requires.few)) c.print_dump.ensures.text

pub returns-in-Err-clause-explained : goal.returns-in-Err-clause-explained
returns-in-Err-clause-explained g c = λ source b p accepted follows places.
    let old = g.F.Files.answers c.args.files.now in
    let new = g.F.Files.answers c.start_of.new.files in
    let before = g.F.Files.faults c.args.files.now in
    let now = g.F.Files.faults c.start_of.new.files in
    let image' = c.args.image.now in
    let delays = text_of c.args.delays in
    let n = c.args.netlist.now in
    let command = wave source image' c.args.cycles delays in
    let judged = by_netlist (wave source image' c.args.cycles delays) source b image' delays p accepted refl (λ ts rule position v. v) (λ ts rule position v. v) n follows in
    silent_since command c.in-Err.failure old new (gave source b ∷ []) before now (g.O.Sink.written c.args.out.now)
    (g.O.Sink.faults c.args.out.now) (g.O.Sink.faults c.args.out.now)
    (start_fails command source b image' delays n.mems (length (delayed_mems n)) judged old new before now c.in-Err.failure c.in-Err.ensures.err)
