use Rattle.std.proofs.Common.{◌≡◌, ◌∷◌, [], length, refl, sym, subst}
use Rattle.pdl_system.specs.Answers.{gave}
use Rattle.pdl_net.specs.Run.{delayed_mems}
use Rattle.pdl_cli_args.specs.Line.{run, sim}
use Rattle.pdl_cli_args.specs.View.{text_of}
use Rattle.pdl_netrun_lines.specs.Printed.{run_text, schedule}
use Rattle.pdl_cli_commands.specs.Commands.{IsOutput}
use Rattle.pdl_cli_commands.proofs.AcceptedNetlists.{is_output}
use Rattle.pdl_cli_commands.proofs.Readings.{start_fails}
use Rattle.pdl_cli_commands.proofs.RightSources.{by_netlist, by_read}
use Rattle.pdl_cli_commands.proofs.Explanations.{silent_since}
use Rattle.pdl_cli_commands.proofs.BegunRuns.{begun_explains}
use Rattle.pdl_cli_commands.proofs.netrun.run_netlist.Goals as goal

pub returns-in-Ok-clause-source : goal.returns-in-Ok-clause-source
returns-in-Ok-clause-source g c = λ source b p accepted follows.
    let old = g.F.Files.answers c.args.files.now in
    let new = g.F.Files.answers c.start_of.new.files in
    let image' = c.args.image.now in
    let cycles = c.args.cycles in
    let delays = text_of c.args.delays in
    let start = c.in-Ok.start in
    let begun = c.in-Ok.ensures.ok in
    let n = c.args.netlist.now in
    let command = run source image' cycles delays in
    let judged = by_netlist (run source image' cycles delays) source b image' delays p accepted refl (λ ts rule position v. v) (λ ts rule position v. v) n follows in
    begun_explains command source b image' delays n.mems (length (delayed_mems n)) judged old new start.image start.delays begun
    (g.F.Files.faults c.args.files.now) (g.F.Files.faults c.start_of.new.files) (g.O.Sink.written c.args.out.now)
    (g.O.Sink.written c.print_run.new.out) (g.O.Sink.faults c.args.out.now) (g.O.Sink.faults c.print_run.new.out) c.print_run.result
    (λ t. t ≡ run_text n start.image (schedule start.delays cycles))
    (λ t is. subst (IsOutput b begun.image_text cycles begun.replies.texts) (sym is)
    (is_output b p n accepted follows old new image' delays start.image start.delays begun cycles)) c.print_run.ensures.text

pub returns-in-Ok-clause-netlist : goal.returns-in-Ok-clause-netlist
returns-in-Ok-clause-netlist g c = λ v b read.
    let old = g.F.Files.answers c.args.files.now in
    let new = g.F.Files.answers c.start_of.new.files in
    let image' = c.args.image.now in
    let cycles = c.args.cycles in
    let delays = text_of c.args.delays in
    let start = c.in-Ok.start in
    let begun = c.in-Ok.ensures.ok in
    let n = c.args.netlist.now in
    let command = sim v image' cycles delays in
    let judged = by_read v b image' cycles delays n read in
    begun_explains command v b image' delays n.mems (length (delayed_mems n)) judged old new start.image start.delays begun
    (g.F.Files.faults c.args.files.now) (g.F.Files.faults c.start_of.new.files) (g.O.Sink.written c.args.out.now)
    (g.O.Sink.written c.print_run.new.out) (g.O.Sink.faults c.args.out.now) (g.O.Sink.faults c.print_run.new.out) c.print_run.result
    (λ t. t ≡ run_text n start.image (schedule start.delays cycles))
    (λ t is. record {
      netlist = n;
      words = start.image;
      started = record { read = read; taken = begun.taken };
      schedule = schedule start.delays cycles;
      replies = begun.replies.replies cycles;
      printed = is;
    }) c.print_run.ensures.text

pub returns-in-Err-clause-source : goal.returns-in-Err-clause-source
returns-in-Err-clause-source g c = λ source b p accepted follows.
    let old = g.F.Files.answers c.args.files.now in
    let new = g.F.Files.answers c.start_of.new.files in
    let before = g.F.Files.faults c.args.files.now in
    let now = g.F.Files.faults c.start_of.new.files in
    let image' = c.args.image.now in
    let delays = text_of c.args.delays in
    let n = c.args.netlist.now in
    let command = run source image' c.args.cycles delays in
    let judged = by_netlist (run source image' c.args.cycles delays) source b image' delays p accepted refl (λ ts rule position v. v) (λ ts rule position v. v) n follows in
    silent_since command c.in-Err.failure old new (gave source b ∷ []) before now (g.O.Sink.written c.args.out.now)
    (g.O.Sink.faults c.args.out.now) (g.O.Sink.faults c.args.out.now)
    (start_fails command source b image' delays n.mems (length (delayed_mems n)) judged old new before now c.in-Err.failure c.in-Err.ensures.err)

pub returns-in-Err-clause-netlist : goal.returns-in-Err-clause-netlist
returns-in-Err-clause-netlist g c = λ v b read.
    let old = g.F.Files.answers c.args.files.now in
    let new = g.F.Files.answers c.start_of.new.files in
    let before = g.F.Files.faults c.args.files.now in
    let now = g.F.Files.faults c.start_of.new.files in
    let image' = c.args.image.now in
    let delays = text_of c.args.delays in
    let n = c.args.netlist.now in
    let command = sim v image' c.args.cycles delays in
    let judged = by_read v b image' c.args.cycles delays n read in
    silent_since command c.in-Err.failure old new (gave v b ∷ []) before now (g.O.Sink.written c.args.out.now)
    (g.O.Sink.faults c.args.out.now) (g.O.Sink.faults c.args.out.now)
    (start_fails command v b image' delays n.mems (length (delayed_mems n)) judged old new before now c.in-Err.failure c.in-Err.ensures.err)
