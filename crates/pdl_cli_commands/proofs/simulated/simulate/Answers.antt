use Rattle.std.proofs.Common.{◌∷◌, refl}
use Rattle.pdl_system.specs.Answers.{gave}
use Rattle.pdl_cli_args.specs.Line.{sim}
use Rattle.pdl_cli_args.specs.View.{text_of}
use Rattle.pdl_vread.proofs.WellFormed.{reads_well}
use Rattle.pdl_cli_commands.specs.Reading.{listed}
use Rattle.pdl_cli_commands.specs.Begun.{IsRefusedNetlist}
use Rattle.pdl_cli_commands.proofs.ReadNames.{mems_short}
use Rattle.pdl_cli_commands.proofs.Explanations.{after_first, first_fails}
use Rattle.pdl_cli_commands.proofs.simulated.simulate.Goals as goal

pub run_netlist-requires-clause-well : goal.run_netlist-requires-clause-well
run_netlist-requires-clause-well g c = reads_well c.in-Ok.ensures.ok.0 c.in-Ok.read c.in-Ok.ensures.ok.2

pub run_netlist-requires-clause-short : goal.run_netlist-requires-clause-short
run_netlist-requires-clause-short g c = mems_short c.in-Ok.ensures.ok.0 c.in-Ok.read c.in-Ok.ensures.ok.2

pub returns-in-Ok-clause-explained : goal.returns-in-Ok-clause-explained
returns-in-Ok-clause-explained g c =
    let a = c.in-Ok.ensures.ok in
    let v = c.args.netlist.now in
    after_first (sim v c.args.image.now c.args.cycles (text_of c.args.delays)) c.run_netlist.result (g.F.Files.answers c.args.files.now)
    (g.F.Files.answers c.netlist_of_file.new.files) (g.F.Files.answers c.run_netlist.new.files) (gave v a.0) (g.F.Files.faults c.args.files.now)
    (g.F.Files.faults c.netlist_of_file.new.files) (g.F.Files.faults c.run_netlist.new.files) (g.O.Sink.written c.args.out.now)
    (g.O.Sink.written c.run_netlist.new.out) (g.O.Sink.faults c.args.out.now) (g.O.Sink.faults c.run_netlist.new.out) a.1
    c.netlist_of_file.ensures.later (c.run_netlist.ensures.netlist v a.0 a.2)

pub returns-in-Err-clause-explained : goal.returns-in-Err-clause-explained
returns-in-Err-clause-explained g c =
    let v = c.args.netlist.now in
    first_fails (sim v c.args.image.now c.args.cycles (text_of c.args.delays)) v (c.args.image.now ∷ listed (text_of c.args.delays)) IsRefusedNetlist
    (g.F.Files.answers c.args.files.now) (g.F.Files.answers c.netlist_of_file.new.files) (g.F.Files.faults c.args.files.now)
    (g.F.Files.faults c.netlist_of_file.new.files) (g.O.Sink.written c.args.out.now) (g.O.Sink.faults c.args.out.now)
    (g.O.Sink.faults c.args.out.now) c.in-Err.failure refl (λ text rule position r. r) c.in-Err.ensures.err
