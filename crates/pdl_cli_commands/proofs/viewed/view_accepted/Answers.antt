use Rattle.std.proofs.Common.{◌≡◌, ◌∷◌, [], refl}
use Rattle.pdl_system.specs.Answers.{gave}
use Rattle.pdl_syntax_tree.specs.View.{pipe_view}
use Rattle.pdl_semantics.specs.Flatten.{flat}
use Rattle.pdl_semantics.specs.Lines.{view_lines}
use Rattle.pdl_rules.specs.Memories.{infos_of}
use Rattle.pdl_law_parts.specs.Places.{delayed_count}
use Rattle.pdl_law_follows.specs.Memories.{replies_in}
use Rattle.pdl_cli_args.specs.Line.{view}
use Rattle.pdl_cli_args.specs.View.{text_of}
use Rattle.pdl_netrun_lines.specs.Printed.{schedule}
use Rattle.pdl_cli_commands.proofs.Readings.{start_fails}
use Rattle.pdl_cli_commands.proofs.RightSources.{by_pipe}
use Rattle.pdl_cli_commands.proofs.Explanations.{silent_since}
use Rattle.pdl_cli_commands.proofs.BegunRuns.{begun_explains}
use Rattle.pdl_cli_commands.proofs.viewed.view_accepted.Goals as goal

pub returns-in-Ok-clause-explained : goal.returns-in-Ok-clause-explained
returns-in-Ok-clause-explained g c = λ source b accepted.
    let old = g.F.Files.answers c.args.files.now in
    let new = g.F.Files.answers c.start_of.new.files in
    let image' = c.args.image.now in
    let cycles = c.args.cycles in
    let delays = text_of c.args.delays in
    let start = c.in-Ok.start in
    let begun = c.in-Ok.ensures.ok in
    let p = pipe_view c.args.accepted.now.typed.pipe in
    let command = view source image' cycles delays in
    let judged = by_pipe (view source image' cycles delays) source b image' delays p accepted refl (λ ts rule position v. v) (λ ts rule position v. v) in
    begun_explains command source b image' delays (infos_of p.mems) (delayed_count (flat p)) judged old new start.image start.delays begun
    (g.F.Files.faults c.args.files.now) (g.F.Files.faults c.start_of.new.files) (g.O.Sink.written c.args.out.now)
    (g.O.Sink.written c.print_view.new.out) (g.O.Sink.faults c.args.out.now) (g.O.Sink.faults c.print_view.new.out) c.print_view.result
    (λ t. t ≡ view_lines p start.image (replies_in (flat p) (schedule start.delays cycles)))
    (λ t is. record {
      pipe = p;
      words = start.image;
      loaded = record { accepted = accepted; taken = begun.taken };
      schedule = schedule start.delays cycles;
      replies = begun.replies.replies cycles;
      lines = is;
    }) c.print_view.ensures.text

pub returns-in-Err-clause-explained : goal.returns-in-Err-clause-explained
returns-in-Err-clause-explained g c = λ source b accepted.
    let old = g.F.Files.answers c.args.files.now in
    let new = g.F.Files.answers c.start_of.new.files in
    let before = g.F.Files.faults c.args.files.now in
    let now = g.F.Files.faults c.start_of.new.files in
    let image' = c.args.image.now in
    let delays = text_of c.args.delays in
    let p = pipe_view c.args.accepted.now.typed.pipe in
    let command = view source image' c.args.cycles delays in
    let judged = by_pipe (view source image' c.args.cycles delays) source b image' delays p accepted refl (λ ts rule position v. v) (λ ts rule position v. v) in
    silent_since command c.in-Err.failure old new (gave source b ∷ []) before now (g.O.Sink.written c.args.out.now)
    (g.O.Sink.faults c.args.out.now) (g.O.Sink.faults c.args.out.now)
    (start_fails command source b image' delays (infos_of p.mems) (delayed_count (flat p)) judged old new before now c.in-Err.failure c.in-Err.ensures.err)
