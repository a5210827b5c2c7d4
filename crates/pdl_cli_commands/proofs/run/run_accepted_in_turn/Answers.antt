use Rattle.std.proofs.Common.{◌≡◌, ◌∷◌, [], refl, inl}
use Rattle.std.specs.Prelude.{Some, None, Err}
use Rattle.pdl_system.specs.Answers.{gave}
use Rattle.pdl_syntax_tree.specs.View.{pipe_view}
use Rattle.pdl_semantics.specs.Flatten.{flat}
use Rattle.pdl_semantics.specs.Lines.{seq_lines}
use Rattle.pdl_rules.specs.Memories.{infos_of}
use Rattle.pdl_law_parts.specs.Places.{delayed_count}
use Rattle.pdl_cli_args.specs.Line.{seq}
use Rattle.pdl_cli_commands.specs.Outcomes.{seen_of}
use Rattle.pdl_cli_commands.proofs.Readings.{reads_next, may_image, start_fails}
use Rattle.pdl_cli_commands.proofs.RightSources.{by_pipe}
use Rattle.pdl_cli_commands.proofs.Explanations.{silent_since, streamed_explains}
use Rattle.pdl_cli_commands.proofs.run.run_accepted_in_turn.Goals as goal

pub returns-in-Ok-clause-explained : goal.returns-in-Ok-clause-explained
returns-in-Ok-clause-explained g c = λ source b taken.
    let w = c.in-Ok.ensures.ok in
    let image' = c.args.image.now in
    let p = pipe_view c.args.accepted.now.typed.pipe in
    let command = seq source image' c.args.threads in
    let judged = by_pipe command source b image' None p taken refl (λ ts rule position v. v) (λ ts rule position v. v) in
    let may = may_image command source b image' None (infos_of p.mems) (delayed_count (flat p)) judged in
    record {
      reads = gave image' w.0 ∷ [];
      since = w.1;
      so =
          streamed_explains command
          (seen_of (gave source b ∷ gave image' w.0 ∷ []) (g.F.Files.faults c.args.files.now) (g.F.Files.faults c.load.new.files)
          (g.O.Sink.written c.args.out.now) (g.O.Sink.written c.sequential.new.out) (g.O.Sink.faults c.args.out.now)
          (g.O.Sink.faults c.sequential.new.out)) c.sequential.result
          (λ t. t ≡ seq_lines p c.in-Ok.words c.args.threads)
          (reads_next command (gave source b ∷ []) image' may (Some w.0)) refl
          (λ t is. record { pipe = p; words = c.in-Ok.words; loaded = record { accepted = taken; taken = w.2 }; lines = is }) c.sequential.ensures.text;
    }

pub returns-in-Err-clause-explained : goal.returns-in-Err-clause-explained
returns-in-Err-clause-explained g c = λ source b taken.
    let image' = c.args.image.now in
    let old = g.F.Files.answers c.args.files.now in
    let new = g.F.Files.answers c.load.new.files in
    let before = g.F.Files.faults c.args.files.now in
    let now = g.F.Files.faults c.load.new.files in
    let p = pipe_view c.args.accepted.now.typed.pipe in
    let command = seq source image' c.args.threads in
    let judged = by_pipe command source b image' None p taken refl (λ ts rule position v. v) (λ ts rule position v. v) in
    silent_since command c.in-Err.failure old new (gave source b ∷ []) before now (g.O.Sink.written c.args.out.now)
    (g.O.Sink.faults c.args.out.now) (g.O.Sink.faults c.args.out.now)
    (start_fails command source b image' None (infos_of p.mems) (delayed_count (flat p)) judged old new before now c.in-Err.failure
    (inl c.in-Err.ensures.err))
