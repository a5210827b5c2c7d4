use Rattle.std.proofs.Common.{subst, sym}
use Rattle.pdl_syntax_tree.specs.View.{pipe_view}
use Rattle.pdl_form.specs.Form.{Form}
use Rattle.pdl_seq.specs.Fits.{IsImageFor}
use Rattle.pdl_seq.specs.Runs.{IsRunnable}
use Rattle.pdl_seq.proofs.FlatImages.{images}
use Rattle.pdl_seq.proofs.run.SeqRun.streaming.Goals as goal

pub of_flat-requires-clause-run : goal.of_flat-requires-clause-run
of_flat-requires-clause-run c =
    let a = c.args.accepted.now in
    subst IsRunnable (sym c.flat.ensures) (c.runnable.ensures (pipe_view a.typed.pipe) a.kept a.source a.letters)

pub of_flat-requires-clause-image : goal.of_flat-requires-clause-image
of_flat-requires-clause-image c =
    subst (λ (f : Form). IsImageFor f.pipe c.args.image.now) (sym c.flat.ensures)
    (images (pipe_view c.args.accepted.now.typed.pipe) c.args.image.now c.requires)
