use Rattle.std.proofs.Common.{◌∙◌, ap, subst, sym, refl, append-nil, ◌∷◌, [], ℕ, List, Option}
use Rattle.std.specs.Prelude.{IfOk, IfErr}
use Rattle.std.specs.Borrow.{Bor}
use Rattle.std.proofs.lemmas.Result.{IfOk-weaker, IfErr-weaker}
use Rattle.pdl_cli_args.specs.View.{text_of}
use Rattle.pdl_netrun_lines.specs.Printed.{schedule}
use Rattle.pdl_cli_commands.specs.Begun.{HasReplies, DelaysFail}
use Rattle.pdl_cli_commands.proofs.AcceptedNetlists.{none_given}
use Rattle.pdl_cli_commands.proofs.start.replies.Goals as goal

pub returns-in-None-clause-ok : goal.returns-in-None-clause-ok
returns-in-None-clause-ok g c =
    let answers = g.F.Files.answers c.args.files.now in
    subst (λ (name : Option (Bor (List ℕ))). HasReplies answers answers (text_of name) c.args.count c.none.result) (sym c.in-None.is)
    (record {
      texts = [];
      each = refl;
      given = sym (append-nil answers);
      replies = λ cycles. ap (λ rows. schedule rows cycles) c.none.ensures ∙ none_given cycles;
    })

pub returns-in-Some-clause-ok : goal.returns-in-Some-clause-ok
returns-in-Some-clause-ok g c =
    let old = g.F.Files.answers c.args.files.now in
    let new = g.F.Files.answers c.read_rows.new.files in
    subst (λ (name : Option (Bor (List ℕ))). IfOk c.read_rows.result (HasReplies old new (text_of name) c.args.count)) (sym c.in-Some.is)
    (IfOk-weaker c.read_rows.result _ _
    (λ d w. record { texts = w.0 ∷ []; each = refl; given = w.1; replies = λ cycles. (d, w.2, refl) }) c.read_rows.ensures.ok)

pub returns-in-Some-clause-err : goal.returns-in-Some-clause-err
returns-in-Some-clause-err g c =
    let old = g.F.Files.answers c.args.files.now in
    let new = g.F.Files.answers c.read_rows.new.files in
    subst (λ (name : Option (Bor (List ℕ))). IfErr c.read_rows.result
    (DelaysFail (text_of name) c.args.count old new (g.F.Files.faults c.args.files.now) (g.F.Files.faults c.read_rows.new.files))) (sym c.in-Some.is)
    c.read_rows.ensures.err
