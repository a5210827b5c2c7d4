use Rattle.std.proofs.lemmas.Result.{IfOk-weaker}
use Rattle.pdl_syntax_tree.specs.View.{pipe_view}
use Rattle.pdl_source_written.proofs.Sources.{names}
use Rattle.pdl_names_text.proofs.named.text_of.Goals as goal

pub text_with-text-requires-clause-well : goal.text_with-text-requires-clause-well
text_with-text-requires-clause-well c = c.in_ok-named.ensures.follows.well_formed

pub text_with-text-requires-clause-names : goal.text_with-text-requires-clause-names
text_with-text-requires-clause-names c =
    let n = c.in_ok-named in
    names c.requires.0 (pipe_view c.args.accepted.now.typed.pipe) n.named.netlist c.requires.1.text n.ensures.follows

pub returns : goal.returns
returns c =
    let n = c.in_ok-named in
    IfOk-weaker c.text_with-text.result _ _
    (λ t text. record {
      netlist = n.named.netlist;
      names = n.named.names.items;
      follows = n.ensures.follows;
      named = n.ensures.names;
      same = text;
    })
    c.text_with-text.ensures
