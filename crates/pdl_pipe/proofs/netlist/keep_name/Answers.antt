use Rattle.std.proofs.Common.{◌++◌, ◌∷◌, [], sym, ap, ◌∙◌}
use Rattle.pdl_net.specs.declared.Net.{Net}
use Rattle.pdl_pipe.proofs.KeptNames.{kept_one, kept_none}
use Rattle.pdl_pipe.proofs.netlist.keep_name.Goals as goal

pub returns-then-not-has : goal.returns-then-not-has
returns-then-not-has c = kept_none c.args.kept.now c.args.found.now.items c.args.x (sym c.has.ensures ∙ c.if-not-has.true)

pub returns : goal.returns
returns c =
    c.in_ok-name.ensures
    ∙ ap (λ (y : Net). c.args.found.now.items ++ record { net = y; role = c.args.x.role } ∷ []) c.net.ensures
    ∙ kept_one c.args.kept.now c.args.found.now.items c.args.x (sym c.has.ensures ∙ c.if-not-has.false)
