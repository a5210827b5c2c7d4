-- The flat form of a pipe that keeps the rules is typed.
use Rattle.std.proofs.Common.{◌≡◌, sym, [], ◌++◌, map, true}
use Rattle.pdl_semantics.specs.Tree.{Pipe}
use Rattle.pdl_semantics.specs.Flat as flat
use Rattle.pdl_semantics.specs.Flatten.{mems_of, at_start}
use Rattle.pdl_form.specs.Form.{form_of}
use Rattle.pdl_rules.specs.Places.{Memory, Parameter, statements, places}
use Rattle.pdl_rules.specs.Names.{OfVariable, is_undefined}
use Rattle.pdl_rules.specs.Refusal.{KeepsRules}
use Rattle.pdl_rules.proofs.EachPlace.{closing}
use Rattle.pdl_form_types.specs.Stmts.{AreTypedMems, IsTypedForm}
use Rattle.pdl_form_types.proofs.VariableNames.{long_widths, flags_of}
use Rattle.pdl_form_types.proofs.Memories.{typed_mems}
use Rattle.pdl_form_types.proofs.VariableFacts.{by_params, by_body, after_front}
use Rattle.pdl_form_types.proofs.Parameters.{params_few, start_below}
use Rattle.pdl_form_types.proofs.VariableGrowth.{begins_same}
use Rattle.pdl_form_types.proofs.StatementWalk.{AllWalked, all_walked}
use Rattle.pdl_semantics.proofs.Facts.{all_vars}

module _ (p : Pipe) (rules : KeepsRules p) where
  mems : AreTypedMems (mems_of p.mems)
  mems = typed_mems p rules p.mems (map Parameter p.params) (statements [] p.body ++ closing p) (by_params p rules)

  module _ (named : is_undefined (places p) (OfVariable []) ≡ true) where
    body : AllWalked p (map Parameter p.params ++ map Memory p.mems) [] [] p.body (at_start p)
    body =
        all_walked p rules named mems (map Parameter p.params ++ map Memory p.mems) (closing p) [] [] p.body (at_start p)
        (by_body p rules) (after_front p rules) (begins_same (all_vars p)) tt tt

    -- the flat form of a pipe that keeps the rules is typed, where no variable has the empty name
    pub typed_whole : IsTypedForm (form_of p)
    typed_whole = record {
      vars = sym (long_widths (all_vars p));
      params = params_few p rules;
      wide = body.after.wide;
      start = start_below p rules;
      mems = mems;
      stmts = body.typed;
      forks = body.forked _ flat.Ends tt;
      apart = let stages = body.plain [] flat.Ends tt in record { flags = flags_of (all_vars p); stmts = body.apart; stages = (stages.0, stages.1) };
    }
