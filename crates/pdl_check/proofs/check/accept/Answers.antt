use Rattle.std.proofs.Common.{◌≡◌, ap, subst, sym}
use Rattle.std.specs.Prelude.{IsTrue}
use Rattle.pdl_semantics.specs.Tree as tree
use Rattle.pdl_semantics.specs.Flatten.{flat}
use Rattle.pdl_syntax_tree.specs.declared.tree.Pipe as r_pipe
use Rattle.pdl_syntax_tree.specs.View.{pipe_view}
use Rattle.pdl_rules.specs.Refusal.{KeepsRules, limits, after_limits}
use Rattle.pdl_locks.specs.Plan.{plan_of}
use Rattle.pdl_rules_judge.specs.Plan.{spec_plan}
use Rattle.pdl_source_paths.specs.Source.{is_source, is_named}
use Rattle.pdl_rules.proofs.Unbroken.{keeps_unbroken}
use Rattle.pdl_rules_judge.specs.NameOrder.{name_rules}
use Rattle.pdl_rules_widths.specs.Order.{width_rules}
use Rattle.pdl_rules_judge.specs.OrderedRules.{after_names, after_widths}
use Rattle.pdl_form.specs.Form.{form_of}
use Rattle.pdl_form.specs.FormView.{form}
use Rattle.pdl_form_types.specs.Same.{same_form}
use Rattle.pdl_form_types.proofs.SameForms.{forms_pass}
use Rattle.pdl_stages.specs.Graph.{graph_of}
use Rattle.pdl_rules.specs.Places.{places, guards}
use Rattle.pdl_check.proofs.Parts.{kept_parts}
use Rattle.pdl_check.proofs.check.accept.Goals as goal
use Rattle.pdl_rules.specs.Memories.{infos_of}

pub make-requires : goal.make-requires
make-requires c = record { kept = c.requires.kept; variables = c.requires.found.variables; stages = c.requires.found.stages }

pub new-typed-requires : goal.new-typed-requires
new-typed-requires c =
    let p = pipe_view c.args.pipe in
    let some = kept_parts limits after_limits p c.requires.kept in
    let names = kept_parts name_rules after_names p some.1 in
    record {
      told = c.requires.found.variables;
      within = some.0;
      named = names.0;
      fitting = (kept_parts width_rules after_widths p names.1).0;
    }

pub invariant_of-result : goal.invariant_of-result
invariant_of-result c =
    let e : c.new-typed.result.pipe ≡ c.args.pipe = c.new-typed.ensures in
    let at : (P : tree.Pipe → Type 0) → P (pipe_view c.args.pipe) → P (pipe_view c.new-typed.result.pipe) =
    λ P h. subst (λ (q : r_pipe.Pipe). P (pipe_view q)) (sym e) h in
    record {
      source = at (λ p. IsTrue (is_source p)) c.requires.source;
      letters = at (λ p. IsTrue (is_named p)) c.requires.letters;
      kept = at KeepsRules (keeps_unbroken (pipe_view c.args.pipe) c.requires.kept);
      guarded = at (λ p. c.args.found.guards ≡ guards (places p)) c.requires.found.guards;
      told = at (λ p. c.in_ok-made.made.mems ≡ infos_of p.mems) c.in_ok-made.ensures.told;
      planned = at (λ p. c.args.found.plans.locks ≡ plan_of p) c.requires.found.locks;
      checked = at (λ p. c.args.found.plans.spec ≡ spec_plan p) c.requires.found.spec;
      lowered = at (λ p. IsTrue (same_form (form c.in_ok-made.made.flat) (form_of p))) (forms_pass _ _ c.in_ok-made.ensures.lowered);
      staged = at (λ p. c.in_ok-made.made.graph ≡ graph_of (flat p) (places p)) c.in_ok-made.ensures.staged;
    }

pub returns : goal.returns
returns c = ap pipe_view c.new-typed.ensures
