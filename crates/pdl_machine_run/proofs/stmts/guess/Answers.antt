use Rattle.std.proofs.Common.{◌≡◌, ◌∙◌, ap, ℕ, List, length, arith}
use Rattle.std.specs.Prelude.{vec_capacity}
use Rattle.std.proofs.lemmas.List.{length-map}
use Rattle.pdl_form.specs.View.{expr_view, exprs_view}
use Rattle.pdl_form_values.proofs.ValueWidths.{values_count}
use Rattle.pdl_machine_run.specs.Room.{Capacities}
use Rattle.pdl_machine_run.proofs.stmts.guess.Goals as goal

pub copy_words-requires : goal.copy_words-requires
copy_words-requires c =
    let room : vec_capacity c.lay_over.new.self.guess ≡ vec_capacity c.args.deeds.now.guess = ap (λ (r : Capacities). r.guess) c.lay_over.ensures.capacities in
    let long : length c.as_slice-2.result.now ≡ length c.args.args.now =
    ap (λ (ws : List ℕ). length ws) (c.as_slice-2.ensures.value ∙ c.values_of.ensures.values)
    ∙ values_count c.as_slice.result.now (exprs_view c.args.args.now)
    ∙ length-map c.args.args.now expr_view in
    let few = c.requires.guess_room in
    omega arith
