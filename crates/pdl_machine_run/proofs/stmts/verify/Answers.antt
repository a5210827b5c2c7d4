use Rattle.std.proofs.Common.{◌≡◌, ◌∙◌, ap, ℕ, List, length, arith}
use Rattle.std.specs.Prelude.{vec_capacity}
use Rattle.std.proofs.lemmas.List.{length-map}
use Rattle.pdl_form.specs.View.{expr_view, exprs_view}
use Rattle.pdl_machine_run.specs.View.{deeds_view}
use Rattle.pdl_machine_run.specs.Room.{Capacities}
use Rattle.pdl_machine_run.proofs.DeedWidths.{checked_count}
use Rattle.pdl_machine_run.proofs.stmts.verify.Goals as goal

pub settle-requires-clause-args : goal.settle-requires-clause-args
settle-requires-clause-args c =
    let room : vec_capacity c.check_args.new.deeds.args ≡ vec_capacity c.args.deeds.now.args =
    ap (λ (r : Capacities). r.args) c.check_args.ensures.capacities in
    let long : length c.check_args.new.deeds.verified.items ≡ length c.args.args.now =
    ap (λ (ws : List ℕ). length ws) c.check_args.ensures.verified
    ∙ checked_count c.args.last (exprs_view c.args.args.now) (deeds_view c.args.deeds.now)
    ∙ length-map c.args.args.now expr_view in
    let few = c.requires.args_room in
    omega arith

pub settle-requires-clause-guess : goal.settle-requires-clause-guess
settle-requires-clause-guess c =
    let room : vec_capacity c.check_args.new.deeds.guess ≡ vec_capacity c.args.deeds.now.guess =
    ap (λ (r : Capacities). r.guess) c.check_args.ensures.capacities in
    let long : length c.check_args.new.deeds.verified.items ≡ length c.args.args.now =
    ap (λ (ws : List ℕ). length ws) c.check_args.ensures.verified
    ∙ checked_count c.args.last (exprs_view c.args.args.now) (deeds_view c.args.deeds.now)
    ∙ length-map c.args.args.now expr_view in
    let few = c.requires.guess_room in
    omega arith
