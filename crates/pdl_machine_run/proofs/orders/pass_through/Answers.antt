use Rattle.std.proofs.Common.{◌≡◌, ◌++◌, ◌∙◌, sym, ap, ap₂, List, Bool, if◌then◌else◌, length, length-append, arith}
use Rattle.pdl_semantics.specs.Cycle as stated
use Rattle.pdl_form.specs.FormView.{form}
use Rattle.pdl_machine_run.specs.Acts.{acts_of}
use Rattle.pdl_semantics.specs.Stages.{sides_of}
use Rattle.pdl_form.specs.View.{branches_view}
use Rattle.pdl_machine_run.proofs.ActLists.{entered_here}
use Rattle.pdl_machine_run.proofs.orders.pass_through.Goals as goal

pub enter-requires : goal.enter-requires
enter-requires c =
    let p = (form c.args.pipe.now).pipe in
    let zs = c.args.stages.now in
    let x = c.index-stages-f.result in
    let old = c.args.branches.now.items in
    let one : sides_of c.args.f (branches_view c.entered.result) ≡ stated.entered_branches p c.args.f (acts_of 0 zs) =
    c.entered.ensures ∙ sym (entered_here p c.args.f zs x c.requires.stage c.index-stages-f.is) in
    let left : c.leave_first.new.branches.items ≡ (if stated.has_left p c.args.f (acts_of 0 zs) then stated.but_first old else old) =
    c.leave_first.ensures.branches ∙ ap (λ b. if b then stated.but_first old else old) c.has_left.ensures in
    let whole = ap (λ (bs : List Bool). length bs) (ap₂ (λ (a b : List Bool). a ++ b) left one) in
    let sum = length-append c.leave_first.new.branches.items (sides_of c.args.f (branches_view c.entered.result)) in
    let long = c.leave_first.new.branches.ok.0 in
    let room = c.requires.room in
    let kept = c.leave_first.ensures.capacity in
    omega arith

pub returns-clause-branches : goal.returns-clause-branches
returns-clause-branches c =
    let p = (form c.args.pipe.now).pipe in
    let zs = c.args.stages.now in
    let x = c.index-stages-f.result in
    let old = c.args.branches.now.items in
    let one : sides_of c.args.f (branches_view c.entered.result) ≡ stated.entered_branches p c.args.f (acts_of 0 zs) =
    c.entered.ensures ∙ sym (entered_here p c.args.f zs x c.requires.stage c.index-stages-f.is) in
    let left : c.leave_first.new.branches.items ≡ (if stated.has_left p c.args.f (acts_of 0 zs) then stated.but_first old else old) =
    c.leave_first.ensures.branches ∙ ap (λ b. if b then stated.but_first old else old) c.has_left.ensures in
    c.enter.ensures.list ∙ ap₂ (λ (a b : List Bool). a ++ b) left one
