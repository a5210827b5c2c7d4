use Rattle.std.proofs.Common.{◌≡◌, ◌∙◌, Some, Result, Ok, Err, IfOk}
use Rattle.pdl_vread_pipe.proofs.Pipes.{judged_of}
use Rattle.pdl_vread_pipe.proofs.judge.pipe_mems.Goals as goal

answered : {A E : Type 0} (r : Result A E) (x y : A) → IfOk r (λ z. z ≡ x) → x ≡ y → IfOk r (λ z. z ≡ y)
answered (Ok z) x y h e = h ∙ e
answered (Err z) x y h e = tt

pub returns-clause-only : goal.returns-clause-only
returns-clause-only c = λ ms p. answered c.judge.result _ (Some ms) c.judge.ensures (judged_of c.args.netlist.now ms p)
