use Rattle.std.proofs.Common.{ℕ, List, get_or, ◌+◌, ◌∙◌, ap, arith, [], ◌∷◌, length, length-append}
use Rattle.pdl_port.proofs.MadeRegisters.{numbers_more}
use Rattle.pdl_port.proofs.state.numbers.Goals as goal

pub loop-k-preserved : goal.loop-k-preserved
loop-k-preserved c =
    let e = c.in_ok-push.ensures.ok in
    record {
      count = ap length e ∙ length-append c.loop-k.found ((c.args.from + c.loop-k.k) ∷ []) ∙ omega (arith, c.loop-k.invariant.count);
      listed =
          λ k lt. ap (λ (xs : List ℕ). get_or xs k 0) e
          ∙ numbers_more c.loop-k.found c.args.from c.loop-k.k c.loop-k.invariant.count c.loop-k.invariant.listed k lt;
    }
