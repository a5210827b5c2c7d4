use Rattle.std.proofs.Common.{subst, List}
use Rattle.std.specs.Prelude.{◌≢◌, AllPairs}
use Rattle.pdl_net.specs.declared.Cell.{Cell}
use Rattle.pdl_build.proofs.CellMap.{differ_in_pairs}
use Rattle.pdl_build.proofs.distinct.DistinctCells.into_seq.Goals as goal

pub returns-clause-distinct : goal.returns-clause-distinct
returns-clause-distinct c =
    let P : List Cell → Type 0 = λ v. AllPairs (λ x y. x ≢ y) v in
    subst P c.self.view_is (differ_in_pairs c.self.inside c.self.invariant)
