use Rattle.pdl_tests_of_runs.proofs.delayed.counted_of.Goals as goal

pub counted_with-requires-clause-well : goal.counted_with-requires-clause-well
counted_with-requires-clause-well c = c.in-Ok.ensures.follows.well_formed
