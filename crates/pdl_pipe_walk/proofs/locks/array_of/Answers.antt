use Rattle.std.proofs.Common.{◌∙◌, true, false, List, take, ap}
use Rattle.std.specs.Prelude.{count_by, if◌then◌else◌}
use Rattle.pdl_semantics.specs.Flat.{Mem, is_delayed}
use Rattle.pdl_pipe_walk.proofs.Arrays.{count_same}
use Rattle.pdl_pipe_walk.proofs.locks.array_of.Goals as goal

pub returns : goal.returns
returns c =
    c.count_at_once.ensures ∙ count_same c.mems.result.now c.args.m
    ∙ ap (λ (ms : List Mem). count_by (λ (x : Mem). if is_delayed x.kind then false else true) (take c.args.m ms)) c.mems.ensures.mems
