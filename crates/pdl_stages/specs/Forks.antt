-- Forks of the program.
use Rattle.std.specs.Prelude.{List, map}
use Rattle.pdl_stages.specs.declared.fork.Fork as r_fork
use Rattle.pdl_stages.specs.Graph.{Fork}

-- the fork that a value of the program stands for
abbrev pub fork_view : r_fork.Fork → Fork
fork_view f = record { stage = f.stage; merge = f.merge }

-- the forks that values of the program stand for
abbrev pub forks_view : List r_fork.Fork → List Fork
forks_view fs = map fork_view fs
