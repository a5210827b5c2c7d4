-- The commits of entries that are taken out of a list of pending writes.
use Rattle.std.proofs.Common.{ℕ, List}
use Rattle.pdl_semantics.specs.Flat.{Commit}
use Rattle.pdl_semantics.specs.Machine.{Pending}
use Rattle.pdl_semantics.specs.Cycle.{port_writes, commits_shown}

-- the commit of an entry that was taken out, or none
abbrev pub released : ℕ → List Pending → List Commit
released m es = commits_shown m (port_writes es)
