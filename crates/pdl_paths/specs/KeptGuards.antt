-- The guard that a kept one stands for.
use Rattle.pdl_rules.specs.Places as rules
use Rattle.pdl_paths.specs.declared.guards.KeptGuard.{KeptGuard}
use Rattle.pdl_paths.specs.declared.guards.KeptGuard.TheVariants.{Shared, Own}

-- the guard of the rules that a kept guard stands for
abbrev pub kept_view : KeptGuard → rules.Guard
kept_view (Shared x) = rules.Shared x
kept_view (Own at) = rules.Own at
