-- What `clap` is told by a call that may run out of memory.
use Rattle.std.specs.Prelude.{◌≡◌, false, Result, IfOk}
use Rattle.clap.specs.Simple.{App}
use Rattle.clap.specs.Words.{app_of}
use Rattle.clap.specs.declared.builder.command.Command.{Command}
use Rattle.clap.specs.declared.builder.command.Command.TheViews.{out-Command}

-- a command of these words, unless memory ran out
abbrev pub IsTold : {E : Type 0} → App → Result Command E → Type 0
IsTold app r = IfOk r (λ c. app_of c ≡ app)

-- a command of these words, none of whose arguments is for its subcommands too, unless memory ran out
abbrev pub IsToldAlone : {E : Type 0} → App → Result Command E → Type 0
IsToldAlone app r = IfOk r (λ c. (app_of c ≡ app) × ((out-Command c).has_globals ≡ false))
