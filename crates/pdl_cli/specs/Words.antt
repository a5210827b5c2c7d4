-- What is answered where there are no words.
use Rattle.pdl_cli_failure.specs.declared.failure.Failure.{Failure}
use Rattle.pdl_cli_failure.specs.declared.failure.Failure.TheVariants as failure
use Rattle.pdl_cli.specs.declared.words.NoWords.{NoWords}
use Rattle.pdl_cli.specs.declared.words.NoWords.TheVariants.{Unreadable, NoMemory}

-- the failure that they are: words that can't be read are no command
abbrev pub failure_of : NoWords → Failure
failure_of Unreadable = failure.Usage
failure_of NoMemory = failure.NoMemory
