-- The program's commands as those of the definition.
use Rattle.std.specs.Prelude.{ℕ, List, Option, option_map}
use Rattle.std.specs.Borrow.{Bor}
use Rattle.pdl_cli_args.specs.Line as spec
use Rattle.pdl_cli_args.specs.Line.{Command, check, run, seq, asm, gen, build, sim, wave}
use Rattle.pdl_cli_args.specs.declared.line.CommandLine as rust
use Rattle.pdl_cli_args.specs.declared.line.CommandLine.TheVariants as code

-- the text of a word that may be left out
abbrev pub text_of : Option (Bor (List ℕ)) → Option (List ℕ)
text_of word = option_map (λ s. s.now) word

-- a command with the texts of its words
abbrev pub view : rust.CommandLine → Command
view (code.Check source) = check source.now
view (code.Run source image cycles delays) = run source.now image.now cycles (text_of delays)
view (code.Seq source image threads) = seq source.now image.now threads
view (code.Asm table text) = asm table.now text.now
view (code.Gen number) = gen number
view (code.Build source) = build source.now
view (code.Sim netlist image cycles delays) = sim netlist.now image.now cycles (text_of delays)
view (code.Wave source image cycles delays) = wave source.now image.now cycles (text_of delays)
view (code.View source image cycles delays) = spec.view source.now image.now cycles (text_of delays)
