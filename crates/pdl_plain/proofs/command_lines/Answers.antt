use Rattle.pdl_plain.proofs.UndashedLines.{reads}
use Rattle.pdl_plain.proofs.command_lines.Goals as goal

pub returns : goal.returns
returns c = record { undashed = reads }
