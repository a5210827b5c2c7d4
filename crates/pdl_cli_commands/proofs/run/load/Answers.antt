use Rattle.pdl_cli_commands.proofs.run.load.Goals as goal

pub image_of-requires-clause-accepted : goal.image_of-requires-clause-accepted
image_of-requires-clause-accepted g c = c.requires.accepted
