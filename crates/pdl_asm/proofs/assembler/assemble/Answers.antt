use Rattle.std.proofs.Common.{refl}
use Rattle.pdl_asm.proofs.ReadBack.{reads_back}
use Rattle.pdl_asm.proofs.LineSteps.{image_is}
use Rattle.pdl_asm.proofs.assembler.assemble.Goals as goal

pub returns-clause-meets : goal.returns-clause-meets
returns-clause-meets c = image_is c.args.table.now c.args.text.now _ _ _ refl c.in_ok-words.ensures.0 c.in_ok-words.ensures.1 c.in_ok-to_image.ensures.text

pub returns-clause-read_back : goal.returns-clause-read_back
returns-clause-read_back c =
    let made = image_is c.args.table.now c.args.text.now _ _ _ refl c.in_ok-words.ensures.0 c.in_ok-words.ensures.1 c.in_ok-to_image.ensures.text in
    reads_back c.args.table.now c.args.text.now _ c.in_ok-to_image.ensures.table made
