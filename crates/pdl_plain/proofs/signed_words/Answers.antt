use Rattle.pdl_plain.proofs.SignedWords.{compares, extends}
use Rattle.pdl_plain.proofs.signed_words.Goals as goal

pub returns-clause-compares : goal.returns-clause-compares
returns-clause-compares c = compares

pub returns-clause-extends : goal.returns-clause-extends
returns-clause-extends c = extends
