use Rattle.pdl_asm_table.proofs.Entries.{among_found}
use Rattle.pdl_asm_table.proofs.dictionary.Dictionary.is_among.Goals as goal

pub returns-in-Some : goal.returns-in-Some
returns-in-Some g c = among_found c.self.inside.values.entries _ c.args.count _ _ _ c.get_index_of.ensures.index c.self.view_is c.in-Some.is

pub returns-in-None : goal.returns-in-None
returns-in-None g c = among_found c.self.inside.values.entries _ c.args.count _ _ _ c.get_index_of.ensures.index c.self.view_is c.in-None.is
