-- Tables, right and wrong, as the definition reads them.
use Rattle.std.proofs.Common.{◌≡◌, List, ℕ, [], ◌∷◌, Ok, Err, codes, refl}
use Rattle.std.specs.Prelude.{Result}
use Rattle.toml.proofs.OnLiterals.{toml_on_literals}
use Rattle.pdl_kit.specs.declared.rule.Rule.TheVariants.{B1, B2, B3, B4, B5}
use Rattle.pdl_asm_table.specs.declared.table.ArgumentKind.TheVariants.{Reg, Sint, Rel}
use Rattle.pdl_asm_table.specs.Tables.{TableValue}
use Rattle.pdl_asm_table.specs.declared.table_error.TableError.{TableError}
use Rattle.pdl_asm_table.specs.declared.table_error.TableError.TheVariants.{Refused}
use Rattle.pdl_asm_table.specs.Documents.{table_of_document}
use Rattle.toml.specs.Parse.{parse_document}

-- the table of a text that is UTF-8
abbrev tab : List ℕ → Result TableValue TableError
tab text = table_of_document (parse_document text)

two_instructions : tab
    (codes "word = 8\nmem = \"im\"\n[regs]\nr0 = 0\nr1 = 1\n[[insn]]\nname = \"add\"\nargs = [\"d:reg\", \"i:sint\"]\nbits = \"01 d iiiii\"\n[[insn]]\nname = \"b\"\nargs = [\"t:rel\"]\nbits = \"100 ttttt\"\n")
    ≡ Ok (record {
      word = 8;
      mem = codes "im";
      regs = (codes "r0", 0) ∷ (codes "r1", 1) ∷ [];
      insns = (codes "add", record { args = record { letter = 100; kind = Reg } ∷ record { letter = 105; kind = Sint } ∷ []; bits = codes "01diiiii" })
          ∷ (codes "b", record { args = record { letter = 116; kind = Rel } ∷ []; bits = codes "100ttttt" }) ∷ [];
    })
unfolding toml_on_literals
two_instructions = refl

short_bits : tab
    (codes "word = 8\nmem = \"im\"\n[[insn]]\nname = \"add\"\nargs = [\"i:sint\"]\nbits = \"010iiiii\"\n[[insn]]\nname = \"b\"\nargs = [\"t:rel\"]\nbits = \"100 tttt\"\n")
    ≡ Err (Refused B3 2)
unfolding toml_on_literals
short_bits = refl

no_bits_in_a_word : tab (codes "word = 0\nmem = \"im\"\n[[insn]]\nname = \"a\"\nargs = []\nbits = \"\"\n") ≡ Err (Refused B2 0)
unfolding toml_on_literals
no_bits_in_a_word = refl

cut_in_bits : tab (codes "word = 4\nmem = \"im\"\n[[insn]]\nname = \"a\"\nargs = []\nbits = \"00") ≡ Err (Refused B1 0)
unfolding toml_on_literals
cut_in_bits = refl

keyword_mem : tab (codes "word = 1\nmem = \"lock\"\n[[insn]]\nname = \"a\"\nargs = []\nbits = \"0\"\n") ≡ Err (Refused B2 0)
unfolding toml_on_literals
keyword_mem = refl

keyword_name : tab (codes "word = 1\nmem = \"m\"\n[[insn]]\nname = \"lock\"\nargs = []\nbits = \"0\"\n")
    ≡ Ok (record { word = 1; mem = codes "m"; regs = []; insns = (codes "lock", record { args = []; bits = codes "0" }) ∷ [] })
unfolding toml_on_literals
keyword_name = refl

no_table_is_in_none : tab (codes "word = 1\nmem = \"m\"\ninsn = [{ name = 3 }, 1]\n") ≡ Err (Refused B2 0)
unfolding toml_on_literals
no_table_is_in_none = refl

no_instruction : tab (codes "word = 1\nmem = \"m\"\ninsn = []\n") ≡ Err (Refused B2 0)
unfolding toml_on_literals
no_instruction = refl

argument_twice : tab (codes "word = 1\nmem = \"m\"\n[[insn]]\nname = \"a\"\nargs = [\"x:reg\", \"x:reg\"]\nbits = \"x\"\n")
    ≡ Err (Refused B4 1)
unfolding toml_on_literals
argument_twice = refl

name_twice : tab (codes "word = 1\nmem = \"m\"\n[[insn]]\nname = \"a\"\nargs = []\nbits = \"0\"\n[[insn]]\nname = \"a\"\nargs = []\nbits = \"1\"\n")
    ≡ Err (Refused B5 2)
unfolding toml_on_literals
name_twice = refl

-- the lowest rule first, though it stands at a later instruction
rule_before_instruction : tab
    (codes "word = 1\nmem = \"m\"\n[[insn]]\nname = \"a\"\nargs = []\nbits = \"x\"\n[[insn]]\nname = \"b\"\nargs = []\nbits = \"?\"\n")
    ≡ Err (Refused B3 2)
unfolding toml_on_literals
rule_before_instruction = refl
