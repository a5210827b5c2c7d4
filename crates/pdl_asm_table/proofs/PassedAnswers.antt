-- Answers that are passed on.
use Rattle.std.proofs.Common.{◌≡◌, ℕ, List, [], ap, sym, subst, ◌∙◌, Option, Some, None}
use Rattle.std.specs.Prelude.{Result, Ok, Err}
use Rattle.pdl_kit.specs.declared.rule.Rule.{Rule}
use Rattle.pdl_kit.specs.declared.rule.Rule.TheVariants.{B3, B4, B5}
use Rattle.pdl_asm_table.specs.Documents.{IsNoDocument, Meets, document_of, table, table_of_document, table_of_members}
use Rattle.pdl_asm_table.specs.Tables.{Named, TableValue, breaks_b3, breaks_b4, first_broken, first_repeated, refused_at, table_with}
use Rattle.toml.specs.Data.{Members}
use Rattle.pdl_asm_table.specs.declared.table_error.TableError.{TableError}
use Rattle.pdl_asm_table.specs.declared.table_error.TableError.TheVariants.{Refused, NoMemory}

-- an error of a part is that of the whole
pub passed_on : {T U : Type 0} (a : Result T TableError) (b : Result U TableError) (e : TableError)
    → ((e : TableError) → a ≡ Err e → b ≡ Err e) → Meets a (Err e) → Meets b (Err e)
passed_on a b (Refused rule insn) h m = h (Refused rule insn) m
passed_on a b NoMemory h m = tt

-- a refusal by a rule, before what comes otherwise
refused_before : {T U : Type 0} (rule : Rule) (o : Option ℕ) (x : T) (y : Result U TableError) (e : TableError)
    → refused_at rule o (Ok x) ≡ Err e → refused_at rule o y ≡ Err e
refused_before rule None x y e h = cc
refused_before rule (Some k) x y e h = cc

-- what comes where no rule refuses
pub refused_ok : {T : Type 0} (rule : Rule) (o : Option ℕ) (x y : T) → refused_at rule o (Ok x) ≡ Ok y → x ≡ y
refused_ok rule None x y h = cc
refused_ok rule (Some k) x y h = cc

-- the refusal of a table by B5
pub whole_err : (word : ℕ) (mem : List ℕ) (regs : List (List ℕ × ℕ)) (is : List Named) (e : TableError)
    → first_broken (breaks_b3 word) 1 is ≡ None → first_broken breaks_b4 1 is ≡ None
    → refused_at B5 (first_repeated [] 1 is) (Ok is) ≡ Err e → table_with word mem regs is ≡ Err e
whole_err word mem regs is e f g h =
    let last : Result TableValue TableError = refused_at B5 (first_repeated [] 1 is) (Ok (record { word = word; mem = mem; regs = regs; insns = is })) in
    ap (λ o. refused_at B3 o (refused_at B4 (first_broken breaks_b4 1 is) last)) f ∙ ap (λ o. refused_at B4 o last) g
    ∙ refused_before B5 (first_repeated [] 1 is) is _ e h

-- a text that is no document
pub no_document : (text : List ℕ) (e : TableError) → IsNoDocument text e → Meets {T = TableValue} (table text) (Err e)
unfolding table
no_document text (Refused rule insn) h = rw (h.1, h.2) (ap table_of_document h.0)
no_document text NoMemory h = tt

-- an answer for the members of a text's document is an answer for the text
pub document_meets : (text : List ℕ) (ms : Members) (r : Result TableValue TableError)
    → document_of text ≡ Some ms → Meets (table_of_members ms) r → Meets (table text) r
unfolding table
document_meets text ms r e m = subst (λ meant. Meets meant r) (sym (ap table_of_document e)) m
