use Rattle.std.proofs.Common.{◌≡◌, ◌∙◌, List, ℕ, ap, sym, subst, refl, None, IsUtf8, inl, inr, if◌then◌else◌, Option}
use Rattle.std.specs.Str.{is_utf8}
use Rattle.std.proofs.lemmas.Bool.{cases_Bool}
use Rattle.std.proofs.lemmas.Str.{IsUtf8-from_is_utf8, is_utf8-from_IsUtf8}
use Rattle.toml.specs.Parse.{parse_document}
use Rattle.toml.specs.Data.{Members}
use Rattle.pdl_kit.specs.declared.rule.Rule.TheVariants.{B1}
use Rattle.pdl_asm_table.specs.Documents.{document_of, IsNoDocument}
use Rattle.pdl_asm_table.specs.declared.table_error.TableError.{TableError}
use Rattle.pdl_asm_table.specs.declared.table_error.TableError.TheVariants.{Refused}
use Rattle.pdl_asm_table.proofs.read.parse.Goals as goal

no_text : (text : List ℕ) → (IsUtf8 text → ⊥) → document_of text ≡ None
no_text text not_so = elim (cases_Bool (is_utf8 text)) [
  | inl t ↦ absurd (not_so (IsUtf8-from_is_utf8 text t))
  | inr f ↦ ap (λ b. if b then parse_document text else None) f
]

a_text : (text : List ℕ) (o : Option Members) → IsUtf8 text → parse_document text ≡ o → document_of text ≡ o
a_text text o u e = ap (λ b. if b then parse_document text else None) (is_utf8-from_IsUtf8 text u) ∙ e

is_none : (text : List ℕ) (e : TableError) → e ≡ Refused B1 0 → document_of text ≡ None → IsNoDocument text e
is_none text e f n = subst (IsNoDocument text) (sym f) (n, refl, refl)

pub returns-in_default : goal.returns-in_default
returns-in_default c = is_none c.args.text.now c.refusal_at.result c.refusal_at.ensures (no_text c.args.text.now c.in_default.ensures.cases.0)

pub returns-in-Ok-table_from_str : goal.returns-in-Ok-table_from_str
returns-in-Ok-table_from_str c =
    let p = ap parse_document (sym c.in-Ok.ensures.cases.0) ∙ c.in-Ok-table_from_str.ensures.ok in
    a_text c.args.text.now _ c.in-Ok.ensures.cases.1 p
