-- The table reads the text of each file, and no other.
use Rattle.std.proofs.Common.{◌≡◌, sym, subst}
use Rattle.pdl_vread_text.specs.Tokens.{tokens}
use Rattle.pdl_vread_text.proofs.Place.{one_file}
use Rattle.pdl_plain.specs.NetlistTexts.{IsTextOf, ReadsOnly}
use Rattle.pdl_plain.proofs.FileTexts.{reads_file}
use Rattle.pdl_plain.proofs.TableTexts.{text_of}

-- what the table reads as a file has the tokens of that file's text
pub reads_only : ReadsOnly
reads_only bytes f x =
    let r = text_of x.rules (tokens bytes) x.derives in
    let h : IsTextOf r.file (tokens bytes) = record { tokens = r.tokens; written = r.written } in
    let e : f ≡ r.file = one_file bytes f r.file x (reads_file r.file (tokens bytes) h) in
    subst (λ z. IsTextOf z (tokens bytes)) (sym e) h
