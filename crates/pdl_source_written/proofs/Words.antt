-- A token that is a name is a name of PDL for the reader of netlists.
use Rattle.std.proofs.Common.{◌≡◌, ℕ, zero, suc, ◌+◌, ◌-◌, ◌≤◌, Bool, true, false, cond, ◌&&◌, ◌||◌, ◌==◌, nat_le, nat_eq, leb-true, codes, List, [], ◌∷◌, ◌++◌, length, take, take_while, Option, Some, None, refl, sym, ap, ◌∙◌, arith}
use Rattle.std.specs.Prelude.{⊤, nat_lt, not}
use Rattle.std.specs.List.{list_all, prefix_len, starts_with}
use Rattle.std.specs.Cmp.Lexicographic.{pointwise}
use Rattle.std.proofs.lemmas.Bool.{and_from, lt-ltb, le-leb}
use Rattle.pdl_syntax_tokens.specs.declared.token.TokenKind.{TokenKind}
use Rattle.pdl_syntax_tokens.specs.declared.token.TokenKind.TheVariants as kind
use Rattle.pdl_syntax_tokens.specs.Tokens.{Token, Piece, Spelling, tokens_from, placed_token, piece_at, word_at, word_kind, keyword_or_name, spelling_of, keywords, number_or_literal, mark_or_bad, blank_of, is_word, is_blank, is_lower, is_digit, symbols, spelling_at, line_after}
use Rattle.pdl_vread_text.specs.Words.{is_name, is_name_byte, has_name_form, is_statement_keyword, is_declaration_keyword}
use Rattle.pdl_syntax_tokens.proofs.OtherKinds.{same_kind, number_no_name, literal_no_name}

-- ---- words

or_false : {a b : Bool} → a ≡ false → b ≡ false → a || b ≡ false
or_false {a = false} e f = f
or_false {a = true} e f = absurd (cc e)

-- a text is none of these spellings
abbrev IsNone : List Spelling → List ℕ → Type 0
IsNone [] t = ⊤
IsNone (s ∷ ss) t = (pointwise nat_eq t s.text ≡ false) × IsNone ss t

none_if : (b : Bool) (s : Spelling) (o : Option Spelling) → cond b (Some s) o ≡ None → (b ≡ false) × (o ≡ None)
none_if true s o e = absurd (cc e)
none_if false s o e = (refl, e)

is_none : (ss : List Spelling) (t : List ℕ) → spelling_of ss t ≡ None → IsNone ss t
is_none [] t e = tt
is_none (s ∷ ss) t e = let p = none_if (pointwise nat_eq t s.text) s (spelling_of ss t) e in (p.0, is_none ss t p.1)

no_statement : (t : List ℕ) → IsNone keywords t → is_statement_keyword t ≡ false
no_statement t h =
    or_false
    (or_false
    (or_false
    (or_false
    (or_false
    (or_false
    (or_false
    (or_false
    (or_false
    (or_false
    (or_false
    (or_false
    (or_false
    (or_false
    (or_false h.1.1.1.1.1.1.1.1.1.1.0 h.1.1.1.1.1.1.1.1.1.1.1.0) h.1.1.1.1.1.1.1.1.1.1.1.1.0) h.1.1.1.1.1.1.1.1.1.1.1.1.1.0) h.1.1.1.1.1.1.1.1.1.1.1.1.1.1.0) h.1.1.1.1.1.1.1.1.1.1.1.1.1.1.1.0) h.1.1.1.1.1.1.1.1.1.1.1.1.1.1.1.1.0) h.1.1.1.1.1.1.1.1.1.1.1.1.1.1.1.1.1.0) h.1.1.1.1.1.1.1.1.1.1.1.1.1.1.1.1.1.1.0) h.1.1.1.1.1.1.1.1.1.1.1.1.1.1.1.1.1.1.1.0) h.1.1.1.1.1.1.1.1.1.1.1.1.1.1.1.1.1.1.1.1.0) h.1.1.1.1.1.1.1.1.1.1.1.1.1.1.1.1.1.1.1.1.1.0) h.1.1.1.1.1.1.1.1.1.1.1.1.1.1.1.1.1.1.1.1.1.1.0) h.1.1.1.1.1.1.1.1.1.1.1.1.1.1.1.1.1.1.1.1.1.1.1.0) h.1.1.1.1.1.1.1.1.1.1.1.1.1.1.1.1.1.1.1.1.1.1.1.1.0) h.1.1.1.1.1.1.1.1.1.1.1.1.1.1.1.1.1.1.1.1.1.1.1.1.1.0

no_declaration : (t : List ℕ) → IsNone keywords t → is_declaration_keyword t ≡ false
no_declaration t h =
    or_false
    (or_false
    (or_false
    (or_false
    (or_false
    (or_false (or_false (or_false (or_false h.0 h.1.0) h.1.1.0) h.1.1.1.0) h.1.1.1.1.0) h.1.1.1.1.1.0) h.1.1.1.1.1.1.0) h.1.1.1.1.1.1.1.0) h.1.1.1.1.1.1.1.1.0) h.1.1.1.1.1.1.1.1.1.0

name_byte : (c : ℕ) → is_word c ≡ is_name_byte c
name_byte c = go (is_lower c) (is_digit c) (c == 95)
  where
    go : (a b d : Bool) → a || (b || d) ≡ a || b || d
    go true b d = refl
    go false b d = refl

front : (b : Bool) (n c : ℕ) (cs : List ℕ) → b ≡ true → take (cond b (1 + n) 0) (c ∷ cs) ≡ c ∷ take n cs
front true n c cs e = ap (λ k. take k (c ∷ cs)) (let z : 1 + n ≡ suc n = omega arith in z)
front false n c cs e = absurd (cc e)

all_taken : (cs : List ℕ) → list_all is_name_byte (take_while is_word cs) ≡ true
all_taken [] = refl
all_taken (c ∷ cs) = go (is_word c) refl (all_taken cs)
  where
    go : (b : Bool) → is_word c ≡ b → list_all is_name_byte (take_while is_word cs) ≡ true
        → list_all is_name_byte (take (cond b (1 + prefix_len is_word cs) 0) (c ∷ cs)) ≡ true
    go true e h =
        ap (list_all is_name_byte) (front true (prefix_len is_word cs) c cs refl)
        ∙ and_from (is_name_byte c) (list_all is_name_byte (take_while is_word cs)) (sym (name_byte c) ∙ e) h
    go false e h = refl

taken_front : (c : ℕ) (cs : List ℕ) → is_lower c ≡ true → take_while is_word (c ∷ cs) ≡ c ∷ take_while is_word cs
taken_front c cs e = front (is_word c) (prefix_len is_word cs) c cs (ap (λ b. b || (is_digit c || c == 95)) e)

name_of : (w : List ℕ) → nat_le (length w) 32 ≡ true → spelling_of keywords w ≡ None → has_name_form w ≡ true → is_name w ≡ true
unfolding is_name
name_of w short none form =
    let h = is_none keywords w none in
    and_from (has_name_form w && not (is_statement_keyword w)) (not (is_declaration_keyword w))
    (and_from (has_name_form w) (not (is_statement_keyword w)) form (ap not (no_statement w h))) (ap not (no_declaration w h))

form_of : (c : ℕ) (cs : List ℕ)
    → is_lower c ≡ true → suc (length (take_while is_word cs)) ≤ 32 → has_name_form (c ∷ take_while is_word cs) ≡ true
form_of c cs e h =
    and_from (is_lower c) (nat_lt (length (take_while is_word cs)) 32 && list_all is_name_byte (take_while is_word cs)) e
    (and_from (nat_lt (length (take_while is_word cs)) 32) (list_all is_name_byte (take_while is_word cs))
    (lt-ltb (length (take_while is_word cs)) 32 (omega (arith, h))) (all_taken cs))

no_spelling : (o : Option Spelling) → keyword_or_name o ≡ kind.Name → o ≡ None
no_spelling None e = refl
no_spelling (Some s) e = absurd (cc e)

word_named : (w : List ℕ) (b : Bool)
    → nat_le (length w) 32 ≡ b → cond b (keyword_or_name (spelling_of keywords w)) kind.Bad ≡ kind.Name
    → (length w ≤ 32) × (spelling_of keywords w ≡ None)
word_named w true e k = (leb-true (length w) 32 e, no_spelling (spelling_of keywords w) k)
word_named w false e k = absurd (cc k)

-- ---- pieces

-- a piece that is a name has the bytes of one
abbrev IsNamePiece : Piece → List ℕ → Type 0
IsNamePiece p bytes = p.kind ≡ Some kind.Name → is_name (take p.size bytes) ≡ true

word_piece : (c : ℕ) (cs : List ℕ) → is_lower c ≡ true → IsNamePiece (word_at (c ∷ cs)) (c ∷ cs)
word_piece c cs e k =
    let w : List ℕ = take_while is_word (c ∷ cs) in
    let front : w ≡ c ∷ take_while is_word cs = taken_front c cs e in
    let p = word_named w (nat_le (length w) 32) refl (same_kind (word_kind w) kind.Name k) in
    let n = ap length front in
    let form : has_name_form w ≡ true = ap has_name_form front ∙ form_of c cs e (omega (arith, n, p.0)) in
    name_of w (le-leb (length w) 32 p.0) p.1 form

one_of : (b : Bool) (p q : Piece) (bytes : List ℕ) → (b ≡ true → IsNamePiece p bytes) → IsNamePiece q bytes → IsNamePiece (cond b p q) bytes
one_of true p q bytes h k = h refl
one_of false p q bytes h k = k

number_piece : (n ds hs bytes : List ℕ) → IsNamePiece (number_or_literal n ds hs) bytes
number_piece n [] [] bytes e = absurd (number_no_name _ _ (same_kind _ _ e))
number_piece n [] (h ∷ hs) bytes e = absurd (literal_no_name _ _ _ (same_kind _ _ e))
number_piece n (d ∷ ds) hs bytes e = absurd (literal_no_name _ _ _ (same_kind _ _ e))

mark_piece : (s : Option Spelling) (bytes : List ℕ) → IsNamePiece (mark_or_bad s) bytes
mark_piece None bytes e = absurd (cc e)
mark_piece (Some s) bytes e = absurd (cc e)

blank_piece : (n : ℕ) (bytes : List ℕ) → IsNamePiece (blank_of n) bytes
blank_piece n bytes e = absurd (cc e)

piece_named : (c : ℕ) (cs : List ℕ) → IsNamePiece (piece_at c (c ∷ cs)) (c ∷ cs)
unfolding piece_at
piece_named c cs =
    one_of (is_blank c) _ _ (c ∷ cs) (λ h. blank_piece 1 (c ∷ cs))
    (one_of (is_lower c) _ _ (c ∷ cs) (word_piece c cs)
    (one_of (is_digit c) _ _ (c ∷ cs) (λ h. number_piece _ _ _ (c ∷ cs))
    (one_of (starts_with nat_eq (c ∷ cs) (codes "//")) _ _ (c ∷ cs) (λ h. blank_piece _ (c ∷ cs)) (mark_piece (spelling_at symbols (c ∷ cs)) (c ∷ cs)))))

-- ---- tokens

-- a token that is a name has the bytes of one
abbrev pub IsNamed : Token → Type 0
IsNamed t = t.kind ≡ kind.Name → is_name t.text ≡ true

-- tokens of which each that is a name has the bytes of one
abbrev pub AreNamed : List Token → Type 0
AreNamed [] = ⊤
AreNamed (t ∷ ts) = IsNamed t × AreNamed ts

placed_named : (k : Option TokenKind) (n start line : ℕ) (bytes : List ℕ)
    → IsNamePiece (record { kind = k; size = n }) bytes → (rest : List Token) → AreNamed rest
    → AreNamed (placed_token (record { kind = k; size = n }) start line bytes ++ rest)
placed_named None n start line bytes h rest t = t
placed_named (Some k) n start line bytes h rest t = (λ e. h (ap (λ (j : TokenKind). Some j) e), t)

-- the tokens of a text that are names have the bytes of one
pub tokens_named : (inside start line : ℕ) (bytes : List ℕ) → AreNamed (tokens_from inside start line bytes)
tokens_named inside start line [] = tt
tokens_named (suc k) start line (c ∷ cs) = tokens_named k (start + 1) line cs
tokens_named zero start line (c ∷ cs) =
    let p = piece_at c (c ∷ cs) in
    placed_named p.kind p.size start line (c ∷ cs) (piece_named c cs) _ (tokens_named (p.size - 1) (start + 1) (line_after c line) cs)
